use Rattle.std.proofs.Common.{ℕ, ◌/◌, ◌^◌}
use Rattle.std.proofs.lemmas.Simd.{zip2_splat}
use Rattle.aes_gcm.proofs.tower.high.Goals as goal

pub returns : goal.returns
returns c = zip2_splat (λ (x k : ℕ). x / 2 ^ k) c.args.x 16 4 c.fits-x.0
