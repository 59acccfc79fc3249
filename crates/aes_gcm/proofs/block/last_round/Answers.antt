use Rattle.std.proofs.Common.{ℕ, ap, ◌∙◌, arith, map, length, ◌≡◌}
use Rattle.std.proofs.lemmas.List.{length-map}
use Rattle.aes_gcm.specs.Cipher.{shift_rows}
use Rattle.aes_gcm.specs.Tower.{standard}
use Rattle.aes_gcm.proofs.TowerRounds.{last_is}
use Rattle.aes_gcm.proofs.block.last_round.Goals as goal

pub returns : goal.returns
returns c =
    let long : length (map standard c.args.state) ≡ 16 = omega (arith, length-map {A = ℕ} {B = ℕ}) in
    last_is (map standard c.args.state) c.shift_rows.result c.args.key long (c.shift_rows.ensures ∙ ap shift_rows c.sub_linear.ensures)
