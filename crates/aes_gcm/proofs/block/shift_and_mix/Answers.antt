use Rattle.std.proofs.Common.{refl, arith}
use Rattle.aes_gcm.specs.KeptKey.{shifted_and_mixed}
use Rattle.aes_gcm.proofs.Lists.{written_out}
use Rattle.aes_gcm.proofs.block.shift_and_mix.Goals as goal

pub returns : goal.returns
unfolding shifted_and_mixed
returns c =
    let e = written_out c.args.once 16 (omega arith) in
    let f = written_out c.args.twice 16 (omega arith) in
    rw c.shift_rows.ensures (rw e (rw f refl))
