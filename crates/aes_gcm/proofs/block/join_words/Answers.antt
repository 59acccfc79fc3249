use Rattle.std.proofs.Common.{refl, arith}
use Rattle.aes_gcm.proofs.Lists.{written_out}
use Rattle.aes_gcm.proofs.block.join_words.Goals as goal

pub returns : goal.returns
returns c =
    let a = written_out c.args.first 4 (omega arith) in
    let b = written_out c.args.second 4 (omega arith) in
    let d = written_out c.args.third 4 (omega arith) in
    let e = written_out c.args.fourth 4 (omega arith) in
    rw a (rw b (rw d (rw e refl)))
