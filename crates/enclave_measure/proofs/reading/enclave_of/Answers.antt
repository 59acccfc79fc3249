use Rattle.std.proofs.Common.{arith}
use Rattle.enclave_measure.proofs.Forming.{size_word}
use Rattle.enclave_measure.proofs.reading.enclave_of.Goals as goal

pub returns-in_err-size : goal.returns-in_err-size
returns-in_err-size c = rw c.from_residual-in_err-size.ensures (λ size ssa form. c.in_err-size.ensures size (size_word c.args.words.now c.in_ok-after_word.field-0.now _ size ssa c.in_ok-after_word.ensures (omega (arith, c.in-len2.len_at_least)) form))
