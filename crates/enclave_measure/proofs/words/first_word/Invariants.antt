use Rattle.std.proofs.Common.{take, All}
use Rattle.enclave_measure.proofs.Wording.{IsNoSpace}
use Rattle.enclave_measure.proofs.words.first_word.Given as goal

abbrev pub invariant-loop-at : goal.invariant-loop-at
invariant-loop-at l = All IsNoSpace (take l.at l.text)
