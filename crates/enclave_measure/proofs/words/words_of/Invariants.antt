use Rattle.enclave_measure.proofs.Wording.{Taken}
use Rattle.enclave_measure.proofs.words.words_of.Given as goal

abbrev pub invariant-loop : goal.invariant-loop
invariant-loop l = Taken l.line l.counter l.words.items l.rest
