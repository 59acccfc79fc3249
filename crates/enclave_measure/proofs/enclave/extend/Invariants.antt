use Rattle.std.proofs.Common.{List, ℕ, ◌++◌}
use Rattle.sha2.specs.Hashers.{Holds256}
use Rattle.enclave_measure.specs.Records.{extensions}
use Rattle.enclave_measure.proofs.enclave.extend.Given as goal

abbrev pub invariant-loop-i : goal.invariant-loop-i
invariant-loop-i l = (message : List ℕ) → Holds256 l.fn.hasher message → Holds256 l.hasher (message ++ extensions l.i l.offset l.bytes)
