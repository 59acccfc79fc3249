use Rattle.std.proofs.Common.{refl}
use Rattle.enclave_measure.proofs.examples.reads_are_counted.Goals as goal

pub returns : goal.returns
returns c = record { both_there = refl; second_absent = refl; read_failed = refl; nothing_asked = refl }
