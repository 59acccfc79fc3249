use Rattle.enclave_measure.proofs.Absent.{absent_exactly}
use Rattle.enclave_measure.proofs.laws.absence_is_refused.Goals as goal

pub returns : goal.returns
returns c = absent_exactly
