use Rattle.enclave_measure.proofs.OneMeasurement.{measures_one}
use Rattle.enclave_measure.proofs.laws.answers_have_one_outcome.Goals as goal

pub returns : goal.returns
returns c = measures_one
