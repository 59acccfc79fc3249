use Rattle.enclave_measure.proofs.OneOutcome.{reads_one}
use Rattle.enclave_measure.proofs.Existing.{reads_there}
use Rattle.enclave_measure.proofs.laws.text_has_one_outcome.Goals as goal

pub returns-clause-there : goal.returns-clause-there
returns-clause-there c = reads_there

pub returns-clause-no_other : goal.returns-clause-no_other
returns-clause-no_other c = reads_one
