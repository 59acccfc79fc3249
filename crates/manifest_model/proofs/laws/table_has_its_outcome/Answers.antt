use Rattle.manifest_model.proofs.Deciding.{an_outcome, one_outcome}
use Rattle.manifest_model.proofs.laws.table_has_its_outcome.Goals as goal

pub returns-clause-there : goal.returns-clause-there
returns-clause-there c = an_outcome

pub returns-clause-no_other : goal.returns-clause-no_other
returns-clause-no_other c = one_outcome
