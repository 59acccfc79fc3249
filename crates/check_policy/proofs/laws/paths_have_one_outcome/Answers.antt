use Rattle.check_policy.proofs.Deciding.{resolves_one}
use Rattle.check_policy.proofs.Existing.{resolves_there}
use Rattle.check_policy.proofs.laws.paths_have_one_outcome.Goals as goal

pub returns-clause-there : goal.returns-clause-there
returns-clause-there c = resolves_there

pub returns-clause-no_other : goal.returns-clause-no_other
returns-clause-no_other c = resolves_one
