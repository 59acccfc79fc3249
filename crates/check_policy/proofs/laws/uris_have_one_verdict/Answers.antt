use Rattle.check_policy.proofs.Judging.{verdict_there, verdict_one}
use Rattle.check_policy.proofs.laws.uris_have_one_verdict.Goals as goal

pub returns-clause-there : goal.returns-clause-there
returns-clause-there c = verdict_there

pub returns-clause-no_other : goal.returns-clause-no_other
returns-clause-no_other c = verdict_one
