use Rattle.check_policy.proofs.Judging.{by_cases}
use Rattle.check_policy.proofs.laws.verdicts_come_by_cases.Goals as goal

pub returns : goal.returns
returns c = by_cases
