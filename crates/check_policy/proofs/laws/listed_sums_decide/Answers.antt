use Rattle.check_policy.proofs.Summing.{listed_sum_decides}
use Rattle.check_policy.proofs.laws.listed_sums_decide.Goals as goal

pub returns : goal.returns
returns c = listed_sum_decides
