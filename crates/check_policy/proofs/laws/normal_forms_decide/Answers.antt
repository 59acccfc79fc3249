use Rattle.check_policy.proofs.Deciding.{same_normal}
use Rattle.check_policy.proofs.laws.normal_forms_decide.Goals as goal

pub returns : goal.returns
returns c = same_normal
