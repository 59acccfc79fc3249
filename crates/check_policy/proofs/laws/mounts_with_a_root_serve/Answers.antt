use Rattle.check_policy.proofs.Existing.{root_serves}
use Rattle.check_policy.proofs.laws.mounts_with_a_root_serve.Goals as goal

pub returns : goal.returns
returns c = root_serves
