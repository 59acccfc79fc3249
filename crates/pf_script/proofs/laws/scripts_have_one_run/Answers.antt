use Rattle.pf_script.proofs.OneScript.{one_run}
use Rattle.pf_script.proofs.laws.scripts_have_one_run.Goals as goal

pub returns : goal.returns
returns c = one_run
