use Rattle.std.proofs.Common.{arith}
use Rattle.std.proofs.lemmas.Grind.{common_steps}
use Rattle.manifest_model.specs.Names.{normal}
use Rattle.manifest_model.proofs.names.normal_name.Goals as goal

pub returns : goal.returns
unfolding normal
returns c = grind (arith, common_steps)
