use Rattle.std.proofs.Common.{refl}
use Rattle.node_tree.proofs.examples.steps_are_applied.Goals as goal

pub returns : goal.returns
returns c = record { written = refl; written_on = refl; cut = refl; grown = refl }
