use Rattle.std.proofs.Common.{refl}
use Rattle.node_tree.proofs.examples.shrink_concerns_first_bytes.Goals as goal

pub returns : goal.returns
returns c = record { from_is = refl; to_is = refl }
