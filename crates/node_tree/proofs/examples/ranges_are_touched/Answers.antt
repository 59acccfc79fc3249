use Rattle.node_tree.proofs.Exemplified.{ranges}
use Rattle.node_tree.proofs.examples.ranges_are_touched.Goals as goal

pub returns : goal.returns
returns c = ranges
