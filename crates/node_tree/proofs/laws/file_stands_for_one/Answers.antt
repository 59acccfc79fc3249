use Rattle.node_tree.proofs.Standing.{stands_for_one}
use Rattle.node_tree.proofs.laws.file_stands_for_one.Goals as goal

pub returns : goal.returns
returns c = stands_for_one
