use Rattle.node_tree.proofs.Deciding.{one_ending}
use Rattle.node_tree.proofs.laws.reads_are_decided.Goals as goal

pub returns : goal.returns
returns c = one_ending
