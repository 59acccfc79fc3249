use Rattle.node_tree.proofs.SteppedBacked.{stepped_stays}
use Rattle.node_tree.proofs.laws.steps_stay_backed.Goals as goal

pub returns : goal.returns
returns c = stepped_stays
