use Rattle.node_tree.proofs.Giving.{unforged_gives}
use Rattle.node_tree.proofs.laws.unforged_is_given.Goals as goal

pub returns : goal.returns
returns c = unforged_gives
