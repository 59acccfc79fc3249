use Rattle.node_tree.proofs.Giving.{file_gives}
use Rattle.node_tree.proofs.laws.file_is_given.Goals as goal

pub returns : goal.returns
returns c = file_gives
