use Rattle.node_tree.proofs.Following.{next_exists}
use Rattle.node_tree.proofs.laws.next_sheet_exists.Goals as goal

pub returns : goal.returns
returns c = next_exists
