use Rattle.node_tree.proofs.Unique.{next_is_one}
use Rattle.node_tree.proofs.laws.next_sheet_is_one.Goals as goal

pub returns : goal.returns
returns c = next_is_one
