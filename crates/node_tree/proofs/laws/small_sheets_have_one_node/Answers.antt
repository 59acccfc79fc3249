use Rattle.node_tree.proofs.Small.{small_sheet}
use Rattle.node_tree.proofs.laws.small_sheets_have_one_node.Goals as goal

pub returns : goal.returns
returns c = small_sheet
