use Rattle.node_tree.proofs.Existing.{linked_exist}
use Rattle.node_tree.proofs.laws.linked_sheets_exist.Goals as goal

pub returns : goal.returns
returns c = linked_exist
