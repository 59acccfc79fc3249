use Rattle.node_tree.proofs.FileParts.{standing_file}
use Rattle.node_tree.proofs.laws.standing_file_is_read.Goals as goal

pub returns : goal.returns
returns c = standing_file
