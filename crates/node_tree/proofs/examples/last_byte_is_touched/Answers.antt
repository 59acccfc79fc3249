use Rattle.node_tree.proofs.Exemplified.{last_byte}
use Rattle.node_tree.proofs.examples.last_byte_is_touched.Goals as goal

pub returns : goal.returns
returns c = last_byte
