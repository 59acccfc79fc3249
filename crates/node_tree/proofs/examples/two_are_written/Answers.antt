use Rattle.std.proofs.Common.{refl}
use Rattle.node_tree.proofs.examples.two_are_written.Goals as goal

pub returns : goal.returns
returns c = λ name held first second. refl
