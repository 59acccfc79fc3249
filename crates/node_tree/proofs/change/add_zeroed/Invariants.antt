use Rattle.node_tree.specs.Nodes.{plain_at}
use Rattle.node_tree.proofs.Zeroed.{ZeroedTo}
use Rattle.node_tree.proofs.change.add_zeroed.Given as goal

abbrev pub invariant-loop-number : goal.invariant-loop-number
invariant-loop-number l = ZeroedTo l.numbers l.number-index (plain_at l.fn.nodes) (plain_at l.nodes) l.fn.nodes l.nodes
