use Rattle.node_tree.specs.Nodes.{plain_at}
use Rattle.node_tree.specs.Sealing.{KeepsNodes}
use Rattle.node_tree.proofs.PutFrom.{ArePutFrom}
use Rattle.node_tree.proofs.sealing.seal_nodes.Given as goal

abbrev pub invariant-loop-left : goal.invariant-loop-left
invariant-loop-left g l = record {
  put : ArePutFrom l.left l.name l.numbers l.keys (plain_at l.fn.nodes) (plain_at l.nodes) l.fn.root l.root (g.H.Host.state l.fn.host) (g.H.Host.state l.host);
  keeps : KeepsNodes l.fn.nodes l.nodes;
}

abbrev pub decreases-loop-left : goal.decreases-loop-left
decreases-loop-left g l = l.left
