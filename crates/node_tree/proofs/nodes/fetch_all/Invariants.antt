use Rattle.node_tree.specs.Marks.{KeepsMarks}
use Rattle.node_tree.specs.Nodes.{plain_at}
use Rattle.node_tree.proofs.Several.{FetchedTo}
use Rattle.node_tree.proofs.nodes.fetch_all.Given as goal

abbrev pub invariant-loop-number : goal.invariant-loop-number
invariant-loop-number g l = record {
  to : FetchedTo l.name l.numbers l.number-index (plain_at l.fn.nodes) (plain_at l.nodes) l.root (g.H.Host.state l.fn.host) (g.H.Host.state l.host);
  marks : KeepsMarks l.fn.nodes l.nodes;
}
