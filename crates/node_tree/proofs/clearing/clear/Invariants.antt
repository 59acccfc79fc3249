use Rattle.std.proofs.Common.{take}
use Rattle.node_tree.specs.Nodes.{plain_at}
use Rattle.node_tree.specs.Clearing.{AreCleared}
use Rattle.node_tree.specs.Sealing.{KeepsNodes}
use Rattle.node_tree.proofs.clearing.clear.Given as goal

abbrev pub invariant-loop-number : goal.invariant-loop-number
invariant-loop-number l = record {
  cleared : AreCleared l.count (take l.number-index l.numbers) (plain_at l.fn.nodes) (plain_at l.nodes);
  keeps : KeepsNodes l.fn.nodes l.nodes;
}
