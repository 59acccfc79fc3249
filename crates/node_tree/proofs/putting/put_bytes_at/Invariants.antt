use Rattle.std.proofs.Common.{length, ◌-◌}
use Rattle.node_tree.specs.Nodes.{Keeps, plain_at}
use Rattle.node_tree.specs.State.{AreBlocks}
use Rattle.node_tree.specs.Marks.{KeepsMarks}
use Rattle.node_tree.proofs.Puts.{PutTo}
use Rattle.node_tree.proofs.putting.put_bytes_at.Given as goal

abbrev pub invariant-loop-done : goal.invariant-loop-done
invariant-loop-done l = record {
  to : PutTo l.at l.from l.done (plain_at l.fn.nodes) (plain_at l.nodes);
  marks : KeepsMarks l.fn.nodes l.nodes;
  blocks : AreBlocks (Keeps l.fn.nodes) → AreBlocks (Keeps l.nodes);
}

abbrev pub decreases-loop-done : goal.decreases-loop-done
decreases-loop-done l = length l.initial.from - l.done
