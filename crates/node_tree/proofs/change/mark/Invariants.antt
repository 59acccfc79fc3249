use Rattle.std.proofs.Common.{◌≡◌, ℕ}
use Rattle.std.specs.Ordering.{nat_cmp}
use Rattle.std.specs.BTreeMap.{IsOrdered}
use Rattle.node_tree.specs.Nodes.{plain_at}
use Rattle.node_tree.specs.Marks.{marked_at}
use Rattle.node_tree.proofs.Zeroed.{MarkedTo}
use Rattle.node_tree.proofs.change.mark.Given as goal

abbrev pub invariant-loop-number : goal.invariant-loop-number
invariant-loop-number l = record {
  plains : (k : ℕ) → plain_at l.nodes k ≡ plain_at l.fn.nodes k;
  marks : MarkedTo l.numbers l.number-index (marked_at l.fn.nodes) (marked_at l.nodes);
  ordered : IsOrdered nat_cmp l.fn.nodes → IsOrdered nat_cmp l.nodes;
}
