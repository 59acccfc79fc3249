use Rattle.std.proofs.Common.{◌≡◌, ◌<◌, ℕ}
use Rattle.std.specs.Ordering.{nat_cmp}
use Rattle.std.specs.BTreeMap.{IsOrdered, btree_map_len, get}
use Rattle.node_tree.proofs.change.drop_from.Given as goal

abbrev pub invariant-loop-nodes : goal.invariant-loop-nodes
invariant-loop-nodes l = record {
  below : (k : ℕ) → k < l.bound → get nat_cmp l.nodes k ≡ get nat_cmp l.fn.nodes k;
  ordered : IsOrdered nat_cmp l.fn.nodes → IsOrdered nat_cmp l.nodes;
}

abbrev pub decreases-loop-nodes : goal.decreases-loop-nodes
decreases-loop-nodes l = btree_map_len l.nodes
