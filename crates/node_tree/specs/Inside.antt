-- What contracts see of a tree's fields.
use Rattle.std.specs.Prelude.{ℕ, List, map}
use Rattle.std.specs.Ordering.{nat_cmp}
use Rattle.std.specs.BTreeMap.{IsOrdered}
use Rattle.node_tree.specs.State.{TreeState, IsSound}
use Rattle.node_tree.specs.Marks.{marked}
use Rattle.node_tree.specs.declared.nodes.HeldNode.{HeldNode}
use Rattle.node_tree.specs.declared.tree.Tree.TheInside.{Inside}

-- the numbers and plain texts of some nodes
abbrev pub plains : List (ℕ × HeldNode) → List (ℕ × List ℕ)
plains nodes = map (λ node. (node.0, node.1.plain.value)) nodes

abbrev pub state_of : Inside → TreeState
state_of tree = record {
  size = tree.size;
  first = tree.first;
  root_key = tree.root.0;
  root_tag = tree.root.1;
  base = tree.base;
  held = plains tree.nodes.entries;
  dirty = marked tree.nodes.entries;
}

-- what holds of each tree and of its nodes
pub record IsWell (tree : Inside) : Type 0 where
  pub sound : IsSound (state_of tree)
  pub ordered : IsOrdered nat_cmp tree.nodes
