-- The nodes that are marked as changed since the last sealing.
use Rattle.std.specs.Prelude.{◌≡◌, ◌⊎◌, ◌↔◌, ℕ, ◌≤◌, Bool, false, List, length, map, filter, Contains, Option, Some, None}
use Rattle.std.specs.List.Sorted.{IsStrictlyIncreasing}
use Rattle.std.specs.Ordering.{nat_cmp}
use Rattle.std.specs.BTreeMap.{BTreeMap, IsOrdered, get}
use Rattle.node_tree.specs.Touched.{IsTouched}
use Rattle.node_tree.specs.State.{MOST_DIRTY}
use Rattle.node_tree.specs.declared.nodes.HeldNode.{HeldNode}

-- whether a node is there and marked
abbrev pub is_marked : Option HeldNode → Bool
is_marked (Some node) = node.dirty
is_marked None = false

-- whether node k is kept and marked
abbrev pub marked_at : BTreeMap ℕ HeldNode → ℕ → Bool
marked_at nodes k = is_marked (get nat_cmp nodes k)

-- the numbers of the marked nodes
abbrev pub marked : List (ℕ × HeldNode) → List ℕ
marked nodes = map (λ node. node.0) (filter (λ node. node.1.dirty) nodes)

-- the same nodes are marked, and the numbers ascend as before
pub record KeepsMarks (old new : BTreeMap ℕ HeldNode) : Type 0 where
  pub same : (k : ℕ) → marked_at new k ≡ marked_at old k
  pub ordered : IsOrdered nat_cmp old → IsOrdered nat_cmp new

-- the dirty nodes and those that the bytes from a up to b touch, in rising order
pub record AreChanged (dirty : List ℕ) (a b : ℕ) (numbers : List ℕ) : Type 0 where
  pub rising : IsStrictlyIncreasing numbers
  pub exactly : (k : ℕ) → Contains numbers k ↔ (Contains dirty k ⊎ IsTouched a b k)

-- the numbers of either list, in rising order, are this many
pub record AreUnited (xs ys : List ℕ) (n : ℕ) : Type 0 where
  pub numbers : List ℕ
  pub rising : IsStrictlyIncreasing numbers
  pub exactly : (k : ℕ) → Contains numbers k ↔ (Contains xs k ⊎ Contains ys k)
  pub count : length numbers ≡ n

-- how many they are
pub record IsChangedCount (dirty : List ℕ) (a b n : ℕ) : Type 0 where
  pub numbers : List ℕ
  pub changed : AreChanged dirty a b numbers
  pub count : length numbers ≡ n

-- they are at most the dirty nodes that a tree may have
abbrev pub MayChange : List ℕ → ℕ → ℕ → Type 0
MayChange dirty a b = (numbers : List ℕ) → AreChanged dirty a b numbers → length numbers ≤ MOST_DIRTY
