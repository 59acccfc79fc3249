-- The nodes that a tree keeps.
use Rattle.std.specs.Prelude.{◌≡◌, ℕ, List, [], Option, Some, option_map}
use Rattle.std.specs.Ordering.{nat_cmp}
use Rattle.std.specs.BTreeMap.{BTreeMap, get}
use Rattle.node_tree.specs.Opened.{AtNodes}
use Rattle.node_tree.specs.State.{plain_or}
use Rattle.node_tree.specs.declared.nodes.HeldNode.{HeldNode}

-- the plain text that is kept of node k
abbrev pub plain_at : BTreeMap ℕ HeldNode → ℕ → Option (List ℕ)
plain_at nodes k = option_map (λ node. node.plain.value) (get nat_cmp nodes k)

abbrev pub Keeps : BTreeMap ℕ HeldNode → AtNodes
Keeps nodes k plain = plain_at nodes k ≡ Some plain

-- the plain text of a node, or no bytes where it is not kept
abbrev pub kept_plain : BTreeMap ℕ HeldNode → ℕ → List ℕ
kept_plain nodes k = plain_or (plain_at nodes k) []
