-- The sheet on which a tree stands, and the content of the tree.
use Rattle.std.specs.Prelude.{◌≡◌, ℕ, ◌<◌, ◌≤◌, List, Contains, length}
use Rattle.node_layout.specs.Metadata.{IsMetaText}
use Rattle.node_layout.specs.declared.metadata.MetaSecret.{MetaSecret}
use Rattle.node_layout.specs.Places.{node_count, parent_of, slot_of}
use Rattle.node_layout.specs.Entries.{entry_at}
use Rattle.node_tree.specs.Content.{bytes_of}
use Rattle.node_tree.specs.Sheet.{Node, Sheet, HasNode, tag_of, plain_in, root_of, meta_of}
use Rattle.node_tree.specs.Opened.{IsAt}
use Rattle.node_tree.specs.State.{TreeState, held_at, Held, root_in, plain_or, IsPadded}

-- The tree stands on the sheet: its nodes are the sheet's, but for the dirty ones, which are held, with their parents.
pub record Backs (sheet : Sheet) (tree : TreeState) : Type 0 where
  pub root : root_in tree ≡ root_of sheet.nodes
  pub base : tree.base ≡ node_count (length sheet.content)
  pub clean : (k : ℕ) → 1 ≤ k → k < node_count tree.size → ¬ (Contains tree.dirty k) → (node : Node) × HasNode sheet k node × ((plain : List ℕ) → Held tree k plain → plain ≡ node.plain)
  pub dirty_held : (k : ℕ) → Contains tree.dirty k → IsAt (Held tree) k
  pub dirty_parents : (k : ℕ) → Contains tree.dirty k → 2 ≤ k → Contains tree.dirty (parent_of k)
  pub entries : (k : ℕ) (node : Node) (parent : List ℕ) → 2 ≤ k → k < node_count tree.size → ¬ (Contains tree.dirty k) → HasNode sheet k node → Contains tree.dirty (parent_of k)
      → Held tree (parent_of k) parent → entry_at parent (slot_of k) ≡ (node.key, tag_of node)
  pub padded : IsPadded (plain_in sheet) tree

-- these are the fields of the sheet's metadata
abbrev pub IsMetaOf : Sheet → MetaSecret → Type 0
IsMetaOf sheet meta = IsMetaText (meta_of sheet) meta.path meta.size meta.root_key meta.root_tag meta.first

-- the content now: the bytes of the held nodes, and else of the sheet's
abbrev pub plain_now : Sheet → TreeState → ℕ → List ℕ
plain_now sheet tree k = plain_or (held_at tree k) (plain_in sheet k)

abbrev pub now : Sheet → TreeState → List ℕ
now sheet tree = bytes_of tree.first (plain_now sheet tree) 0 tree.size
