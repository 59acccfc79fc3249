-- The sheet that a tree seals next.
use Rattle.std.specs.Prelude.{◌≡◌, ℕ, ◌<◌, ◌≤◌, List, [], length, slice_index, slice_index_or, Contains}
use Rattle.node_layout.specs.Places.{mht_place, node_count, parent_of, slot_of}
use Rattle.node_layout.specs.Entries.{entry_at}
use Rattle.node_tree.specs.Sheet.{Node, Sheet, HasNode, IsLinked, root_of}
use Rattle.node_tree.specs.Content.{first_text}
use Rattle.node_tree.specs.Existing.{AreKeys, MayBeSealed}
use Rattle.node_tree.specs.Opened.{IsAt}
use Rattle.node_tree.specs.State.{TreeState, held_at, Held, root_in, NO_ENTRY, sealed_root, IsSound}
use Rattle.node_tree.specs.Backing.{Backs, now}

-- The sheet that a tree on another one seals under a path, a nonce and a key for each dirty node, in rising number. Its other nodes are those of the old sheet, and in its dirty
-- hash-tree nodes the entries of children that are not live are zero.
pub record NextSheet (sheet : Sheet) (tree : TreeState) (path nonce : List ℕ) (keys : List (List ℕ)) (next : Sheet) : Type 0 where
  pub linked : IsLinked next
  pub path_is : next.path ≡ path
  pub nonce_is : next.nonce ≡ nonce
  pub content_is : next.content ≡ now sheet tree
  pub clean : (k : ℕ) (node : Node) → ¬ (Contains tree.dirty k) → HasNode next k node → HasNode sheet k node
  pub new_keys : (j : ℕ) (node : Node) → j < length tree.dirty → HasNode next (slice_index tree.dirty j) node → node.key ≡ slice_index_or keys j []
  pub free_entries : (m k : ℕ) (node : Node) → Contains tree.dirty (mht_place m) → HasNode next (mht_place m) node → 2 ≤ k → parent_of k ≡ mht_place m → node_count tree.size ≤ k
      → entry_at node.plain (slot_of k) ≡ NO_ENTRY

-- A tree that a sheet backs has a next sheet under each path, nonce and keys.
abbrev pub NextExists : Type 0
NextExists = (sheet : Sheet) (tree : TreeState) (path nonce : List ℕ) (keys : List (List ℕ)) → IsLinked sheet → Backs sheet tree → IsSound tree → MayBeSealed path nonce tree.size → AreKeys (length tree.dirty) keys
    → (next : Sheet) × NextSheet sheet tree path nonce keys next

-- It has one.
abbrev pub NextIsOne : Type 0
NextIsOne = (sheet : Sheet) (tree : TreeState) (path nonce : List ℕ) (keys : List (List ℕ)) (next other : Sheet) → NextSheet sheet tree path nonce keys next → NextSheet sheet tree path nonce keys other → next ≡ other

-- The tree is as it was sealed in the sheet: its first bytes, the root's key and tag, and the nodes that it holds are the sheet's.
pub record IsSealedAs (next : Sheet) (tree : TreeState) : Type 0 where
  pub linked : IsLinked next
  pub size : length next.content ≡ tree.size
  pub first : tree.first ≡ first_text next.content
  pub root : sealed_root tree ≡ root_of next.nodes
  pub plains : (k : ℕ) (node : Node) (plain : List ℕ) → HasNode next k node → Held tree k plain → plain ≡ node.plain

-- a tree on a sheet seals the next one under these keys
pub record SealsNext (sheet : Sheet) (tree : TreeState) (keys : List (List ℕ)) (next : Sheet) : Type 0 where
  pub path : List ℕ
  pub nonce : List ℕ
  pub linked : IsLinked sheet
  pub backs : Backs sheet tree
  pub is_next : NextSheet sheet tree path nonce keys next

-- Only plain texts of nodes that are held, and the root's key and tag, changed.
pub record KeepsShape (old new : TreeState) : Type 0 where
  pub size : new.size ≡ old.size
  pub first : new.first ≡ old.first
  pub base : new.base ≡ old.base
  pub dirty : new.dirty ≡ old.dirty
  pub held : (k : ℕ) → IsAt (Held old) k → IsAt (Held new) k

-- the tree once the dirty nodes are clean, and the content is the last sealed one
pub record IsSettled (old new : TreeState) : Type 0 where
  pub size : new.size ≡ old.size
  pub first : new.first ≡ old.first
  pub root : root_in new ≡ sealed_root old
  pub base : new.base ≡ node_count old.size
  pub held : (k : ℕ) → held_at new k ≡ held_at old k
  pub dirty : new.dirty ≡ []
