-- What contracts see of a tree.
use Rattle.std.specs.Prelude.{◌≡◌, ℕ, ◌+◌, ◌*◌, ◌-◌, ◌<◌, ◌≤◌, min, List, length, slice_index, replicate, Contains, if◌then◌else◌, ◌==◌, Option, Some, None, refl}
use Rattle.std.specs.Coded.{Coded, code_by, coded×, coded_ℕ, coded_list}
use Rattle.std.specs.List.Sorted.{IsStrictlyIncreasing}
use Rattle.std.specs.Map.{lookup}
use Rattle.std.specs.BTreeMap.{is_at}
use Rattle.std.specs.Ordering.{nat_cmp}
use Rattle.node_layout.specs.Metadata.{MOST_SIZE}
use Rattle.node_layout.specs.Places.{data_place, node_count, parent_of}
use Rattle.node_tree.specs.Opened.{AtNodes, IsAt, Entry}

-- `base` is the node count of the last sealed content. `held` has the plain texts that are held, each with its node's number, and `dirty` the numbers
-- of the nodes that were changed since the last sealing, in rising order.
pub record TreeState : Type 0 where
  pub size : ℕ
  pub first : List ℕ
  pub root_key : List ℕ
  pub root_tag : List ℕ
  pub base : ℕ
  pub held : List (ℕ × List ℕ)
  pub dirty : List ℕ

abbrev pub bytes_code : Coded (List ℕ)
bytes_code = coded_list coded_ℕ

-- a state as pairs of its fields
abbrev pub state_code : Coded TreeState
state_code =
    code_by (ℕ × (List ℕ × (List ℕ × (List ℕ × (ℕ × (List (ℕ × List ℕ) × List ℕ))))))
    (coded× coded_ℕ (coded× bytes_code (coded× bytes_code (coded× bytes_code (coded× coded_ℕ (coded× (coded_list (coded× coded_ℕ bytes_code)) (coded_list coded_ℕ)))))))
    (λ s. (s.size, (s.first, (s.root_key, (s.root_tag, (s.base, (s.held, s.dirty)))))))
    (λ p. record { size = p.0; first = p.1.0; root_key = p.1.1.0; root_tag = p.1.1.1.0; base = p.1.1.1.1.0; held = p.1.1.1.1.1.0; dirty = p.1.1.1.1.1.1 })
    (λ _. refl)

abbrev pub held_at : TreeState → ℕ → Option (List ℕ)
held_at tree k = lookup (is_at (nat_cmp k)) tree.held

abbrev pub Held : TreeState → AtNodes
Held tree k plain = held_at tree k ≡ Some plain

abbrev pub root_in : TreeState → Entry
root_in tree = (tree.root_key, tree.root_tag)

abbrev pub NO_ENTRY : Entry
NO_ENTRY = (replicate 16 0, replicate 16 0)

-- the root's key and tag as the metadata have them: zeros where there is no node but node 0
abbrev pub sealed_root : TreeState → Entry
sealed_root tree = if node_count tree.size == 1 then NO_ENTRY else root_in tree

-- the plain text that is held of node k, or another
abbrev pub plain_or : Option (List ℕ) → List ℕ → List ℕ
plain_or (Some plain) other = plain
plain_or None other = other

-- The bytes behind the content's end are zero, with these plain texts where no node is held.
pub record IsPadded (other : ℕ → List ℕ) (tree : TreeState) : Type 0 where
  pub of_first : (i : ℕ) → tree.size ≤ i → i < 3072 → slice_index tree.first i ≡ 0
  pub of_nodes : (d r : ℕ) → data_place d < node_count tree.size → tree.size ≤ 3072 + 4096 * d + r → r < 4096 → slice_index (plain_or (held_at tree (data_place d)) (other (data_place d))) r ≡ 0

-- the most dirty nodes of a tree
abbrev pub MOST_DIRTY : ℕ
MOST_DIRTY = 48

-- each plain text is a whole block
abbrev pub AreBlocks : AtNodes → Type 0
AreBlocks there = (k : ℕ) (plain : List ℕ) → there k plain → length plain ≡ 4096

-- What holds of each tree: the plain texts are whole blocks, and the dirty nodes are held, live, from 1 on, at most 48, and have dirty parents.
pub record IsSound (tree : TreeState) : Type 0 where
  pub small : tree.size ≤ MOST_SIZE
  pub blocks : AreBlocks (Held tree)
  pub rising : IsStrictlyIncreasing tree.dirty
  pub low : (k : ℕ) → Contains tree.dirty k → 1 ≤ k
  pub live : (k : ℕ) → Contains tree.dirty k → k < node_count tree.size
  pub dirty_held : (k : ℕ) → Contains tree.dirty k → IsAt (Held tree) k
  pub dirty_parents : (k : ℕ) → Contains tree.dirty k → 2 ≤ k → Contains tree.dirty (parent_of k)
  pub few : length tree.dirty ≤ MOST_DIRTY

-- how many bytes of a room can be read from a place on
abbrev pub readable : TreeState → ℕ → ℕ → ℕ
readable tree at room = min room (tree.size - at)
