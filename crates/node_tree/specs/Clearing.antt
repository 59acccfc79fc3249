-- The entries of children that are not live are made zeros.
use Rattle.std.specs.Prelude.{◌≡◌, ◌≢◌, ℕ, ◌+◌, ◌-◌, ◌*◌, ◌/◌, ◌<◌, ◌≤◌, List, length, Contains, Option, Some, nat_lt, if◌then◌else◌}
use Rattle.node_layout.specs.Places.{data_place, mht_place, parent_of, slot_of}
use Rattle.node_layout.specs.Entries.{entry_at}
use Rattle.node_tree.specs.Opened.{Entry}
use Rattle.node_tree.specs.State.{NO_ENTRY}

-- the node whose entry stands at a place of a hash-tree node
abbrev pub child_of : ℕ → ℕ → ℕ
child_of k s = if nat_lt s 96 then data_place (96 * ((k - 1) / 97) + s) else mht_place (32 * ((k - 1) / 97) + (s - 96) + 1)

-- an entry as it is cleared: that of a live child stays
abbrev pub cleared_entry : ℕ → ℕ → List ℕ → ℕ → Entry
cleared_entry count k plain s = if nat_lt (child_of k s) count then entry_at plain s else NO_ENTRY

-- one place was cleared
pub record IsPlaceCleared (count k slot : ℕ) (old new : List ℕ) : Type 0 where
  pub here : entry_at new slot ≡ cleared_entry count k old slot
  pub others : (s : ℕ) → s < 128 → s ≢ slot → entry_at new s ≡ entry_at old s

-- the first places were
pub record HasCleared (count k n : ℕ) (old new : List ℕ) : Type 0 where
  pub done : (s : ℕ) → s < n → entry_at new s ≡ cleared_entry count k old s
  pub rest : (s : ℕ) → n ≤ s → s < 128 → entry_at new s ≡ entry_at old s

-- all places of a node that is held were
pub record IsNodeCleared (count k : ℕ) (plain : List ℕ) (node : Option (List ℕ)) : Type 0 where
  pub after : List ℕ
  pub there : node ≡ Some after
  pub same_length : length after ≡ length plain
  pub places : HasCleared count k 128 plain after

-- a hash-tree node once the entries of its children that are not live were made zeros
pub record IsCleared (count k : ℕ) (plain : List ℕ) (node : Option (List ℕ)) : Type 0 where
  pub after : List ℕ
  pub there : node ≡ Some after
  pub same_length : length after ≡ length plain
  pub dead : (c : ℕ) → 2 ≤ c → parent_of c ≡ k → count ≤ c → entry_at after (slot_of c) ≡ NO_ENTRY
  pub live : (c : ℕ) → 2 ≤ c → parent_of c ≡ k → c < count → entry_at after (slot_of c) ≡ entry_at plain (slot_of c)

-- those of some numbers were
pub record AreCleared (count : ℕ) (numbers : List ℕ) (held held_now : ℕ → Option (List ℕ)) : Type 0 where
  pub others : (k : ℕ) → ¬ (Contains numbers k) → held_now k ≡ held k
  pub data_nodes : (d : ℕ) → held_now (data_place d) ≡ held (data_place d)
  pub hashes : (m : ℕ) (plain : List ℕ) → Contains numbers (mht_place m) → held (mht_place m) ≡ Some plain → IsCleared count (mht_place m) plain (held_now (mht_place m))
