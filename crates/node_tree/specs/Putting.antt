-- Bytes that are put into a content's first bytes and its data nodes.
use Rattle.std.specs.Prelude.{◌≡◌, ℕ, ◌+◌, ◌-◌, ◌*◌, ◌<◌, ◌≤◌, List, ◌++◌, length, take, drop, slice_index, nat_lt, if◌then◌else◌, Option, Some}
use Rattle.node_layout.specs.Places.{data_place, mht_place, data_count}
use Rattle.node_tree.specs.Touched.{Meets}
use Rattle.node_tree.specs.Applying.{Step, applied, size_after, from_of, to_of}

-- bytes with others put at a place
abbrev pub with_piece : List ℕ → ℕ → List ℕ → List ℕ
with_piece bytes place piece = take place bytes ++ piece ++ drop (place + length piece) bytes

-- byte i, which was this one, once others were put at a place
abbrev pub put_byte : ℕ → List ℕ → ℕ → ℕ → ℕ
put_byte at from old i = if nat_lt i at then old else (if nat_lt i (at + length from) then slice_index from (i - at) else old)

-- the first bytes, once others were put
abbrev pub IsPutFirst : ℕ → List ℕ → List ℕ → List ℕ → Type 0
IsPutFirst at from old new = (i : ℕ) → i < 3072 → slice_index new i ≡ put_byte at from (slice_index old i) i

-- a data node, once they were
pub record IsPutNode (at : ℕ) (from : List ℕ) (d : ℕ) (old : List ℕ) (node : Option (List ℕ)) : Type 0 where
  pub plain : List ℕ
  pub there : node ≡ Some plain
  pub bytes : (r : ℕ) → r < 4096 → slice_index plain r ≡ put_byte at from (slice_index old r) (3072 + 4096 * d + r)

-- the nodes that are held, once they were
pub record IsPut (at : ℕ) (from : List ℕ) (end : ℕ) (held held_now : ℕ → Option (List ℕ)) : Type 0 where
  pub met : (d : ℕ) (plain : List ℕ) → held (data_place d) ≡ Some plain → IsPutNode at from d plain (held_now (data_place d))
  pub others : (d : ℕ) → ¬ (Meets at end d) → held_now (data_place d) ≡ held (data_place d)
  pub hashes : (m : ℕ) → held_now (mht_place m) ≡ held (mht_place m)

-- A step on a content of this size puts these bytes at this place and makes it this long; what is put behind the new end is zeros.
pub record IsPutting (step : Step) (old at : ℕ) (bytes : List ℕ) (size : ℕ) : Type 0 where
  pub from_is : from_of step old ≡ at
  pub to_is : to_of step old ≡ at + length bytes
  pub size_is : size_after step old ≡ size
  pub behind : (i : ℕ) → size ≤ i → at + length bytes ≤ i → i < 3072 + 4096 * data_count size → old ≤ i
  pub zeros : (i : ℕ) → size ≤ i → at ≤ i → i < at + length bytes → slice_index bytes (i - at) ≡ 0
  pub length_is : (content : List ℕ) → length content ≡ old → length (applied step content) ≡ size
  pub bytes_are : (content : List ℕ) → length content ≡ old → (i : ℕ) → i < size → slice_index (applied step content) i ≡ put_byte at bytes (slice_index content i) i
