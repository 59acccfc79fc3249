-- The bytes of a content, by the nodes that have them.
use Rattle.std.specs.Prelude.{ℕ, ◌+◌, ◌-◌, ◌*◌, ◌/◌, ◌%◌, List, map, take, drop, slice_index, nat_lt, if◌then◌else◌}
use Rattle.std.specs.List.{range_with_len}
use Rattle.cmac_kdf.specs.MetadataKey.{zero_padded}
use Rattle.node_layout.specs.Places.{data_place}

-- the bytes of a content that stand in node 0, and those that stand in data node d, with zeros behind
abbrev pub first_text : List ℕ → List ℕ
first_text content = zero_padded 3072 (take 3072 content)

abbrev pub data_text : List ℕ → ℕ → List ℕ
data_text content d = zero_padded 4096 (take 4096 (drop (3072 + 4096 * d) content))

-- byte i of a content, from its first bytes and the plain text of each node
abbrev pub byte_of : List ℕ → (ℕ → List ℕ) → ℕ → ℕ
byte_of first plain i = if nat_lt i 3072 then slice_index first i else slice_index (plain (data_place ((i - 3072) / 4096))) ((i - 3072) % 4096)

-- n bytes of it, from a place on
abbrev pub bytes_of : List ℕ → (ℕ → List ℕ) → ℕ → ℕ → List ℕ
bytes_of first plain at n = map (byte_of first plain) (range_with_len at n)
