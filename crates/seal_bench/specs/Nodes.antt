-- What the bench seals and opens, and the checksums of both.
use Rattle.std.specs.Prelude.{ℕ, zero, suc, ◌+◌, ◌%◌, bit_xor, List, [], map, slice_index}
use Rattle.std.specs.Int.{to_be_bytes, from_be_bytes, w128}
use Rattle.std.specs.List.{range_with_len}
use Rattle.aes_gcm.specs.Gcm.{seal}

-- the key of a node is its number
abbrev pub node_key : ℕ → List ℕ
node_key node = to_be_bytes w128 node

-- the text of every node
unfoldable pub plain_text : ℕ → List ℕ
plain_text len = map (λ i. i % 251) (range_with_len 0 len)

unfoldable pub sealed_text : ℕ → List ℕ
sealed_text node = (seal (node_key node) [] (plain_text 4096)).0

unfoldable pub sealed_tag : ℕ → List ℕ
sealed_tag node = (seal (node_key node) [] (plain_text 4096)).1

-- the sum of the tags of the nodes below n
unfoldable pub tag_sum : ℕ → ℕ
tag_sum zero = 0
tag_sum (suc n) = bit_xor (tag_sum n) (from_be_bytes w128 (sealed_tag n))

-- the sum of a byte of the text for each of n opened nodes
unfoldable pub byte_sum : ℕ → ℕ
byte_sum zero = 0
byte_sum (suc n) = byte_sum n + slice_index (plain_text 4096) (n % 4096)
