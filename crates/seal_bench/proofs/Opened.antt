-- What opens is the text that was sealed.
use Rattle.std.proofs.Common.{◌≡◌, ℕ, suc, ◌+◌, ◌%◌, List, [], Some, refl, arith, bit_xor, slice_index}
use Rattle.std.specs.Int.{from_be_bytes, w128}
use Rattle.aes_gcm.specs.Gcm.{opens, seal}
use Rattle.seal_bench.specs.Nodes.{byte_sum, tag_sum, node_key, plain_text, sealed_tag, sealed_text}

pub opens_sealed_node : (node : ℕ) (key text tag : List ℕ) → key ≡ node_key node → text ≡ sealed_text node → tag ≡ sealed_tag node
    → ((key aad text : List ℕ) → opens key aad (seal key aad text).0 (seal key aad text).1 ≡ Some text)
    → opens key [] text tag ≡ Some (plain_text 4096)
unfolding sealed_tag sealed_text
opens_sealed_node node key text tag k t g law = rw (k, t, g) (law (node_key node) [] (plain_text 4096))

pub same_text : (a b : List ℕ) → Some a ≡ Some b → a ≡ b
same_text a b e = cc

pub seal_of_node : (node : ℕ) (key text : List ℕ) → key ≡ node_key node → text ≡ plain_text 4096 → seal key [] text ≡ (sealed_text node, sealed_tag node)
unfolding sealed_tag sealed_text
seal_of_node node key text k t = rw (k, t) refl

pub next_tag : (n sum tag : ℕ) → sum ≡ tag_sum n → tag ≡ from_be_bytes w128 (sealed_tag n) → bit_xor sum tag ≡ tag_sum (n + 1)
unfolding tag_sum
next_tag n sum tag e t = let next : n + 1 ≡ suc n = omega arith in rw (e, t, next) refl

pub next_byte : (n sum byte : ℕ) → sum ≡ byte_sum n → byte ≡ slice_index (plain_text 4096) (n % 4096) → sum + byte ≡ byte_sum (n + 1)
unfolding byte_sum
next_byte n sum byte e b = let next : n + 1 ≡ suc n = omega arith in rw (e, b, next) refl
