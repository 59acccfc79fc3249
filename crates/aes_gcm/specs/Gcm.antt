-- AES-128-GCM of SP 800-38D with an IV of twelve zero bytes and a tag of 16 bytes.
use Rattle.std.specs.Prelude.{ℕ, ◌+◌, ◌-◌, ◌*◌, ◌/◌, ◌%◌, List, ◌++◌, map, length, replicate, slice_index, Option, Some, None, bytes_eq, if◌then◌else◌}
use Rattle.std.specs.Int.{to_be_bytes, w32, w64, w128, from_be_bytes}
use Rattle.std.specs.List.{range_with_len}
use Rattle.std.specs.Simd.{first_chunks}
use Rattle.aes_gcm.specs.Cipher.{cipher, xor_bytes}
use Rattle.aes_gcm.specs.Ghash.{ghash}

-- the IV and a counter
abbrev pub counter_block : ℕ → List ℕ
counter_block n = replicate 12 0 ++ to_be_bytes w32 n

-- byte j of the key stream: the text's first block is added to the cipher of counter 2
abbrev pub key_stream_byte : List ℕ → ℕ → ℕ
key_stream_byte key j = slice_index (cipher key (counter_block (2 + j / 16))) (j % 16)

-- the first n bytes of the key stream
unfoldable pub key_stream : List ℕ → ℕ → List ℕ
key_stream key n = map (key_stream_byte key) (range_with_len 0 n)

-- the text with the key stream added, which encrypts and decrypts
abbrev pub crypted : List ℕ → List ℕ → List ℕ
crypted key text = xor_bytes text (key_stream key (length text))

-- a text with zeros up to a whole number of blocks
abbrev pub padded : List ℕ → List ℕ
padded text = text ++ replicate ((16 - length text % 16) % 16) 0

-- the whole blocks of a text, as numbers
abbrev pub blocks_of : List ℕ → List ℕ
blocks_of text = map (from_be_bytes w128) (first_chunks 16 (length text / 16) text)

-- the two lengths in bits
abbrev pub length_block : List ℕ → List ℕ → List ℕ
length_block aad text = to_be_bytes w64 (8 * length aad) ++ to_be_bytes w64 (8 * length text)

-- what is hashed: AAD and ciphertext, each padded, and their lengths
abbrev pub hashed_blocks : List ℕ → List ℕ → List ℕ
hashed_blocks aad text = blocks_of (padded aad ++ padded text ++ length_block aad text)

-- the block by whose powers is hashed
abbrev pub hash_key : List ℕ → ℕ
hash_key key = from_be_bytes w128 (cipher key (replicate 16 0))

-- the tag of an AAD and a ciphertext (7.1)
unfoldable pub tag_of : List ℕ → List ℕ → List ℕ → List ℕ
tag_of key aad text = xor_bytes (to_be_bytes w128 (ghash (hash_key key) (hashed_blocks aad text))) (cipher key (counter_block 1))

-- ciphertext and tag (7.1)
unfoldable pub seal : List ℕ → List ℕ → List ℕ → List ℕ × List ℕ
seal key aad text = (crypted key text, tag_of key aad (crypted key text))

-- the plain text, where the tag is that of the ciphertext (7.2)
unfoldable pub opens : List ℕ → List ℕ → List ℕ → List ℕ → Option (List ℕ)
opens key aad text tag = if bytes_eq tag (tag_of key aad text) then Some (crypted key text) else None
