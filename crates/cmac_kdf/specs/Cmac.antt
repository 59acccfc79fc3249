-- CMAC of SP 800-38B over AES-128, with the whole last block as the tag.
use Rattle.std.specs.Prelude.{ℕ, ◌-◌, ◌*◌, ◌/◌, ◌%◌, ◌^◌, ◌==◌, bit_xor, nat_lt, List, ◌∷◌, ◌++◌, length, drop, fold, replicate, if◌then◌else◌}
use Rattle.std.specs.Int.{to_be_bytes, from_be_bytes, w128}
use Rattle.std.specs.Simd.{first_chunks}
use Rattle.aes_gcm.specs.Cipher.{cipher, xor_bytes}

-- a block of 128 bits, shifted left by one, with the constant added where its first bit was set (6.1)
abbrev pub doubled : ℕ → ℕ
doubled n = bit_xor (n * 2 % 2 ^ 128) (if nat_lt n (2 ^ 127) then 0 else 0x87)

abbrev pub doubled_block : List ℕ → List ℕ
doubled_block block = to_be_bytes w128 (doubled (from_be_bytes w128 block))

-- the subkeys K1 and K2 (6.1)
unfoldable pub first_subkey : List ℕ → List ℕ
first_subkey key = doubled_block (cipher key (replicate 16 0))

unfoldable pub second_subkey : List ℕ → List ℕ
second_subkey key = doubled_block (first_subkey key)

-- how many whole blocks stand before the last one, which has 1 to 16 bytes, or none in an empty text
abbrev pub blocks_before_last : ℕ → ℕ
blocks_before_last n = (n - 1) / 16

-- the last block, whole or filled up with a 1 and zeros, with its subkey added (6.2)
abbrev pub finished : List ℕ → List ℕ → List ℕ
finished key rest =
    if length rest == 16 then xor_bytes rest (first_subkey key)
    else xor_bytes (rest ++ 0x80 ∷ replicate (15 - length rest) 0) (second_subkey key)

-- one step of the chain (6.2)
abbrev pub chained : List ℕ → List ℕ → List ℕ → List ℕ
chained key state block = cipher key (xor_bytes state block)

-- the blocks before the last, chained from zero, and then the last (6.2)
unfoldable pub cmac : List ℕ → List ℕ → List ℕ
cmac key text =
    let before = blocks_before_last (length text) in
    chained key (fold (chained key) (replicate 16 0) (first_chunks 16 before text)) (finished key (drop (16 * before) text))
