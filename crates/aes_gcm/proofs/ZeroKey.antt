-- One zero block sealed under the zero key, in steps: each cipher block is computed once.
use Rattle.std.proofs.Common.{◌≡◌, ℕ, refl, ap, ap₂, ◌∙◌, List, [], ◌∷◌, map}
use Rattle.std.specs.Prelude.{◌%◌, replicate, slice_index}
use Rattle.std.specs.Int.{to_be_bytes, from_be_bytes, w128}
use Rattle.std.specs.List.{range_with_len}
use Rattle.aes_gcm.specs.Field.{times, power, inverse, affine, sub_byte}
use Rattle.aes_gcm.specs.Cipher.{cipher, after_round, round_key, schedule, xor_bytes}
use Rattle.aes_gcm.specs.Ghash.{power as block_power, sum_of_shifts, product, ghash}
use Rattle.aes_gcm.specs.Gcm.{counter_block, key_stream, crypted, hashed_blocks, tag_of, seal}
use Rattle.aes_gcm.specs.Vectors.{BlockSealed}

abbrev zeros : List ℕ
zeros = replicate 16 0

abbrev hash_block : List ℕ
hash_block = 0x66 ∷ 0xe9 ∷ 0x4b ∷ 0xd4 ∷ 0xef ∷ 0x8a ∷ 0x2c ∷ 0x3b ∷ 0x88 ∷ 0x4c ∷ 0xfa ∷ 0x59 ∷ 0xca ∷ 0x34 ∷ 0x2b ∷ 0x2e ∷ []

abbrev mask : List ℕ
mask = 0x58 ∷ 0xe2 ∷ 0xfc ∷ 0xce ∷ 0xfa ∷ 0x7e ∷ 0x30 ∷ 0x61 ∷ 0x36 ∷ 0x7f ∷ 0x1d ∷ 0x57 ∷ 0xa4 ∷ 0xe7 ∷ 0x45 ∷ 0x5a ∷ []

abbrev pad : List ℕ
pad = 0x03 ∷ 0x88 ∷ 0xda ∷ 0xce ∷ 0x60 ∷ 0xb6 ∷ 0xa3 ∷ 0x92 ∷ 0xf3 ∷ 0x28 ∷ 0xc2 ∷ 0xb9 ∷ 0x71 ∷ 0xb2 ∷ 0xfe ∷ 0x78 ∷ []

hash_block_is : cipher zeros zeros ≡ hash_block
unfolding cipher after_round round_key schedule sub_byte affine inverse power times
hash_block_is = refl

mask_is : cipher zeros (counter_block 1) ≡ mask
unfolding cipher after_round round_key schedule sub_byte affine inverse power times
mask_is = refl

pad_is : cipher zeros (counter_block 2) ≡ pad
unfolding cipher after_round round_key schedule sub_byte affine inverse power times
pad_is = refl

crypted_is : crypted zeros zeros ≡ pad
unfolding key_stream
crypted_is = ap (λ block. xor_bytes zeros (map (λ j. slice_index block (j % 16)) (range_with_len 0 16))) pad_is

tag_is : tag_of zeros [] pad ≡ 0xab ∷ 0x6e ∷ 0x47 ∷ 0xd4 ∷ 0x2c ∷ 0xec ∷ 0x13 ∷ 0xbd ∷ 0xf5 ∷ 0x3a ∷ 0x67 ∷ 0xb2 ∷ 0x12 ∷ 0x57 ∷ 0xbd ∷ 0xdf ∷ []
unfolding tag_of block_power sum_of_shifts product ghash
tag_is = ap₂ (λ hash_block mask. xor_bytes (to_be_bytes w128 (ghash (from_be_bytes w128 hash_block) (hashed_blocks [] pad))) mask) hash_block_is mask_is

pub block_sealed : BlockSealed
unfolding seal
block_sealed = ap (λ text. (text, tag_of zeros [] text)) crypted_is ∙ ap (λ tag. (pad, tag)) tag_is
