-- Bytes in another basis of the field of FIPS 197, in which SubBytes is computed by reading tables at nibbles.
use Rattle.std.specs.Prelude.{ℕ, ◌/◌, ◌%◌, ◌==◌, bit_and, bit_xor, List, [], ◌∷◌, nat_le, slice_index_or, if◌then◌else◌}
use Rattle.aes_gcm.specs.Field.{sub_byte}
use Rattle.aes_gcm.specs.declared.tower.TheConstants.{INVERSE, SCALED}

-- the sum of those bytes of a list that the bits of x choose, the lowest bit the first
abbrev pub sum_chosen : List ℕ → ℕ → ℕ
sum_chosen [] x = 0
sum_chosen (b ∷ bs) x = bit_xor (if x % 2 == 1 then b else 0) (sum_chosen bs (x / 2))

-- what the bits of a byte in the other basis stand for, the lowest first
abbrev pub basis : List ℕ
basis = 96 ∷ 182 ∷ 41 ∷ 8 ∷ 236 ∷ 188 ∷ 81 ∷ 224 ∷ []

-- the byte of FIPS 197 that a byte in the other basis stands for
unfoldable pub standard : ℕ → ℕ
standard x = sum_chosen basis x

-- the S-box without its constant
unfoldable pub sub_linear : ℕ → ℕ
sub_linear byte = bit_xor 0x63 (sub_byte byte)

-- a round key's byte, which is kept in the other basis with the S-box's constant added
abbrev pub absorbed : ℕ → ℕ
absorbed byte = bit_xor 0x63 (standard byte)

-- what a shuffle reads at a byte: 0 where its highest bit is set
abbrev pub entry : List ℕ → ℕ → ℕ
entry table j = if nat_le 128 (bit_and j 143) then 0 else slice_index_or table (bit_and j 143) 0

abbrev pub low_nibble : ℕ → ℕ
low_nibble byte = bit_and byte 15

abbrev pub high_nibble : ℕ → ℕ
high_nibble byte = byte / 16

abbrev pub nibble_sum : ℕ → ℕ
nibble_sum byte = bit_xor (high_nibble byte) (low_nibble byte)

-- the nibbles at which the tables of SubBytes are read
abbrev pub first_index : ℕ → ℕ
first_index byte = bit_xor (entry INVERSE (bit_xor (entry INVERSE (high_nibble byte)) (entry SCALED (low_nibble byte)))) (nibble_sum byte)

abbrev pub second_index : ℕ → ℕ
second_index byte = bit_xor (entry INVERSE (bit_xor (entry INVERSE (nibble_sum byte)) (entry SCALED (low_nibble byte)))) (high_nibble byte)
