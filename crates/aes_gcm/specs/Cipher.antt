-- AES-128 of FIPS 197 on lists of bytes. A state of 16 bytes stands column by column: row r of column c is byte r + 4c (3.4).
use Rattle.std.specs.Prelude.{ℕ, zero, suc, ◌+◌, ◌-◌, ◌*◌, ◌/◌, ◌%◌, ◌==◌, bit_xor, List, [], ◌∷◌, ◌++◌, map, length, take, drop, slice_index, slice_index_or, if◌then◌else◌}
use Rattle.std.specs.List.{range_with_len}
use Rattle.std.specs.Simd.Lanes.{zip2}
use Rattle.aes_gcm.specs.Field.{times, power, sub_byte}

-- the sum of bytes, place by place
abbrev pub xor_bytes : List ℕ → List ℕ → List ℕ
xor_bytes a b = zip2 bit_xor a b

-- SubBytes (5.1.1)
abbrev pub sub_bytes : List ℕ → List ℕ
sub_bytes state = map sub_byte state

-- ShiftRows (5.1.2): row r of column c comes from column c + r
abbrev pub shift_rows : List ℕ → List ℕ
shift_rows state = map (λ k. slice_index state ((k + 4 * (k % 4)) % 16)) (range_with_len 0 16)

-- the byte of k's column that is i rows below k's row, the rows going round
abbrev pub below : List ℕ → ℕ → ℕ → ℕ
below state k i = slice_index state (k / 4 * 4 + (k + i) % 4)

-- one byte of MixColumns (5.1.3)
abbrev pub mixed : List ℕ → ℕ → ℕ
mixed state k = bit_xor (bit_xor (times 2 (below state k 0)) (times 3 (below state k 1))) (bit_xor (below state k 2) (below state k 3))

abbrev pub mix_columns : List ℕ → List ℕ
mix_columns state = map (mixed state) (range_with_len 0 16)

-- RotWord, SubWord and the round constant (5.2)
abbrev pub rot_word : List ℕ → List ℕ
rot_word word = drop 1 word ++ take 1 word

abbrev pub round_constant : ℕ → List ℕ
round_constant j = power 2 (j - 1) ∷ 0 ∷ 0 ∷ 0 ∷ []

-- what is added to w[i - 4] to give w[i], from w[i - 1]
abbrev pub schedule_core : ℕ → List ℕ → List ℕ
schedule_core i word = if i % 4 == 0 then xor_bytes (map sub_byte (rot_word word)) (round_constant (i / 4)) else word

-- the words w[0] to w[n + 3] of the key schedule (KeyExpansion, 5.2)
abbrev pub with_next_word : List (List ℕ) → List (List ℕ)
with_next_word words =
    words ++ xor_bytes (slice_index_or words (length words - 4) []) (schedule_core (length words) (slice_index_or words (length words - 1) [])) ∷ []

unfoldable pub schedule : ℕ → List ℕ → List (List ℕ)
schedule zero key = take 4 key ∷ take 4 (drop 4 key) ∷ take 4 (drop 8 key) ∷ take 4 (drop 12 key) ∷ []
schedule (suc n) key = with_next_word (schedule n key)

-- the 16 bytes of words 4r to 4r + 3
abbrev pub four_words : List (List ℕ) → ℕ → List ℕ
four_words words r = slice_index_or words (4 * r) [] ++ slice_index_or words (4 * r + 1) [] ++ slice_index_or words (4 * r + 2) [] ++ slice_index_or words (4 * r + 3) []

unfoldable pub round_key : List ℕ → ℕ → List ℕ
round_key key r = four_words (schedule 40 key) r

-- the state after AddRoundKey of round r, for r from 0 to 9
unfoldable pub after_round : List ℕ → List ℕ → ℕ → List ℕ
after_round key block zero = xor_bytes block (round_key key 0)
after_round key block (suc r) = xor_bytes (mix_columns (shift_rows (sub_bytes (after_round key block r)))) (round_key key (suc r))

-- Cipher (5.1): nine such rounds, and a last one without MixColumns
unfoldable pub cipher : List ℕ → List ℕ → List ℕ
cipher key block = xor_bytes (shift_rows (sub_bytes (after_round key block 9))) (round_key key 10)
