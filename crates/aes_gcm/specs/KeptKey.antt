-- A key's round keys as they are kept, and a round over the S-box's bytes and their doubles.
use Rattle.std.specs.Prelude.{◌≡◌, ℕ, ◌+◌, ◌<◌, bit_xor, List, [], length, map, slice_index_or}
use Rattle.std.specs.List.{range_with_len}
use Rattle.aes_gcm.specs.Cipher.{below, round_key, shift_rows}
use Rattle.aes_gcm.specs.Tower.{absorbed}

-- the round keys of rounds 1 to 9, in the other basis, and of round 10, each with the S-box's constant added
pub record KeptKeys (key : List ℕ) (middle : List (List ℕ)) (last : List ℕ) : Type 0 where
  pub long : length key ≡ 16
  pub rounds : (r : ℕ) → r < 9 → map absorbed (slice_index_or middle r []) ≡ round_key key (r + 1)
  pub end : map (bit_xor 0x63) last ≡ round_key key 10

-- ShiftRows and MixColumns, byte by byte, of a state whose doubles are in the second list
unfoldable pub shifted_and_mixed : List ℕ → List ℕ → List ℕ
shifted_and_mixed once twice =
    map (λ k. bit_xor
    (bit_xor (below (shift_rows twice) k 0) (bit_xor (below (shift_rows once) k 1) (below (shift_rows twice) k 1)))
    (bit_xor (below (shift_rows once) k 2) (below (shift_rows once) k 3)))
    (range_with_len 0 16)
