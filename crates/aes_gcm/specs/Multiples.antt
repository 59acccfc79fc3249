-- A table of multiples of a block, by which products are computed four bits at a time.
use Rattle.std.specs.Prelude.{◌≡◌, ℕ, zero, suc, ◌*◌, ◌<◌, List, [], slice_index, slice_index_or}
use Rattle.aes_gcm.specs.Ghash.{times_x, sum_of_shifts}

-- a block times x^i
unfoldable pub shifted : ℕ → ℕ → ℕ
shifted zero v = v
shifted (suc i) v = times_x (shifted i v)

-- the 16 sums of v, v·x, v·x^2 and v·x^3
abbrev pub IsRow : List ℕ → ℕ → Type 0
IsRow row v = (n : ℕ) → n < 16 → slice_index row n ≡ sum_of_shifts 4 n v

-- the block whose multiples the table holds
abbrev pub factor : List (List ℕ) → ℕ
factor table = slice_index (slice_index_or table 0 []) 8

-- row k is for the bits 4k to 4k + 3 from the left of the other block
abbrev pub IsTable : List (List ℕ) → Type 0
IsTable table = (k : ℕ) → k < 32 → IsRow (slice_index_or table k []) (shifted (4 * k) (factor table))
