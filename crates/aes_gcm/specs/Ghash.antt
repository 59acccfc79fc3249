-- The field GF(2^128) of SP 800-38D (6.3), and sums of powers in it. A block is the number that its 16 bytes
-- spell, the first byte highest: its leftmost bit, bit 127, is the coefficient of 1, and bit 127 - i is that of x^i.
use Rattle.std.specs.Prelude.{ℕ, zero, suc, ◌/◌, ◌%◌, ◌^◌, ◌==◌, bit_xor, List, [], ◌∷◌, length, if◌then◌else◌}
use Rattle.std.specs.Int.{bit_at}

-- a block times x, modulo x^128 + x^7 + x^2 + x + 1
abbrev pub times_x : ℕ → ℕ
times_x v = bit_xor (v / 2) (if v % 2 == 1 then 0xe100_0000_0000_0000_0000_0000_0000_0000 else 0)

-- v where bit k of a is set
abbrev pub part : ℕ → ℕ → ℕ → ℕ
part a k v = if bit_at a k == 1 then v else 0

-- the sum of v, v·x, v·x^2, .. at the set bits of a among bits k - 1, k - 2, .. 0
unfoldable pub sum_of_shifts : ℕ → ℕ → ℕ → ℕ
sum_of_shifts zero a v = 0
sum_of_shifts (suc k) a v = bit_xor (part a k v) (sum_of_shifts k a (times_x v))

-- the product of two blocks: the sum of b·x^i over the coefficients of a
unfoldable pub product : ℕ → ℕ → ℕ
product a b = sum_of_shifts 128 a b

-- the block 1
abbrev pub one : ℕ
one = 2 ^ 127

unfoldable pub power : ℕ → ℕ → ℕ
power h zero = one
power h (suc k) = product (power h k) h

-- GHASH (6.4): X1·h^n + X2·h^(n-1) + .. + Xn·h
unfoldable pub ghash : ℕ → List ℕ → ℕ
ghash h [] = 0
ghash h (x ∷ xs) = bit_xor (product x (power h (suc (length xs)))) (ghash h xs)

-- a step of Horner's rule, by which GHASH is computed
abbrev pub horner_step : ℕ → ℕ → ℕ → ℕ
horner_step h y x = product (bit_xor y x) h
