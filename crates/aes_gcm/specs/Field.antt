-- Bytes as the field GF(2^8) of FIPS 197 (4.1, 4.2), and the S-box (5.1.1). Bit i of a byte is the coefficient of x^i.
use Rattle.std.specs.Prelude.{ℕ, zero, suc, ◌+◌, ◌*◌, ◌/◌, ◌%◌, ◌^◌, bit_xor, nat_lt, if◌then◌else◌}
use Rattle.std.specs.Int.{bit_at}

-- a byte times x, modulo x^8 + x^4 + x^3 + x + 1
abbrev pub xtime : ℕ → ℕ
xtime a = bit_xor (a * 2 % 256) (if nat_lt a 128 then 0 else 0x1b)

-- the lowest k bits of b, as a polynomial, times a
abbrev pub times_low : ℕ → ℕ → ℕ → ℕ
times_low zero a b = 0
times_low (suc k) a b = bit_xor (b % 2 * a) (times_low k (xtime a) (b / 2))

-- the product of two bytes
unfoldable pub times : ℕ → ℕ → ℕ
times a b = times_low 8 a b

unfoldable pub power : ℕ → ℕ → ℕ
power a zero = 1
power a (suc n) = times a (power a n)

-- the inverse, and 0 of 0: the field's other elements are a group of 255
unfoldable pub inverse : ℕ → ℕ
inverse a = power a 254

-- bit i of the affine map
abbrev pub affine_bit : ℕ → ℕ → ℕ
affine_bit b i = (bit_at b i + bit_at b ((i + 4) % 8) + bit_at b ((i + 5) % 8) + bit_at b ((i + 6) % 8) + bit_at b ((i + 7) % 8) + bit_at 0x63 i) % 2

-- the number whose lowest k bits are those that f gives
abbrev pub bits_of : (ℕ → ℕ) → ℕ → ℕ
bits_of f zero = 0
bits_of f (suc k) = f k * 2 ^ k + bits_of f k

unfoldable pub affine : ℕ → ℕ
affine b = bits_of (affine_bit b) 8

unfoldable pub sub_byte : ℕ → ℕ
sub_byte a = affine (inverse a)
