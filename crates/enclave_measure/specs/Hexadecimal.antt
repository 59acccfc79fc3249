-- Hexadecimal numbers in texts.
use Rattle.std.specs.Prelude.{◌≡◌, ℕ, ◌+◌, ◌*◌, ◌-◌, ◌≤◌, nat_le, Bool, true, ◌&&◌, ◌||◌, if◌then◌else◌, List, ◌++◌, length, get_or, fold, codes}
use Rattle.std.specs.Char.{is_ascii_digit}
use Rattle.std.specs.List.{list_all}

-- `0` to `9`, or `a` to `f`
unfoldable pub is_hex_digit : ℕ → Bool
is_hex_digit byte = is_ascii_digit byte || (nat_le 97 byte && nat_le byte 102)

unfoldable pub digit_value : ℕ → ℕ
digit_value byte = if is_ascii_digit byte then byte - 48 else byte - 87

-- the digits' number, the highest digit first
abbrev pub hex_value : List ℕ → ℕ
hex_value digits = fold (λ number digit. 16 * number + digit_value digit) 0 digits

-- 1 to 16 digits, the first of them no `0` unless it stands alone
pub record AreHexDigits (digits : List ℕ) : Type 0 where
  pub some : 1 ≤ length digits
  pub few : length digits ≤ 16
  pub no_zero : get_or digits 0 0 ≡ 48 → length digits ≡ 1
  pub each : list_all is_hex_digit digits ≡ true

-- the text is `0x` and the digits of the number
pub record IsHex (text : List ℕ) (number : ℕ) : Type 0 where
  pub digits : List ℕ
  pub are_digits : AreHexDigits digits
  pub spelled : text ≡ codes "0x" ++ digits
  pub value : number ≡ hex_value digits
