-- Decimal numbers in texts.
use Rattle.std.specs.Prelude.{◌≡◌, ℕ, ◌^◌, ◌<◌, List}
use Rattle.std.specs.Fmt.{decimal}

-- The text spells the number: decimal digits without a sign or a leading zero, for a number below 2^64.
pub record Spells (text : List ℕ) (number : ℕ) : Type 0 where
  pub digits : text ≡ decimal number
  pub fits : number < 2 ^ 64
