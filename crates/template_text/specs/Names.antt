-- The names of values.
use Rattle.std.specs.Prelude.{◌≡◌, ◌≢◌, ◌⊎◌, ℕ, Bool, false, ◌&&◌, ◌||◌, ◌==◌, List, [], ◌∷◌, ◌++◌, IsTrue, codes}
use Rattle.std.specs.Char.{is_ascii_alphabetic, is_ascii_digit}
use Rattle.std.specs.List.{list_all, join_with_byte}

abbrev pub UNDERSCORE : ℕ
UNDERSCORE = 95

abbrev pub POINT : ℕ
POINT = 46

-- a letter or `_`
abbrev pub is_first : ℕ → Bool
is_first byte = is_ascii_alphabetic byte || byte == UNDERSCORE

-- a letter, a digit or `_`
abbrev pub is_further : ℕ → Bool
is_further byte = is_first byte || is_ascii_digit byte

-- a letter or `_`, and then letters, digits and `_`
abbrev pub is_name_part : List ℕ → Bool
is_name_part [] = false
is_name_part (first ∷ others) = is_first first && list_all is_further others

-- one or more parts, joined by points
pub record IsJoined (name : List ℕ) : Type 0 where
  pub parts : List (List ℕ)
  pub some : parts ≢ []
  pub each : IsTrue (list_all is_name_part parts)
  pub joined : name ≡ join_with_byte POINT parts

-- such parts, and then optionally `()`
abbrev pub IsValueName : List ℕ → Type 0
IsValueName name = IsJoined name ⊎ ((front : List ℕ) × IsJoined front × (name ≡ front ++ codes "()"))
