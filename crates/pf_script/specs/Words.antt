-- The words of a script's lines: seats, bytes in hexadecimal, and names.
use Rattle.std.specs.Prelude.{◌≡◌, ◌≢◌, ℕ, ◌+◌, ◌<◌, List, [], ◌∷◌, ◌++◌, All, Ok}
use Rattle.std.specs.Str.{IsUtf8}
use Rattle.hex.specs.Hex.{decode_of}

abbrev pub SPACE : ℕ
SPACE = 32

-- a text, exactly one space, and another text
abbrev pub spaced : List ℕ → List ℕ → List ℕ
spaced first rest = first ++ SPACE ∷ rest

abbrev pub HasNoSpace : List ℕ → Type 0
HasNoSpace text = All (λ byte. byte ≢ SPACE) text

abbrev pub SEATS : ℕ
SEATS = 8

-- SEAT: one digit 0 to 7
pub record IsSeat (word : List ℕ) (seat : ℕ) : Type 0 where
  pub digit : word ≡ (48 + seat) ∷ []
  pub below : seat < SEATS

-- HEX: an even number of hexadecimal digits of either case, two at least
pub record IsHex (word bytes : List ℕ) : Type 0 where
  pub decodes : decode_of word ≡ Ok bytes
  pub some : bytes ≢ []

-- BYTE: two hexadecimal digits of either case
pub record IsByte (word : List ℕ) (byte : ℕ) : Type 0 where
  pub decodes : decode_of word ≡ Ok (byte ∷ [])

-- NAME and PATH: the rest of a line, in which spaces are kept
pub record IsRest (rest name : List ℕ) : Type 0 where
  pub whole : name ≡ rest
  pub some : name ≢ []
  pub is_text : IsUtf8 name
