-- The parts of a template.
use Rattle.std.specs.Prelude.{◌≡◌, ◌≢◌, ◌⊎◌, ℕ, Bool, true, false, ◌&&◌, ◌||◌, ◌==◌, nat_eq, if◌then◌else◌, List, [], ◌∷◌, ◌++◌, reverse, drop, codes, ⊤}
use Rattle.std.specs.List.{starts_with}

-- a space, a tab, a line feed or a carriage return
abbrev pub is_blank : ℕ → Bool
is_blank byte = byte == 32 || byte == 9 || byte == 10 || byte == 13

-- what follows the blanks at the front
abbrev pub after_blanks : List ℕ → List ℕ
after_blanks [] = []
after_blanks (byte ∷ bytes) = if is_blank byte then after_blanks bytes else byte ∷ bytes

-- what stands before the blanks at the end
unfoldable pub before_blanks : List ℕ → List ℕ
before_blanks bytes = reverse (after_blanks (reverse bytes))

-- without the blanks at its ends
unfoldable pub without_blanks : List ℕ → List ℕ
without_blanks bytes = before_blanks (after_blanks bytes)

-- the text begins with the mark
abbrev pub begins : List ℕ → List ℕ → Bool
begins mark text = starts_with nat_eq text mark

-- the text begins with one of the three marks that open a part
unfoldable pub opens : List ℕ → Bool
opens text = begins (codes "{{") text || begins (codes "{#") text || begins (codes "{%") text

unfoldable pub closes_value : List ℕ → Bool
closes_value text = begins (codes "}}") text

unfoldable pub closes_comment : List ℕ → Bool
closes_comment text = begins (codes "#}") text

unfoldable pub closes_statement : List ℕ → Bool
closes_statement text = begins (codes "%}") text

-- the text begins with `{%`, blanks, `endraw`, blanks and `%}`
unfoldable pub ends_raw : List ℕ → Bool
ends_raw text = begins (codes "{%") text && begins (codes "endraw") (after_blanks (drop 2 text)) && begins (codes "%}") (after_blanks (drop 6 (after_blanks (drop 2 text))))

-- The text is `front` and then `rest`; from no place in `front` on does it pass the test.
abbrev pub NoneIn : (List ℕ → Bool) → List ℕ → List ℕ → Type 0
NoneIn test [] rest = ⊤
NoneIn test (byte ∷ front) rest = (test (byte ∷ (front ++ rest)) ≡ false) × NoneIn test front rest

-- Copied text, a value, a comment, raw text, another statement than `raw`, and what nothing closes. A value, a comment
-- and a statement have what stands between their marks; raw text has that of its two statements, and its content
-- between them.
pub data Part : Type 0 where
  Copied : (bytes : List ℕ) → Part
  Value : (inside : List ℕ) → Part
  Comment : (inside : List ℕ) → Part
  Raw : (opening content closing : List ℕ) → Part
  Statement : (inside : List ℕ) → Part
  Unclosed : (bytes : List ℕ) → Part

-- a statement, and the text that follows it
abbrev pub statement : List ℕ → List ℕ → List ℕ
statement inside rest = codes "{%" ++ (inside ++ (codes "%}" ++ rest))

-- a part, and the text that follows it
abbrev pub spelled : Part → List ℕ → List ℕ
spelled (Copied bytes) rest = bytes ++ rest
spelled (Value inside) rest = codes "{{" ++ (inside ++ (codes "}}" ++ rest))
spelled (Comment inside) rest = codes "{#" ++ (inside ++ (codes "#}" ++ rest))
spelled (Raw opening content closing) rest = statement opening (content ++ statement closing rest)
spelled (Statement inside) rest = statement inside rest
spelled (Unclosed bytes) rest = bytes ++ rest

-- the statement at the front closes by the next `%}`
abbrev pub IsStatement : List ℕ → List ℕ → Type 0
IsStatement inside rest = NoneIn closes_statement inside (codes "%}" ++ rest)

-- An opening mark without its closing mark, or `raw` without an `endraw`, to the end of the text.
pub data IsUnclosed (bytes : List ℕ) : Type 0 where
  NoValueEnd : (inside : List ℕ) → bytes ≡ codes "{{" ++ inside → NoneIn closes_value inside [] → IsUnclosed bytes
  NoCommentEnd : (inside : List ℕ) → bytes ≡ codes "{#" ++ inside → NoneIn closes_comment inside [] → IsUnclosed bytes
  NoStatementEnd : (inside : List ℕ) → bytes ≡ codes "{%" ++ inside → NoneIn closes_statement inside [] → IsUnclosed bytes
  NoEndraw : (opening content : List ℕ) → bytes ≡ statement opening content → IsStatement opening content → without_blanks opening ≡ codes "raw" → NoneIn ends_raw content [] → IsUnclosed bytes

-- a statement `raw`, its content up to the first `endraw`, and that statement up to its `%}`
pub record IsRaw (opening content closing rest : List ℕ) : Type 0 where
  pub opened : IsStatement opening (content ++ statement closing rest)
  pub raw : without_blanks opening ≡ codes "raw"
  pub first : NoneIn ends_raw content (statement closing rest)
  pub endraw : ends_raw (statement closing rest) ≡ true
  pub closed : IsStatement closing rest

-- which part stands before the rest of a text: copied text goes up to the next opening mark, or to the end
abbrev pub IsPart : Part → List ℕ → Type 0
IsPart (Copied bytes) rest = (bytes ≢ []) × NoneIn opens bytes rest × ((rest ≡ []) ⊎ (opens rest ≡ true))
IsPart (Value inside) rest = NoneIn closes_value inside (codes "}}" ++ rest)
IsPart (Comment inside) rest = NoneIn closes_comment inside (codes "#}" ++ rest)
IsPart (Raw opening content closing) rest = IsRaw opening content closing rest
IsPart (Statement inside) rest = IsStatement inside rest × (without_blanks inside ≢ codes "raw")
IsPart (Unclosed bytes) rest = IsUnclosed bytes × (rest ≡ [])

-- parts, one after another, and the text that follows them
abbrev pub text_of : List Part → List ℕ → List ℕ
text_of [] rest = rest
text_of (part ∷ parts) rest = spelled part (text_of parts rest)

-- each of them stands before what follows it
abbrev pub ArePlaced : List Part → List ℕ → Type 0
ArePlaced [] rest = ⊤
ArePlaced (part ∷ parts) rest = IsPart part (text_of parts rest) × ArePlaced parts rest

-- the parts of a text: they cover it, and each is one where it stands
pub record ArePartsOf (text : List ℕ) (parts : List Part) : Type 0 where
  pub cover : text ≡ text_of parts []
  pub placed : ArePlaced parts []
