-- Each text has parts.
use Rattle.std.proofs.Common.{◌≡◌, ◌∙◌, inl, ℕ, zero, suc, ◌≤◌, Bool, true, false, List, [], ◌∷◌, length, drop, refl, sym, ap, subst, arith, codes, bytes_eq}
use Rattle.std.proofs.lemmas.Bool.{both_ways}
use Rattle.std.proofs.lemmas.List.{append-nil}
use Rattle.std.proofs.lemmas.Slice.Eq.{bytes_eq-Decides}
use Rattle.template_text.specs.Parts.{begins, opens, closes_value, closes_comment, closes_statement, ends_raw, without_blanks, NoneIn, Part, Copied, Value, Comment, Raw, Statement, Unclosed, spelled, IsUnclosed, NoEndraw, IsPart, ArePartsOf}
use Rattle.template_text.specs.Pieces.{CutAtFirst}
use Rattle.template_text.proofs.Placing.{IsCut, value_part, comment_part, statement_part, IsStatementCut, raw_part, raw_never, value_open, comment_open, statement_open, copied_part, plain_text}
use Rattle.template_text.proofs.Lexing.{shorter_rest}

data Search (test : List ℕ → Bool) (text : List ℕ) : Type 0 where
  At : (front rest : List ℕ) → CutAtFirst test text front rest → Search test text
  Nowhere : NoneIn test text [] → Search test text

search_by : (test : List ℕ → Bool) (x : ℕ) (xs : List ℕ) (b : Bool) → test (x ∷ xs) ≡ b → Search test xs → Search test (x ∷ xs)
search_by test x xs true here so_far = At [] (x ∷ xs) (record { whole = refl; none = tt; here = here })
search_by test x xs false other (At front rest cut) =
    At (x ∷ front) rest (record { whole = ap (λ t. x ∷ t) cut.whole; none = (subst (λ t. test (x ∷ t) ≡ false) cut.whole other, cut.none); here = cut.here })
search_by test x xs false other (Nowhere none) = Nowhere (subst (λ t. test (x ∷ t) ≡ false) (sym (append-nil xs)) other, none)

search_in : (test : List ℕ → Bool) (text : List ℕ) → Search test text
search_in test [] = Nowhere tt
search_in test (x ∷ xs) = search_by test x xs (test (x ∷ xs)) refl (search_in test xs)

-- a first part, and what follows it
record HasPart (text : List ℕ) : Type 0 where
  part : Part
  rest : List ℕ
  cut : IsCut text part rest

unclosed : (text : List ℕ) → IsUnclosed text → HasPart text
unclosed text is = record { part = Unclosed text; rest = []; cut = record { spelled_so = sym (append-nil text); placed = (is, refl) } }

by_value : (text : List ℕ) → begins (codes "{{") text ≡ true → Search closes_value (drop 2 text) → HasPart text
by_value text is (At inside rest cut) = record { part = Value inside; rest = drop 2 rest; cut = value_part text (drop 2 text) inside rest (drop 2 rest) is refl cut refl }
by_value text is (Nowhere none) = unclosed text (value_open text (drop 2 text) is refl none)

by_comment : (text : List ℕ) → begins (codes "{#") text ≡ true → Search closes_comment (drop 2 text) → HasPart text
by_comment text is (At inside rest cut) = record { part = Comment inside; rest = drop 2 rest; cut = comment_part text (drop 2 text) inside rest (drop 2 rest) is refl cut refl }
by_comment text is (Nowhere none) = unclosed text (comment_open text (drop 2 text) is refl none)

by_ending : (text opening behind content ending : List ℕ) → IsStatementCut text opening behind → without_blanks opening ≡ codes "raw" → CutAtFirst ends_raw behind content ending → Search closes_statement (drop 2 ending) → HasPart text
by_ending text opening behind content ending is raw cut (At closing rest closes) =
    record { part = Raw opening content closing; rest = drop 2 rest; cut = raw_part text opening behind content ending (drop 2 ending) closing rest (drop 2 rest) is.spelled_so is.closes raw cut refl closes refl }
by_ending text opening behind content ending is raw cut (Nowhere none) = absurd (raw_never ending (drop 2 ending) cut.here refl none)

by_content : (text opening behind : List ℕ) → IsStatementCut text opening behind → without_blanks opening ≡ codes "raw" → Search ends_raw behind → HasPart text
by_content text opening behind is raw (At content ending cut) = by_ending text opening behind content ending is raw cut (search_in closes_statement (drop 2 ending))
by_content text opening behind is raw (Nowhere none) = unclosed text (NoEndraw opening behind is.spelled_so is.closes raw none)

by_word : (text inside behind : List ℕ) (b : Bool) → bytes_eq (without_blanks inside) (codes "raw") ≡ b → IsStatementCut text inside behind → HasPart text
by_word text inside behind true raw is = by_content text inside behind is ((bytes_eq-Decides (without_blanks inside) (codes "raw")).0 raw) (search_in ends_raw behind)
by_word text inside behind false other is =
    record { part = Statement inside; rest = behind; cut = record { spelled_so = is.spelled_so; placed = (is.closes, λ e. both_ways _ other ((bytes_eq-Decides (without_blanks inside) (codes "raw")).1 e)) } }

by_statement : (text : List ℕ) → begins (codes "{%") text ≡ true → Search closes_statement (drop 2 text) → HasPart text
by_statement text is (At inside rest cut) =
    by_word text inside (drop 2 rest) (bytes_eq (without_blanks inside) (codes "raw")) refl (statement_part text (drop 2 text) inside rest (drop 2 rest) is refl cut refl)
by_statement text is (Nowhere none) = unclosed text (statement_open text (drop 2 text) is refl none)

by_copy : (byte : ℕ) (bytes : List ℕ) → opens (byte ∷ bytes) ≡ false → Search opens (byte ∷ bytes) → HasPart (byte ∷ bytes)
by_copy byte bytes plain (At front rest cut) = record { part = Copied front; rest = rest; cut = record { spelled_so = cut.whole; placed = copied_part (byte ∷ bytes) front rest plain cut } }
by_copy byte bytes plain (Nowhere none) =
    record { part = Copied (byte ∷ bytes); rest = []; cut = record { spelled_so = sym (append-nil (byte ∷ bytes)); placed = (λ e. cc, none, inl refl) } }

by_third : (byte : ℕ) (bytes : List ℕ) (b : Bool) → begins (codes "{{") (byte ∷ bytes) ≡ false → begins (codes "{#") (byte ∷ bytes) ≡ false → begins (codes "{%") (byte ∷ bytes) ≡ b → HasPart (byte ∷ bytes)
by_third byte bytes true first second is = by_statement (byte ∷ bytes) is (search_in closes_statement (drop 2 (byte ∷ bytes)))
by_third byte bytes false first second third = by_copy byte bytes (plain_text (byte ∷ bytes) (byte ∷ bytes) refl first second third) (search_in opens (byte ∷ bytes))

by_second : (byte : ℕ) (bytes : List ℕ) (b : Bool) → begins (codes "{{") (byte ∷ bytes) ≡ false → begins (codes "{#") (byte ∷ bytes) ≡ b → HasPart (byte ∷ bytes)
by_second byte bytes true first is = by_comment (byte ∷ bytes) is (search_in closes_comment (drop 2 (byte ∷ bytes)))
by_second byte bytes false first second = by_third byte bytes (begins (codes "{%") (byte ∷ bytes)) first second refl

by_first : (byte : ℕ) (bytes : List ℕ) (b : Bool) → begins (codes "{{") (byte ∷ bytes) ≡ b → HasPart (byte ∷ bytes)
by_first byte bytes true is = by_value (byte ∷ bytes) is (search_in closes_value (drop 2 (byte ∷ bytes)))
by_first byte bytes false first = by_second byte bytes (begins (codes "{#") (byte ∷ bytes)) first refl

pub record HasParts (text : List ℕ) : Type 0 where
  pub parts : List Part
  pub are : ArePartsOf text parts

with_part : (text : List ℕ) (has : HasPart text) → HasParts has.rest → HasParts text
with_part text has others = record {
  parts = has.part ∷ others.parts;
  are = record {
    cover = has.cut.spelled_so ∙ ap (spelled has.part) others.are.cover;
    placed = (subst (IsPart has.part) others.are.cover has.cut.placed, others.are.placed);
  };
}

have_parts : (n : ℕ) (text : List ℕ) → length text ≤ n → HasParts text
have_parts n [] fits = record { parts = []; are = record { cover = refl; placed = tt } }
have_parts zero (byte ∷ bytes) fits = absurd (omega arith)
have_parts (suc n) (byte ∷ bytes) fits =
    let has = by_first byte bytes (begins (codes "{{") (byte ∷ bytes)) refl in
    with_part (byte ∷ bytes) has (have_parts n has.rest (omega (arith, shorter_rest (byte ∷ bytes) has.rest has.part has.cut.spelled_so has.cut.placed)))

pub has_parts : (text : List ℕ) → HasParts text
has_parts text = have_parts (length text) text (omega arith)
