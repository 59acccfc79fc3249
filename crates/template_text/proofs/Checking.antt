-- Tests for parts and for what they write, to compute examples by.
use Rattle.std.proofs.Common.{◌≡◌, ◌≢◌, ◌⊎◌, inl, inr, ℕ, Bool, true, false, cond, not, ◌&&◌, ◌||◌, List, [], ◌∷◌, ◌++◌, length, drop, Option, Some, None, Ok, Err, refl, codes, bytes_eq, leb}
use Rattle.std.proofs.lemmas.Bool.{and_parts, or_cases, not-true, leb-true, both_ways}
use Rattle.std.proofs.lemmas.Slice.Eq.{bytes_eq-Decides}
use Rattle.template_text.specs.declared.fault.RenderFault.{RenderFault}
use Rattle.template_text.specs.declared.fault.RenderFault.TheVariants as faults
use Rattle.template_text.specs.Parts.{begins, opens, closes_value, closes_comment, closes_statement, ends_raw, without_blanks, NoneIn, Part, Copied, Value, Comment, Raw, Statement, Unclosed, statement, IsUnclosed, NoValueEnd, NoCommentEnd, NoStatementEnd, NoEndraw, IsPart, text_of, ArePlaced}
use Rattle.template_text.specs.Rendering.{LONGEST, Values, value_of, Writes, Refuses, Write, place_after, Whole, Refused, RendersTo}
use Rattle.template_text.proofs.Joining.{name_test, name_of_test, test_of_name}
use Rattle.template_text.proofs.Placing.{begins_is}

unfoldable pub none_in : (List ℕ → Bool) → List ℕ → List ℕ → Bool
none_in test [] rest = true
none_in test (byte ∷ front) rest = not (test (byte ∷ (front ++ rest))) && none_in test front rest

none_by : (test : List ℕ → Bool) (front rest : List ℕ) → none_in test front rest ≡ true → NoneIn test front rest
unfolding none_in
none_by test [] rest is = tt
none_by test (byte ∷ front) rest is = let both = and_parts _ _ is in (not-true _ both.0, none_by test front rest both.1)

unfoldable pub is_nil : List ℕ → Bool
is_nil [] = true
is_nil (byte ∷ bytes) = false

nil_by : (bytes : List ℕ) → is_nil bytes ≡ true → bytes ≡ []
unfolding is_nil
nil_by [] is = refl
nil_by (byte ∷ bytes) is = cc

some_by : (bytes : List ℕ) → is_nil bytes ≡ false → bytes ≢ []
unfolding is_nil
some_by [] is = cc
some_by (byte ∷ bytes) is = λ e. cc

unfoldable pub is_unclosed : List ℕ → Bool
is_unclosed bytes =
    (begins (codes "{{") bytes && none_in closes_value (drop 2 bytes) [])
    || (begins (codes "{#") bytes && none_in closes_comment (drop 2 bytes) [])
    || (begins (codes "{%") bytes && none_in closes_statement (drop 2 bytes) [])

unclosed_by : (bytes : List ℕ) → is_unclosed bytes ≡ true → IsUnclosed bytes
unfolding is_unclosed
unclosed_by bytes is = elim (or_cases _ _ is) [
  | inl first ↦ elim (or_cases _ _ first) [
    | inl value ↦ let both = and_parts _ _ value in NoValueEnd (drop 2 bytes) (begins_is (codes "{{") bytes both.0) (none_by closes_value (drop 2 bytes) [] both.1)
    | inr comment ↦ let both = and_parts _ _ comment in NoCommentEnd (drop 2 bytes) (begins_is (codes "{#") bytes both.0) (none_by closes_comment (drop 2 bytes) [] both.1)
  ]
  | inr last ↦ let both = and_parts _ _ last in NoStatementEnd (drop 2 bytes) (begins_is (codes "{%") bytes both.0) (none_by closes_statement (drop 2 bytes) [] both.1)
]

unfoldable pub is_part : Part → List ℕ → Bool
is_part (Copied bytes) rest = not (is_nil bytes) && none_in opens bytes rest && (is_nil rest || opens rest)
is_part (Value inside) rest = none_in closes_value inside (codes "}}" ++ rest)
is_part (Comment inside) rest = none_in closes_comment inside (codes "#}" ++ rest)
is_part (Raw opening content closing) rest =
    none_in closes_statement opening (codes "%}" ++ (content ++ statement closing rest)) && bytes_eq (without_blanks opening) (codes "raw")
    && none_in ends_raw content (statement closing rest) && ends_raw (statement closing rest) && none_in closes_statement closing (codes "%}" ++ rest)
is_part (Statement inside) rest = none_in closes_statement inside (codes "%}" ++ rest) && not (bytes_eq (without_blanks inside) (codes "raw"))
is_part (Unclosed bytes) rest = is_unclosed bytes && is_nil rest

end_by : (rest : List ℕ) → (is_nil rest || opens rest) ≡ true → (rest ≡ []) ⊎ (opens rest ≡ true)
end_by rest is = elim (or_cases _ _ is) [ inl none ↦ inl (nil_by rest none) | inr here ↦ inr here ]

part_by : (part : Part) (rest : List ℕ) → is_part part rest ≡ true → IsPart part rest
unfolding is_part
part_by (Copied bytes) rest is =
    let two = and_parts _ _ is in
    let one = and_parts _ _ two.0 in
    (some_by bytes (not-true _ one.0), none_by opens bytes rest one.1, end_by rest two.1)
part_by (Value inside) rest is = none_by closes_value inside (codes "}}" ++ rest) is
part_by (Comment inside) rest is = none_by closes_comment inside (codes "#}" ++ rest) is
part_by (Raw opening content closing) rest is =
    let four = and_parts _ _ is in
    let three = and_parts _ _ four.0 in
    let two = and_parts _ _ three.0 in
    let one = and_parts _ _ two.0 in
    record {
      opened = none_by closes_statement opening (codes "%}" ++ (content ++ statement closing rest)) one.0;
      raw = (bytes_eq-Decides _ _).0 one.1;
      first = none_by ends_raw content (statement closing rest) two.1;
      endraw = three.1;
      closed = none_by closes_statement closing (codes "%}" ++ rest) four.1;
    }
part_by (Statement inside) rest is =
    let both = and_parts _ _ is in
    (none_by closes_statement inside (codes "%}" ++ rest) both.0, λ e. both_ways _ (not-true _ both.1) ((bytes_eq-Decides _ _).1 e))
part_by (Unclosed bytes) rest is = let both = and_parts _ _ is in (unclosed_by bytes both.0, nil_by rest both.1)

unfoldable pub are_placed : List Part → List ℕ → Bool
are_placed [] rest = true
are_placed (part ∷ parts) rest = is_part part (text_of parts rest) && are_placed parts rest

placed_by : (parts : List Part) (rest : List ℕ) → are_placed parts rest ≡ true → ArePlaced parts rest
unfolding are_placed
placed_by [] rest is = tt
placed_by (part ∷ parts) rest is = let both = and_parts _ _ is in (part_by part (text_of parts rest) both.0, placed_by parts rest both.1)

-- what a part writes, if it does
unfoldable pub added : (List ℕ → Option (List ℕ)) → Part → Option (List ℕ)
added value (Copied bytes) = Some bytes
added value (Value inside) = cond (name_test (without_blanks inside)) (value (without_blanks inside)) None
added value (Comment inside) = Some []
added value (Raw opening content closing) = Some content
added value (Statement inside) = None
added value (Unclosed bytes) = None

value_by : (value : List ℕ → Option (List ℕ)) (inside text : List ℕ) (b : Bool) → name_test (without_blanks inside) ≡ b → cond b (value (without_blanks inside)) None ≡ Some text → Writes value (Value inside) text
value_by value inside text true is has = (name_of_test (without_blanks inside) is, has)
value_by value inside text false is has = cc

writes_by : (value : List ℕ → Option (List ℕ)) (part : Part) (text : List ℕ) → added value part ≡ Some text → Writes value part text
unfolding added
writes_by value (Copied bytes) text is = cc
writes_by value (Value inside) text is = value_by value inside text (name_test (without_blanks inside)) refl is
writes_by value (Comment inside) text is = cc
writes_by value (Raw opening content closing) text is = cc
writes_by value (Statement inside) text is = cc
writes_by value (Unclosed bytes) text is = cc

unfoldable pub both : Option (List ℕ) → Option (List ℕ) → Option (List ℕ)
both None others = None
both (Some first) None = None
both (Some first) (Some others) = Some (first ++ others)

unfoldable pub written : (List ℕ → Option (List ℕ)) → List Part → Option (List ℕ)
written value [] = Some []
written value (part ∷ parts) = both (added value part) (written value parts)

write_both : (value : List ℕ → Option (List ℕ)) (part : Part) (parts : List Part) (text : List ℕ) (x y : Option (List ℕ)) → added value part ≡ x → written value parts ≡ y → ((others : List ℕ) → written value parts ≡ Some others → Write value parts others) → both x y ≡ Some text → Write value (part ∷ parts) text
unfolding both
write_both value part parts text None y first others rest is = cc
write_both value part parts text (Some a) None first others rest is = cc
write_both value part parts text (Some a) (Some b) first others rest is = let e : text ≡ a ++ b = cc in (a, b, writes_by value part a first, rest b others, e)

write_by : (value : List ℕ → Option (List ℕ)) (parts : List Part) (text : List ℕ) → written value parts ≡ Some text → Write value parts text
unfolding written
write_by value [] text is = cc
write_by value (part ∷ parts) text is = write_both value part parts text (added value part) (written value parts) refl refl (λ others. write_by value parts others) is

pub gives : (values : Values) (template text : List ℕ) (parts : List Part) → template ≡ text_of parts [] → are_placed parts [] ≡ true → written (value_of values) parts ≡ Some text → leb (length text) LONGEST ≡ true → RendersTo template values (Ok text)
gives values template text parts cover placed writes within = record {
  parts = parts;
  of_text = record { cover = cover; placed = placed_by parts [] placed };
  outcome_of = Whole text (write_by (value_of values) parts text writes) (leb-true _ _ within) refl;
}

pub faults_placed : (values : Values) (template text : List ℕ) (front : List Part) (part : Part) (others : List Part) (fault : RenderFault) → template ≡ text_of (front ++ part ∷ others) [] → ArePlaced (front ++ part ∷ others) [] → written (value_of values) front ≡ Some text → leb (length text) LONGEST ≡ true → Refuses (value_of values) (place_after front) part fault → RendersTo template values (Err fault)
faults_placed values template text front part others fault cover placed writes within refused = record {
  parts = front ++ part ∷ others;
  of_text = record { cover = cover; placed = placed };
  outcome_of = Refused front part others text fault refl (write_by (value_of values) front text writes) (leb-true _ _ within) refused refl;
}

pub faults_at : (values : Values) (template text : List ℕ) (front : List Part) (part : Part) (others : List Part) (fault : RenderFault) → template ≡ text_of (front ++ part ∷ others) [] → are_placed (front ++ part ∷ others) [] ≡ true → written (value_of values) front ≡ Some text → leb (length text) LONGEST ≡ true → Refuses (value_of values) (place_after front) part fault → RendersTo template values (Err fault)
faults_at values template text front part others fault cover placed writes within refused = faults_placed values template text front part others fault cover (placed_by (front ++ part ∷ others) [] placed) writes within refused

-- a statement `raw` without an `endraw`
pub raw_unclosed : (opening content : List ℕ) → none_in closes_statement opening (codes "%}" ++ content) ≡ true → bytes_eq (without_blanks opening) (codes "raw") ≡ true → none_in ends_raw content [] ≡ true → ArePlaced (Unclosed (statement opening content) ∷ []) []
raw_unclosed opening content closes raw none = ((NoEndraw opening content refl (none_by closes_statement opening (codes "%}" ++ content) closes) ((bytes_eq-Decides _ _).0 raw) (none_by ends_raw content [] none), refl), tt)

pub bad_name : (value : List ℕ → Option (List ℕ)) (at : ℕ) (inside : List ℕ) → name_test (without_blanks inside) ≡ false → Refuses value at (Value inside) (faults.BadName at)
bad_name value at inside other = inl (λ name. both_ways _ other (test_of_name _ name), refl)

pub no_pair : (value : List ℕ → Option (List ℕ)) (at : ℕ) (inside : List ℕ) → name_test (without_blanks inside) ≡ true → value (without_blanks inside) ≡ None → Refuses value at (Value inside) (faults.Unknown at (without_blanks inside))
no_pair value at inside is none = inr (name_of_test _ is, none, refl)
