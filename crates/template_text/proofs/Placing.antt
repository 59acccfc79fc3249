-- Parts, cut from a text.
use Rattle.std.proofs.Common.{◌≡◌, ◌∙◌, inl, inr, ℕ, ◌<◌, Bool, true, false, ◌||◌, List, [], ◌∷◌, ◌++◌, length, get_or, take, drop, refl, sym, ap, subst, arith, codes}
use Rattle.std.proofs.lemmas.Bool.{both_ways, or_cases, or_from, and_parts}
use Rattle.std.proofs.lemmas.Bool.Decides.{Decides-eqb}
use Rattle.std.proofs.lemmas.List.{append_assoc, take-append-drop}
use Rattle.std.proofs.lemmas.Slice.Eq.{starts_is}
use Rattle.template_text.specs.declared.marks.Mark.{Mark}
use Rattle.template_text.specs.declared.marks.Mark.TheVariants as marks
use Rattle.template_text.specs.Parts.{after_blanks, begins, opens, closes_value, closes_comment, closes_statement, ends_raw, without_blanks, NoneIn, Part, Copied, Value, Comment, Raw, statement, spelled, IsStatement, IsUnclosed, NoValueEnd, NoCommentEnd, NoStatementEnd, IsPart}
use Rattle.template_text.specs.Pieces.{test_of, CutAtFirst, HasMark}
use Rattle.template_text.proofs.Trimming.{has_blanks}
use Rattle.template_text.proofs.Finding.{never}

-- a mark at the front
pub begins_is : (mark text : List ℕ) → begins mark text ≡ true → text ≡ mark ++ drop (length mark) text
begins_is mark text is = (starts_is Decides-eqb text mark (begins mark text) refl).0 is

pub value_closed : (text : List ℕ) → closes_value text ≡ true → text ≡ 125 ∷ 125 ∷ drop 2 text
unfolding closes_value
value_closed text is = begins_is (codes "}}") text is

pub comment_closed : (text : List ℕ) → closes_comment text ≡ true → text ≡ 35 ∷ 125 ∷ drop 2 text
unfolding closes_comment
comment_closed text is = begins_is (codes "#}") text is

pub statement_closed : (text : List ℕ) → closes_statement text ≡ true → text ≡ 37 ∷ 125 ∷ drop 2 text
unfolding closes_statement
statement_closed text is = begins_is (codes "%}") text is

pub raw_ended : (text : List ℕ) → ends_raw text ≡ true → text ≡ 123 ∷ 37 ∷ drop 2 text
unfolding ends_raw
raw_ended text is = begins_is (codes "{%") text (and_parts _ _ (and_parts _ _ is).0).0

pub mark_room : (a b : ℕ) (text rest : List ℕ) → text ≡ a ∷ b ∷ rest → b < 128 → HasMark text
mark_room a b text rest is small = record { whole = omega (arith, ap length is); small = rw is small }

-- the first byte of a mark is one of ASCII
pub record IsSmallAt (text : List ℕ) : Type 0 where
  pub there : 0 < length text
  pub small : get_or text 0 0 < 128

small_at : (a : ℕ) (text rest : List ℕ) → text ≡ a ∷ rest → a < 128 → IsSmallAt text
small_at a text rest is small = record { there = omega (arith, ap length is); small = rw is small }

opens_small : (text : List ℕ) → opens text ≡ true → IsSmallAt text
unfolding opens
opens_small text is =
    elim (or_cases (begins (codes "{{") text || begins (codes "{#") text) (begins (codes "{%") text) is) [
      | inl first ↦ elim (or_cases (begins (codes "{{") text) (begins (codes "{#") text) first) [
        | inl value ↦ small_at 123 text (123 ∷ drop 2 text) (begins_is (codes "{{") text value) (omega arith)
        | inr comment ↦ small_at 123 text (35 ∷ drop 2 text) (begins_is (codes "{#") text comment) (omega arith)
      ]
      | inr second ↦ small_at 123 text (37 ∷ drop 2 text) (begins_is (codes "{%") text second) (omega arith)
    ]

pub mark_small : (mark : Mark) (text : List ℕ) → test_of mark text ≡ true → IsSmallAt text
mark_small marks.Opening text is = opens_small text is
mark_small marks.ValueEnd text is = small_at 125 text (125 ∷ drop 2 text) (value_closed text is) (omega arith)
mark_small marks.CommentEnd text is = small_at 35 text (125 ∷ drop 2 text) (comment_closed text is) (omega arith)
mark_small marks.StatementEnd text is = small_at 37 text (125 ∷ drop 2 text) (statement_closed text is) (omega arith)
mark_small marks.Endraw text is = small_at 123 text (37 ∷ drop 2 text) (raw_ended text is) (omega arith)

-- between an opening mark and the first closing one
module _ (test : List ℕ → Bool) (front_mark close : List ℕ) (closed : (text : List ℕ) → test text ≡ true → text ≡ close ++ drop 2 text) where
  around : (text behind inside rest after : List ℕ) → text ≡ front_mark ++ behind → CutAtFirst test behind inside rest → after ≡ drop 2 rest → text ≡ front_mark ++ (inside ++ (close ++ after))
  around text behind inside rest after is cut past =
      is ∙ ap (λ t. front_mark ++ t) (cut.whole ∙ ap (λ r. inside ++ r) (closed rest cut.here ∙ ap (λ a. close ++ a) (sym past)))

  none_inside : (behind inside rest after : List ℕ) → CutAtFirst test behind inside rest → after ≡ drop 2 rest → NoneIn test inside (close ++ after)
  none_inside behind inside rest after cut past = subst (λ r. NoneIn test inside r) (closed rest cut.here ∙ ap (λ a. close ++ a) (sym past)) cut.none

-- an opening mark, and what is behind it
opened : (mark text behind : List ℕ) → begins mark text ≡ true → behind ≡ drop (length mark) text → text ≡ mark ++ behind
opened mark text behind is past = begins_is mark text is ∙ ap (λ b. mark ++ b) (sym past)

-- a part, and what follows it
pub record IsCut (text : List ℕ) (part : Part) (rest : List ℕ) : Type 0 where
  pub spelled_so : text ≡ spelled part rest
  pub placed : IsPart part rest

pub value_part : (text behind inside rest after : List ℕ) → begins (codes "{{") text ≡ true → behind ≡ drop 2 text → CutAtFirst closes_value behind inside rest → after ≡ drop 2 rest → IsCut text (Value inside) after
value_part text behind inside rest after is past cut further = record {
  spelled_so = around closes_value (codes "{{") (codes "}}") value_closed text behind inside rest after (opened (codes "{{") text behind is past) cut further;
  placed = none_inside closes_value (codes "{{") (codes "}}") value_closed behind inside rest after cut further;
}

pub comment_part : (text behind inside rest after : List ℕ) → begins (codes "{#") text ≡ true → behind ≡ drop 2 text → CutAtFirst closes_comment behind inside rest → after ≡ drop 2 rest → IsCut text (Comment inside) after
comment_part text behind inside rest after is past cut further = record {
  spelled_so = around closes_comment (codes "{#") (codes "#}") comment_closed text behind inside rest after (opened (codes "{#") text behind is past) cut further;
  placed = none_inside closes_comment (codes "{#") (codes "#}") comment_closed behind inside rest after cut further;
}

pub record IsStatementCut (text inside after : List ℕ) : Type 0 where
  pub spelled_so : text ≡ statement inside after
  pub closes : IsStatement inside after

pub statement_part : (text behind inside rest after : List ℕ) → begins (codes "{%") text ≡ true → behind ≡ drop 2 text → CutAtFirst closes_statement behind inside rest → after ≡ drop 2 rest → IsStatementCut text inside after
statement_part text behind inside rest after is past cut further = record {
  spelled_so = around closes_statement (codes "{%") (codes "%}") statement_closed text behind inside rest after (opened (codes "{%") text behind is past) cut further;
  closes = none_inside closes_statement (codes "{%") (codes "%}") statement_closed behind inside rest after cut further;
}

begins_raw_end : (text : List ℕ) → ends_raw text ≡ true → begins (codes "{%") text ≡ true
unfolding ends_raw
begins_raw_end text is = (and_parts _ _ (and_parts _ _ is).0).0

pub raw_part : (text opening behind content ending past closing rest after : List ℕ) → text ≡ statement opening behind → IsStatement opening behind → without_blanks opening ≡ codes "raw" → CutAtFirst ends_raw behind content ending → past ≡ drop 2 ending → CutAtFirst closes_statement past closing rest → after ≡ drop 2 rest → IsCut text (Raw opening content closing) after
raw_part text opening behind content ending past closing rest after is opens_so raw cut is_past closes further =
    let end = statement_part ending past closing rest after (begins_raw_end ending cut.here) is_past closes further in
    let whole : behind ≡ content ++ statement closing after = cut.whole ∙ ap (λ e. content ++ e) end.spelled_so in
    record {
      spelled_so = is ∙ ap (statement opening) whole;
      placed = record {
        opened = subst (λ b. IsStatement opening b) whole opens_so;
        raw = raw;
        first = subst (λ e. NoneIn ends_raw content e) end.spelled_so cut.none;
        endraw = subst (λ e. ends_raw e ≡ true) end.spelled_so cut.here;
        closed = end.closes;
      };
    }

-- the ends of a text
record IsEndOf (text end : List ℕ) : Type 0 where
  front : List ℕ
  whole : text ≡ front ++ end

past_blanks : (text : List ℕ) → IsEndOf text (after_blanks text)
past_blanks text = let blanks = has_blanks text in record { front = blanks.blanks; whole = blanks.whole }

past_some : (n : ℕ) (text : List ℕ) → IsEndOf text (drop n text)
past_some n text = record { front = take n text; whole = sym (take-append-drop n text) }

end_of_end : (a b d : List ℕ) → IsEndOf a b → IsEndOf b d → IsEndOf a d
end_of_end a b d first second = record { front = first.front ++ second.front; whole = first.whole ∙ ap (λ t. first.front ++ t) second.whole ∙ sym (append_assoc first.front second.front d) }

never_at : (text end : List ℕ) → IsEndOf text end → NoneIn closes_statement text [] → end ≡ 37 ∷ 125 ∷ drop 2 end → closes_statement end ≡ true → ⊥
never_at text end is none shape here =
    let whole : text ≡ is.front ++ 37 ∷ 125 ∷ drop 2 end = is.whole ∙ ap (λ e. is.front ++ e) shape in
    never closes_statement is.front 37 (125 ∷ drop 2 end) (subst (λ t. NoneIn closes_statement t []) whole none) (subst (λ e. closes_statement e ≡ true) shape here)

closes_of_ends : (text : List ℕ) → ends_raw text ≡ true → closes_statement (after_blanks (drop 6 (after_blanks (drop 2 text)))) ≡ true
unfolding ends_raw closes_statement
closes_of_ends text is = (and_parts _ _ is).1

-- a statement `endraw` closes
pub raw_never : (ending past : List ℕ) → ends_raw ending ≡ true → past ≡ drop 2 ending → NoneIn closes_statement past [] → ⊥
raw_never ending past is is_past none =
    let word = after_blanks (drop 2 ending) in
    let end = after_blanks (drop 6 word) in
    let here = closes_of_ends ending is in
    never_at (drop 2 ending) end
    (end_of_end (drop 2 ending) word end (past_blanks (drop 2 ending)) (end_of_end word (drop 6 word) end (past_some 6 word) (past_blanks (drop 6 word))))
    (subst (λ p. NoneIn closes_statement p []) is_past none) (statement_closed end here) here

-- what nothing closes
pub value_open : (text behind : List ℕ) → begins (codes "{{") text ≡ true → behind ≡ drop 2 text → NoneIn closes_value behind [] → IsUnclosed text
value_open text behind is past none = NoValueEnd behind (opened (codes "{{") text behind is past) none

pub comment_open : (text behind : List ℕ) → begins (codes "{#") text ≡ true → behind ≡ drop 2 text → NoneIn closes_comment behind [] → IsUnclosed text
comment_open text behind is past none = NoCommentEnd behind (opened (codes "{#") text behind is past) none

pub statement_open : (text behind : List ℕ) → begins (codes "{%") text ≡ true → behind ≡ drop 2 text → NoneIn closes_statement behind [] → IsUnclosed text
statement_open text behind is past none = NoStatementEnd behind (opened (codes "{%") text behind is past) none

-- copied text
pub copied_part : (text front rest : List ℕ) → opens text ≡ false → CutAtFirst opens text front rest → IsPart (Copied front) rest
copied_part text [] rest plain cut = absurd (both_ways (opens rest) (subst (λ t. opens t ≡ false) cut.whole plain) cut.here)
copied_part text (byte ∷ front) rest plain cut = (λ e. cc, cut.none, inr cut.here)

-- no mark opens a part
pub plain_text : (text bytes : List ℕ) → bytes ≡ text → begins (codes "{{") bytes ≡ false → begins (codes "{#") bytes ≡ false → begins (codes "{%") bytes ≡ false → opens text ≡ false
unfolding opens
plain_text text bytes same value comment statement = rw (← same) (or_from _ _ (or_from _ _ value comment) statement)
