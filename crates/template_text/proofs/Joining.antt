-- A name cut at its points.
use Rattle.std.proofs.Common.{◌≡◌, ◌≢◌, ◌∙◌, ℕ, Bool, true, false, ◌&&◌, ◌||◌, ◌-◌, length, take, drop, arith, cond, eqb, List, [], ◌∷◌, ◌++◌, refl, sym, ap, subst, ◌↔◌, inl, inr, codes}
use Rattle.std.proofs.lemmas.Bool.{false≢true, and_parts, and_from, or_cases, or_left, or_right, ne_eqb}
use Rattle.std.proofs.lemmas.Bool.Decides.{Decides-eqb}
use Rattle.std.proofs.lemmas.Slice.Eq.{ends_is}
use Rattle.std.specs.Cmp.Lexicographic.{pointwise}
use Rattle.std.proofs.lemmas.List.Splits.{join_with_byte-slice_split}
use Rattle.std.proofs.lemmas.List.{append_cancel_right, length-append, take_at}
use Rattle.std.specs.List.{list_all, join_with_byte, slice_split, onto_first}
use Rattle.template_text.specs.Names.{is_first, is_further, is_name_part, IsJoined, IsValueName}

abbrev pub parts_of : List ℕ → List (List ℕ)
parts_of = slice_split (λ byte. eqb byte 46)

onto-some : (byte : ℕ) (parts : List (List ℕ)) → onto_first byte parts ≢ []
onto-some byte [] = λ e. cc
onto-some byte (part ∷ parts) = λ e. cc

cond-some : (b : Bool) (xs ys : List (List ℕ)) → xs ≢ [] → ys ≢ [] → cond b xs ys ≢ []
cond-some true xs ys some others = some
cond-some false xs ys some others = others

parts-some : (name : List ℕ) → parts_of name ≢ []
parts-some [] = λ e. cc
parts-some (byte ∷ name) = cond-some (eqb byte 46) ([] ∷ parts_of name) (onto_first byte (parts_of name)) (λ e. cc) (onto-some byte (parts_of name))

pub joined_of_parts : (name : List ℕ) → list_all is_name_part (parts_of name) ≡ true → IsJoined name
joined_of_parts name each = record { parts = parts_of name; some = parts-some name; each = each; joined = sym (join_with_byte-slice_split 46 name) }

no_point : (byte : ℕ) → is_further byte ≡ true → eqb byte 46 ≡ false
no_point byte further = ne_eqb byte 46 (λ e. let point : is_further 46 ≡ true = subst (λ b. is_further b ≡ true) e further in false≢true point)

-- a part ends at the point behind it
cut_behind : (part rest : List ℕ) → list_all is_further part ≡ true → parts_of (part ++ 46 ∷ rest) ≡ part ∷ parts_of rest
cut_behind [] rest each = refl
cut_behind (byte ∷ part) rest each =
    let both = and_parts (is_further byte) (list_all is_further part) each in
    rw (no_point byte both.0) (ap (onto_first byte) (cut_behind part rest both.1))

-- and the last one at the end
cut_none : (part : List ℕ) → list_all is_further part ≡ true → parts_of part ≡ part ∷ []
cut_none [] each = refl
cut_none (byte ∷ part) each =
    let both = and_parts (is_further byte) (list_all is_further part) each in
    rw (no_point byte both.0) (ap (onto_first byte) (cut_none part both.1))

all_further : (part : List ℕ) → is_name_part part ≡ true → list_all is_further part ≡ true
all_further [] is = refl
all_further (first ∷ others) is =
    let both = and_parts (is_first first) (list_all is_further others) is in
    rw (or_left (is_first first) _ both.0) both.1

parts_of_joined : (parts : List (List ℕ)) → parts ≢ [] → list_all is_name_part parts ≡ true → parts_of (join_with_byte 46 parts) ≡ parts
parts_of_joined [] some each = absurd (some refl)
parts_of_joined (part ∷ []) some each = cut_none part (all_further part (and_parts (is_name_part part) true each).0)
parts_of_joined (part ∷ next ∷ parts) some each =
    let both = and_parts (is_name_part part) (list_all is_name_part (next ∷ parts)) each in
    cut_behind part (join_with_byte 46 (next ∷ parts)) (all_further part both.0) ∙ ap (λ ps. part ∷ ps) (parts_of_joined (next ∷ parts) (λ e. cc) both.1)

pub parts_of_name : (name : List ℕ) → IsJoined name → list_all is_name_part (parts_of name) ≡ true
parts_of_name name is = rw (is.joined, parts_of_joined is.parts is.some is.each) is.each

-- a name that ends in `()`, and is not joined of parts as a whole
pub named : (name front : List ℕ) → name ≡ front ++ codes "()" → (IsJoined name → ⊥) → (r : Bool) → ((r ≡ true) ↔ IsJoined front) → (r ≡ true) ↔ IsValueName name
named name front whole plain r is = (
  λ so. inr (front, is.0 so, whole),
  λ n. elim n [
    | inl joined ↦ absurd (plain joined)
    | inr call ↦ is.1 (subst IsJoined (append_cancel_right call.0 front (codes "()") (sym call.2 ∙ whole)) call.1)
  ],
)

-- a test for names
unfoldable pub name_test : List ℕ → Bool
name_test name = list_all is_name_part (parts_of name) || (pointwise eqb (codes "()") (drop (length name - 2) name) && list_all is_name_part (parts_of (take (length name - 2) name)))

ends_in_call : (name : List ℕ) → (pointwise eqb (codes "()") (drop (length name - 2) name) ≡ true → name ≡ take (length name - 2) name ++ codes "()") × ((front : List ℕ) → name ≡ front ++ codes "()" → pointwise eqb (codes "()") (drop (length name - 2) name) ≡ true)
ends_in_call name = ends_is Decides-eqb name (codes "()") _ refl

pub name_of_test : (name : List ℕ) → name_test name ≡ true → IsValueName name
unfolding name_test
name_of_test name is = elim (or_cases _ _ is) [
  | inl joined ↦ inl (joined_of_parts name joined)
  | inr call ↦ let both = and_parts _ _ call in inr (take (length name - 2) name, joined_of_parts _ both.1, (ends_in_call name).0 both.0)
]

pub test_of_name : (name : List ℕ) → IsValueName name → name_test name ≡ true
unfolding name_test
test_of_name name (inl joined) = or_left _ _ (parts_of_name name joined)
test_of_name name (inr call) =
    let count : length call.0 ≡ length name - 2 = omega (arith, ap length call.2, length-append call.0 (codes "()")) in
    let front : take (length name - 2) name ≡ call.0 = ap (take (length name - 2)) call.2 ∙ take_at call.0 (codes "()") (length name - 2) count in
    or_right _ _ (and_from _ _ ((ends_in_call name).1 call.0 call.2) (rw front (parts_of_name call.0 call.1)))
