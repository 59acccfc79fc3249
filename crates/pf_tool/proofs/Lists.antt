-- Lists of a known length, and names with an ending.
use Rattle.std.proofs.Common.{◌≡◌, ◌≢◌, ◌↔◌, ◌∙◌, ◌<◌, ◌≤◌, ℕ, List, [], ◌∷◌, ◌++◌, length, take, drop, ◌-◌, slice_index_or, Bool, true, false, IsTrue, MatchBool, not, nat_eq, eqb-true, eq-eqb, ap, sym, refl, subst, inl, inr, arith}
use Rattle.std.proofs.lemmas.Bool.{cases_Bool}
use Rattle.pf_tool.specs.Requests.{IsOperand}
use Rattle.std.proofs.lemmas.List.{append_cancel_left, take_all}

-- a list of at least one
pub one_more : {A : Type 0} → (xs : List A) (a : A) → 1 ≤ length xs → a ≡ slice_index_or xs 0 a → xs ≡ a ∷ take (length xs - 1) (drop 1 xs)
one_more [] a least p = absurd (omega arith)
one_more (v ∷ xs) a least p =
    let n : length xs ≤ length (v ∷ xs) - 1 = omega arith in
    ap (λ c. c ∷ xs) (sym p) ∙ ap (λ l. a ∷ l) (sym (take_all (length (v ∷ xs) - 1) xs n))

-- the items of a list of two
pub two : {A : Type 0} → (xs : List A) (a b : A) → 2 ≤ length xs → length xs < 3 → a ≡ slice_index_or xs 0 a → b ≡ slice_index_or xs 1 b → xs ≡ a ∷ b ∷ []
two [] a b least most p q = absurd (omega arith)
two (v ∷ []) a b least most p q = absurd (omega arith)
two (v ∷ w ∷ []) a b least most p q = cc
two (v ∷ w ∷ x ∷ more) a b least most p q = absurd (omega arith)

-- the items of a list of four
pub four : {A : Type 0} → (xs : List A) (a b c d : A) → 4 ≤ length xs → length xs < 5 → a ≡ slice_index_or xs 0 a → b ≡ slice_index_or xs 1 b → c ≡ slice_index_or xs 2 c → d ≡ slice_index_or xs 3 d → xs ≡ a ∷ b ∷ c ∷ d ∷ []
four [] a b c d least most p q r s = absurd (omega arith)
four (v ∷ []) a b c d least most p q r s = absurd (omega arith)
four (v ∷ w ∷ []) a b c d least most p q r s = absurd (omega arith)
four (v ∷ w ∷ x ∷ []) a b c d least most p q r s = absurd (omega arith)
four (v ∷ w ∷ x ∷ y ∷ []) a b c d least most p q r s = cc
four (v ∷ w ∷ x ∷ y ∷ z ∷ more) a b c d least most p q r s = absurd (omega arith)

pub never_true : ¬ (IsTrue false)
never_true is = absurd (cc)

-- a name has the ending exactly where what follows the other name is it
pub told_beside : (name other rest ending : List ℕ) (r : Bool) → name ≡ other ++ rest → MatchBool r (rest ≡ ending) (rest ≢ ending) → IsTrue r ↔ (name ≡ other ++ ending)
told_beside name other rest ending true is told = (λ yes. is ∙ ap (λ (l : List ℕ). other ++ l) told, λ same. refl)
told_beside name other rest ending false is told = (λ yes. absurd (never_true yes), λ same. absurd (told (append_cancel_left other rest ending (sym is ∙ same))))

pub not_beside : (name other ending : List ℕ) → ((rest : List ℕ) → name ≢ other ++ rest) → IsTrue false ↔ (name ≡ other ++ ending)
not_beside name other ending never = (λ yes. absurd (never_true yes), λ same. absurd (never ending same))

-- a word of at least two bytes is an operand where its first one is no `-`
pub operand_told : (bytes word : List ℕ) → bytes ≡ word → 2 ≤ length word → IsTrue (not (nat_eq (slice_index_or bytes 0 0) 45)) ↔ IsOperand word
operand_told bytes [] same least = absurd (omega arith)
operand_told bytes (a ∷ []) same least = absurd (omega arith)
operand_told bytes (a ∷ b ∷ rest) same least =
    let first : slice_index_or bytes 0 0 ≡ a = ap (λ (l : List ℕ). slice_index_or l 0 0) same in (
      λ other c more is.
          let dash : nat_eq (slice_index_or bytes 0 0) 45 ≡ true = eq-eqb (slice_index_or bytes 0 0) 45 (first ∙ the_first a b rest c more is) in
          never_true (subst (λ (t : Bool). IsTrue (not t)) dash other),
      λ operand.
          elim (cases_Bool (nat_eq (slice_index_or bytes 0 0) 45)) [
            | inl is ↦ absurd (operand b rest (ap (λ (n : ℕ). n ∷ b ∷ rest) (sym first ∙ eqb-true (slice_index_or bytes 0 0) 45 is)))
            | inr other ↦ subst (λ (t : Bool). IsTrue (not t)) (sym other) refl
          ],
    )
  where
    the_first : (a b : ℕ) (rest : List ℕ) (c : ℕ) (more : List ℕ) → a ∷ b ∷ rest ≡ 45 ∷ c ∷ more → a ≡ 45
    the_first a b rest c more is = cc
