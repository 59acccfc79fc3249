-- Numbers in lists, and bytes of blocks.
use Rattle.std.proofs.Common.{◌≡◌, inl, inr, ℕ, zero, suc, ◌+◌, ◌-◌, ◌<◌, ◌≤◌, ◌==◌, Bool, true, false, cond, List, [], ◌∷◌, ◌++◌, take, drop, refl, ap, ◌∙◌, sym, subst, arith}
use Rattle.std.specs.Prelude.{Contains, slice_get}
use Rattle.std.proofs.lemmas.Bool.{cases_eq, false≢true}
use Rattle.std.proofs.lemmas.Bool.Decides.{nat_tests}
use Rattle.node_tree.proofs.Order.{in_tail, to_tail, at_head, no_member}
use Rattle.pf_io.specs.SplicingProofs.{get_take, get_drop}
use Rattle.pf_session.specs.Copying.{is_in, clean_from}

-- a number alone in a list
pub alone_is : (x k : ℕ) → Contains (x ∷ []) k → k ≡ x
alone_is x k there = elim (in_tail x [] k there) [ inl is ↦ is | inr none ↦ absurd (no_member k none) ]

-- a byte of a piece that two lists share
pub byte_of_piece : (xs ys : List ℕ) (at i : ℕ) → take 4096 (drop at xs) ≡ take 4096 (drop at ys) → at ≤ i → i < at + 4096 → slice_get xs i ≡ slice_get ys i
byte_of_piece xs ys at i same low high =
    let place : at + (i - at) ≡ i = omega arith in
    let one = λ (l : List ℕ). get_take 4096 (drop at l) (i - at) (omega arith) ∙ get_drop at l (i - at) ∙ ap (λ (j : ℕ). slice_get l j) place in
    sym (one xs) ∙ ap (λ (l : List ℕ). slice_get l (i - at)) same ∙ one ys

-- what is in a list, by a test
pub is_in_there : (dirty : List ℕ) (k : ℕ) → is_in dirty k ≡ true → Contains dirty k
is_in_there [] k is = absurd (cc)
is_in_there (d ∷ dirty) k is = elim (cases_eq d k) [
  | inl same ↦ subst (λ (n : ℕ). Contains (d ∷ dirty) n) same (at_head d dirty)
  | inr other ↦ to_tail d dirty k (is_in_there dirty k (sym (not_first d dirty k other) ∙ is))
] where
  not_first : (d : ℕ) (dirty : List ℕ) (k : ℕ) → (d ≡ k → ⊥) → is_in (d ∷ dirty) k ≡ is_in dirty k
  not_first d dirty k other = grind (arith, nat_tests)

pub clean_split : (dirty : List ℕ) (k n : ℕ) → clean_from dirty k (suc n) ≡ clean_from dirty k 1 ++ clean_from dirty (k + 1) n
clean_split dirty k n = by_test (is_in dirty k) where
  by_test : (b : Bool) → cond b (clean_from dirty (k + 1) n) (k ∷ clean_from dirty (k + 1) n) ≡ cond b [] (k ∷ []) ++ clean_from dirty (k + 1) n
  by_test true = refl
  by_test false = refl

-- the only one is that number
pub clean_one : (dirty : List ℕ) (k j : ℕ) → Contains (clean_from dirty k 1) j → j ≡ k
clean_one dirty k j = by_test (is_in dirty k) where
  by_test : (b : Bool) → Contains (cond b [] (k ∷ [])) j → j ≡ k
  by_test true there = absurd (no_member j there)
  by_test false there = alone_is k j there

pub there_is_in : (dirty : List ℕ) (k : ℕ) → Contains dirty k → is_in dirty k ≡ true
there_is_in [] k there = absurd (no_member k there)
there_is_in (d ∷ dirty) k there = elim (in_tail d dirty k there) [
  | inl is ↦ first d dirty k is
  | inr further ↦ later (d == k) (is_in dirty k) (there_is_in dirty k further)
] where
  first : (d : ℕ) (dirty : List ℕ) (k : ℕ) → k ≡ d → is_in (d ∷ dirty) k ≡ true
  first d dirty k is = grind (arith, nat_tests)

  later : (a b : Bool) → b ≡ true → cond a true b ≡ true
  later true b is = refl
  later false b is = is

pub clean_none : (dirty : List ℕ) (k : ℕ) → Contains dirty k → clean_from dirty k 1 ≡ []
clean_none dirty k there = ap (λ (b : Bool). cond b [] (k ∷ [])) (there_is_in dirty k there)

pub not_is_in : (dirty : List ℕ) (k : ℕ) → ¬ (Contains dirty k) → is_in dirty k ≡ false
not_is_in dirty k out = by_test (is_in dirty k) refl where
  by_test : (b : Bool) → is_in dirty k ≡ b → b ≡ false
  by_test true is = absurd (out (is_in_there dirty k is))
  by_test false is = refl

pub clean_alone : (dirty : List ℕ) (k : ℕ) → ¬ (Contains dirty k) → clean_from dirty k 1 ≡ k ∷ []
clean_alone dirty k out = ap (λ (b : Bool). cond b [] (k ∷ [])) (not_is_in dirty k out)

-- the clean nodes are those that are not dirty
abbrev pub IsCleanIn : List ℕ → ℕ → ℕ → ℕ → Type 0
IsCleanIn dirty k n j = (k ≤ j) × (j < k + n) × ¬ (Contains dirty j)

member_more : (dirty : List ℕ) (k n j : ℕ) → (Contains (clean_from dirty (k + 1) n) j → IsCleanIn dirty (k + 1) n j) → Contains (clean_from dirty k (suc n)) j → IsCleanIn dirty k (suc n) j
member_more dirty k n j rest there = by_test (is_in dirty k) refl there where
  further : IsCleanIn dirty (k + 1) n j → IsCleanIn dirty k (suc n) j
  further m = (omega (arith, m.0), omega (arith, m.1), m.2)

  by_test : (b : Bool) → is_in dirty k ≡ b → Contains (cond b (clean_from dirty (k + 1) n) (k ∷ clean_from dirty (k + 1) n)) j → IsCleanIn dirty k (suc n) j
  by_test true is more = further (rest more)
  by_test false is either = elim (in_tail k (clean_from dirty (k + 1) n) j either) [
    | inl same ↦ (omega (arith, same), omega (arith, same), λ dirt. false≢true (sym is ∙ there_is_in dirty k (subst (λ (i : ℕ). Contains dirty i) same dirt)))
    | inr more ↦ further (rest more)
  ]

pub clean_member : (dirty : List ℕ) (k n j : ℕ) → Contains (clean_from dirty k n) j → IsCleanIn dirty k n j
clean_member dirty k zero j there = absurd (no_member j there)
clean_member dirty k (suc n) j there = member_more dirty k n j (clean_member dirty (k + 1) n j) there

there_more : (dirty : List ℕ) (k n j : ℕ) → (IsCleanIn dirty (k + 1) n j → Contains (clean_from dirty (k + 1) n) j) → IsCleanIn dirty k (suc n) j → Contains (clean_from dirty k (suc n)) j
there_more dirty k n j rest is_clean = by_test (is_in dirty k) refl where
  later : (k ≡ j → ⊥) → Contains (clean_from dirty (k + 1) n) j
  later other = let low = is_clean.0 in let high = is_clean.1 in rest (omega arith, omega arith, is_clean.2)

  by_test : (b : Bool) → is_in dirty k ≡ b → Contains (cond b (clean_from dirty (k + 1) n) (k ∷ clean_from dirty (k + 1) n)) j
  by_test true is = later (λ same. is_clean.2 (subst (λ (i : ℕ). Contains dirty i) same (is_in_there dirty k is)))
  by_test false is = elim (cases_eq k j) [
    | inl same ↦ subst (λ (i : ℕ). Contains (k ∷ clean_from dirty (k + 1) n) i) same (at_head k (clean_from dirty (k + 1) n))
    | inr other ↦ to_tail k (clean_from dirty (k + 1) n) j (later other)
  ]

pub clean_there : (dirty : List ℕ) (k n j : ℕ) → IsCleanIn dirty k n j → Contains (clean_from dirty k n) j
clean_there dirty k zero j is_clean = absurd (let low = is_clean.0 in let high = is_clean.1 in omega arith)
clean_there dirty k (suc n) j is_clean = there_more dirty k n j (clean_there dirty (k + 1) n j) is_clean
