-- Lists that are joined, and numbers that follow each other.
use Rattle.std.proofs.Common.{◌≡◌, ℕ, zero, suc, ◌+◌, ◌-◌, ◌<◌, ◌≤◌, List, [], ◌∷◌, ◌++◌, length, take, drop, Contains, ap, ◌∙◌, arith, inl, inr, subst}
use Rattle.std.proofs.Math.Nat.{eq-or-lt_of_le}
use Rattle.std.specs.List.{range_with_len}
use Rattle.lru.proofs.Splits.{Contains-head, Contains-tail, Contains-cons, Contains-nil}

pub take_join : {X : Type 0} (k : ℕ) (xs ys : List X) → take k (xs ++ ys) ≡ take k xs ++ take (k - length xs) ys
take_join zero xs ys = let e : zero ≡ zero - length xs = omega arith in ap (λ (j : ℕ). take j ys) e
take_join (suc k) [] ys = let e : suc k ≡ suc k - 0 = omega arith in ap (λ (j : ℕ). take j ys) e
take_join (suc k) (x ∷ xs) ys = ap (λ (l : List _). x ∷ l) (take_join k xs ys ∙ ap (λ (j : ℕ). take k xs ++ take j ys) (omega arith))

pub drop_join : {X : Type 0} (k : ℕ) (xs ys : List X) → drop k (xs ++ ys) ≡ drop k xs ++ drop (k - length xs) ys
drop_join zero xs ys = let e : zero ≡ zero - length xs = omega arith in ap (λ (j : ℕ). xs ++ drop j ys) e
drop_join (suc k) [] ys = let e : suc k ≡ suc k - 0 = omega arith in ap (λ (j : ℕ). drop j ys) e
drop_join (suc k) (x ∷ xs) ys = drop_join k xs ys ∙ ap (λ (j : ℕ). drop k xs ++ drop j ys) (omega arith)

-- one number more
pub range_more : (a n : ℕ) → range_with_len a (n + 1) ≡ range_with_len a n ++ (a + n) ∷ []
range_more a zero = let e : a ≡ a + 0 = omega arith in ap (λ (j : ℕ). j ∷ []) e
range_more a (suc n) =
    let one : suc n + 1 ≡ suc (n + 1) = omega arith in
    let last : a + 1 + n ≡ a + suc n = omega arith in
    ap (λ (k : ℕ). range_with_len a k) one ∙ ap (λ (l : List ℕ). a ∷ l) (range_more (a + 1) n ∙ ap (λ (j : ℕ). range_with_len (a + 1) n ++ j ∷ []) last)

-- which numbers there are
pub range_has : (a n c : ℕ) → a ≤ c → c < a + n → Contains (range_with_len a n) c
range_has a zero c le lt = absurd (omega arith)
range_has a (suc n) c le lt = elim (eq-or-lt_of_le le) [
  | inl same ↦ subst (Contains (range_with_len a (suc n))) same (Contains-head a (range_with_len (a + 1) n))
  | inr more ↦ Contains-tail a (range_with_len (a + 1) n) c (range_has (a + 1) n c (omega (arith, more)) (omega arith))
]

pub range_low : (a n c : ℕ) → Contains (range_with_len a n) c → a ≤ c
range_low a zero c has = absurd (Contains-nil c has)
range_low a (suc n) c has = elim (Contains-cons a (range_with_len (a + 1) n) c has) [
  | inl same ↦ omega (arith, same)
  | inr more ↦ let low = range_low (a + 1) n c more in omega (arith, low)
]

pub range_high : (a n c : ℕ) → Contains (range_with_len a n) c → c < a + n
range_high a zero c has = absurd (Contains-nil c has)
range_high a (suc n) c has = elim (Contains-cons a (range_with_len (a + 1) n) c has) [
  | inl same ↦ omega (arith, same)
  | inr more ↦ let high = range_high (a + 1) n c more in omega (arith, high)
]
