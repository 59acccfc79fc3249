-- Shuffles of a table of 16 bytes by masked bytes.
use Rattle.std.proofs.Common.{◌≡◌, ℕ, zero, suc, ◌+◌, ◌*◌, ◌/◌, ◌<◌, ◌≤◌, Bool, true, ◌&&◌, ◌||◌, refl, ap, List, [], ◌∷◌, length, map, bit_and, T, subst, sym, inl, inr, arith, w8}
use Rattle.std.proofs.lemmas.Bool.{cases_lt}
use Rattle.std.proofs.lemmas.Nat.{and_le_r, and_assoc}
use Rattle.std.proofs.lemmas.Simd.{SwzOk, SwzOk-from_Each1, swz_l}
use lib.Lanes.{zip2, Each1}
use lib.Dec.{ltb}
use lib.Ieee.Fits.{and_l, and_r}
use mir.Val.{zeroes}
use Rattle.aes_gcm.specs.Tower.{entry}

abbrev all_below : (ℕ → Bool) → ℕ → Bool
all_below test zero = true
all_below test (suc n) = test n && all_below test n

each_below : (test : ℕ → Bool) (n k : ℕ) → T (all_below test n) → k < n → T (test k)
each_below test zero k h l = absurd (omega arith)
each_below test (suc n) k h l =
    elim (cases_lt k n) [ inl a ↦ each_below test n k (and_r (test n) _ h) a | inr a ↦ let e : n ≡ k = omega arith in subst (λ x. T (test x)) e (and_l _ _ h) ]

abbrev is_index : ℕ → Bool
is_index j = zeroes 16 w8 j || ltb j 16

index_masked : (x : ℕ) → T (is_index (bit_and x 143))
index_masked x =
    let e : bit_and (bit_and x 143) 143 ≡ bit_and x 143 = and_assoc 143 x 143 in
    let le : bit_and x 143 ≤ 143 = and_le_r x 143 in
    subst (λ u. T (is_index u)) e (each_below (λ v. is_index (bit_and v 143)) 144 (bit_and x 143) tt (omega arith))

masked_are_indices : (xs ms : List ℕ) → Each1 (λ m. m ≡ 143) ms → Each1 (λ j. T (is_index j)) (zip2 bit_and xs ms)
masked_are_indices [] ms h = tt
masked_are_indices (x ∷ xs) [] h = tt
masked_are_indices (x ∷ xs) (m ∷ ms) h = (subst (λ k. T (is_index (bit_and x k))) (sym h.0) (index_masked x), masked_are_indices xs ms h.1)

length_masked : (xs ms : List ℕ) → length (zip2 bit_and xs ms) ≤ length ms
length_masked [] ms = omega arith
length_masked (x ∷ xs) [] = omega arith
length_masked (x ∷ xs) (m ∷ ms) = let h : length (zip2 bit_and xs ms) ≤ length ms = length_masked xs ms in omega arith

abbrev pub masks : List ℕ
masks = 143 ∷ 143 ∷ 143 ∷ 143 ∷ 143 ∷ 143 ∷ 143 ∷ 143 ∷ 143 ∷ 143 ∷ 143 ∷ 143 ∷ 143 ∷ 143 ∷ 143 ∷ 143 ∷ []

pub masks_same : Each1 (λ m. m ≡ 143) masks
masks_same = (refl, (refl, (refl, (refl, (refl, (refl, (refl, (refl, (refl, (refl, (refl, (refl, (refl, (refl, (refl, (refl, tt))))))))))))))))

pub masked_ok : (xs : List ℕ) → SwzOk w8 16 16 0 (zip2 bit_and xs masks)
masked_ok xs =
    let h : length (zip2 bit_and xs masks) ≤ 16 = length_masked xs masks in
    SwzOk-from_Each1 w8 16 1 16 0 (zip2 bit_and xs masks) refl (omega arith) (masked_are_indices xs masks masks_same)

-- a shuffle by masked bytes reads the table at each
pub swizzled : (t : List ℕ) (i : ℕ) (xs ms : List ℕ) → Each1 (λ m. m ≡ 143) ms → length xs ≡ length ms → i + length xs ≤ 16
    → swz_l w8 16 t i (zip2 bit_and xs ms) ≡ map (entry t) xs
swizzled t i [] ms h e le = refl
swizzled t i (x ∷ xs) [] h e le = absurd (omega arith)
swizzled t i (x ∷ xs) (m ∷ ms) h e le =
    let here : 16 * (i / 16) + bit_and x 143 ≡ bit_and x 143 = omega arith in
    let rest : swz_l w8 16 t (suc i) (zip2 bit_and xs ms) ≡ map (entry t) xs = swizzled t (suc i) xs ms h.1 (omega arith) (omega arith) in
    rw h.0 (rw here (ap (λ l. entry t x ∷ l) rest))
