-- Sums of shifts in parts: four bits at a time, and the lowest bits alone.
use Rattle.std.proofs.Common.{◌≡◌, ℕ, zero, suc, ◌+◌, ◌-◌, ◌/◌, ◌%◌, ◌^◌, ◌<◌, ◌==◌, refl, ap, ap₂, ◌∙◌, sym, arith, List, [], ◌∷◌, bit_xor, bit_and, min, slice_index_or}
use Rattle.std.specs.Prelude.{if◌then◌else◌}
use Rattle.std.specs.Int.{bit_at}
use Rattle.std.specs.Int.Bits.{xor_zero_r, xor_assoc}
use Rattle.std.proofs.Math.Nat.{div-div-eq-div-mul}
use Rattle.std.proofs.lemmas.Nat.{pow-add}
use Rattle.std.proofs.lemmas.Nat.Bits.{bit_at_and, bit_at-lt, bit_at_ones}
use Rattle.aes_gcm.specs.Ghash.{times_x, part, sum_of_shifts}
use Rattle.aes_gcm.specs.Multiples.{shifted, IsRow}

bit_div : (a s j : ℕ) → bit_at (a / 2 ^ s) j ≡ bit_at a (s + j)
bit_div a s j = ap (λ v. v % 2) (div-div-eq-div-mul a (2 ^ s) (2 ^ j) ∙ ap (λ d. a / d) (sym (pow-add 2 s j)))

shifted-times_x : (i v : ℕ) → shifted i (times_x v) ≡ times_x (shifted i v)
unfolding shifted
shifted-times_x zero v = refl
shifted-times_x (suc i) v = ap times_x (shifted-times_x i v)

pub shifted-shifted : (i j k v : ℕ) → i + j ≡ k → shifted i (shifted j v) ≡ shifted k v
unfolding shifted
shifted-shifted zero j k v e = let same : j ≡ k = omega arith in ap (λ i. shifted i v) same
shifted-shifted (suc i) j zero v e = absurd (omega arith)
shifted-shifted (suc i) j (suc k) v e = ap times_x (shifted-shifted i j k v (omega arith))

-- the highest j of j + k bits, and the others
pub sum-split : (j k m a v : ℕ) → j + k ≡ m → sum_of_shifts m a v ≡ bit_xor (sum_of_shifts j (a / 2 ^ k) v) (sum_of_shifts k a (shifted j v))
unfolding sum_of_shifts shifted
sum-split zero k m a v e = let same : m ≡ k = omega arith in ap (λ i. sum_of_shifts i a v) same
sum-split (suc j) k zero a v e = absurd (omega arith)
sum-split (suc j) k (suc m) a v e =
    let place : k + j ≡ m = omega arith in
    let top : part (a / 2 ^ k) j v ≡ part a m v = ap (λ c. if c == 1 then v else 0) (bit_div a k j ∙ ap (bit_at a) place) in
    ap₂ bit_xor (sym top) (sum-split j k m a (times_x v) (omega arith) ∙ ap (λ w. bit_xor (sum_of_shifts j (a / 2 ^ k) (times_x v)) (sum_of_shifts k a w)) (shifted-times_x j v))
    ∙ sym (xor_assoc (part (a / 2 ^ k) j v) (sum_of_shifts j (a / 2 ^ k) (times_x v)) (sum_of_shifts k a (times_x (shifted j v))))

pub sum-low : (k a b v : ℕ) → ((i : ℕ) → i < k → bit_at a i ≡ bit_at b i) → sum_of_shifts k a v ≡ sum_of_shifts k b v
unfolding sum_of_shifts
sum-low zero a b v same = refl
sum-low (suc k) a b v same =
    ap₂ (λ c s. bit_xor (if c == 1 then v else 0) s) (same k (omega arith)) (sum-low k a b (times_x v) (λ i h. same i (omega arith)))

pub sum-mask : (k a v : ℕ) → sum_of_shifts k (bit_and a (2 ^ k - 1)) v ≡ sum_of_shifts k a v
sum-mask k a v =
    let at_most_one : (b : ℕ) → b < 2 → min b 1 ≡ b = λ b h. omega arith in
    sum-low k (bit_and a (2 ^ k - 1)) a v
    (λ i h. bit_at_and a (2 ^ k - 1) i ∙ ap (min (bit_at a i)) (bit_at_ones k i h) ∙ at_most_one (bit_at a i) (bit_at-lt a i))

-- four more bits
pub sum-next_four : (sum entry m r a v : ℕ) → 4 + r ≡ m → entry ≡ sum_of_shifts 4 (bit_and (a / 2 ^ r) 15) v
    → bit_xor (bit_xor sum entry) (sum_of_shifts r a (shifted 4 v)) ≡ bit_xor sum (sum_of_shifts m a v)
sum-next_four sum entry m r a v e is =
    xor_assoc sum entry (sum_of_shifts r a (shifted 4 v))
    ∙ ap (bit_xor sum) (ap (λ t. bit_xor t (sum_of_shifts r a (shifted 4 v))) (is ∙ sum-mask 4 (a / 2 ^ r) v) ∙ sym (sum-split 4 r m a v e))

abbrev four_sums : ℕ → ℕ → ℕ → ℕ → List ℕ
four_sums a b c d =
    0 ∷ d ∷ c ∷ bit_xor c d ∷ b ∷ bit_xor b d ∷ bit_xor b c ∷ bit_xor b (bit_xor c d)
    ∷ a ∷ bit_xor a d ∷ bit_xor a c ∷ bit_xor a (bit_xor c d) ∷ bit_xor a b ∷ bit_xor (bit_xor a b) d ∷ bit_xor (bit_xor a b) c ∷ bit_xor (bit_xor a b) (bit_xor c d) ∷ []

abbrev picked : ℕ → ℕ → ℕ → ℕ → ℕ → ℕ
picked n a b c d = bit_xor (part n 3 a) (bit_xor (part n 2 b) (bit_xor (part n 1 c) (bit_xor (part n 0 d) 0)))

four_sums_is : (a b c d n : ℕ) → n < 16 → slice_index_or (four_sums a b c d) n 0 ≡ picked n a b c d
four_sums_is a b c d zero h = simp xor_zero_r refl
four_sums_is a b c d (suc zero) h = simp xor_zero_r refl
four_sums_is a b c d (suc (suc zero)) h = simp xor_zero_r refl
four_sums_is a b c d (suc (suc (suc zero))) h = simp xor_zero_r refl
four_sums_is a b c d (suc (suc (suc (suc zero)))) h = simp xor_zero_r refl
four_sums_is a b c d (suc (suc (suc (suc (suc zero))))) h = simp xor_zero_r refl
four_sums_is a b c d (suc (suc (suc (suc (suc (suc zero)))))) h = simp xor_zero_r refl
four_sums_is a b c d (suc (suc (suc (suc (suc (suc (suc zero))))))) h = simp xor_zero_r refl
four_sums_is a b c d (suc (suc (suc (suc (suc (suc (suc (suc zero)))))))) h = simp xor_zero_r refl
four_sums_is a b c d (suc (suc (suc (suc (suc (suc (suc (suc (suc zero))))))))) h = simp xor_zero_r refl
four_sums_is a b c d (suc (suc (suc (suc (suc (suc (suc (suc (suc (suc zero)))))))))) h = simp xor_zero_r refl
four_sums_is a b c d (suc (suc (suc (suc (suc (suc (suc (suc (suc (suc (suc zero))))))))))) h = simp xor_zero_r refl
four_sums_is a b c d (suc (suc (suc (suc (suc (suc (suc (suc (suc (suc (suc (suc zero)))))))))))) h = simp xor_zero_r refl
four_sums_is a b c d (suc (suc (suc (suc (suc (suc (suc (suc (suc (suc (suc (suc (suc zero))))))))))))) h = simp (xor_zero_r, xor_assoc) refl
four_sums_is a b c d (suc (suc (suc (suc (suc (suc (suc (suc (suc (suc (suc (suc (suc (suc zero)))))))))))))) h = simp (xor_zero_r, xor_assoc) refl
four_sums_is a b c d (suc (suc (suc (suc (suc (suc (suc (suc (suc (suc (suc (suc (suc (suc (suc zero))))))))))))))) h = simp (xor_zero_r, xor_assoc) refl
four_sums_is a b c d (suc (suc (suc (suc (suc (suc (suc (suc (suc (suc (suc (suc (suc (suc (suc (suc n)))))))))))))))) h = absurd (omega arith)

pub row_is : (a b c d : ℕ) → b ≡ times_x a → c ≡ times_x b → d ≡ times_x c → IsRow (four_sums a b c d) a
unfolding sum_of_shifts
row_is a b c d eb ec ed n h =
    let ec2 : c ≡ times_x (times_x a) = ec ∙ ap times_x eb in
    let ed2 : d ≡ times_x (times_x (times_x a)) = ed ∙ ap times_x ec2 in
    four_sums_is a b c d n h
    ∙ ap (λ b. picked n a b c d) eb ∙ ap (λ c. picked n a (times_x a) c d) ec2 ∙ ap (λ d. picked n a (times_x a) (times_x (times_x a)) d) ed2
