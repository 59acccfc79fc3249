-- The product of blocks is linear in each of its arguments, commutes and associates.
use Rattle.std.proofs.Common.{◌≡◌, ℕ, zero, suc, ◌+◌, ◌*◌, ◌/◌, ◌%◌, ◌^◌, ◌<◌, ◌==◌, true, false, refl, ap, ap₂, ◌∙◌, sym, arith, bit_xor, List, [], ◌∷◌, length, fold, zero-mul, mul-one, mod-eq_of_lt, mod-lt}
use Rattle.std.specs.Prelude.{if◌then◌else◌}
use Rattle.std.specs.Int.{bit_at}
use Rattle.std.specs.Int.Bits.{xor_zero_l, xor_zero_r, xor_self, xor_assoc, xor_shr, xor_shifted}
use Rattle.std.proofs.lemmas.Nat.{xor_comm, xor_lt}
use Rattle.std.proofs.lemmas.Nat.Bits.{bit_at_lowest, bit_at_xor, bit_at-lt, bit_at-zero}
use Rattle.std.proofs.Math.Pow.{pow_pos}
use Rattle.aes_gcm.specs.Ghash.{times_x, part, sum_of_shifts, product, one, power, horner_step, ghash}
use Rattle.std.proofs.Math.Nat.{pow-succ'}
use Rattle.std.proofs.Math.Arith.{mod-mul}

pub xor_swap : (a b c d : ℕ) → bit_xor (bit_xor a b) (bit_xor c d) ≡ bit_xor (bit_xor a c) (bit_xor b d)
xor_swap a b c d =
    xor_assoc a b (bit_xor c d) ∙ ap (bit_xor a) (sym (xor_assoc b c d) ∙ ap (λ t. bit_xor t d) (xor_comm b c) ∙ xor_assoc c b d)
    ∙ sym (xor_assoc a c (bit_xor b d))

-- v where the bit c is 1
abbrev pub chosen : ℕ → ℕ → ℕ
chosen c v = if c == 1 then v else 0

chosen-xor : (c v w : ℕ) → chosen c (bit_xor v w) ≡ bit_xor (chosen c v) (chosen c w)
chosen-xor c v w =
    elim (c == 1) as (λ t. (if t then bit_xor v w else 0) ≡ bit_xor (if t then v else 0) (if t then w else 0)) [ true ↦ refl | false ↦ refl ]

pub chosen-sum : (c d v : ℕ) → c < 2 → d < 2 → chosen ((c + d) % 2) v ≡ bit_xor (chosen c v) (chosen d v)
chosen-sum zero zero v h k = refl
chosen-sum zero (suc zero) v h k = sym (xor_zero_l v)
chosen-sum (suc zero) zero v h k = sym (xor_zero_r v)
chosen-sum (suc zero) (suc zero) v h k = sym (xor_self v)
chosen-sum zero (suc (suc d)) v h k = absurd (omega arith)
chosen-sum (suc zero) (suc (suc d)) v h k = absurd (omega arith)
chosen-sum (suc (suc c)) d v h k = absurd (omega arith)

-- ---- times_x

pub times_x-xor : (v w : ℕ) → times_x (bit_xor v w) ≡ bit_xor (times_x v) (times_x w)
times_x-xor v w =
    let r : ℕ = 0xe100_0000_0000_0000_0000_0000_0000_0000 in
    let low : bit_xor v w % 2 ≡ (v % 2 + w % 2) % 2 = sym (bit_at_lowest (bit_xor v w)) ∙ bit_at_xor v w 0 ∙ ap₂ (λ c d. (c + d) % 2) (bit_at_lowest v) (bit_at_lowest w) in
    ap (λ t. bit_xor t (chosen (bit_xor v w % 2) r)) (xor_shr v w 1)
    ∙ ap (λ c. bit_xor (bit_xor (v / 2) (w / 2)) (chosen c r)) low
    ∙ ap (bit_xor (bit_xor (v / 2) (w / 2))) (chosen-sum (v % 2) (w % 2) r (omega arith) (omega arith))
    ∙ xor_swap (v / 2) (w / 2) (chosen (v % 2) r) (chosen (w % 2) r)

chosen-lt : (c v k : ℕ) → v < 2 ^ k → chosen c v < 2 ^ k
chosen-lt c v k h =
    elim (c == 1) as (λ t. (if t then v else 0) < 2 ^ k) [ true ↦ h | false ↦ pow_pos k ]

pub times_x-lt : (v : ℕ) → v < 2 ^ 128 → times_x v < 2 ^ 128
times_x-lt v h = xor_lt 128 (v / 2) (chosen (v % 2) 0xe100_0000_0000_0000_0000_0000_0000_0000) (omega arith) (chosen-lt (v % 2) 0xe100_0000_0000_0000_0000_0000_0000_0000 128 (omega arith))

-- ---- part

part-xor : (a b k v : ℕ) → part (bit_xor a b) k v ≡ bit_xor (part a k v) (part b k v)
part-xor a b k v = ap (λ c. chosen c v) (bit_at_xor a b k) ∙ chosen-sum (bit_at a k) (bit_at b k) v (bit_at-lt a k) (bit_at-lt b k)

part-xor_right : (a k v w : ℕ) → part a k (bit_xor v w) ≡ bit_xor (part a k v) (part a k w)
part-xor_right a k v w = chosen-xor (bit_at a k) v w

part-map : (f : ℕ → ℕ) → f 0 ≡ 0 → (a k v : ℕ) → part a k (f v) ≡ f (part a k v)
part-map f z a k v =
    elim (bit_at a k == 1) as (λ t. (if t then f v else 0) ≡ f (if t then v else 0)) [ true ↦ refl | false ↦ sym z ]

-- ---- sums of shifts

pub sum-xor : (k a b v : ℕ) → sum_of_shifts k (bit_xor a b) v ≡ bit_xor (sum_of_shifts k a v) (sum_of_shifts k b v)
unfolding sum_of_shifts
sum-xor zero a b v = refl
sum-xor (suc k) a b v =
    ap (λ t. bit_xor t (sum_of_shifts k (bit_xor a b) (times_x v))) (part-xor a b k v)
    ∙ ap (bit_xor (bit_xor (part a k v) (part b k v))) (sum-xor k a b (times_x v))
    ∙ xor_swap (part a k v) (part b k v) (sum_of_shifts k a (times_x v)) (sum_of_shifts k b (times_x v))

pub sum-xor_right : (k a v w : ℕ) → sum_of_shifts k a (bit_xor v w) ≡ bit_xor (sum_of_shifts k a v) (sum_of_shifts k a w)
unfolding sum_of_shifts
sum-xor_right zero a v w = refl
sum-xor_right (suc k) a v w =
    ap (λ t. bit_xor t (sum_of_shifts k a (times_x (bit_xor v w)))) (part-xor_right a k v w)
    ∙ ap (λ t. bit_xor (bit_xor (part a k v) (part a k w)) (sum_of_shifts k a t)) (times_x-xor v w)
    ∙ ap (bit_xor (bit_xor (part a k v) (part a k w))) (sum-xor_right k a (times_x v) (times_x w))
    ∙ xor_swap (part a k v) (part a k w) (sum_of_shifts k a (times_x v)) (sum_of_shifts k a (times_x w))

sum_of_none : (k v : ℕ) → sum_of_shifts k 0 v ≡ 0
unfolding sum_of_shifts
sum_of_none zero v = refl
sum_of_none (suc k) v =
    ap (λ c. bit_xor (chosen c v) (sum_of_shifts k 0 (times_x v))) (bit_at-zero k) ∙ xor_zero_l (sum_of_shifts k 0 (times_x v)) ∙ sum_of_none k (times_x v)

-- what is linear and commutes with times_x commutes with a sum of shifts
sum-map : (f : ℕ → ℕ) → ((v w : ℕ) → f (bit_xor v w) ≡ bit_xor (f v) (f w)) → ((v : ℕ) → f (times_x v) ≡ times_x (f v)) → f 0 ≡ 0
    → (k a v : ℕ) → sum_of_shifts k a (f v) ≡ f (sum_of_shifts k a v)
unfolding sum_of_shifts
sum-map f linear along z zero a v = sym z
sum-map f linear along z (suc k) a v =
    ap (λ t. bit_xor t (sum_of_shifts k a (times_x (f v)))) (part-map f z a k v)
    ∙ ap (λ t. bit_xor (f (part a k v)) (sum_of_shifts k a t)) (sym (along v))
    ∙ ap (bit_xor (f (part a k v))) (sum-map f linear along z k a (times_x v))
    ∙ sym (linear (part a k v) (sum_of_shifts k a (times_x v)))

pub sum-times_x : (k a v : ℕ) → sum_of_shifts k a (times_x v) ≡ times_x (sum_of_shifts k a v)
sum-times_x k a v = sum-map times_x times_x-xor (λ v. refl) refl k a v

sum-lt : (k a v : ℕ) → v < 2 ^ 128 → sum_of_shifts k a v < 2 ^ 128
unfolding sum_of_shifts
sum-lt zero a v h = omega arith
sum-lt (suc k) a v h = xor_lt 128 (part a k v) (sum_of_shifts k a (times_x v)) (chosen-lt (bit_at a k) v 128 h) (sum-lt k a (times_x v) (times_x-lt v h))

-- ---- products

pub product-xor : (a b h : ℕ) → product (bit_xor a b) h ≡ bit_xor (product a h) (product b h)
unfolding product
product-xor a b h = sum-xor 128 a b h

pub product-xor_right : (a v w : ℕ) → product a (bit_xor v w) ≡ bit_xor (product a v) (product a w)
unfolding product
product-xor_right a v w = sum-xor_right 128 a v w

pub product-times_x : (a v : ℕ) → product a (times_x v) ≡ times_x (product a v)
unfolding product
product-times_x a v = sum-times_x 128 a v

pub product-zero : (h : ℕ) → product 0 h ≡ 0
unfolding product
product-zero h = sum_of_none 128 h

product-zero_right : (a : ℕ) → product a 0 ≡ 0
product-zero_right a = sym (ap (product a) (xor_self 0)) ∙ product-xor_right a 0 0 ∙ xor_self (product a 0)

pub product-lt : (a h : ℕ) → h < 2 ^ 128 → product a h < 2 ^ 128
unfolding product
product-lt a h lt = sum-lt 128 a h lt

pub product-exchange : (a b v : ℕ) → product a (product b v) ≡ product b (product a v)
unfolding product
product-exchange a b v = sum-map (product b) (product-xor_right b) (product-times_x b) (product-zero_right b) 128 a v

-- ---- the block 1

chosen-mul : (c v : ℕ) → c < 2 → chosen c v ≡ c * v
chosen-mul zero v h = sym (zero-mul v)
chosen-mul (suc zero) v h = omega arith
chosen-mul (suc (suc c)) v h = absurd (omega arith)

times_x-pow : (k : ℕ) → times_x (2 ^ suc k) ≡ 2 ^ k
times_x-pow k =
    let double : 2 ^ suc k ≡ 2 * 2 ^ k = pow-succ' 2 k in
    let half : 2 ^ suc k / 2 ≡ 2 ^ k = omega arith in
    let even : 2 ^ suc k % 2 ≡ 0 = omega arith in
    ap₂ (λ a c. bit_xor a (chosen c 0xe100_0000_0000_0000_0000_0000_0000_0000)) half even ∙ xor_zero_r (2 ^ k)

-- from the block of bit k on, the sum is the number's lowest bits
sum-pow : (k b : ℕ) → sum_of_shifts (suc k) b (2 ^ k) ≡ b % 2 ^ suc k
unfolding sum_of_shifts
sum-pow zero b =
    xor_zero_r (part b 0 1) ∙ chosen-mul (bit_at b 0) 1 (bit_at-lt b 0) ∙ mul-one (bit_at b 0) ∙ bit_at_lowest b
sum-pow (suc k) b =
    let c : ℕ = bit_at b (suc k) in
    let p : ℕ = 2 ^ suc k in
    let low : b % p < p = mod-lt b (pow_pos (suc k)) in
    ap₂ bit_xor (chosen-mul c p (bit_at-lt b (suc k))) (ap (sum_of_shifts (suc k) b) (times_x-pow k) ∙ sum-pow k b)
    ∙ xor_shifted c (suc k) (b % p) low ∙ sym (mod-mul b {m = 2} {c = p} (omega arith) (pow_pos (suc k))) ∙ ap (λ t. b % t) (sym (pow-succ' 2 (suc k)))

pub product-one_right : (b : ℕ) → b < 2 ^ 128 → product b one ≡ b
unfolding product
product-one_right b h = sum-pow 127 b ∙ mod-eq_of_lt h

pub product-swap : (a b : ℕ) → a < 2 ^ 128 → b < 2 ^ 128 → product a b ≡ product b a
product-swap a b ha hb = ap (product a) (sym (product-one_right b hb)) ∙ product-exchange a b one ∙ ap (product b) (product-one_right a ha)

pub product-one : (b : ℕ) → b < 2 ^ 128 → product one b ≡ b
product-one b h = product-swap one b (omega arith) h ∙ product-one_right b h

pub product-assoc : (a b c : ℕ) → b < 2 ^ 128 → c < 2 ^ 128 → product (product a b) c ≡ product a (product b c)
product-assoc a b c hb hc =
    product-swap (product a b) c (product-lt a b hb) hc ∙ product-exchange c a b ∙ ap (product a) (product-swap c b hc hb)

-- ---- powers

pub power-lt : (h k : ℕ) → h < 2 ^ 128 → power h k < 2 ^ 128
unfolding power
power-lt h zero lt = omega arith
power-lt h (suc k) lt = product-lt (power h k) h lt

pub power-suc : (h k : ℕ) → h < 2 ^ 128 → power h (suc k) ≡ product h (power h k)
unfolding power
power-suc h k lt = product-swap (power h k) h (power-lt h k lt) lt

-- ---- Horner's rule

pub horner : (h : ℕ) → h < 2 ^ 128 → (xs : List ℕ) (y : ℕ) → y < 2 ^ 128
    → fold (horner_step h) y xs ≡ bit_xor (product y (power h (length xs))) (ghash h xs)
unfolding power ghash
horner h lt [] y ly = sym (xor_zero_r (product y one) ∙ product-one_right y ly)
horner h lt (x ∷ xs) y ly =
    let n = length xs in
    let p : ℕ = power h (suc n) in
    horner h lt xs (horner_step h y x) (product-lt (bit_xor y x) h lt)
    ∙ ap (λ t. bit_xor t (ghash h xs)) (product-assoc (bit_xor y x) h (power h n) lt (power-lt h n lt) ∙ ap (product (bit_xor y x)) (sym (power-suc h n lt)) ∙ product-xor y x p)
    ∙ xor_assoc (product y p) (product x p) (ghash h xs)

pub ghash_is_fold : (h : ℕ) → h < 2 ^ 128 → (xs : List ℕ) → ghash h xs ≡ fold (horner_step h) 0 xs
ghash_is_fold h lt xs =
    sym (horner h lt xs 0 (omega arith) ∙ ap (λ t. bit_xor t (ghash h xs)) (product-zero (power h (length xs))) ∙ xor_zero_l (ghash h xs))
