-- Hexadecimal numbers, digit by digit.
use Rattle.std.proofs.Common.{◌≡◌, ◌∙◌, ℕ, suc, zero, ◌+◌, ◌*◌, ◌-◌, ◌^◌, ◌<◌, ◌≤◌, List, length, take, get_or, sym, ap, arith, subst, add-one}
use Rattle.std.proofs.lemmas.List.Sums.{fold_more}
use native.Mathlib.Numerals.{unary_clauses}
use Rattle.enclave_measure.specs.Hexadecimal.{digit_value, hex_value}

pow_suc : (i : ℕ) → 16 ^ (i + 1) ≡ 16 * 16 ^ i
pow_suc i = rw add-one (simp unary_clauses (omega arith))

pow_grows : (i k : ℕ) → 16 ^ i ≤ 16 ^ (i + k)
pow_grows i zero = omega (arith, ap (λ n. 16 ^ n) (let e : i + 0 ≡ i = omega arith in e))
pow_grows i (suc k) =
    let more : 16 ^ (i + suc k) ≡ 16 * 16 ^ (i + k) = ap (λ n. 16 ^ n) (let e : i + suc k ≡ i + k + 1 = omega arith in e) ∙ pow_suc (i + k) in
    omega (arith, more, pow_grows i k)

-- one digit more
pub hex_more : (digits : List ℕ) (i number digit : ℕ) → i < length digits → number ≡ hex_value (take i digits) → digit ≡ digit_value (get_or digits i 0) → 16 * number + digit ≡ hex_value (take (i + 1) digits)
hex_more digits i number digit l is this = rw (is, this) (sym (fold_more (λ n d. 16 * n + digit_value d) 0 digits i 0 l))

pub below_more : (i number digit : ℕ) → number < 16 ^ i → digit < 16 → 16 * number + digit < 16 ^ (i + 1)
below_more i number digit below small = omega (arith, pow_suc i, below, small)

-- 16 digits fit 64 bits
pub below_all : (i number : ℕ) → i ≤ 16 → number < 16 ^ i → number < 2 ^ 64
below_all i number few below =
    let grows : 16 ^ i ≤ 16 ^ 16 = subst (λ n. 16 ^ i ≤ 16 ^ n) (let e : i + (16 - i) ≡ 16 = omega (arith, few) in e) (pow_grows i (16 - i)) in
    omega (arith, grows, below)
