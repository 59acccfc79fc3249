-- Sums of bytes in the tower basis, and a round of the cipher byte by byte.
use Rattle.std.proofs.Common.{◌≡◌, ℕ, ◌+◌, ◌/◌, ◌%◌, ◌<◌, ap, ap₂, ◌∙◌, sym, arith, refl, bit_xor, List, [], ◌∷◌}
use Rattle.std.specs.Int.Bits.{xor_zero_l, xor_self, xor_assoc, xor_shr}
use Rattle.std.proofs.lemmas.Nat.{xor_comm}
use Rattle.std.proofs.lemmas.Nat.Bits.{bit_at_lowest, bit_at_xor}
use Rattle.std.specs.List.{range_with_len}
use Rattle.std.specs.Prelude.{map}
use Rattle.aes_gcm.specs.Field.{times, sub_byte, affine}
use Rattle.aes_gcm.specs.Tower.{basis, sum_chosen, standard, sub_linear, absorbed}
use Rattle.aes_gcm.proofs.Bytes.{same_from_tables}
use Rattle.aes_gcm.proofs.ProductLaws.{chosen, chosen-sum, xor_swap}

pub xor_cancel : (a b : ℕ) → bit_xor a (bit_xor a b) ≡ b
xor_cancel a b = sym (xor_assoc a a b) ∙ ap (λ z. bit_xor z b) (xor_self a) ∙ xor_zero_l b

sum_chosen-xor : (bs : List ℕ) (x y : ℕ) → sum_chosen bs (bit_xor x y) ≡ bit_xor (sum_chosen bs x) (sum_chosen bs y)
sum_chosen-xor [] x y = refl
sum_chosen-xor (b ∷ bs) x y =
    let low : bit_xor x y % 2 ≡ (x % 2 + y % 2) % 2 = sym (bit_at_lowest (bit_xor x y)) ∙ bit_at_xor x y 0 ∙ ap₂ (λ c d. (c + d) % 2) (bit_at_lowest x) (bit_at_lowest y) in
    ap₂ bit_xor (ap (λ c. chosen c b) low ∙ chosen-sum (x % 2) (y % 2) b (omega arith) (omega arith)) (ap (sum_chosen bs) (xor_shr x y 1) ∙ sum_chosen-xor bs (x / 2) (y / 2))
    ∙ xor_swap (chosen (x % 2) b) (chosen (y % 2) b) (sum_chosen bs (x / 2)) (sum_chosen bs (y / 2))

pub standard-xor : (x y : ℕ) → standard (bit_xor x y) ≡ bit_xor (standard x) (standard y)
unfolding standard
standard-xor x y = sum_chosen-xor basis x y

doubled : map (λ b. times 2 (bit_xor 99 b)) (range_with_len 0 256) ≡ map (λ b. bit_xor 198 (times 2 b)) (range_with_len 0 256)
unfolding times
doubled = refl

tripled : map (λ b. bit_xor (bit_xor 99 b) (times 2 (bit_xor 99 b))) (range_with_len 0 256) ≡ map (λ b. bit_xor 165 (times 3 b)) (range_with_len 0 256)
unfolding times
tripled = refl

sub_byte-lt : (x : ℕ) → sub_byte x < 256
unfolding sub_byte affine
sub_byte-lt x = omega arith

double_linear : (x : ℕ) → times 2 (sub_linear x) ≡ bit_xor 198 (times 2 (sub_byte x))
unfolding sub_linear
double_linear x = same_from_tables (λ b. times 2 (bit_xor 99 b)) (λ b. bit_xor 198 (times 2 b)) 256 doubled (sub_byte x) (sub_byte-lt x)

triple_linear : (x : ℕ) → bit_xor (sub_linear x) (times 2 (sub_linear x)) ≡ bit_xor 165 (times 3 (sub_byte x))
unfolding sub_linear
triple_linear x = same_from_tables (λ b. bit_xor (bit_xor 99 b) (times 2 (bit_xor 99 b))) (λ b. bit_xor 165 (times 3 b)) 256 tripled (sub_byte x) (sub_byte-lt x)

-- the S-box's constant goes over to the round key
over : (m k : ℕ) → bit_xor (bit_xor 99 m) k ≡ bit_xor m (bit_xor 99 k)
over m k = ap (λ t. bit_xor t k) (xor_comm 99 m) ∙ xor_assoc m 99 k

pub last_byte : (s k : ℕ) → bit_xor (sub_linear s) k ≡ bit_xor (sub_byte s) (bit_xor 99 k)
unfolding sub_linear
last_byte s k = over (sub_byte s) k

plain_pair : (x y : ℕ) → bit_xor (sub_linear x) (sub_linear y) ≡ bit_xor (sub_byte x) (sub_byte y)
unfolding sub_linear
plain_pair x y = xor_swap 99 (sub_byte x) 99 (sub_byte y)

mixed_linear : (s₀ s₁ s₂ s₃ k : ℕ)
    → bit_xor (bit_xor (bit_xor (times 2 (sub_linear s₀)) (bit_xor (sub_linear s₁) (times 2 (sub_linear s₁)))) (bit_xor (sub_linear s₂) (sub_linear s₃))) k
    ≡ bit_xor (bit_xor (bit_xor (times 2 (sub_byte s₀)) (times 3 (sub_byte s₁))) (bit_xor (sub_byte s₂) (sub_byte s₃))) (bit_xor 99 k)
mixed_linear s₀ s₁ s₂ s₃ k =
    let pair : ℕ = bit_xor (times 2 (sub_byte s₀)) (times 3 (sub_byte s₁)) in
    let others : ℕ = bit_xor (sub_byte s₂) (sub_byte s₃) in
    let first : bit_xor (times 2 (sub_linear s₀)) (bit_xor (sub_linear s₁) (times 2 (sub_linear s₁))) ≡ bit_xor 99 pair =
    ap₂ bit_xor (double_linear s₀) (triple_linear s₁) ∙ xor_swap 198 (times 2 (sub_byte s₀)) 165 (times 3 (sub_byte s₁)) in
    ap (λ t. bit_xor t k) (ap₂ bit_xor first (plain_pair s₂ s₃) ∙ xor_assoc 99 pair others) ∙ over (bit_xor pair others) k

-- one byte of a round: w for twice, o for once the S-box without its constant
pub mixed_byte : (s₀ s₁ s₂ s₃ w₀ o₁ w₁ o₂ o₃ k : ℕ) → standard w₀ ≡ times 2 (sub_linear s₀) → standard o₁ ≡ sub_linear s₁ → standard w₁ ≡ times 2 (sub_linear s₁)
    → standard o₂ ≡ sub_linear s₂ → standard o₃ ≡ sub_linear s₃
    → standard (bit_xor (bit_xor (bit_xor w₀ (bit_xor o₁ w₁)) (bit_xor o₂ o₃)) k)
    ≡ bit_xor (bit_xor (bit_xor (times 2 (sub_byte s₀)) (times 3 (sub_byte s₁))) (bit_xor (sub_byte s₂) (sub_byte s₃))) (absorbed k)
mixed_byte s₀ s₁ s₂ s₃ w₀ o₁ w₁ o₂ o₃ k a b c d e =
    standard-xor (bit_xor (bit_xor w₀ (bit_xor o₁ w₁)) (bit_xor o₂ o₃)) k
    ∙ ap (λ t. bit_xor t (standard k)) (standard-xor (bit_xor w₀ (bit_xor o₁ w₁)) (bit_xor o₂ o₃)
    ∙ ap₂ bit_xor (standard-xor w₀ (bit_xor o₁ w₁) ∙ ap₂ bit_xor a (standard-xor o₁ w₁ ∙ ap₂ bit_xor b c)) (standard-xor o₂ o₃ ∙ ap₂ bit_xor d e))
    ∙ mixed_linear s₀ s₁ s₂ s₃ (standard k)
