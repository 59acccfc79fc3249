-- Facts of every byte, each by one computed test of all bytes.
use Rattle.std.proofs.Common.{◌≡◌, ℕ, zero, suc, ◌<◌, ◌≢◌, map, get_or, refl, ap, ◌∙◌, sym, arith}
use Rattle.std.proofs.lemmas.List.FromFn.{get_or-map-range_with_len}
use Rattle.std.specs.List.{range_with_len}
use Rattle.aes_gcm.specs.Field.{times, power, inverse}

-- functions with the same table have the same values
pub same_from_tables : (f g : ℕ → ℕ) (n : ℕ) → map f (range_with_len 0 n) ≡ map g (range_with_len 0 n) → (x : ℕ) → x < n → f x ≡ g x
same_from_tables f g n same x h =
    sym (get_or-map-range_with_len f 0 n x x 0 h (omega arith)) ∙ ap (λ t. get_or t x 0) same ∙ get_or-map-range_with_len g 0 n x x 0 h (omega arith)

products : map (λ k. times (suc k) (inverse (suc k))) (range_with_len 0 255) ≡ map (λ k. 1) (range_with_len 0 255)
unfolding times power inverse
products = refl

pub times-inverse : (a : ℕ) → a < 256 → a ≢ 0 → times a (inverse a) ≡ 1
times-inverse zero h n = absurd (n refl)
times-inverse (suc k) h n = same_from_tables (λ k. times (suc k) (inverse (suc k))) (λ k. 1) 255 products k (omega arith)
