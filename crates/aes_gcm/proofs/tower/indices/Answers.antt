use Rattle.std.proofs.Common.{ℕ, ◌≡◌, ◌∙◌, bit_xor, map}
use Rattle.std.proofs.lemmas.Simd.{zip2_of_maps}
use Rattle.aes_gcm.specs.Tower.{entry, low_nibble, high_nibble, nibble_sum}
use Rattle.aes_gcm.specs.declared.tower.TheConstants.{INVERSE, SCALED}
use Rattle.aes_gcm.proofs.Lanes.{map_then}
use Rattle.aes_gcm.proofs.tower.indices.Goals as goal

abbrev scaled_of : ℕ → ℕ
scaled_of x = entry SCALED (low_nibble x)

abbrev top_inverse : ℕ → ℕ
top_inverse x = bit_xor (entry INVERSE (high_nibble x)) (scaled_of x)

abbrev sum_inverse : ℕ → ℕ
sum_inverse x = bit_xor (entry INVERSE (nibble_sum x)) (scaled_of x)

pub returns-clause-first : goal.returns-clause-first
returns-clause-first c =
    let x = c.args.state in
    let scaled : c.look-scaled.result ≡ map scaled_of x = map_then (entry SCALED) low_nibble x _ _ c.low-bottom.ensures c.look-scaled.ensures in
    let sum : c.xor-sum.result ≡ map nibble_sum x = c.xor-sum.ensures ∙ zip2_of_maps bit_xor high_nibble low_nibble x c.high-top.ensures c.low-bottom.ensures in
    let inverse = map_then (entry INVERSE) high_nibble x _ _ c.high-top.ensures c.look.ensures in
    let before : c.xor.result ≡ map top_inverse x = c.xor.ensures ∙ zip2_of_maps bit_xor (λ v. entry INVERSE (high_nibble v)) scaled_of x inverse scaled in
    let read = map_then (entry INVERSE) top_inverse x _ _ before c.look-2.ensures in
    c.xor-first.ensures ∙ zip2_of_maps bit_xor (λ v. entry INVERSE (top_inverse v)) nibble_sum x read sum

pub returns-clause-second : goal.returns-clause-second
returns-clause-second c =
    let x = c.args.state in
    let scaled : c.look-scaled.result ≡ map scaled_of x = map_then (entry SCALED) low_nibble x _ _ c.low-bottom.ensures c.look-scaled.ensures in
    let sum : c.xor-sum.result ≡ map nibble_sum x = c.xor-sum.ensures ∙ zip2_of_maps bit_xor high_nibble low_nibble x c.high-top.ensures c.low-bottom.ensures in
    let inverse = map_then (entry INVERSE) nibble_sum x _ _ sum c.look-3.ensures in
    let before : c.xor-2.result ≡ map sum_inverse x = c.xor-2.ensures ∙ zip2_of_maps bit_xor (λ v. entry INVERSE (nibble_sum v)) scaled_of x inverse scaled in
    let read = map_then (entry INVERSE) sum_inverse x _ _ before c.look-4.ensures in
    c.xor-second.ensures ∙ zip2_of_maps bit_xor (λ v. entry INVERSE (sum_inverse v)) high_nibble x read c.high-top.ensures
