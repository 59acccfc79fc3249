use Rattle.std.proofs.Common.{◌≡◌, ℕ, ◌+◌, ◌*◌, ◌%◌, ◌^◌, ◌<◌, ap, ap₂, ◌∙◌, sym, arith, [], ◌∷◌, ◌++◌, bit_or, bit_xor, fold, length, mod-eq_of_lt, length-append}
use Rattle.std.proofs.lemmas.Grind.{fold-append}
use Rattle.std.specs.Int.Bits.{or_shifted}
use Rattle.std.specs.Int.{from_be_bytes, w128}
use Rattle.aes_gcm.specs.Ghash.{product, horner_step}
use Rattle.aes_gcm.specs.Multiples.{factor}
use Rattle.aes_gcm.specs.Gcm.{blocks_of, padded, length_block, hashed_blocks}
use Rattle.aes_gcm.proofs.HashedBlocks.{blocks-append, padded_whole, number_cat}
use Rattle.aes_gcm.proofs.ProductLaws.{ghash_is_fold}
use Rattle.aes_gcm.proofs.ghash.hash.Goals as goal

joined : (a b : ℕ) → a < 2 ^ 64 → b < 2 ^ 64 → bit_or (a * 2 ^ 64 % 2 ^ 128) b ≡ a * 2 ^ 64 + b
joined a b ha hb =
    let low : a * 2 ^ 64 < 2 ^ 128 = omega arith in
    ap (λ n. bit_or n b) (mod-eq_of_lt low) ∙ or_shifted a 64 b hb

pub returns : goal.returns
returns c =
    let h = c.args.h in
    let aad = c.args.aad.now in
    let text = c.args.text.now in
    let step : ℕ → ℕ → ℕ = horner_step h in
    let a : ℕ = 8 * length aad in
    let b : ℕ = 8 * length text in
    let key : factor c.fill_table.new.table ≡ h = c.fill_table.ensures.factor in
    let x : ℕ = from_be_bytes w128 (length_block aad text) in
    let is : bit_or (a * 2 ^ 64 % 2 ^ 128) b ≡ x = joined a b (omega arith) (omega arith) ∙ sym (number_cat a b (omega arith) (omega arith)) in
    let first : c.add_padded-hash.result ≡ fold step 0 (blocks_of (padded aad)) = c.add_padded-hash.ensures ∙ ap (λ h. fold (horner_step h) 0 (blocks_of (padded aad))) key in
    let second : c.add_padded-hash-2.result ≡ fold step (fold step 0 (blocks_of (padded aad))) (blocks_of (padded text)) =
    c.add_padded-hash-2.ensures ∙ ap₂ (λ h s. fold (horner_step h) s (blocks_of (padded text))) key first in
    let whole : length (padded aad ++ padded text) % 16 ≡ 0 = omega (arith, length-append (padded aad) (padded text), padded_whole aad, padded_whole text) in
    let blocks : hashed_blocks aad text ≡ (blocks_of (padded aad) ++ blocks_of (padded text)) ++ (x ∷ []) =
    blocks-append (padded aad ++ padded text) (length_block aad text) whole ∙ ap (λ b. b ++ (x ∷ [])) (blocks-append (padded aad) (padded text) (padded_whole aad)) in
    c.times.ensures ∙ ap₂ (λ h s. product (bit_xor s (bit_or (a * 2 ^ 64 % 2 ^ 128) b)) h) key second ∙ ap (step (fold step (fold step 0 (blocks_of (padded aad))) (blocks_of (padded text)))) is
    ∙ sym (ghash_is_fold h c.ranges.h.fits (hashed_blocks aad text) ∙ ap (fold step 0) blocks
    ∙ fold-append step 0 (blocks_of (padded aad) ++ blocks_of (padded text)) (x ∷ []) ∙ ap (λ s. step s x) (fold-append step 0 (blocks_of (padded aad)) (blocks_of (padded text))))
