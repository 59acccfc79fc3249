use Rattle.std.proofs.Common.{◌≡◌, ℕ, ◌<◌, ap, ◌∙◌, sym, arith, [], ◌∷◌, ◌++◌, map, fold, length}
use Rattle.std.proofs.lemmas.Grind.{common_steps, fold-append}
use Rattle.std.specs.Int.{from_be_bytes, w128}
use Rattle.aes_gcm.specs.Ghash.{horner_step}
use Rattle.aes_gcm.specs.Multiples.{factor}
use Rattle.aes_gcm.specs.Gcm.{blocks_of, padded}
use Rattle.aes_gcm.proofs.HashedBlocks.{blocks_padded_rest}
use Rattle.aes_gcm.proofs.ghash.add_padded.Goals as goal

pub returns-else-is_empty : goal.returns-else-is_empty
returns-else-is_empty c =
    let step : ℕ → ℕ → ℕ = horner_step (factor c.args.table.now) in
    let text = c.args.text.now in
    let x : ℕ = c.from_be_bytes.result in
    let some : 0 < length c.as_chunks.result.1.now = grind (arith, common_steps) in
    let sum : c.add_blocks-hash.result ≡ fold step c.args.hash (blocks_of text) = c.add_blocks-hash.ensures ∙ ap (λ b. fold step c.args.hash (map (from_be_bytes w128) b)) c.as_chunks.ensures.front in
    let blocks : blocks_of (padded text) ≡ blocks_of text ++ (x ∷ []) =
    blocks_padded_rest text c.as_chunks.result.1.now c.padded_block-block.result c.as_chunks.ensures.back some c.padded_block-block.ensures
    ∙ ap (λ x. blocks_of text ++ (x ∷ [])) (sym c.from_be_bytes.ensures) in
    c.times.ensures ∙ ap (λ s. step s x) sum ∙ sym (ap (fold step c.args.hash) blocks ∙ fold-append step c.args.hash (blocks_of text) (x ∷ []))
