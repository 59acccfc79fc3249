use Rattle.std.proofs.Common.{arith, ◌≡◌, ◌≤◌, ◌-◌, ◌*◌, ◌/◌, ◌∷◌, ◌∙◌, ap, refl, replicate, length, take, drop, fold, ℕ, zero, suc, List}
use Rattle.std.specs.Simd.{first_chunks}
use Rattle.std.proofs.lemmas.List.{take_rest}
use Rattle.aes_gcm.specs.Cipher.{cipher}
use Rattle.cmac_kdf.specs.Cmac.{cmac, chained, finished}
use Rattle.cmac_kdf.proofs.chain.cmac.Goals as goal

take-first_chunks : {X : Type 0} (n j k : ℕ) (xs : List X) → j ≤ k → take j (first_chunks n k xs) ≡ first_chunks n j xs
take-first_chunks n zero k xs le = refl
take-first_chunks n (suc j) zero xs le = absurd (omega arith)
take-first_chunks n (suc j) (suc k) xs le = ap (λ t. take n xs ∷ t) (take-first_chunks n j k (drop n xs) (omega arith))

-- the tag from its parts
cmac_is : (key text : List ℕ) (blocks : List (List ℕ)) (state last tag : List ℕ) (n : ℕ) → n ≡ length text - 1 → blocks ≡ first_chunks 16 (length text / 16) text → state ≡ fold (chained key) (replicate 16 0) (take (n / 16) blocks) → last ≡ finished key (take (length text - 16 * (n / 16)) (drop (16 * (n / 16)) text)) → tag ≡ chained key state last → tag ≡ cmac key text
unfolding cmac
cmac_is key text blocks state last tag n is chunks from_blocks from_rest from_both =
    let front = from_blocks ∙ ap (fold (chained key) (replicate 16 0)) (ap (take (n / 16)) chunks ∙ take-first_chunks 16 (n / 16) (length text / 16) text (omega arith)) in
    let back = from_rest ∙ ap (finished key) (take_rest text (16 * (n / 16))) in
    let of : ℕ → List ℕ = λ k. chained key (fold (chained key) (replicate 16 0) (first_chunks 16 k text)) (finished key (drop (16 * k) text)) in
    from_both ∙ (ap (λ s. chained key s last) front ∙ (ap (λ l. chained key (fold (chained key) (replicate 16 0) (first_chunks 16 (n / 16) text)) l) back ∙ ap of (ap (λ k. k / 16) is)))

pub returns : goal.returns
returns c =
    cmac_is c.args.key.now c.args.text.now c.as_chunks.result.0.now c.chain-state.result c.finish-last.result c.encrypt_block.result c.saturating_sub-before.result c.saturating_sub-before.ensures c.as_chunks.ensures.front c.chain-state.ensures c.finish-last.ensures (c.encrypt_block.ensures ∙ ap (cipher c.args.key.now) c.xor.ensures)
