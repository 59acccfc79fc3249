use Rattle.std.proofs.Common.{◌≡◌, ◌+◌, [], ◌∷◌, map, ap, ap₂, ◌∙◌, arith}
use Rattle.aes_gcm.specs.Cipher.{cipher}
use Rattle.aes_gcm.specs.Gcm.{counter_block}
use Rattle.aes_gcm.proofs.counter.four_pads.Goals as goal

pub returns : goal.returns
returns c =
    let n = c.args.counter in
    let two : n + 2 ≡ n + 1 + 1 = omega arith in
    let three : n + 3 ≡ n + 1 + 1 + 1 = omega arith in
    c.encrypt_four.ensures
    ∙ ap (map (cipher c.args.key.now)) (ap₂ ◌∷◌ c.counter_block.ensures (ap₂ ◌∷◌ c.counter_block-2.ensures
    (ap₂ ◌∷◌ (c.counter_block-3.ensures ∙ ap counter_block two) (ap (λ b. b ∷ []) (c.counter_block-4.ensures ∙ ap counter_block three)))))
