use Rattle.std.proofs.Common.{◌≡◌, [], ap, ap₂, ◌∙◌, get_or}
use Rattle.std.specs.Prelude.{replicate}
use Rattle.std.specs.Int.{to_be_bytes, from_be_bytes, w128}
use Rattle.aes_gcm.specs.Cipher.{cipher, xor_bytes}
use Rattle.aes_gcm.specs.Ghash.{ghash}
use Rattle.aes_gcm.specs.Gcm.{tag_of, counter_block, hashed_blocks}
use Rattle.aes_gcm.proofs.gcm.tag_of.Goals as goal

pub returns : goal.returns
unfolding tag_of
returns c =
    let key = c.args.key.now in
    let pads = c.four_pads.ensures in
    let block : get_or c.four_pads.result 0 [] ≡ cipher key (replicate 16 0) = ap (λ l. get_or l 0 []) pads in
    let mask : get_or c.four_pads.result 1 [] ≡ cipher key (counter_block 1) = ap (λ l. get_or l 1 []) pads in
    ap₂ xor_bytes
    (c.to_be_bytes.ensures ∙ ap (to_be_bytes w128) (c.hash-hash.ensures
    ∙ ap (λ h. ghash h (hashed_blocks c.args.aad.now c.args.text.now)) (c.from_be_bytes.ensures ∙ ap (from_be_bytes w128) block)))
    mask
