use Rattle.std.proofs.Common.{refl, ap₂, ◌∙◌, sym, bit_xor}
use Rattle.aes_gcm.specs.Ghash.{product}
use Rattle.aes_gcm.specs.Multiples.{shifted, factor}
use Rattle.aes_gcm.proofs.Multiples.{sum-mask, sum-split}
use Rattle.aes_gcm.proofs.ghash.halves.Goals as goal

pub returns : goal.returns
unfolding product shifted
returns c =
    let block = c.args.block in
    let h = factor c.args.table.now in
    ap₂ bit_xor c.times_half.ensures (c.times_half-2.ensures ∙ sum-mask 64 block (shifted 64 h)) ∙ sym (sum-split 64 64 128 block h refl)
