use Rattle.std.proofs.Common.{ap, ◌∙◌, sym, map, bit_xor}
use Rattle.std.proofs.lemmas.Simd.{map-map, zip2_splat_left}
use Rattle.aes_gcm.specs.Tower.{standard}
use Rattle.aes_gcm.proofs.TowerRounds.{cancelled}
use Rattle.aes_gcm.proofs.block.absorb.Goals as goal

pub returns : goal.returns
returns c =
    sym (map-map (bit_xor 99) standard c.to_tower.result)
    ∙ ap (map (bit_xor 99)) (c.to_tower.ensures ∙ zip2_splat_left bit_xor 99 16 c.args.round_key c.fits-round_key.0) ∙ cancelled 99 c.args.round_key
