use Rattle.std.proofs.Common.{◌≡◌, ap, ◌∙◌, bit_xor, map}
use Rattle.std.proofs.lemmas.Simd.{map-map, zip2_of_maps}
use Rattle.aes_gcm.specs.Tower.{entry, low_nibble, high_nibble, standard}
use Rattle.aes_gcm.specs.declared.tower.TheConstants.{IN_LOW, IN_HIGH}
use Rattle.aes_gcm.proofs.Lanes.{below-256, map_same, map_then, same_maps}
use Rattle.aes_gcm.proofs.TowerTables.{tower, standard-tower}
use Rattle.aes_gcm.proofs.tower.to_tower.Goals as goal

pub returns : goal.returns
unfolding tower
returns c =
    let x = c.args.bytes in
    let bottom = map_then (entry IN_LOW) low_nibble x _ _ c.low.ensures c.look.ensures in
    let top = map_then (entry IN_HIGH) high_nibble x _ _ c.high.ensures c.look-2.ensures in
    let is : c.xor.result ≡ map tower x = c.xor.ensures ∙ zip2_of_maps bit_xor (λ v. entry IN_LOW (low_nibble v)) (λ v. entry IN_HIGH (high_nibble v)) x bottom top in
    ap (map standard) is ∙ map-map standard tower x ∙ same_maps (λ v. standard (tower v)) (λ v. v) 256 standard-tower x (below-256 x c.fits-bytes.1) ∙ map_same x
