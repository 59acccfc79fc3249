use Rattle.std.proofs.Common.{◌≡◌, ap, ◌∙◌, bit_xor, map, arith, length}
use Rattle.std.proofs.lemmas.Simd.{map-map, zip2_splat_left}
use Rattle.aes_gcm.specs.Field.{sub_byte}
use Rattle.aes_gcm.specs.Tower.{sub_linear}
use Rattle.aes_gcm.proofs.Lanes.{below-256, same_maps}
use Rattle.aes_gcm.proofs.TowerSums.{xor_cancel}
use Rattle.aes_gcm.proofs.tower.sub_bytes.Goals as goal

pub returns : goal.returns
unfolding sub_linear
returns c =
    let x = c.args.bytes in
    let is : c.sub_linear.result ≡ map sub_linear x = c.sub_linear.ensures ∙ ap (map sub_linear) c.to_tower.ensures in
    let long : length c.sub_linear.result ≡ 16 = omega arith in
    zip2_splat_left bit_xor 99 16 c.sub_linear.result long ∙ ap (map (bit_xor 99)) is ∙ map-map (bit_xor 99) sub_linear x
    ∙ same_maps (λ v. bit_xor 99 (sub_linear v)) sub_byte 256 (λ v h. xor_cancel 99 (sub_byte v)) x (below-256 x c.fits-bytes.1)
