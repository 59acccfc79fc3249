use Rattle.std.proofs.Common.{◌≡◌, ◌∙◌, sym, map}
use Rattle.std.proofs.lemmas.Simd.{map-map}
use Rattle.aes_gcm.specs.Tower.{standard, sub_linear}
use Rattle.aes_gcm.specs.declared.tower.TheConstants.{OUT_FIRST, OUT_SECOND}
use Rattle.aes_gcm.proofs.Lanes.{below-256, same_maps}
use Rattle.aes_gcm.proofs.TowerTables.{read, read_pair, out_is}
use Rattle.aes_gcm.proofs.tower.sub_linear.Goals as goal

pub returns : goal.returns
returns c =
    let x = c.args.state in
    let is : c.xor.result ≡ map (read OUT_FIRST OUT_SECOND) x =
    read_pair OUT_FIRST OUT_SECOND x _ _ _ _ _ c.indices.ensures.first c.indices.ensures.second c.look.ensures c.look-2.ensures c.xor.ensures in
    is ∙ same_maps (read OUT_FIRST OUT_SECOND) (λ v. sub_linear (standard v)) 256 out_is x (below-256 x c.fits-state.1) ∙ sym (map-map sub_linear standard x)
