use Rattle.std.proofs.Common.{ℕ, ◌≡◌, ap, ◌∙◌, sym, map}
use Rattle.std.proofs.lemmas.Simd.{map-map}
use Rattle.aes_gcm.specs.Field.{times}
use Rattle.aes_gcm.specs.Tower.{standard, sub_linear}
use Rattle.aes_gcm.specs.declared.tower.TheConstants.{ONCE_FIRST, ONCE_SECOND, TWICE_FIRST, TWICE_SECOND}
use Rattle.aes_gcm.proofs.Lanes.{below-256, same_maps}
use Rattle.aes_gcm.proofs.TowerTables.{read, read_pair, once_is, twice_is}
use Rattle.aes_gcm.proofs.tower.once_and_twice.Goals as goal

pub returns-clause-once : goal.returns-clause-once
returns-clause-once c =
    let x = c.args.state in
    let once : ℕ → ℕ = read ONCE_FIRST ONCE_SECOND in
    let is : c.xor.result ≡ map once x =
    read_pair ONCE_FIRST ONCE_SECOND x _ _ _ _ _ c.indices.ensures.first c.indices.ensures.second c.look.ensures c.look-2.ensures c.xor.ensures in
    ap (map standard) is ∙ map-map standard once x ∙ same_maps (λ v. standard (once v)) (λ v. sub_linear (standard v)) 256 once_is x (below-256 x c.fits-state.1)
    ∙ sym (map-map sub_linear standard x)

pub returns-clause-twice : goal.returns-clause-twice
returns-clause-twice c =
    let x = c.args.state in
    let twice : ℕ → ℕ = read TWICE_FIRST TWICE_SECOND in
    let is : c.xor-2.result ≡ map twice x =
    read_pair TWICE_FIRST TWICE_SECOND x _ _ _ _ _ c.indices.ensures.first c.indices.ensures.second c.look-3.ensures c.look-4.ensures c.xor-2.ensures in
    ap (map standard) is ∙ map-map standard twice x ∙ same_maps (λ v. standard (twice v)) (λ v. times 2 (sub_linear (standard v))) 256 twice_is x (below-256 x c.fits-state.1)
    ∙ sym (ap (map (times 2)) (map-map sub_linear standard x) ∙ map-map (times 2) (λ v. sub_linear (standard v)) x)
