use Rattle.std.proofs.Common.{◌≡◌, ◌∙◌, ◌<◌, List, length, get_or, sym, ap, subst, arith}
use Rattle.toml.specs.View.{table_view}
use Rattle.manifest_model.specs.declared.entries.Mount.{Mount}
use Rattle.manifest_model.specs.Listed.{fs, mounting_of}
use Rattle.manifest_model.proofs.Accepted.{IsPlaced, placed}
use Rattle.manifest_model.proofs.manifest.Manifest.mount.Goals as goal
use Rattle.manifest_model.proofs.manifest.Manifest.mount.Goals.{After-index}

at_place : (c : After-index) → IsPlaced c.index.result.now
at_place c =
    let ms = table_view c.self.inside.table in
    let same : c.self.inside.mounts.items ≡ mounting_of (fs ms) = ap (λ l. l.mounts) c.self.invariant.1 in
    let len : length c.self.inside.mounts.items ≡ length c.args.self.now.lists.mounts = ap (λ s. length s.lists.mounts) c.self.view_is in
    let within : c.args.k < length (mounting_of (fs ms)) = omega (arith, len, ap length same, c.requires) in
    subst IsPlaced (sym (c.index.ensures ∙ ap (λ (l : List Mount). get_or l c.args.k c.index.result.now) same)) (placed ms c.self.invariant.0 c.args.k c.index.result.now within)

pub returns-clause-normal : goal.returns-clause-normal
returns-clause-normal c = (at_place (goal.at.returns-clause-normal c).After-index).normal

pub returns-clause-absolute : goal.returns-clause-absolute
returns-clause-absolute c = (at_place (goal.at.returns-clause-absolute c).After-index).absolute
