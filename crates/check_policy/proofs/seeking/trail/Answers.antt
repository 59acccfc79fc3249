use Rattle.std.proofs.Common.{◌≡◌, ◌∙◌, [], ◌∷◌, ap, sym}
use Rattle.std.proofs.lemmas.Bool.{false≢true}
use Rattle.std.proofs.lemmas.Slice.Eq.{bytes_eq-Decides}
use Rattle.manifest_model.specs.Names.{behind, normal_parts}
use Rattle.check_policy.proofs.Parting.{root_parts, trail_of}
use Rattle.check_policy.proofs.seeking.trail.Goals as goal

pub returns-then-eq : goal.returns-then-eq
returns-then-eq c =
    let is : c.args.path.now ≡ 47 ∷ [] = (bytes_eq-Decides c.args.path.now (47 ∷ [])).0 (sym c.eq.ensures ∙ c.if-eq.true) in
    sym (ap (λ path. behind (normal_parts path)) is ∙ ap behind root_parts)

pub returns-else-eq : goal.returns-else-eq
returns-else-eq c = trail_of c.args.path.now c.requires (λ e. false≢true (sym c.if-eq.false ∙ c.eq.ensures ∙ (bytes_eq-Decides c.args.path.now (47 ∷ [])).1 e))
