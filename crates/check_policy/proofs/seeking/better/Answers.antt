use Rattle.std.proofs.Common.{◌≡◌, ℕ, List, Option, Some, None, refl, subst}
use Rattle.manifest_model.specs.Names.{normal_parts}
use Rattle.check_policy.specs.Places.{Begins, parts_of}
use Rattle.check_policy.specs.Served.{seen}
use Rattle.check_policy.specs.Seeking.{Leaves, IsBest}
use Rattle.check_policy.proofs.Bettering.{step_none, step_keep, step_first, step_take}
use Rattle.check_policy.proofs.seeking.better.Goals as goal
use Rattle.check_policy.proofs.seeking.better.Goals.{in_default-found-via-in-Some-found+else-other-rest, in_default-found-via-in_default-found}

is_none : {A : Type 0} (o : Option A) → ((x : A) → o ≡ Some x → ⊥) → o ≡ None
is_none None other = refl
is_none (Some x) other = absurd (other x refl)

pub returns-in_default : goal.returns-in_default
returns-in_default c = λ mounts n at best.
    step_none mounts (normal_parts c.args.path.now) n c.args.mount.now at (seen c.args.found) (subst (λ path. Begins (normal_parts path) (normal_parts c.args.path.now) → ⊥) c.as_str.ensures c.in_default.ensures) best

pub returns-in-Some-found : goal.returns-in-Some-found
returns-in-Some-found c = λ mounts n at best.
    let ps : List (List ℕ) = normal_parts c.args.path.now in
    let leaves : Leaves (parts_of c.args.mount.now) ps c.in-Some.rest.now = subst (λ path. Leaves (normal_parts path) ps c.in-Some.rest.now) c.as_str.ensures c.in-Some.ensures in
    let other = c.in-Some-found.other in
    rw c.in-Some-found.is (step_keep mounts ps n c.args.mount.now at other.mount.now other.rest.now c.in-Some.rest.now leaves c.if-other-rest.true (subst (λ f. IsBest mounts ps n (seen f)) c.in-Some-found.is best))

pub returns-in_default-found : goal.returns-in_default-found
returns-in_default-found c = λ mounts n at best.
    let ps : List (List ℕ) = normal_parts c.args.path.now in
    let rest = c.in-Some.rest.now in
    let leaves : Leaves (parts_of c.args.mount.now) ps rest = subst (λ path. Leaves (normal_parts path) ps rest) c.as_str.ensures c.in-Some.ensures in
    elim c.in_default-found.branch [
      | in_default-found-via-in-Some-found+else-other-rest w ↦
          (let other = w.in-Some-found.other in
          step_take mounts ps n c.args.mount.now at other.mount.now other.rest.now rest leaves w.if-other-rest.false (subst (λ f. IsBest mounts ps n (seen f)) w.in-Some-found.is best))
      | in_default-found-via-in_default-found w ↦ step_first mounts ps n c.args.mount.now at rest leaves (subst (λ f. IsBest mounts ps n (seen f)) (is_none c.args.found w.in_default-found.not-Some) best)
    ]
