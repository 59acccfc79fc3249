use Rattle.std.proofs.Common.{◌≡◌, ◌≢◌, ℕ, List, length, take, refl, ap, ◌∙◌, sym, subst, arith, rules}
use Rattle.std.proofs.lemmas.List.{length-take, take_all}
use Rattle.std.proofs.Math.Seq.{take-take}
use Rattle.node_layout.specs.Metadata.{magic}
use Rattle.node_layout.specs.Faults.{IsPlainFault}
use Rattle.node_layout.specs.declared.metadata.PlainFault.{PlainFault}
use Rattle.pf_session.specs.Opening.{BlockRefused, not_protected, node_short, other_version}
use Rattle.pf_session.specs.declared.open_fault.OpenFault.TheVariants as faults
use Rattle.pf_session.proofs.Fronts.{front_given}
use Rattle.pf_session.proofs.node_zero.check_node.Goals as goal
use Rattle.pf_session.proofs.node_zero.check_node.Goals.{then-given-lt8-via-then-given-lt8, then-given-lt8-via-else-given-lt8+then-not-has_magic}

pub returns-then-given-lt8-clause-refused : goal.returns-then-given-lt8-clause-refused
returns-then-given-lt8-clause-refused c = not_protected (omega (arith, length-take c.args.given c.args.node.now, c.requires)) (λ is. elim c.then-given-lt8.branch [
  | then-given-lt8-via-then-given-lt8 w ↦ absurd (omega (arith, ap (λ (l : List ℕ). length l) is, length-take 8 (take c.args.given c.args.node.now), length-take c.args.given c.args.node.now))
  | then-given-lt8-via-else-given-lt8+then-not-has_magic w ↦ let other : take 8 c.args.node.now ≢ magic = search rules in other (front_given 8 c.args.given c.args.node.now magic refl is)
]) refl

pub returns-then-given-lt4096-clause-refused : goal.returns-then-given-lt4096-clause-refused
returns-then-given-lt4096-clause-refused c =
    let there : take 8 c.args.node.now ≡ magic = search rules in
    node_short (take-take 8 c.args.given c.args.node.now (omega arith) ∙ there) (omega (arith, length-take c.args.given c.args.node.now)) c.damaged.ensures

pub returns-in-Err-BadVersion-clause-refused : goal.returns-in-Err-BadVersion-clause-refused
returns-in-Err-BadVersion-clause-refused c =
    let all : take c.args.given c.args.node.now ≡ c.args.node.now = take_all c.args.given c.args.node.now (omega (arith, c.told-node, c.if-given-lt4096.false)) in
    let why : IsPlainFault c.args.node.now c.in-Err-BadVersion.field-0 = c.in-Err-BadVersion.ensures.refused in
    let refused : BlockRefused c.args.node.now (faults.BadVersion c.in-Err-BadVersion.major c.in-Err-BadVersion.minor) =
    other_version _ _ c.told-node (search rules) (subst (λ (f : PlainFault). IsPlainFault c.args.node.now f) c.in-Err-BadVersion.field-0-is why) refl in
    subst (λ (l : List ℕ). BlockRefused l (faults.BadVersion c.in-Err-BadVersion.major c.in-Err-BadVersion.minor)) (sym all) refused
