use Rattle.std.proofs.Common.{◌≡◌, List, ℕ, ap, sym, ◌∙◌, subst}
use Rattle.std.specs.Prelude.{cond, Result}
use Rattle.node_tree.specs.Applying.{Size}
use Rattle.node_tree.specs.declared.fault.TreeFault.{TreeFault}
use Rattle.pf_session.specs.State.{SessionState, file_of}
use Rattle.pf_session.specs.Inside.{state_of}
use Rattle.pf_session.specs.Changing.{StepGoes}
use Rattle.pf_session.proofs.Changed.{step_goes}
use Rattle.pf_session.proofs.session.Session.resize.Goals as goal

pub returns : goal.returns
returns g c =
    let before = g.H.Host.state c.args.host.now in
    let after = g.H.Host.state c.resize-ended.new.host in
    let old : SessionState = state_of c.self.inside in
    let named : c.file_name-name.result.now ≡ file_of old = c.file_name-name.ensures ∙ ap (λ (side : List ℕ). cond c.self.inside.beside side c.self.inside.name) c.self.invariant.side_is in
    let goes = step_goes c.resize-ended.result (Size c.args.size) old c.mark.new.self c.resize-ended.new.self c.file_name-name.result.now before after c.self.invariant.key_length named (record {
      steps = c.resize-ended.ensures.steps;
      cause = c.resize-ended.ensures.cause;
      few = c.resize-ended.ensures.few;
      disk = c.resize-ended.ensures.disk;
      damage = c.resize-ended.ensures.damage;
      backed = c.resize-ended.ensures.backed;
      standing = c.resize-ended.ensures.standing;
    }) c.mark.ensures.marked in
    subst (λ (r : Result (Unit {0}) TreeFault). StepGoes r (Size c.args.size) c.args.self.now c.mark.new.self before after) (sym c.mark.ensures.same)
    (subst (λ (s : SessionState). StepGoes c.resize-ended.result (Size c.args.size) s c.mark.new.self before after) c.self.view_is goes)
