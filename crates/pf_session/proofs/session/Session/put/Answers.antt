use Rattle.std.proofs.Common.{◌≡◌, List, ℕ, ap, sym, ◌∙◌, subst}
use Rattle.std.specs.Prelude.{cond, Result}
use Rattle.node_tree.specs.Applying.{Write}
use Rattle.node_tree.specs.declared.fault.TreeFault.{TreeFault}
use Rattle.pf_session.specs.State.{SessionState, file_of}
use Rattle.pf_session.specs.Inside.{state_of}
use Rattle.pf_session.specs.Changing.{StepGoes}
use Rattle.pf_session.proofs.Changed.{step_goes}
use Rattle.pf_session.proofs.session.Session.put.Goals as goal

pub returns : goal.returns
returns g c =
    let before = g.H.Host.state c.args.host.now in
    let after = g.H.Host.state c.write-ended.new.host in
    let old : SessionState = state_of c.self.inside in
    let named : c.file_name-name.result.now ≡ file_of old = c.file_name-name.ensures ∙ ap (λ (side : List ℕ). cond c.self.inside.beside side c.self.inside.name) c.self.invariant.side_is in
    let goes = step_goes c.write-ended.result (Write c.args.at c.args.from.now) old c.mark.new.self c.write-ended.new.self c.file_name-name.result.now before after c.self.invariant.key_length named (record {
      steps = c.write-ended.ensures.steps;
      cause = c.write-ended.ensures.cause;
      few = c.write-ended.ensures.few;
      disk = c.write-ended.ensures.disk;
      damage = c.write-ended.ensures.damage;
      backed = c.write-ended.ensures.backed;
      standing = c.write-ended.ensures.standing;
    }) c.mark.ensures.marked in
    subst (λ (r : Result (Unit {0}) TreeFault). StepGoes r (Write c.args.at c.args.from.now) c.args.self.now c.mark.new.self before after) (sym c.mark.ensures.same)
    (subst (λ (s : SessionState). StepGoes c.write-ended.result (Write c.args.at c.args.from.now) s c.mark.new.self before after) c.self.view_is goes)
