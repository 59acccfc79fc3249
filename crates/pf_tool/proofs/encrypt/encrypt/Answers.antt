use Rattle.std.proofs.Common.{ℕ, [], ◌∷◌, inl, inr, refl, subst, Option, None, Some}
use Rattle.std.proofs.lemmas.Result.{err_from_is_err_and}
use Rattle.pf_io.specs.Host.{LengthWas}
use Rattle.pf_io.proofs.Unchanged.{kept_once}
use Rattle.pf_tool.specs.World.{with_host, with_random}
use Rattle.pf_tool.specs.Events.{Answers}
use Rattle.pf_tool.specs.Happened.{HostPassed}
use Rattle.pf_tool.specs.Encrypting.{input_found}
use Rattle.pf_tool.proofs.Lists.{never_true}
use Rattle.pf_tool.proofs.Calls.{length_passed, length_failed}
use Rattle.pf_tool.proofs.Composing.{passed_host, failed_host}
use Rattle.pf_tool.proofs.EncryptFinding.{key_fails, names_fail, length_fails, input_fails, found}
use Rattle.pf_tool.proofs.encrypt.encrypt.Goals.{then-not-is_target-via-then-not-is_target, then-not-is_target-via-else-not-is_target+then-not-is_input}
use Rattle.pf_tool.proofs.encrypt.encrypt.Goals as goal

pub returns-in_err-user : goal.returns-in_err-user
returns-in_err-user g c =
    let p = err_from_is_err_and c.from_residual.result c.from_residual.ensures.1 in
    let s0 = g.H.Host.state c.args.host.now in
    let s1 = g.H.Host.state c.read_key.new.host in
    let r0 = g.R.Words.state c.args.random.now in
    λ world. rw p.1 (rw p.2 (key_fails c.args.command.now.key.now c.args.command.now.input.now c.args.command.now.output.now c.in_err-user.field-0.0
    (with_random (with_host world s0) r0) (with_random (with_host world s1) r0) (c.in_err-user.ensures.refused (with_random world r0))))

pub returns-then-not-is_target : goal.returns-then-not-is_target
returns-then-not-is_target g c world =
    let s0 = g.H.Host.state c.args.host.now in
    let s1 = g.H.Host.state c.read_key.new.host in
    let r0 = g.R.Words.state c.args.random.now in
    names_fail c.args.command.now.key.now c.args.command.now.input.now c.args.command.now.output.now c.in_ok-user.user c.in_ok-user.ensures.key (with_random (with_host world s0) r0) (with_random (with_host world s1) r0)
    (c.in_ok-user.ensures.read (with_random world r0)) c.read_key.ensures.files c.read_key.ensures.disk
    (elim c.then-not-is_target.branch [
      | then-not-is_target-via-then-not-is_target w ↦ inl (λ target. never_true (w.if-not-is_target.ensures.1 target))
      | then-not-is_target-via-else-not-is_target+then-not-is_input w ↦ inr (λ fit. never_true (w.if-not-is_input.ensures.1 fit))
    ])

pub returns-in_err-len : goal.returns-in_err-len
returns-in_err-len g c =
    let p = err_from_is_err_and c.from_residual-in_err-len.result c.from_residual-in_err-len.ensures.1 in
    let s0 = g.H.Host.state c.args.host.now in
    let s1 = g.H.Host.state c.read_key.new.host in
    let s2 = g.H.Host.state c.len.new.self in
    let r0 = g.R.Words.state c.args.random.now in
    let input = c.args.command.now.input.now in
    λ world. rw p.1 (rw p.2 (length_fails c.args.command.now.key.now input c.args.command.now.output.now c.in_ok-user.user c.in_ok-user.ensures.key (with_random (with_host world s0) r0) (with_random (with_host world s1) r0)
    (c.in_ok-user.ensures.read (with_random world r0)) c.read_key.ensures.files c.read_key.ensures.disk (c.if-not-is_target.ensures.0 refl) (c.if-not-is_input.ensures.0 refl) (with_random (with_host world s2) r0)
    (kept_once s1 s2 c.len.ensures.disk)
    (failed_host (LengthWas input None) (with_random world r0) s1 s2 (length_failed input None s1 s2 c.in_err-len.ensures.told c.in_err-len.ensures.cause.once c.len.ensures.counts))))

pub returns-in_default : goal.returns-in_default
returns-in_default g c world =
    let s0 = g.H.Host.state c.args.host.now in
    let s1 = g.H.Host.state c.read_key.new.host in
    let s2 = g.H.Host.state c.len.new.self in
    let r0 = g.R.Words.state c.args.random.now in
    let input = c.args.command.now.input.now in
    let answer = c.in_ok-len.field-0 in
    input_fails c.args.command.now.key.now input c.args.command.now.output.now c.in_ok-user.user c.in_ok-user.ensures.key (with_random (with_host world s0) r0) (with_random (with_host world s1) r0)
    (c.in_ok-user.ensures.read (with_random world r0)) c.read_key.ensures.files c.read_key.ensures.disk (c.if-not-is_target.ensures.0 refl) (c.if-not-is_input.ensures.0 refl) (with_random (with_host world s2) r0)
    (kept_once s1 s2 c.len.ensures.disk) _ answer refl refl c.in_default.is
    (passed_host (Answers (LengthWas input answer) ∷ []) (with_random world r0) s1 s2 refl refl (length_passed input answer s1 s2 c.in_ok-len.ensures.told c.in_ok-len.ensures.cause.still c.len.ensures.counts c.in_ok-len.ensures.honest))

pub returns : goal.returns
returns g c world =
    let s0 = g.H.Host.state c.args.host.now in
    let s1 = g.H.Host.state c.read_key.new.host in
    let s2 = g.H.Host.state c.len.new.self in
    let r0 = g.R.Words.state c.args.random.now in
    let input = c.args.command.now.input.now in
    let size = c.in-Some.field-0 in
    let asked : HostPassed (LengthWas input (Some size) ∷ []) s1 s2 = subst (λ (o : Option ℕ). HostPassed (LengthWas input o ∷ []) s1 s2) c.in-Some.is
    (length_passed input c.in_ok-len.field-0 s1 s2 c.in_ok-len.ensures.told c.in_ok-len.ensures.cause.still c.len.ensures.counts c.in_ok-len.ensures.honest) in
    input_found c.in_ok-user.user (with_random (with_host world s2) r0)
    (found c.args.command.now.key.now input c.args.command.now.output.now c.in_ok-user.user c.in_ok-user.ensures.key (with_random (with_host world s0) r0) (with_random (with_host world s1) r0)
    (c.in_ok-user.ensures.read (with_random world r0)) c.read_key.ensures.files c.read_key.ensures.disk (c.if-not-is_target.ensures.0 refl) (c.if-not-is_input.ensures.0 refl) (with_random (with_host world s2) r0)
    (kept_once s1 s2 c.len.ensures.disk) size (passed_host (Answers (LengthWas input (Some size)) ∷ []) (with_random world r0) s1 s2 refl refl asked)) c.seal_input.ensures refl
