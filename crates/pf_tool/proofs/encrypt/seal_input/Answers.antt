use Rattle.std.proofs.Common.{refl, ap, ◌∙◌}
use Rattle.std.proofs.lemmas.Result.{err_from_is_err_and}
use Rattle.pf_session.specs.State.{SessionState}
use Rattle.pf_tool.specs.SealingInput.{not_begun, not_copied, not_published, sealed}
use Rattle.pf_tool.proofs.SessionBegun.{has_begun, is_named, input_keeps}
use Rattle.pf_tool.proofs.encrypt.seal_input.Goals as goal

pub returns-in_err-session : goal.returns-in_err-session
returns-in_err-session g c =
    let p = err_from_is_err_and c.from_residual.result c.from_residual.ensures.1 in
    let h0 = g.H.Host.state c.args.host.now in
    let h1 = g.H.Host.state c.create_beside.new.host in
    let r0 = g.R.Words.state c.args.random.now in
    let r1 = g.R.Words.state c.create_beside.new.random in
    let fit = is_named c.args.user.now c.args.output.now c.in_err-session.field-0.0 h0 h1 r0 r1 c.requires c.utf8.output c.in_err-session.ensures.goes in
    rw p.1 (rw p.2 (not_begun c.in_err-session.field-0.0 fit c.in_err-session.ensures.goes refl))

pub write_input-requires-clause-whole : goal.write_input-requires-clause-whole
write_input-requires-clause-whole g c =
    let h0 = g.H.Host.state c.args.host.now in
    let h1 = g.H.Host.state c.create_beside.new.host in
    let r0 = g.R.Words.state c.args.random.now in
    let r1 = g.R.Words.state c.create_beside.new.random in
    let session : SessionState = c.in_ok-session.session in
    ap (λ (s : SessionState). s.broken) (has_begun c.args.user.now c.args.output.now session h0 h1 r0 r1 c.in_ok-session.ensures.goes).session_is

pub write_input-requires-clause-empty : goal.write_input-requires-clause-empty
write_input-requires-clause-empty g c =
    let h0 = g.H.Host.state c.args.host.now in
    let h1 = g.H.Host.state c.create_beside.new.host in
    let r0 = g.R.Words.state c.args.random.now in
    let r1 = g.R.Words.state c.create_beside.new.random in
    let session : SessionState = c.in_ok-session.session in
    ap (λ (s : SessionState). s.tree.size) (has_begun c.args.user.now c.args.output.now session h0 h1 r0 r1 c.in_ok-session.ensures.goes).session_is

pub returns-in_err-write_input : goal.returns-in_err-write_input
returns-in_err-write_input g c =
    let p = err_from_is_err_and c.from_residual-in_err-write_input.result c.from_residual-in_err-write_input.ensures.1 in
    let h1 = g.H.Host.state c.create_beside.new.host in
    let r1 = g.R.Words.state c.create_beside.new.random in
    rw p.1 (rw p.2 (not_copied c.in_ok-session.session h1 r1 c.in_err-write_input.field-0.0 c.in_ok-session.ensures.goes c.in_err-write_input.ensures.stops refl))

pub publish-requires-clause-beside : goal.publish-requires-clause-beside
publish-requires-clause-beside g c =
    let h0 = g.H.Host.state c.args.host.now in
    let h1 = g.H.Host.state c.create_beside.new.host in
    let h2 = g.H.Host.state c.write_input.new.host in
    let r0 = g.R.Words.state c.args.random.now in
    let r1 = g.R.Words.state c.create_beside.new.random in
    let r2 = g.R.Words.state c.write_input.new.random in
    let session : SessionState = c.in_ok-session.session in
    let written = c.in_ok-write_input.ensures.written in
    (input_keeps c.args.input.now session h1 r1 written.0 c.write_input.new.session h2 r2 written.1).beside ∙ ap (λ (s : SessionState). s.beside) (has_begun c.args.user.now c.args.output.now session h0 h1 r0 r1 c.in_ok-session.ensures.goes).session_is

pub publish-requires-clause-whole : goal.publish-requires-clause-whole
publish-requires-clause-whole g c =
    let h0 = g.H.Host.state c.args.host.now in
    let h1 = g.H.Host.state c.create_beside.new.host in
    let h2 = g.H.Host.state c.write_input.new.host in
    let r0 = g.R.Words.state c.args.random.now in
    let r1 = g.R.Words.state c.create_beside.new.random in
    let r2 = g.R.Words.state c.write_input.new.random in
    let session : SessionState = c.in_ok-session.session in
    let written = c.in_ok-write_input.ensures.written in
    (input_keeps c.args.input.now session h1 r1 written.0 c.write_input.new.session h2 r2 written.1).broken ∙ ap (λ (s : SessionState). s.broken) (has_begun c.args.user.now c.args.output.now session h0 h1 r0 r1 c.in_ok-session.ensures.goes).session_is

pub returns-in_err-publish : goal.returns-in_err-publish
returns-in_err-publish g c =
    let p = err_from_is_err_and c.from_residual-in_err-publish.result c.from_residual-in_err-publish.ensures.1 in
    let h1 = g.H.Host.state c.create_beside.new.host in
    let h2 = g.H.Host.state c.write_input.new.host in
    let r1 = g.R.Words.state c.create_beside.new.random in
    let r2 = g.R.Words.state c.write_input.new.random in
    let written = c.in_ok-write_input.ensures.written in
    rw p.1 (rw p.2 (not_published c.in_ok-session.session c.write_input.new.session written.0 h1 h2 r1 r2 c.in_err-publish.field-0.0 c.in_ok-session.ensures.goes written.1 c.in_err-publish.ensures.goes refl))

pub returns : goal.returns
returns g c =
    let h1 = g.H.Host.state c.create_beside.new.host in
    let h2 = g.H.Host.state c.write_input.new.host in
    let r1 = g.R.Words.state c.create_beside.new.random in
    let r2 = g.R.Words.state c.write_input.new.random in
    let written = c.in_ok-write_input.ensures.written in
    sealed c.in_ok-session.session c.write_input.new.session written.0 h1 h2 r1 r2 c.in_ok-session.ensures.goes written.1 c.in_ok-publish.ensures.goes refl
