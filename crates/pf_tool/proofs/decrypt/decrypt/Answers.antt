use Rattle.std.proofs.Common.{sym, subst}
use Rattle.std.proofs.lemmas.Result.{err_from_is_err_and}
use Rattle.pf_io.specs.Disk.{Name}
use Rattle.pf_io.specs.Unchanged.{KeepsDisk}
use Rattle.pf_io.proofs.Unchanged.{kept_then}
use Rattle.pf_tool.specs.World.{with_out}
use Rattle.pf_tool.specs.Outcomes.{Falls, ComesOut}
use Rattle.pf_tool.specs.Decrypting.{PiecesLead, DecryptLeads}
use Rattle.pf_tool.specs.declared.fault.Fault.{Fault}
use Rattle.pf_tool.proofs.PieceRuns.{facing}
use Rattle.pf_tool.proofs.NodeReading.{no_key, no_input, opened}
use Rattle.pf_tool.proofs.decrypt.decrypt.Goals as goal

pub returns-in_err-user : goal.returns-in_err-user
returns-in_err-user g c =
    let p = err_from_is_err_and c.from_residual.result c.from_residual.ensures.1 in
    let key = c.args.command.now.key.now in
    let input = c.args.command.now.input.now in
    let out = g.K.Sink.state c.args.out.now in
    let old = g.H.Host.state c.args.host.now in
    let new = g.H.Host.state c.read_key.new.host in
    rw p.1 (λ world. subst (λ (f : Fault). Falls (DecryptLeads key input) (λ _ _. KeepsDisk) f (facing world old out) (facing world new out)) (sym p.2) (no_key key input c.in_err-user.field-0.0 (facing world old out) (facing world new out) (c.in_err-user.ensures.refused (with_out world out))))

pub returns-in_err-session : goal.returns-in_err-session
returns-in_err-session g c =
    let p = err_from_is_err_and c.from_residual-in_err-session.result c.from_residual-in_err-session.ensures.1 in
    let key = c.args.command.now.key.now in
    let input = c.args.command.now.input.now in
    let out = g.K.Sink.state c.args.out.now in
    let old = g.H.Host.state c.args.host.now in
    let mid = g.H.Host.state c.read_key.new.host in
    let new = g.H.Host.state c.open.new.host in
    rw p.1 (λ world. subst (λ (f : Fault). Falls (DecryptLeads key input) (λ _ _. KeepsDisk) f (facing world old out) (facing world new out)) (sym p.2)
    (no_input key input c.in_ok-user.user c.in_ok-user.ensures.key (facing world old out) (facing world mid out) (c.in_ok-user.ensures.read (with_out world out)) c.in_ok-user.ensures.files c.in_err-session.field-0.0 (facing world new out)
    (c.in_err-session.ensures.refused (with_out world out)) (kept_then old mid new c.in_ok-user.ensures.disk c.in_err-session.ensures.disk)))

pub write_content-requires-clause-named : goal.write_content-requires-clause-named
write_content-requires-clause-named g c = c.in_ok-session.ensures.opened.named

pub write_content-requires-clause-whole : goal.write_content-requires-clause-whole
write_content-requires-clause-whole g c = c.in_ok-session.ensures.opened.is_whole

pub returns : goal.returns
returns g c =
    let key = c.args.command.now.key.now in
    let input = c.args.command.now.input.now in
    let out = g.K.Sink.state c.args.out.now in
    let after = g.K.Sink.state c.write_content.new.out in
    let old = g.H.Host.state c.args.host.now in
    let mid = g.H.Host.state c.read_key.new.host in
    let now = g.H.Host.state c.open.new.host in
    let new = g.H.Host.state c.write_content.new.host in
    let has = c.in_ok-session.ensures.opened in
    λ world.
    opened key input c.in_ok-user.user c.in_ok-user.ensures.key (facing world old out) (facing world mid out) (c.in_ok-user.ensures.read (with_out world out)) c.in_ok-user.ensures.files
    has.size has.node has.is_target has.openable (facing world now out) (has.passed (with_out world out)) c.in_ok-session.ensures.files has.secret c.write_content.result (facing world new after) has.opens_to
    (subst (λ (n : Name). ComesOut (PiecesLead n has.node has.secret) (λ _ _. KeepsDisk) c.write_content.result (facing world now out) (facing world new after)) has.name_is (c.write_content.ensures.ends has.secret has.node world has.tree_is has.openable.whole))
    (kept_then old now new (kept_then old mid now c.in_ok-user.ensures.disk c.in_ok-session.ensures.disk) c.write_content.ensures.disk)
