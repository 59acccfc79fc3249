use Rattle.std.proofs.Common.{◌∷◌, [], length, arith}
use Rattle.std.proofs.lemmas.Result.{err_from_is_err_and}
use Rattle.pf_io.specs.Host.{Wrote, Synced}
use Rattle.pf_session.proofs.Calls.{failed_write, stopped_first}
use Rattle.pf_session.proofs.CopiedFile.{unput_run, put_synced}
use Rattle.pf_session.proofs.moving.put_node.Goals as goal

pub returns-in_err-write_at-clause-goes : goal.returns-in_err-write_at-clause-goes
returns-in_err-write_at-clause-goes g c =
    let p = err_from_is_err_and c.from_residual.result c.from_residual.ensures.1 in
    let s0 = g.H.Host.state c.args.host.now in
    let s1 = g.H.Host.state c.write_at.new.self in
    let name = c.args.name.now in
    let node = c.args.node.now in
    rw p.1 (stopped_first (Wrote name 0 node) (Synced name ∷ []) s0 s1 (failed_write (length node) s0 s1 (omega (arith, c.told-node)) c.in_err-write_at.ensures.told c.in_err-write_at.ensures.cause.once c.write_at.ensures.counts))

pub returns-in_err-write_at-clause-disk : goal.returns-in_err-write_at-clause-disk
returns-in_err-write_at-clause-disk g c =
    let p = err_from_is_err_and c.from_residual.result c.from_residual.ensures.1 in
    let s0 = g.H.Host.state c.args.host.now in
    let s1 = g.H.Host.state c.write_at.new.self in
    rw p.1 (unput_run c.args.name.now c.args.node.now _ s0.honest s1.honest c.write_at.ensures.disk)

pub returns-clause-disk : goal.returns-clause-disk
returns-clause-disk g c =
    let s0 = g.H.Host.state c.args.host.now in
    let s1 = g.H.Host.state c.write_at.new.self in
    let s2 = g.H.Host.state c.sync.new.self in
    put_synced c.args.name.now c.args.node.now c.sync.result _ _ _ s0.honest s1.honest s2.honest c.in_ok-write_at.ensures.disk c.sync.ensures.disk
