use Rattle.std.proofs.Common.{◌∷◌, [], length, refl, arith}
use Rattle.std.proofs.lemmas.Result.{err_from_is_err_and}
use Rattle.pf_io.specs.Host.{Wrote, Synced, Made}
use Rattle.pf_session.specs.Asking.{NoCall}
use Rattle.pf_session.proofs.Calls.{asked_then, asked_neither, asked_write, failed_neither, stopped_first}
use Rattle.pf_session.proofs.Placing.{made_run, unmade_run, unwritten_run, written_run, synced_run, synced_goes}
use Rattle.pf_session.proofs.creating.make_side.Goals as goal

pub returns-in_err-make-clause-goes : goal.returns-in_err-make-clause-goes
returns-in_err-make-clause-goes g c =
    let p = err_from_is_err_and c.from_residual.result c.from_residual.ensures.1 in
    let s0 = g.H.Host.state c.args.host.now in
    let s1 = g.H.Host.state c.make.new.self in
    let side = c.args.side.now in
    rw p.1 (stopped_first (Made side) (Wrote side 0 c.args.node.now ∷ Synced side ∷ []) s0 s1 (failed_neither s0 s1 c.in_err-make.ensures.told c.in_err-make.ensures.cause.once c.make.ensures.counts))

pub returns-in_err-make-clause-disk : goal.returns-in_err-make-clause-disk
returns-in_err-make-clause-disk g c =
    let p = err_from_is_err_and c.from_residual.result c.from_residual.ensures.1 in
    let s0 = g.H.Host.state c.args.host.now in
    let s1 = g.H.Host.state c.make.new.self in
    rw p.1 (unmade_run c.args.side.now c.args.node.now _ s0.honest s1.honest c.make.ensures.disk)

pub returns-in_err-write_at-clause-disk : goal.returns-in_err-write_at-clause-disk
returns-in_err-write_at-clause-disk g c =
    let p = err_from_is_err_and c.from_residual-in_err-write_at.result c.from_residual-in_err-write_at.ensures.1 in
    let s0 = g.H.Host.state c.args.host.now in
    let s1 = g.H.Host.state c.make.new.self in
    let s2 = g.H.Host.state c.write_at.new.self in
    let made = made_run c.args.side.now c.args.node.now _ s0.honest s1.honest (λ d e goes. goes) c.in_ok-make.ensures.disk in
    rw p.1 (unwritten_run c.args.side.now c.args.node.now _ s0.honest s1.honest s2.honest made c.write_at.ensures.disk)

pub returns-clause-goes : goal.returns-clause-goes
returns-clause-goes g c =
    let s0 = g.H.Host.state c.args.host.now in
    let s1 = g.H.Host.state c.make.new.self in
    let s2 = g.H.Host.state c.write_at.new.self in
    let s3 = g.H.Host.state c.sync.new.self in
    let side = c.args.side.now in
    let node = c.args.node.now in
    let made = asked_neither (Made side) s0 s1 refl refl c.in_ok-make.ensures.told c.in_ok-make.ensures.cause.still c.make.ensures.counts in
    let wrote = asked_write side 0 (length node) node s1 s2 (omega (arith, c.told-node)) c.in_ok-write_at.ensures.told c.in_ok-write_at.ensures.cause.still c.write_at.ensures.counts in
    synced_goes side node c.sync.result s0 s2 s3 (asked_then (Made side ∷ []) (Wrote side 0 node ∷ []) NoCall s0 s1 s2 made wrote) c.sync.ensures.told c.sync.ensures.cause c.sync.ensures.counts

pub returns-clause-disk : goal.returns-clause-disk
returns-clause-disk g c =
    let s0 = g.H.Host.state c.args.host.now in
    let s1 = g.H.Host.state c.make.new.self in
    let s2 = g.H.Host.state c.write_at.new.self in
    let s3 = g.H.Host.state c.sync.new.self in
    let side = c.args.side.now in
    let node = c.args.node.now in
    let made = made_run side node _ s0.honest s1.honest (λ d e goes. goes) c.in_ok-make.ensures.disk in
    synced_run side node c.sync.result s0.honest s2.honest s3.honest (written_run side node _ _ _ s0.honest s1.honest s2.honest made c.in_ok-write_at.ensures.disk) c.sync.ensures.disk
