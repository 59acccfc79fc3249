use Rattle.pf_io.specs.declared.faults.HostFault.{HostFault}
use Rattle.std.proofs.lemmas.Result.{err_from_is_err_and}
use Rattle.pf_session.proofs.Renamed.{unsynced_run, unswapped_run, removed_run, unsynced_goes, unswapped_goes, removed_goes}
use Rattle.pf_session.proofs.moving.change_name.Goals as goal

pub returns-in_err-sync-clause-goes : goal.returns-in_err-sync-clause-goes
returns-in_err-sync-clause-goes g c =
    let p = err_from_is_err_and c.from_residual.result c.from_residual.ensures.1 in
    let s0 = g.H.Host.state c.args.host.now in
    let s1 = g.H.Host.state c.sync.new.self in
    rw p.1 (unsynced_goes c.args.from.now c.args.to.now c.requires.old c.args.side.now c.args.recovery.now c.requires.side c.requires.recovery s0 s1 c.in_err-sync.ensures.told c.in_err-sync.ensures.cause.once c.sync.ensures.counts)

pub returns-in_err-sync-clause-disk : goal.returns-in_err-sync-clause-disk
returns-in_err-sync-clause-disk g c =
    let p = err_from_is_err_and c.from_residual.result c.from_residual.ensures.1 in
    let s0 = g.H.Host.state c.args.host.now in
    let s1 = g.H.Host.state c.sync.new.self in
    rw p.1 (unsynced_run c.args.from.now c.args.to.now c.requires.old c.args.side.now c.args.recovery.now c.requires.side c.requires.recovery _ _ _ s0.honest s1.honest c.in_err-sync.ensures.disk)

pub returns-in_err-swap_name-clause-goes : goal.returns-in_err-swap_name-clause-goes
returns-in_err-swap_name-clause-goes g c =
    let p = err_from_is_err_and c.from_residual-in_err-swap_name.result c.from_residual-in_err-swap_name.ensures.1 in
    let s0 = g.H.Host.state c.args.host.now in
    let s1 = g.H.Host.state c.sync.new.self in
    let s2 = g.H.Host.state c.swap_name.new.self in
    rw p.1 (unswapped_goes c.args.from.now c.args.to.now c.requires.old c.args.side.now c.args.recovery.now c.requires.side c.requires.recovery s0 s1 c.in_ok-sync.ensures.told c.in_ok-sync.ensures.cause.still c.sync.ensures.counts
    s2 c.in_err-swap_name.ensures.told c.in_err-swap_name.ensures.cause.once c.swap_name.ensures.counts)

pub returns-in_err-swap_name-clause-disk : goal.returns-in_err-swap_name-clause-disk
returns-in_err-swap_name-clause-disk g c =
    let p = err_from_is_err_and c.from_residual-in_err-swap_name.result c.from_residual-in_err-swap_name.ensures.1 in
    let s0 = g.H.Host.state c.args.host.now in
    let s1 = g.H.Host.state c.sync.new.self in
    let s2 = g.H.Host.state c.swap_name.new.self in
    rw p.1 (unswapped_run c.args.from.now c.args.to.now c.requires.old c.args.side.now c.args.recovery.now c.requires.side c.requires.recovery (Unit {0}) HostFault c.in_err-swap_name.field-0.0 (Unit {0}) HostFault tt s0.honest s1.honest s2.honest c.in_ok-sync.ensures.disk c.in_err-swap_name.ensures.disk)

pub returns-clause-goes : goal.returns-clause-goes
returns-clause-goes g c =
    let s0 = g.H.Host.state c.args.host.now in
    let s1 = g.H.Host.state c.sync.new.self in
    let s2 = g.H.Host.state c.swap_name.new.self in
    let s3 = g.H.Host.state c.remove.new.self in
    removed_goes c.args.from.now c.args.to.now c.requires.old c.args.side.now c.args.recovery.now c.requires.side c.requires.recovery s0 s1 c.in_ok-sync.ensures.told c.in_ok-sync.ensures.cause.still c.sync.ensures.counts
    s2 c.in_ok-swap_name.ensures.told c.in_ok-swap_name.ensures.cause.still c.swap_name.ensures.counts c.remove.result s3 c.remove.ensures.told c.remove.ensures.cause c.remove.ensures.counts

pub returns-clause-disk : goal.returns-clause-disk
returns-clause-disk g c =
    let s0 = g.H.Host.state c.args.host.now in
    let s1 = g.H.Host.state c.sync.new.self in
    let s2 = g.H.Host.state c.swap_name.new.self in
    let s3 = g.H.Host.state c.remove.new.self in
    removed_run c.args.from.now c.args.to.now c.requires.old c.args.side.now c.args.recovery.now c.requires.side c.requires.recovery c.remove.result (Unit {0}) HostFault tt (Unit {0}) HostFault tt s0.honest s1.honest s2.honest s3.honest
    c.in_ok-sync.ensures.disk c.in_ok-swap_name.ensures.disk c.remove.ensures.disk
