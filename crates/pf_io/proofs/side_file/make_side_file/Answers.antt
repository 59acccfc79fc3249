use Rattle.pf_io.specs.declared.faults.HostFault.{HostFault}
use Rattle.pf_io.proofs.SideFiles.{failed_with}
use Rattle.pf_io.proofs.SideEnds.{make_done, make_failed, piece_failed, write_done, sync_done, sync_failed}
use Rattle.pf_io.proofs.side_file.make_side_file.Goals as goal

pub returns-in_err-make-clause-failed : goal.returns-in_err-make-clause-failed
returns-in_err-make-clause-failed g c =
    let old = g.H.Host.state c.args.host.now in
    let made = g.H.Host.state c.make.new.self in
    failed_with c.from_residual.result _ c.from_residual.ensures.0
    (make_failed (Unit {0}) HostFault c.in_err-make.field-0.0 c.args.side.now c.args.bytes.now old made c.in_err-make.ensures.told c.in_err-make.ensures.counts c.in_err-make.ensures.disk)

pub returns-in_err-write_pieces-clause-failed : goal.returns-in_err-write_pieces-clause-failed
returns-in_err-write_pieces-clause-failed g c =
    let old = g.H.Host.state c.args.host.now in
    let made = g.H.Host.state c.make.new.self in
    let wrote = g.H.Host.state c.write_pieces.new.host in
    failed_with c.from_residual-in_err-write_pieces.result _ c.from_residual-in_err-write_pieces.ensures.0
    (piece_failed c.args.side.now c.args.bytes.now old made wrote
    (make_done (Unit {0}) HostFault tt c.args.side.now old made c.in_ok-make.ensures.told c.in_ok-make.ensures.counts c.in_ok-make.ensures.disk)
    c.in_err-write_pieces.ensures.failed)

pub returns-clause-done : goal.returns-clause-done
returns-clause-done g c =
    let old = g.H.Host.state c.args.host.now in
    let made = g.H.Host.state c.make.new.self in
    let wrote = g.H.Host.state c.write_pieces.new.host in
    let synced = g.H.Host.state c.sync.new.self in
    sync_done c.sync.result c.args.side.now c.args.bytes.now old wrote synced
    (write_done c.args.side.now c.args.bytes.now old made wrote
    (make_done (Unit {0}) HostFault tt c.args.side.now old made c.in_ok-make.ensures.told c.in_ok-make.ensures.counts c.in_ok-make.ensures.disk)
    c.in_ok-write_pieces.ensures.done)
    c.sync.ensures.told c.sync.ensures.counts c.sync.ensures.disk

pub returns-clause-failed : goal.returns-clause-failed
returns-clause-failed g c =
    let old = g.H.Host.state c.args.host.now in
    let made = g.H.Host.state c.make.new.self in
    let wrote = g.H.Host.state c.write_pieces.new.host in
    let synced = g.H.Host.state c.sync.new.self in
    sync_failed c.sync.result c.args.side.now c.args.bytes.now old wrote synced
    (write_done c.args.side.now c.args.bytes.now old made wrote
    (make_done (Unit {0}) HostFault tt c.args.side.now old made c.in_ok-make.ensures.told c.in_ok-make.ensures.counts c.in_ok-make.ensures.disk)
    c.in_ok-write_pieces.ensures.done)
    c.sync.ensures.told c.sync.ensures.counts c.sync.ensures.disk
