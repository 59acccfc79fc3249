use Rattle.std.proofs.Common.{◌*◌, length, arith}
use Rattle.pf_io.specs.declared.faults.HostFault.{HostFault}
use Rattle.pf_io.specs.SideFile.{pieces}
use Rattle.pf_io.proofs.SideFiles.{wrote_none, wrote_slice, failed_slice, pieces_done, piece_begins, piece_is, failed_with, failed_cause}
use Rattle.pf_io.proofs.side_file.write_pieces.Goals as goal

pub loop-count-init : goal.loop-count-init
loop-count-init g c = wrote_none c.args.side.now c.args.bytes.now (g.H.Host.state c.args.host.now)

pub returns-in_err-write_at-clause-cause : goal.returns-in_err-write_at-clause-cause
returns-in_err-write_at-clause-cause g c = failed_cause c.from_residual.result c.in_err-write_at.field-0.0 _ _ _ c.from_residual.ensures.0 c.loop-count.invariant.faults c.in_err-write_at.ensures.cause

pub returns-in_err-write_at-clause-failed : goal.returns-in_err-write_at-clause-failed
returns-in_err-write_at-clause-failed g c =
    let old = g.H.Host.state c.args.host.now in
    let mid = g.H.Host.state c.loop-count.host in
    let new = g.H.Host.state c.write_at.new.self in
    failed_with c.from_residual.result _ c.from_residual.ensures.0
    (failed_slice (Unit {0}) HostFault c.in_err-write_at.field-0.0 c.args.side.now c.args.bytes.now _ c.loop-count.count (pieces (length c.args.bytes.now)) old mid new
    (piece_is (c.loop-count.count * 32768) c.min.result c.args.bytes.now c.min.ensures) (omega (arith, c.div_ceil-count-end.ensures)) c.loop-count.invariant
    c.in_err-write_at.ensures.told c.in_err-write_at.ensures.counts c.in_err-write_at.ensures.disk)

pub loop-count-preserved : goal.loop-count-preserved
loop-count-preserved g c =
    let old = g.H.Host.state c.args.host.now in
    let mid = g.H.Host.state c.loop-count.host in
    let new = g.H.Host.state c.write_at.new.self in
    wrote_slice (Unit {0}) HostFault tt c.args.side.now c.args.bytes.now _ c.loop-count.count old mid new
    (piece_is (c.loop-count.count * 32768) c.min.result c.args.bytes.now c.min.ensures) (omega (arith, piece_begins c.loop-count.count _ (length c.args.bytes.now) c.div_ceil-count-end.ensures (omega arith))) c.loop-count.invariant
    c.in_ok-write_at.ensures.cause.still c.in_ok-write_at.ensures.told c.in_ok-write_at.ensures.counts c.in_ok-write_at.ensures.disk

pub returns-clause-cause : goal.returns-clause-cause
returns-clause-cause g c = record { later = omega (arith, c.loop-count.invariant.faults); still = c.loop-count.invariant.faults; once = tt }

pub returns-clause-done : goal.returns-clause-done
returns-clause-done g c =
    pieces_done c.args.side.now c.args.bytes.now c.loop-count.count (g.H.Host.state c.args.host.now) (g.H.Host.state c.loop-count.host) (omega (arith, c.div_ceil-count-end.ensures)) c.loop-count.invariant
