use Rattle.std.proofs.Common.{subst, sym, arith, Err}
use Rattle.std.proofs.lemmas.Result.{err_from_is_err_and}
use Rattle.pf_io.specs.Host.{Both}
use Rattle.pf_io.specs.Moments.{Ran}
use Rattle.pf_session.specs.Copying.{CopyGoes, CopyLeaves, clean_below}
use Rattle.pf_session.specs.Sealing.{LeavesOthers}
use Rattle.pf_session.specs.declared.fault.FlushFault.{FlushFault}
use Rattle.pf_io.specs.Counts.{HasCause}
use Rattle.pf_session.specs.Flushing.{host_part}
use Rattle.pf_session.proofs.CopyLoop.{copy_cause, copied_cause, copied_to_first, copied_to_next, copy_stops, copy_stops_disk, copied_all, copied_all_disk}
use Rattle.pf_session.proofs.copying.copy_clean.Goals as goal

pub loop-number-init : goal.loop-number-init
loop-number-init g c = copied_to_first c.args.from.now c.args.to.now c.args.dirty.now c.args.count (g.H.Host.state c.args.host.now)

pub loop-number-preserved : goal.loop-number-preserved
loop-number-preserved g c =
    copied_to_next c.args.from.now c.args.to.now c.args.dirty.now c.args.count c.loop-number.number (g.H.Host.state c.args.host.now) (g.H.Host.state c.loop-number.host) (g.H.Host.state c.copy_where_clean.new.host) c.requires.apart (omega arith) c.loop-number.invariant
    c.in_ok-copy_where_clean.ensures.goes c.in_ok-copy_where_clean.ensures.disk

pub returns-in_err-copy_where_clean-clause-goes : goal.returns-in_err-copy_where_clean-clause-goes
returns-in_err-copy_where_clean-clause-goes g c =
    let p = err_from_is_err_and c.from_residual.result c.from_residual.ensures.1 in
    rw p.1 (subst (λ (f : FlushFault). CopyGoes (Err f) c.args.from.now c.args.to.now (clean_below c.args.dirty.now c.args.count) (g.H.Host.state c.args.host.now) (g.H.Host.state c.copy_where_clean.new.host)) (sym p.2)
    (copy_stops c.args.from.now c.args.to.now c.args.dirty.now c.args.count c.loop-number.number (g.H.Host.state c.args.host.now) (g.H.Host.state c.loop-number.host) (g.H.Host.state c.copy_where_clean.new.host) c.requires.apart (omega arith) c.loop-number.invariant
    c.in_err-copy_where_clean.field-0.0 c.in_err-copy_where_clean.ensures.goes))

pub returns-in_err-copy_where_clean-clause-disk : goal.returns-in_err-copy_where_clean-clause-disk
returns-in_err-copy_where_clean-clause-disk g c =
    let p = err_from_is_err_and c.from_residual.result c.from_residual.ensures.1 in
    rw p.1 (subst (λ (f : FlushFault). Both (g.H.Host.state c.args.host.now).honest (g.H.Host.state c.copy_where_clean.new.host).honest (Ran (LeavesOthers c.args.to.now) (CopyLeaves (Err f) c.args.from.now c.args.to.now (clean_below c.args.dirty.now c.args.count)))) (sym p.2)
    (copy_stops_disk c.args.from.now c.args.to.now c.args.dirty.now c.args.count c.loop-number.number (g.H.Host.state c.args.host.now) (g.H.Host.state c.loop-number.host) (g.H.Host.state c.copy_where_clean.new.host) c.requires.apart (omega arith) c.loop-number.invariant
    c.in_err-copy_where_clean.field-0.0 c.in_err-copy_where_clean.ensures.disk))

pub returns-clause-goes : goal.returns-clause-goes
returns-clause-goes g c =
    copied_all c.args.from.now c.args.to.now c.args.dirty.now c.args.count c.loop-number.number (g.H.Host.state c.args.host.now) (g.H.Host.state c.loop-number.host) (omega arith) c.loop-number.invariant

pub returns-clause-disk : goal.returns-clause-disk
returns-clause-disk g c =
    copied_all_disk c.args.from.now c.args.to.now c.args.dirty.now c.args.count c.loop-number.number (g.H.Host.state c.args.host.now) (g.H.Host.state c.loop-number.host) (omega arith) c.loop-number.invariant

pub returns-in_err-copy_where_clean-clause-cause : goal.returns-in_err-copy_where_clean-clause-cause
returns-in_err-copy_where_clean-clause-cause g c =
    let p = err_from_is_err_and c.from_residual.result c.from_residual.ensures.1 in
    rw p.1 (subst (λ (f : FlushFault). HasCause (g.H.Host.state c.args.host.now).faults (g.H.Host.state c.copy_where_clean.new.host).faults (host_part (Err f))) (sym p.2)
    (copy_cause (host_part (Err c.in_err-copy_where_clean.field-0.0)) c.args.from.now c.args.to.now c.args.dirty.now c.args.count c.loop-number.number (g.H.Host.state c.args.host.now) (g.H.Host.state c.loop-number.host) (g.H.Host.state c.copy_where_clean.new.host)
    c.loop-number.invariant c.in_err-copy_where_clean.ensures.cause))

pub returns-clause-cause : goal.returns-clause-cause
returns-clause-cause g c =
    copied_cause c.args.from.now c.args.to.now c.args.dirty.now c.args.count c.loop-number.number (g.H.Host.state c.args.host.now) (g.H.Host.state c.loop-number.host) c.loop-number.invariant
