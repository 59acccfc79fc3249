use Rattle.std.proofs.Common.{ℕ, List, sym, subst, arith, Ok, Err}
use Rattle.std.proofs.lemmas.Result.{err_from_is_err_and}
use Rattle.pf_io.proofs.Unchanged.{kept_then}
use Rattle.pf_io.proofs.Slices.{cause_on}
use Rattle.file_sums.specs.Taking.{SliceEnds}
use Rattle.file_sums.specs.declared.fault.SumFault.{SumFault}
use Rattle.file_sums.proofs.Taken.{none_taken, taken_more, taken_last, taken_failed, failed_cause}
use Rattle.file_sums.proofs.summing.sum_slices.Goals as goal

pub loop-n-init : goal.loop-n-init
loop-n-init g c = none_taken c.args.name.now c.new-hasher.result (g.H.Host.state c.args.host.now) c.new-hasher.ensures

pub take_slice-requires : goal.take_slice-requires
take_slice-requires g c = let a = c.loop-n.invariant.len_is in let b = c.loop-n.invariant.within in omega (arith, a, b)

pub returns-in_err-n-clause-cause : goal.returns-in_err-n-clause-cause
returns-in_err-n-clause-cause g c =
    let p = err_from_is_err_and c.from_residual.result c.from_residual.ensures.1 in
    let old = g.H.Host.state c.args.host.now in
    let mid = g.H.Host.state c.loop-n.host in
    let new = g.H.Host.state c.take_slice.new.host in
    rw p.1 (failed_cause ℕ (List ℕ) p.0 _ old.faults mid.faults new.faults p.2 c.loop-n.invariant.faults c.in_err-n.ensures.cause)

pub returns-in_err-n-clause-disk : goal.returns-in_err-n-clause-disk
returns-in_err-n-clause-disk g c = kept_then (g.H.Host.state c.args.host.now) (g.H.Host.state c.loop-n.host) (g.H.Host.state c.take_slice.new.host) c.loop-n.invariant.disk c.in_err-n.ensures.disk

pub returns-in_err-n-clause-takes : goal.returns-in_err-n-clause-takes
returns-in_err-n-clause-takes g c =
    let p = err_from_is_err_and c.from_residual.result c.from_residual.ensures.1 in
    let old = g.H.Host.state c.args.host.now in
    let mid = g.H.Host.state c.loop-n.host in
    let new = g.H.Host.state c.take_slice.new.host in
    rw p.1 (taken_failed p.0 c.args.name.now c.loop-n.len c.loop-n.hasher c.take_slice.new.hasher old mid new c.loop-n.invariant
    (subst (λ (x : SumFault). SliceEnds (Err x) c.args.name.now c.loop-n.len c.loop-n.hasher c.take_slice.new.hasher mid new) (sym p.2) c.in_err-n.ensures.ends))

pub returns-then-n-lt-SLICE-clause-cause : goal.returns-then-n-lt-SLICE-clause-cause
returns-then-n-lt-SLICE-clause-cause g c =
    cause_on (g.H.Host.state c.args.host.now).faults (g.H.Host.state c.loop-n.host).faults (g.H.Host.state c.take_slice.new.host).faults (Ok tt) c.loop-n.invariant.faults c.in_ok-n.ensures.cause

pub returns-then-n-lt-SLICE-clause-disk : goal.returns-then-n-lt-SLICE-clause-disk
returns-then-n-lt-SLICE-clause-disk g c = kept_then (g.H.Host.state c.args.host.now) (g.H.Host.state c.loop-n.host) (g.H.Host.state c.take_slice.new.host) c.loop-n.invariant.disk c.in_ok-n.ensures.disk

pub returns-then-n-lt-SLICE-clause-takes : goal.returns-then-n-lt-SLICE-clause-takes
returns-then-n-lt-SLICE-clause-takes g c =
    taken_last c.args.name.now c.loop-n.len c.in_ok-n.n c.loop-n.hasher c.take_slice.new.hasher (g.H.Host.state c.args.host.now) (g.H.Host.state c.loop-n.host) (g.H.Host.state c.take_slice.new.host)
    c.finalize.result c.loop-n.invariant c.in_ok-n.ensures.ends c.if-n-lt-SLICE.true c.finalize.ensures

pub loop-n-smaller : goal.loop-n-smaller
loop-n-smaller g c = let e = c.in_ok-n.ensures.ends in let a = e.within in let b = e.length_is in omega (arith, a, b, c.if-n-lt-SLICE.false)

pub loop-n-preserved : goal.loop-n-preserved
loop-n-preserved g c =
    let short = c.in_ok-n.ensures.short in
    taken_more c.args.name.now c.loop-n.len c.in_ok-n.n c.loop-n.hasher c.take_slice.new.hasher (g.H.Host.state c.args.host.now) (g.H.Host.state c.loop-n.host) (g.H.Host.state c.take_slice.new.host)
    c.loop-n.invariant c.in_ok-n.ensures.ends (omega (arith, short, c.if-n-lt-SLICE.false)) c.in_ok-n.ensures.cause.still c.in_ok-n.ensures.disk
