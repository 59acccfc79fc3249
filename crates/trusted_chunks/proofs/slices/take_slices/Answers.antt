use Rattle.std.proofs.Common.{◌+◌, ℕ, sym, subst, arith, refl, Err, Ok}
use Rattle.std.proofs.lemmas.Result.{err_from_is_err_and}
use Rattle.pf_io.proofs.Unchanged.{kept_then}
use Rattle.trusted_chunks.specs.Taking.{SliceEnds}
use Rattle.trusted_chunks.specs.declared.fault.TrustFault.{TrustFault}
use Rattle.trusted_chunks.specs.declared.slices.Taken.{Taken}
use Rattle.pf_io.proofs.Slices.{cause_on}
use Rattle.trusted_chunks.proofs.TakenUp.{none_taken, taken_more, taken_last, taken_failed, failed_cause}
use Rattle.trusted_chunks.proofs.slices.take_slices.Goals as goal

pub loop-hashes-init : goal.loop-hashes-init
loop-hashes-init g c = rw c.new-hashes.ensures.items (none_taken c.args.name.now c.new-hasher.result (g.H.Host.state c.args.host.now) c.new-hasher.ensures)

pub take_slice-requires : goal.take_slice-requires
take_slice-requires g c = let a = c.loop-hashes.invariant.len_is in let b = c.loop-hashes.invariant.within in omega (arith, a, b)

pub returns-in_err-n-clause-cause : goal.returns-in_err-n-clause-cause
returns-in_err-n-clause-cause g c =
    let p = err_from_is_err_and c.from_residual.result c.from_residual.ensures.1 in
    let old = g.H.Host.state c.args.host.now in
    let mid = g.H.Host.state c.loop-hashes.host in
    let new = g.H.Host.state c.take_slice.new.host in
    rw p.1 (failed_cause ℕ Taken p.0 _ old.faults mid.faults new.faults p.2 c.loop-hashes.invariant.faults c.in_err-n.ensures.cause)

pub returns-in_err-n-clause-disk : goal.returns-in_err-n-clause-disk
returns-in_err-n-clause-disk g c = kept_then (g.H.Host.state c.args.host.now) (g.H.Host.state c.loop-hashes.host) (g.H.Host.state c.take_slice.new.host) c.loop-hashes.invariant.disk c.in_err-n.ensures.disk

pub returns-in_err-n-clause-takes : goal.returns-in_err-n-clause-takes
returns-in_err-n-clause-takes g c =
    let p = err_from_is_err_and c.from_residual.result c.from_residual.ensures.1 in
    let old = g.H.Host.state c.args.host.now in
    let mid = g.H.Host.state c.loop-hashes.host in
    let new = g.H.Host.state c.take_slice.new.host in
    rw p.1 (taken_failed p.0 c.args.name.now c.loop-hashes.len c.loop-hashes.hashes.items c.take_slice.new.hashes.items c.loop-hashes.hasher c.take_slice.new.hasher old mid new c.loop-hashes.invariant
    (subst (λ (x : TrustFault). SliceEnds (Err x) c.args.name.now c.loop-hashes.len c.loop-hashes.hashes.items c.take_slice.new.hashes.items c.loop-hashes.hasher c.take_slice.new.hasher mid new) (sym p.2) c.in_err-n.ensures.ends))

pub returns-then-n-lt-CHUNK-clause-cause : goal.returns-then-n-lt-CHUNK-clause-cause
returns-then-n-lt-CHUNK-clause-cause g c =
    cause_on (g.H.Host.state c.args.host.now).faults (g.H.Host.state c.loop-hashes.host).faults (g.H.Host.state c.take_slice.new.host).faults (Ok tt) c.loop-hashes.invariant.faults c.in_ok-n.ensures.cause

pub returns-then-n-lt-CHUNK-clause-disk : goal.returns-then-n-lt-CHUNK-clause-disk
returns-then-n-lt-CHUNK-clause-disk g c = kept_then (g.H.Host.state c.args.host.now) (g.H.Host.state c.loop-hashes.host) (g.H.Host.state c.take_slice.new.host) c.loop-hashes.invariant.disk c.in_ok-n.ensures.disk

pub returns-then-n-lt-CHUNK-clause-takes : goal.returns-then-n-lt-CHUNK-clause-takes
returns-then-n-lt-CHUNK-clause-takes g c =
    taken_last c.args.name.now c.loop-hashes.len c.in_ok-n.n c.loop-hashes.hashes.items c.loop-hashes.hasher c.take_slice.new.hasher (g.H.Host.state c.args.host.now) (g.H.Host.state c.loop-hashes.host) (g.H.Host.state c.take_slice.new.host)
    (record { len = c.loop-hashes.len + c.in_ok-n.n; hashes = c.take_slice.new.hashes; sum = c.finalize.result }) c.loop-hashes.invariant c.in_ok-n.ensures.ends c.if-n-lt-CHUNK.true refl c.finalize.ensures

pub loop-hashes-smaller : goal.loop-hashes-smaller
loop-hashes-smaller g c = let e = c.in_ok-n.ensures.ends in let a = e.within in let b = e.length_is in omega (arith, a, b, c.if-n-lt-CHUNK.false)

pub loop-hashes-preserved : goal.loop-hashes-preserved
loop-hashes-preserved g c =
    let short = c.in_ok-n.ensures.short in
    taken_more c.args.name.now c.loop-hashes.len c.in_ok-n.n c.loop-hashes.hashes.items c.take_slice.new.hashes.items c.loop-hashes.hasher c.take_slice.new.hasher (g.H.Host.state c.args.host.now) (g.H.Host.state c.loop-hashes.host) (g.H.Host.state c.take_slice.new.host)
    c.loop-hashes.invariant c.in_ok-n.ensures.ends (omega (arith, short, c.if-n-lt-CHUNK.false)) c.in_ok-n.ensures.cause.still c.in_ok-n.ensures.disk
