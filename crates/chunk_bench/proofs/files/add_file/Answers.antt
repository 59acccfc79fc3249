use Rattle.std.proofs.Common.{rules, ◌+◌, ◌*◌, ◌≤◌, ℕ, Err, sym, subst, ◌∙◌, arith}
use Rattle.std.proofs.lemmas.Result.{err_from_is_err_and}
use Rattle.pf_io.specs.Counts.{HasCause}
use Rattle.pf_io.proofs.Unchanged.{kept_then}
use Rattle.trusted_chunks.specs.Reading.{ReadsFew, HonestRead, host_part as read_part}
use Rattle.trusted_chunks.specs.declared.fault.ChunkFault.{ChunkFault}
use Rattle.chunk_bench.proofs.Adding.{PIECE, AddedTo, added_none, added_more, added_all, added_failed, counts_all, counts_failed, pieces_are}
use Rattle.chunk_bench.proofs.files.add_file.Goals as goal

pub loop-piece-init : goal.loop-piece-init
loop-piece-init g c = record { long = search rules; added = added_none c.args.file.now (g.H.Host.state c.args.host.now) }

pub returns-in_err-n-clause-cause : goal.returns-in_err-n-clause-cause
returns-in_err-n-clause-cause g c =
    let p = err_from_is_err_and c.from_residual.result c.from_residual.ensures.1 in
    let old = g.H.Host.state c.args.host.now in
    let new = g.H.Host.state c.read.new.host in
    let cause = subst (λ (a : ℕ). HasCause a new.faults (read_part {T = ℕ} (Err c.in_err-n.field-0.0))) c.loop-piece.invariant.added.faults c.in_err-n.ensures.cause in
    rw p.1 (subst (λ (x : ChunkFault). HasCause old.faults new.faults (read_part {T = ℕ} (Err x))) (sym p.2) cause)

pub returns-in_err-n-clause-disk : goal.returns-in_err-n-clause-disk
returns-in_err-n-clause-disk g c = kept_then (g.H.Host.state c.args.host.now) (g.H.Host.state c.loop-piece.host) (g.H.Host.state c.read.new.host) c.loop-piece.invariant.added.disk c.in_err-n.ensures.disk

pub returns-in_err-n-clause-adds : goal.returns-in_err-n-clause-adds
returns-in_err-n-clause-adds g c =
    let p = err_from_is_err_and c.from_residual.result c.from_residual.ensures.1 in
    let mid = g.H.Host.state c.loop-piece.host in
    let at = PIECE * c.loop-piece.piece in
    rw p.1 (added_failed p.0 c.loop-piece.piece c.loop-piece.total c.args.file.now c.loop-piece.file c.read.new.self c.read.new.to (g.H.Host.state c.args.host.now) mid c.loop-piece.invariant.added
    (subst (λ (x : ChunkFault). HonestRead (Err x) at c.read.new.to c.loop-piece.file c.read.new.self mid) (sym p.2) c.in_err-n.ensures.honest))

pub returns-in_err-n-clause-once : goal.returns-in_err-n-clause-once
returns-in_err-n-clause-once g c =
    let mid = g.H.Host.state c.loop-piece.host in
    let new = g.H.Host.state c.read.new.host in
    let k = c.loop-piece.piece in
    let pieces = pieces_are c.args.file.now.size c.len.result c.div_ceil-piece-end.result c.len.ensures c.div_ceil-piece-end.ensures in
    counts_failed k c.loop-piece.total c.args.file.now c.loop-piece.file (g.H.Host.state c.args.host.now) mid new c.loop-piece.invariant.added (pieces.0 k c.loop-piece-test.true)
    (subst (λ (room : ℕ). ReadsFew (PIECE * k) room c.loop-piece.file mid new) c.loop-piece.invariant.long c.in_err-n.ensures.few)

pub overflow_add-total : goal.overflow_add-total
overflow_add-total g c =
    let small = c.loop-piece.invariant.added.small in
    omega (arith, small, c.add.ensures.small, c.loop-piece-test.true, c.div_ceil-piece-end.type_inv)

pub loop-piece-preserved : goal.loop-piece-preserved
loop-piece-preserved g c =
    let told = c.in_ok-n.ensures in
    let was = c.loop-piece.invariant in
    let old = g.H.Host.state c.args.host.now in
    let mid = g.H.Host.state c.loop-piece.host in
    let new = g.H.Host.state c.read.new.host in
    let k = c.loop-piece.piece in
    let pieces = pieces_are c.args.file.now.size c.len.result c.div_ceil-piece-end.result c.len.ensures c.div_ceil-piece-end.ensures in
    let long = told.rest.same_length ∙ was.long in
    let few = subst (λ (room : ℕ). ReadsFew (PIECE * k) room c.loop-piece.file mid new) was.long told.few in
    let small = subst (λ (t : ℕ). t ≤ 255 * PIECE) c.add.ensures.sum c.add.ensures.small in
    record {
      long = long;
      added = subst (λ (t : ℕ). AddedTo (k + 1) (c.loop-piece.total + t) c.args.file.now c.read.new.self old new) (sym c.add.ensures.sum)
          (added_more k c.in_ok-n.n c.loop-piece.total c.args.file.now c.loop-piece.file c.read.new.self c.read.new.to old mid new was.added (pieces.0 k c.loop-piece-test.true) long small told.cause.still told.disk told.reads few told.honest);
    }

pub returns-clause-cause : goal.returns-clause-cause
returns-clause-cause g c = let same = c.loop-piece.invariant.added.faults in record { later = omega (arith, same); still = same; once = tt }

pub returns-clause-disk : goal.returns-clause-disk
returns-clause-disk g c = c.loop-piece.invariant.added.disk

pub returns-clause-adds : goal.returns-clause-adds
returns-clause-adds g c =
    let pieces = pieces_are c.args.file.now.size c.len.result c.div_ceil-piece-end.result c.len.ensures c.div_ceil-piece-end.ensures in
    let end = pieces.1 in
    added_all c.loop-piece.piece c.loop-piece.total c.args.file.now c.loop-piece.file (g.H.Host.state c.args.host.now) (g.H.Host.state c.loop-piece.host) c.loop-piece.invariant.added (omega (arith, end, c.loop-piece-test.false))

pub returns-clause-once : goal.returns-clause-once
returns-clause-once g c = counts_all c.loop-piece.piece c.loop-piece.total c.args.file.now c.loop-piece.file (g.H.Host.state c.args.host.now) (g.H.Host.state c.loop-piece.host) c.loop-piece.invariant.added
