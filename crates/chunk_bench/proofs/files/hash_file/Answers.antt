use Rattle.std.proofs.Common.{rules, ◌≡◌, ◌+◌, ◌*◌, ◌≤◌, ℕ, Option, length, refl, subst, ◌∙◌, arith}
use Rattle.std.proofs.lemmas.Result.{err_from_is_err_and}
use Rattle.pf_io.specs.Counts.{counted}
use Rattle.pf_io.specs.Host.{OnHonest, length_of}
use Rattle.pf_io.proofs.Unchanged.{kept_once, kept_then}
use Rattle.trusted_chunks.specs.Chunks.{CHUNK}
use Rattle.chunk_bench.proofs.Counting.{one_slice, more_slices}
use Rattle.chunk_bench.proofs.Hashing.{hashed_none, hashed_more, hashed_all, counts_file, slices_are}
use Rattle.chunk_bench.proofs.files.hash_file.Goals as goal

pub returns-in_err-len-clause-disk : goal.returns-in_err-len-clause-disk
returns-in_err-len-clause-disk g c = kept_once (g.H.Host.state c.args.host.now) (g.H.Host.state c.len.new.self) c.in_err-len.ensures.disk

pub returns-in_default-clause-disk : goal.returns-in_default-clause-disk
returns-in_default-clause-disk g c = kept_once (g.H.Host.state c.args.host.now) (g.H.Host.state c.len.new.self) c.in_ok-len.ensures.disk

pub loop-slice-init : goal.loop-slice-init
loop-slice-init g c =
    let told = c.in_ok-len.ensures in
    record {
      long = search rules;
      hashed = hashed_none c.args.name.now c.new-hasher.result (g.H.Host.state c.args.host.now) (g.H.Host.state c.len.new.self) c.new-hasher.ensures told.cause.still told.files told.counts told.disk;
    }

pub returns-in_err-n-clause-cause : goal.returns-in_err-n-clause-cause
returns-in_err-n-clause-cause g c =
    let p = err_from_is_err_and c.from_residual-in_err-n.result c.from_residual-in_err-n.ensures.1 in
    let cause = c.in_err-n.ensures.cause in
    let same = c.loop-slice.invariant.hashed.faults in
    let new = g.H.Host.state c.read_at.new.self in
    rw p.1 (record { later = subst (λ (a : ℕ). a ≤ new.faults) same cause.later; still = tt; once = subst (λ (a : ℕ). new.faults ≡ counted a) same cause.once })

pub returns-in_err-n-clause-disk : goal.returns-in_err-n-clause-disk
returns-in_err-n-clause-disk g c =
    let mid = g.H.Host.state c.loop-slice.host in
    let new = g.H.Host.state c.read_at.new.self in
    kept_then (g.H.Host.state c.args.host.now) mid new c.loop-slice.invariant.hashed.disk (kept_once mid new c.in_err-n.ensures.disk)

pub returns-in_err-n-clause-once : goal.returns-in_err-n-clause-once
returns-in_err-n-clause-once g c =
    let old = g.H.Host.state c.args.host.now in
    let mid = g.H.Host.state c.loop-slice.host in
    let new = g.H.Host.state c.read_at.new.self in
    let k = c.loop-slice.slice in
    let slices = slices_are c.in-Some.len c.div_ceil-slice-end.result c.div_ceil-slice-end.ensures in
    let within = slices.0 in
    counts_file (k + 1) c.in-Some.len c.args.name.now old new
    (more_slices k 1 (k + 1) old mid new c.loop-slice.invariant.hashed.counts (one_slice (length c.loop-slice.buffer) mid new c.loop-slice.invariant.long c.in_err-n.ensures.counts) (omega arith))
    (subst (λ (r : Option ℕ). OnHonest old (λ files. r ≡ length_of (files c.args.name.now))) c.in-Some.is c.in_ok-len.ensures.honest) (omega (arith, within, c.loop-slice-test.true))

pub loop-slice-preserved : goal.loop-slice-preserved
loop-slice-preserved g c =
    let told = c.in_ok-n.ensures in
    let was = c.loop-slice.invariant in
    let k = c.loop-slice.slice in
    record {
      long = told.rest.same_length ∙ was.long;
      hashed = hashed_more k (CHUNK * k) c.in_ok-n.n c.args.name.now c.loop-slice.buffer c.read_at.new.to c.loop-slice.hasher c.update.new.self (g.H.Host.state c.args.host.now) (g.H.Host.state c.loop-slice.host) (g.H.Host.state c.read_at.new.self)
          was.hashed refl was.long told.rest told.cause.still told.files told.counts told.honest told.disk c.update.ensures;
    }

pub returns-clause-cause : goal.returns-clause-cause
returns-clause-cause g c = let same = c.loop-slice.invariant.hashed.faults in record { later = omega (arith, same); still = same; once = tt }

pub returns-clause-disk : goal.returns-clause-disk
returns-clause-disk g c = c.loop-slice.invariant.hashed.disk

pub returns-clause-sum : goal.returns-clause-sum
returns-clause-sum g c =
    let old = g.H.Host.state c.args.host.now in
    let slices = slices_are c.in-Some.len c.div_ceil-slice-end.result c.div_ceil-slice-end.ensures in
    let end = slices.1 in
    hashed_all c.loop-slice.slice c.in-Some.len c.args.name.now c.loop-slice.hasher c.finalize.result old (g.H.Host.state c.loop-slice.host) c.loop-slice.invariant.hashed
    (subst (λ (r : Option ℕ). OnHonest old (λ files. r ≡ length_of (files c.args.name.now))) c.in-Some.is c.in_ok-len.ensures.honest) (omega (arith, end, c.loop-slice-test.false)) c.finalize.ensures

pub returns-clause-once : goal.returns-clause-once
returns-clause-once g c =
    let old = g.H.Host.state c.args.host.now in
    let slices = slices_are c.in-Some.len c.div_ceil-slice-end.result c.div_ceil-slice-end.ensures in
    let within = slices.0 in
    counts_file c.loop-slice.slice c.in-Some.len c.args.name.now old (g.H.Host.state c.loop-slice.host) c.loop-slice.invariant.hashed.counts
    (subst (λ (r : Option ℕ). OnHonest old (λ files. r ≡ length_of (files c.args.name.now))) c.in-Some.is c.in_ok-len.ensures.honest) (omega (arith, within, c.loop-slice.auto.slice-end))
