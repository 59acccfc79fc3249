use Rattle.std.proofs.Common.{◌≡◌, ◌∙◌, ◌+◌, ◌∷◌, [], ◌++◌, List, ℕ, take, drop, slice_index, ap, sym, subst, refl, Err, Ok, arith}
use Rattle.std.proofs.lemmas.Result.{err_from_is_err_and}
use Rattle.std.proofs.lemmas.List.{take_all, take-append-drop}
use Rattle.std.proofs.lemmas.Grind.{take_at_read}
use Rattle.pf_io.proofs.Unchanged.{kept_none, kept_then}
use Rattle.trusted_chunks.specs.Reading.{Fetches}
use Rattle.trusted_chunks.specs.Fetching.{hash_in}
use Rattle.trusted_chunks.specs.declared.fault.ChunkFault.{ChunkFault}
use Rattle.trusted_chunks.proofs.Fetched.{fetched_none, fetched_then, fetched_failed, failed_cause}
use Rattle.trusted_chunks.proofs.fetching.fetch_all.Goals as goal

pub loop-chunk-init : goal.loop-chunk-init
loop-chunk-init g c = record {
  fetches = fetched_none c.args.name.now (hash_in c.args.hashes.now) c.args.kept.now.entries (g.H.Host.state c.args.host.now);
  cap_is = c.requires.room;
  faults = refl;
  disk = kept_none (g.H.Host.state c.args.host.now);
}

pub fetch_one-requires-clause-room : goal.fetch_one-requires-clause-room
fetch_one-requires-clause-room g c = c.loop-chunk.invariant.cap_is

pub returns-in_err-fetch_one-clause-cause : goal.returns-in_err-fetch_one-clause-cause
returns-in_err-fetch_one-clause-cause g c =
    let p = err_from_is_err_and c.from_residual.result c.from_residual.ensures.1 in
    let old = g.H.Host.state c.args.host.now in
    let mid = g.H.Host.state c.loop-chunk.host in
    let new = g.H.Host.state c.fetch_one.new.host in
    rw p.1 (failed_cause (Unit {0}) (Unit {0}) p.0 _ old.faults mid.faults new.faults p.2 c.loop-chunk.invariant.faults c.in_err-fetch_one.ensures.cause)

pub returns-in_err-fetch_one-clause-disk : goal.returns-in_err-fetch_one-clause-disk
returns-in_err-fetch_one-clause-disk g c = kept_then (g.H.Host.state c.args.host.now) (g.H.Host.state c.loop-chunk.host) (g.H.Host.state c.fetch_one.new.host) c.loop-chunk.invariant.disk c.in_err-fetch_one.ensures.disk

pub returns-in_err-fetch_one-clause-fetches : goal.returns-in_err-fetch_one-clause-fetches
returns-in_err-fetch_one-clause-fetches g c =
    let p = err_from_is_err_and c.from_residual.result c.from_residual.ensures.1 in
    let old = g.H.Host.state c.args.host.now in
    let mid = g.H.Host.state c.loop-chunk.host in
    let new = g.H.Host.state c.fetch_one.new.host in
    let hash = hash_in c.args.hashes.now in
    let i = c.loop-chunk.chunk-index in
    let chunks = c.args.chunks.now in
    let one = (slice_index chunks i) ∷ [] in
    let all : (take i chunks ++ one) ++ drop (i + 1) chunks ≡ chunks = ap (λ (l : List ℕ). l ++ drop (i + 1) chunks) (sym (take_at_read chunks i 0 (omega arith)).1) ∙ take-append-drop (i + 1) chunks in
    rw p.1 (subst (λ (l : List ℕ). Fetches {T = Unit {0}} (Err p.0) c.args.name.now hash l c.args.kept.now.entries c.fetch_one.new.kept.entries old new) all
    (fetched_failed (Unit {0}) p.0 c.args.name.now hash (take i chunks ++ one) (drop (i + 1) chunks) c.args.kept.now.entries c.fetch_one.new.kept.entries old new
    (fetched_then (Unit {0}) (Err p.0) c.args.name.now hash (take i chunks) one c.args.kept.now.entries c.loop-chunk.kept.entries c.fetch_one.new.kept.entries old mid new c.loop-chunk.invariant.fetches
    (subst (λ (x : ChunkFault). Fetches {T = Unit {0}} (Err x) c.args.name.now hash one c.loop-chunk.kept.entries c.fetch_one.new.kept.entries mid new) (sym p.2) c.in_err-fetch_one.ensures.fetches))))

pub loop-chunk-preserved : goal.loop-chunk-preserved
loop-chunk-preserved g c =
    let old = g.H.Host.state c.args.host.now in
    let mid = g.H.Host.state c.loop-chunk.host in
    let new = g.H.Host.state c.fetch_one.new.host in
    let hash = hash_in c.args.hashes.now in
    let i = c.loop-chunk.chunk-index in
    let chunks = c.args.chunks.now in
    record {
      fetches = subst (λ (l : List ℕ). Fetches {T = Unit {0}} (Ok tt) c.args.name.now hash l c.args.kept.now.entries c.fetch_one.new.kept.entries old new) (sym (take_at_read chunks i 0 (omega arith)).1)
          (fetched_then (Unit {0}) (Ok tt) c.args.name.now hash (take i chunks) (slice_index chunks i ∷ []) c.args.kept.now.entries c.loop-chunk.kept.entries c.fetch_one.new.kept.entries old mid new c.loop-chunk.invariant.fetches c.in_ok-fetch_one.ensures.fetches);
      cap_is = c.in_ok-fetch_one.ensures.cap;
      faults = c.in_ok-fetch_one.ensures.cause.still ∙ c.loop-chunk.invariant.faults;
      disk = kept_then old mid new c.loop-chunk.invariant.disk c.in_ok-fetch_one.ensures.disk;
    }

pub returns-clause-cause : goal.returns-clause-cause
returns-clause-cause g c = record { later = let a = c.loop-chunk.invariant.faults in omega (arith, a); still = c.loop-chunk.invariant.faults; once = tt }

pub returns-clause-disk : goal.returns-clause-disk
returns-clause-disk g c = c.loop-chunk.invariant.disk

pub returns-clause-fetches : goal.returns-clause-fetches
returns-clause-fetches g c =
    subst (λ (l : List ℕ). Fetches {T = Unit {0}} (Ok tt) c.args.name.now (hash_in c.args.hashes.now) l c.args.kept.now.entries c.loop-chunk.kept.entries (g.H.Host.state c.args.host.now) (g.H.Host.state c.loop-chunk.host))
    (take_all c.loop-chunk.chunk-index c.args.chunks.now (omega arith)) c.loop-chunk.invariant.fetches

pub returns-clause-cap : goal.returns-clause-cap
returns-clause-cap g c = c.loop-chunk.invariant.cap_is
