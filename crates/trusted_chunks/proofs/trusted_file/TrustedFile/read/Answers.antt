use Rattle.std.proofs.Common.{◌≡◌, ◌∙◌, ◌-◌, ◌%◌, ◌≤◌, ◌++◌, List, ℕ, min, length, take, drop, ap, sym, subst, refl, Err, Ok, arith, Contains}
use Rattle.std.proofs.lemmas.Result.{err_from_is_err_and}
use Rattle.lru.specs.LruCache.{LruCache}
use Rattle.lru.proofs.Splits.{Contains-nil}
use Rattle.trusted_chunks.specs.Chunks.{CHUNK}
use Rattle.trusted_chunks.specs.State.{FileState, hash_at}
use Rattle.trusted_chunks.specs.Kept.{touched, missing_of, used, joined}
use Rattle.trusted_chunks.specs.Fetching.{hash_in}
use Rattle.trusted_chunks.specs.Reading.{readable, Fetches, Reads, ReadsFew}
use Rattle.trusted_chunks.specs.Inside.{state_of}
use Rattle.trusted_chunks.specs.declared.fault.ChunkFault.{ChunkFault}
use Rattle.trusted_chunks.proofs.Fetched.{fetched_none}
use Rattle.trusted_chunks.proofs.Coming.{reads_few, held_read, honest_read}
use Rattle.trusted_chunks.proofs.Piecing.{numbers_are, fetched_by, fetched_ok, fetched_err, reads_of, sound_then, touched_kept, known_sums, part_of, part_gives}
use Rattle.trusted_chunks.proofs.trusted_file.TrustedFile.read.Goals as goal

pub returns-then-room-eq0-clause-reads : goal.returns-then-room-eq0-clause-reads
returns-then-room-eq0-clause-reads g c =
    let file = state_of c.self.inside in
    let s = g.H.Host.state c.args.host.now in
    let none : 0 ≡ readable file c.args.at (length c.args.to.now) = sym c.if-room-eq0.true ∙ c.readable-room.ensures in
    subst (λ (f : FileState). Reads (Ok 0) c.args.at c.args.to.now f f s s) c.self.view_is
    (reads_of (Ok 0) c.args.at 0 c.args.to.now file file.kept s s none (fetched_ok 0 file.name (hash_at file) _ file.kept file.kept s s (fetched_none file.name (hash_at file) file.kept s))
    (record { count = omega arith; bytes = refl; all_kept = λ d is. absurd (Contains-nil d is) }))

pub fetch_all-requires-clause-known : goal.fetch_all-requires-clause-known
fetch_all-requires-clause-known g c = λ k d lt.
    let file = state_of c.self.inside in
    let room = c.readable-room.result in
    let numbers = numbers_are c.args.at room c.if-room-eq0.false in
    known_sums c.args.at room k d file c.deref-2.result.now c.deref.result.now c.self.invariant.0 (omega (arith, c.readable-room.ensures))
    (c.deref-2.ensures.0 ∙ c.use_kept-missing.ensures.missing ∙ ap (λ (l : List ℕ). missing_of file.kept l) numbers) c.deref.ensures.value lt

pub invariant_of-self : goal.invariant_of-self
invariant_of-self g c =
    let file = state_of c.self.inside in
    let room = c.readable-room.result in
    let at = c.args.at in
    let s0 = g.H.Host.state c.args.host.now in
    let s1 = g.H.Host.state c.fetch_all.new.host in
    let new = c.fetch_all.new.kept.entries in
    let numbers = numbers_are at room c.if-room-eq0.false in
    let chunks_are = c.deref-2.ensures.0 ∙ c.use_kept-missing.ensures.missing ∙ ap (λ (l : List ℕ). missing_of file.kept l) numbers in
    let kept_is = ap (λ (k : LruCache ℕ (List ℕ)). k.entries) c.use_kept-missing.ensures.used ∙ ap (λ (l : List ℕ). used l file.kept) numbers in
    let f = fetched_by (Unit {0}) (Err c.in_err-fetch_all.field-0.0) c.as_str.result.now file.name c.deref.result.now file.hashes c.deref-2.result.now (missing_of file.kept (touched at room)) c.use_kept-missing.new.kept.entries (used (touched at room) file.kept) new s0 s1
    c.in_err-fetch_all.ensures.fetches c.as_str.ensures c.deref.ensures.value chunks_are kept_is in
    (sound_then {T = Unit {0}} (Err c.in_err-fetch_all.field-0.0) file.name (hash_at file) (touched at room) (missing_of file.kept (touched at room)) file new s0 s1 c.self.invariant.0 f, c.in_err-fetch_all.ensures.cap)

pub returns-in_err-fetch_all-clause-reads : goal.returns-in_err-fetch_all-clause-reads
returns-in_err-fetch_all-clause-reads g c =
    let p = err_from_is_err_and c.from_residual.result c.from_residual.ensures.1 in
    let file = state_of c.self.inside in
    let room = c.readable-room.result in
    let at = c.args.at in
    let s0 = g.H.Host.state c.args.host.now in
    let s1 = g.H.Host.state c.fetch_all.new.host in
    let new = c.fetch_all.new.kept.entries in
    let numbers = numbers_are at room c.if-room-eq0.false in
    let chunks_are = c.deref-2.ensures.0 ∙ c.use_kept-missing.ensures.missing ∙ ap (λ (l : List ℕ). missing_of file.kept l) numbers in
    let kept_is = ap (λ (k : LruCache ℕ (List ℕ)). k.entries) c.use_kept-missing.ensures.used ∙ ap (λ (l : List ℕ). used l file.kept) numbers in
    let f = fetched_by (Unit {0}) (Err p.0) c.as_str.result.now file.name c.deref.result.now file.hashes c.deref-2.result.now (missing_of file.kept (touched at room)) c.use_kept-missing.new.kept.entries (used (touched at room) file.kept) new s0 s1
    (subst (λ (x : ChunkFault). Fetches {T = Unit {0}} (Err x) c.as_str.result.now (hash_in c.deref.result.now) c.deref-2.result.now c.use_kept-missing.new.kept.entries new s0 s1) (sym p.2) c.in_err-fetch_all.ensures.fetches) c.as_str.ensures c.deref.ensures.value chunks_are kept_is in
    rw p.1 (subst (λ (x : FileState). Reads (Err p.0) at c.args.to.now x (record file { kept = new }) s0 s1) c.self.view_is
    (reads_of (Err p.0) at room c.args.to.now file new s0 s1 c.readable-room.ensures (fetched_err p.0 file.name (hash_at file) (missing_of file.kept (touched at room)) (used (touched at room) file.kept) new s0 s1 f) tt))

pub returns-in_err-fetch_all-clause-most : goal.returns-in_err-fetch_all-clause-most
returns-in_err-fetch_all-clause-most g c = (invariant_of-self g c).0.few

pub returns-in_err-fetch_all-clause-few : goal.returns-in_err-fetch_all-clause-few
returns-in_err-fetch_all-clause-few g c =
    reads_few c.from_residual.result c.args.at c.args.to.now c.args.self.now (record (state_of c.self.inside) { kept = c.fetch_all.new.kept.entries }) (g.H.Host.state c.args.host.now) (g.H.Host.state c.fetch_all.new.host)
    (returns-in_err-fetch_all-clause-reads g c)

pub returns-in_err-fetch_all-clause-held : goal.returns-in_err-fetch_all-clause-held
returns-in_err-fetch_all-clause-held g c =
    held_read c.from_residual.result c.args.at c.args.to.now c.args.self.now (record (state_of c.self.inside) { kept = c.fetch_all.new.kept.entries }) (g.H.Host.state c.args.host.now) (g.H.Host.state c.fetch_all.new.host)
    (returns-in_err-fetch_all-clause-reads g c)

pub returns-in_err-fetch_all-clause-honest : goal.returns-in_err-fetch_all-clause-honest
returns-in_err-fetch_all-clause-honest g c =
    honest_read c.from_residual.result c.args.at c.args.to.now c.args.self.now (record (state_of c.self.inside) { kept = c.fetch_all.new.kept.entries }) (g.H.Host.state c.args.host.now) (g.H.Host.state c.fetch_all.new.host)
    (returns-in_err-fetch_all-clause-reads g c)

pub copy_out-requires-clause-all_kept : goal.copy_out-requires-clause-all_kept
copy_out-requires-clause-all_kept g c = λ d is.
    let file = state_of c.self.inside in
    let room = c.readable-room.result in
    let at = c.args.at in
    let s0 = g.H.Host.state c.args.host.now in
    let s1 = g.H.Host.state c.fetch_all.new.host in
    let new = c.fetch_all.new.kept.entries in
    let numbers = numbers_are at room c.if-room-eq0.false in
    let chunks_are = c.deref-2.ensures.0 ∙ c.use_kept-missing.ensures.missing ∙ ap (λ (l : List ℕ). missing_of file.kept l) numbers in
    let kept_is = ap (λ (k : LruCache ℕ (List ℕ)). k.entries) c.use_kept-missing.ensures.used ∙ ap (λ (l : List ℕ). used l file.kept) numbers in
    let f = fetched_by (Unit {0}) (Ok tt) c.as_str.result.now file.name c.deref.result.now file.hashes c.deref-2.result.now (missing_of file.kept (touched at room)) c.use_kept-missing.new.kept.entries (used (touched at room) file.kept) new s0 s1
    c.in_ok-fetch_all.ensures.fetches c.as_str.ensures c.deref.ensures.value chunks_are kept_is in
    touched_kept at room file.name (hash_at file) file new s0 s1 (omega (arith, c.readable-room.ensures, c.requires)) f d (subst (λ (l : List ℕ). Contains l d) numbers is)

pub invariant_of-self-2 : goal.invariant_of-self-2
invariant_of-self-2 g c =
    let file = state_of c.self.inside in
    let room = c.readable-room.result in
    let at = c.args.at in
    let s0 = g.H.Host.state c.args.host.now in
    let s1 = g.H.Host.state c.fetch_all.new.host in
    let new = c.fetch_all.new.kept.entries in
    let numbers = numbers_are at room c.if-room-eq0.false in
    let chunks_are = c.deref-2.ensures.0 ∙ c.use_kept-missing.ensures.missing ∙ ap (λ (l : List ℕ). missing_of file.kept l) numbers in
    let kept_is = ap (λ (k : LruCache ℕ (List ℕ)). k.entries) c.use_kept-missing.ensures.used ∙ ap (λ (l : List ℕ). used l file.kept) numbers in
    let f = fetched_by (Unit {0}) (Ok tt) c.as_str.result.now file.name c.deref.result.now file.hashes c.deref-2.result.now (missing_of file.kept (touched at room)) c.use_kept-missing.new.kept.entries (used (touched at room) file.kept) new s0 s1
    c.in_ok-fetch_all.ensures.fetches c.as_str.ensures c.deref.ensures.value chunks_are kept_is in
    (sound_then {T = Unit {0}} (Ok tt) file.name (hash_at file) (touched at room) (missing_of file.kept (touched at room)) file new s0 s1 c.self.invariant.0 f, c.in_ok-fetch_all.ensures.cap)

pub returns-clause-rest : goal.returns-clause-rest
returns-clause-rest g c =
    part_of c.copy_out.result c.readable-room.result c.args.to.now c.copy_out.new.to (omega (arith, c.readable-room.ensures)) c.copy_out.ensures.rest

pub returns-clause-reads : goal.returns-clause-reads
returns-clause-reads g c =
    let file = state_of c.self.inside in
    let room = c.readable-room.result in
    let at = c.args.at in
    let s0 = g.H.Host.state c.args.host.now in
    let s1 = g.H.Host.state c.fetch_all.new.host in
    let new = c.fetch_all.new.kept.entries in
    let numbers = numbers_are at room c.if-room-eq0.false in
    let chunks_are = c.deref-2.ensures.0 ∙ c.use_kept-missing.ensures.missing ∙ ap (λ (l : List ℕ). missing_of file.kept l) numbers in
    let kept_is = ap (λ (k : LruCache ℕ (List ℕ)). k.entries) c.use_kept-missing.ensures.used ∙ ap (λ (l : List ℕ). used l file.kept) numbers in
    let f = fetched_by (Unit {0}) (Ok tt) c.as_str.result.now file.name c.deref.result.now file.hashes c.deref-2.result.now (missing_of file.kept (touched at room)) c.use_kept-missing.new.kept.entries (used (touched at room) file.kept) new s0 s1
    c.in_ok-fetch_all.ensures.fetches c.as_str.ensures c.deref.ensures.value chunks_are kept_is in
    let n = c.copy_out.result in
    let fits : room ≤ length c.args.to.now = omega (arith, c.readable-room.ensures) in
    let rest = returns-clause-rest g c in
    let same : room ≡ readable file at (length (c.copy_out.new.to ++ drop room c.args.to.now)) = c.readable-room.ensures ∙ ap (λ (k : ℕ). readable file at k) (sym rest.same_length) in
    let count = c.copy_out.ensures.count ∙ ap (λ (l : List ℕ). min (length (take room c.args.to.now)) (length (joined new l) - at % CHUNK)) numbers in
    let bytes = c.copy_out.ensures.bytes ∙ ap (λ (l : List ℕ). take n (drop (at % CHUNK) (joined new l))) numbers in
    let all = touched_kept at room file.name (hash_at file) file new s0 s1 (omega (arith, c.readable-room.ensures, c.requires)) f in
    subst (λ (x : FileState). Reads (Ok n) at (c.copy_out.new.to ++ drop room c.args.to.now) x (record file { kept = new }) s0 s1) c.self.view_is
    (reads_of (Ok n) at room (c.copy_out.new.to ++ drop room c.args.to.now) file new s0 s1 same (fetched_ok n file.name (hash_at file) (missing_of file.kept (touched at room)) (used (touched at room) file.kept) new s0 s1 f)
    (part_gives n at room c.args.to.now c.copy_out.new.to (touched at room) new fits c.copy_out.ensures.rest count bytes all))

pub returns-clause-most : goal.returns-clause-most
returns-clause-most g c = (invariant_of-self-2 g c).0.few

pub returns-clause-few : goal.returns-clause-few
returns-clause-few g c =
    let rest = returns-clause-rest g c in
    subst (λ (k : ℕ). ReadsFew c.args.at k c.args.self.now (g.H.Host.state c.args.host.now) (g.H.Host.state c.fetch_all.new.host)) rest.same_length
    (reads_few (Ok c.copy_out.result) c.args.at (c.copy_out.new.to ++ drop c.readable-room.result c.args.to.now) c.args.self.now (record (state_of c.self.inside) { kept = c.fetch_all.new.kept.entries }) (g.H.Host.state c.args.host.now)
    (g.H.Host.state c.fetch_all.new.host) (returns-clause-reads g c))

pub returns-clause-held : goal.returns-clause-held
returns-clause-held g c =
    held_read (Ok c.copy_out.result) c.args.at (c.copy_out.new.to ++ drop c.readable-room.result c.args.to.now) c.args.self.now (record (state_of c.self.inside) { kept = c.fetch_all.new.kept.entries }) (g.H.Host.state c.args.host.now)
    (g.H.Host.state c.fetch_all.new.host) (returns-clause-reads g c)

pub returns-clause-honest : goal.returns-clause-honest
returns-clause-honest g c =
    honest_read (Ok c.copy_out.result) c.args.at (c.copy_out.new.to ++ drop c.readable-room.result c.args.to.now) c.args.self.now (record (state_of c.self.inside) { kept = c.fetch_all.new.kept.entries }) (g.H.Host.state c.args.host.now)
    (g.H.Host.state c.fetch_all.new.host) (returns-clause-reads g c)
