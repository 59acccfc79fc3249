use Rattle.std.proofs.Common.{◌∙◌, ◌∷◌, [], nat_eq, List, ℕ, ap, sym, subst, Err}
use Rattle.std.proofs.lemmas.Result.{err_from_is_err_and}
use Rattle.lru.specs.LruCache.{LruCache, lru_cache, put_entries}
use Rattle.trusted_chunks.specs.Reading.{Fetches}
use Rattle.trusted_chunks.specs.Fetching.{ChunkEnds, hash_in}
use Rattle.trusted_chunks.specs.declared.fault.ChunkFault.{ChunkFault}
use Rattle.trusted_chunks.proofs.Fetched.{fetched_one, unkept_one, failed_one}
use Rattle.trusted_chunks.proofs.fetching.fetch_one.Goals as goal

pub returns-in_err-bytes-clause-fetches : goal.returns-in_err-bytes-clause-fetches
returns-in_err-bytes-clause-fetches g c =
    let p = err_from_is_err_and c.from_residual.result c.from_residual.ensures.1 in
    let old = g.H.Host.state c.args.host.now in
    let new = g.H.Host.state c.fetch.new.host in
    let hash = hash_in c.args.hashes.now in
    rw p.1 (failed_one p.0 c.args.name.now hash c.args.chunk c.args.kept.now.entries old new (subst (λ (x : ChunkFault). ChunkEnds (Err x) c.args.name.now c.args.chunk (hash c.args.chunk) old new) (sym p.2) c.in_err-bytes.ensures.ends))

pub returns-in_err-put-clause-fetches : goal.returns-in_err-put-clause-fetches
returns-in_err-put-clause-fetches g c =
    let p = err_from_is_err_and c.from_residual-in_err-put.result c.from_residual-in_err-put.ensures.1 in
    let old = g.H.Host.state c.args.host.now in
    let new = g.H.Host.state c.fetch.new.host in
    let hash = hash_in c.args.hashes.now in
    rw p.1 (subst (λ (x : ChunkFault). Fetches {T = Unit {0}} (Err x) c.args.name.now hash (c.args.chunk ∷ []) c.args.kept.now.entries c.put.new.self.entries old new) (sym p.2)
    (unkept_one c.args.name.now hash c.args.chunk c.in_ok-bytes.bytes c.args.kept.now.entries c.put.new.self.entries old new c.in_ok-bytes.ensures.ends (ap (λ (k : LruCache ℕ (List ℕ)). k.entries) c.in_err-put.ensures.err)))

pub returns-clause-fetches : goal.returns-clause-fetches
returns-clause-fetches g c =
    let old = g.H.Host.state c.args.host.now in
    let new = g.H.Host.state c.fetch.new.host in
    let hash = hash_in c.args.hashes.now in
    fetched_one c.args.name.now hash c.args.chunk c.in_ok-bytes.bytes c.args.kept.now.entries c.put.new.self.entries old new c.in_ok-bytes.ensures.ends
    (ap (λ (k : LruCache ℕ (List ℕ)). k.entries) c.in_ok-put.ensures.entries ∙ ap (λ (n : ℕ). put_entries nat_eq (lru_cache c.args.kept.now.entries n) c.args.chunk c.in_ok-bytes.bytes) c.requires.room)
