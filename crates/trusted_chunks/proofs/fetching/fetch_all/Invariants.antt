use Rattle.std.proofs.Common.{take}
use Rattle.trusted_chunks.specs.Fetching.{hash_in}
use Rattle.trusted_chunks.proofs.Fetched.{FetchedTo}
use Rattle.trusted_chunks.proofs.fetching.fetch_all.Given as goal

abbrev pub invariant-loop-chunk : goal.invariant-loop-chunk
invariant-loop-chunk g l = FetchedTo l.name (hash_in l.hashes) (take l.chunk-index l.chunks) l.kept.cap l.fn.kept.entries l.kept.entries (g.H.Host.state l.fn.host) (g.H.Host.state l.host)
