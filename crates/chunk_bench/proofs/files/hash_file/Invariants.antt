use Rattle.std.proofs.Common.{◌≡◌, length}
use Rattle.chunk_bench.proofs.Hashing.{HashedTo}
use Rattle.chunk_bench.proofs.files.hash_file.Given as goal

abbrev pub invariant-loop-slice : goal.invariant-loop-slice
invariant-loop-slice g l = record { long : length l.buffer ≡ 16384; hashed : HashedTo l.slice l.name l.hasher (g.H.Host.state l.fn.host) (g.H.Host.state l.host) }
