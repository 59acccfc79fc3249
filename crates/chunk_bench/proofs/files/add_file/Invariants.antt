use Rattle.std.proofs.Common.{◌≡◌, length}
use Rattle.chunk_bench.proofs.Adding.{AddedTo}
use Rattle.chunk_bench.proofs.files.add_file.Given as goal

abbrev pub invariant-loop-piece : goal.invariant-loop-piece
invariant-loop-piece g l = record { long : length l.buffer ≡ 32768; added : AddedTo l.piece l.total l.fn.file l.file (g.H.Host.state l.fn.host) (g.H.Host.state l.host) }
