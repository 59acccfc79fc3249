use Rattle.std.proofs.Common.{◌≡◌, ◌≤◌, ◌*◌, take}
use Rattle.std.specs.List.{sum}
use Rattle.chunk_bench.proofs.files.add.Given as goal

abbrev pub invariant-loop-byte : goal.invariant-loop-byte
invariant-loop-byte l = record { added : l.total ≡ sum (take l.byte-index l.piece); small : l.total ≤ 255 * l.byte-index }
