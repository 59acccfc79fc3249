use Rattle.std.proofs.Common.{◌-◌}
use Rattle.trusted_chunks.proofs.Copied.{CopiedTo}
use Rattle.trusted_chunks.proofs.copying.copy_out.Given as goal

abbrev pub invariant-loop-chunk : goal.invariant-loop-chunk
invariant-loop-chunk l = CopiedTo l.kept.entries l.first (l.chunk - l.first) l.skip l.fn.to l.done l.left l.to
