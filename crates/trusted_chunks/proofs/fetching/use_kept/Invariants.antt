use Rattle.std.proofs.Common.{◌-◌}
use Rattle.trusted_chunks.proofs.Promoting.{UsedTo}
use Rattle.trusted_chunks.proofs.fetching.use_kept.Given as goal

abbrev pub invariant-loop-chunk : goal.invariant-loop-chunk
invariant-loop-chunk l = UsedTo l.fn.kept l.first (l.chunk-counter - l.first) l.kept l.missing.items
