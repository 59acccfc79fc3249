use Rattle.std.proofs.Common.{◌+◌, ◌-◌, ◌^◌}
use Rattle.trusted_chunks.proofs.TakenUp.{TakenTo}
use Rattle.trusted_chunks.proofs.slices.take_slices.Given as goal

abbrev pub invariant-loop-hashes : goal.invariant-loop-hashes
invariant-loop-hashes g l = TakenTo l.name l.len l.hashes.items l.hasher (g.H.Host.state l.fn.host) (g.H.Host.state l.host)

abbrev pub decreases-loop-hashes : goal.decreases-loop-hashes
decreases-loop-hashes g l = 2 ^ 32 + 1 - l.len
