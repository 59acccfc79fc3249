use Rattle.std.proofs.Common.{◌+◌, ◌-◌, ◌^◌}
use Rattle.file_sums.proofs.Taken.{TakenTo}
use Rattle.file_sums.proofs.summing.sum_slices.Given as goal

abbrev pub invariant-loop-n : goal.invariant-loop-n
invariant-loop-n g l = TakenTo l.name l.len l.hasher (g.H.Host.state l.fn.host) (g.H.Host.state l.host)

abbrev pub decreases-loop-n : goal.decreases-loop-n
decreases-loop-n g l = 2 ^ 32 + 1 - l.len
