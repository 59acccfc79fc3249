use Rattle.std.proofs.Common.{take}
use Rattle.file_sums.proofs.Collected.{SummedTo}
use Rattle.file_sums.proofs.collecting.sum_all.Given as goal

abbrev pub invariant-loop-k : goal.invariant-loop-k
invariant-loop-k g l = SummedTo (take l.k l.manifest.lists.trusted) l.sums.items (g.H.Host.state l.fn.host) (g.H.Host.state l.host)
