use Rattle.std.proofs.Common.{◌≡◌, take}
use Rattle.pf_session.proofs.flushing.dirty_numbers.Given as goal

abbrev pub invariant-loop-k : goal.invariant-loop-k
invariant-loop-k l = l.numbers.items ≡ take l.k l.tree.dirty
