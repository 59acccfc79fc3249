use Rattle.node_tree.proofs.United.{UnitedTo}
use Rattle.node_tree.proofs.marks.count_changed.Given as goal

abbrev pub invariant-loop-number : goal.invariant-loop-number
invariant-loop-number l = UnitedTo l.dirty l.touched l.number-index l.count
