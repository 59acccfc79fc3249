use Rattle.std.proofs.Common.{length, ◌-◌}
use Rattle.node_tree.specs.Nodes.{kept_plain}
use Rattle.node_tree.proofs.Filled.{FilledTo}
use Rattle.node_tree.proofs.copying.copy_out.Given as goal

abbrev pub invariant-loop-done : goal.invariant-loop-done
invariant-loop-done l = FilledTo l.first (kept_plain l.nodes) l.at l.done l.to

abbrev pub decreases-loop-done : goal.decreases-loop-done
decreases-loop-done l = length l.initial.to - l.done
