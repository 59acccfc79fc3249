use Rattle.std.proofs.Common.{◌≡◌, ◌++◌}
use Rattle.node_tree.specs.Marks.{marked}
use Rattle.node_tree.proofs.marks.dirty_numbers.Given as goal

abbrev pub invariant-loop-number : goal.invariant-loop-number
invariant-loop-number l = l.numbers.items ++ marked l.number-iterator ≡ marked l.nodes.entries
