use Rattle.std.proofs.Common.{◌≡◌, length}
use Rattle.node_tree.specs.Clearing.{HasCleared}
use Rattle.node_tree.proofs.clearing.clear_node.Given as goal

abbrev pub invariant-loop-slot : goal.invariant-loop-slot
invariant-loop-slot l = record {
  cleared : HasCleared l.count l.number l.slot l.fn.plain l.plain;
  same_length : length l.plain ≡ length l.fn.plain;
}
