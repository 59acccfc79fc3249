use Rattle.std.proofs.Common.{◌/◌}
use Rattle.node_tree.specs.Listing.{ListedTo}
use Rattle.node_tree.proofs.numbers.touched.Given as goal

abbrev pub invariant-loop-d : goal.invariant-loop-d
invariant-loop-d l = ListedTo l.numbers.items l.first l.d (l.first / 96) (l.last / 96)
