use Rattle.std.proofs.Common.{arith}
use Rattle.node_tree.proofs.Listed.{up_to_leaf, leaf_added, adds_at}
use Rattle.node_tree.proofs.numbers.add_leaf.Goals as goal

pub add-requires-clause-order : goal.add-requires-clause-order
add-requires-clause-order c = λ k there. omega (arith, c.mht_place.ensures, up_to_leaf c.args.numbers.now.items c.args.d c.if-d-eq0.true c.requires.order k there)

pub returns-then-d-eq0 : goal.returns-then-d-eq0
returns-then-d-eq0 c = leaf_added c.args.numbers.now.items c.add.new.numbers.items c.args.d c.if-d-eq0.true (adds_at _ _ _ _ c.mht_place.ensures c.add.ensures)
