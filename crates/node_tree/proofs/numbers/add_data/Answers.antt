use Rattle.std.proofs.Common.{arith}
use Rattle.node_tree.proofs.Listed.{up_to_data, data_added, adds_at}
use Rattle.node_tree.proofs.numbers.add_data.Goals as goal

pub add-requires-clause-order : goal.add-requires-clause-order
add-requires-clause-order c = λ k there. omega (arith, c.data_place.ensures, up_to_data c.args.numbers.now.items c.add_leaf.new.numbers.items c.args.d c.requires.order c.add_leaf.ensures k there)

pub returns : goal.returns
returns c = data_added c.args.numbers.now.items c.add_leaf.new.numbers.items c.add.new.numbers.items c.args.d c.add_leaf.ensures (adds_at _ _ _ _ c.data_place.ensures c.add.ensures)
