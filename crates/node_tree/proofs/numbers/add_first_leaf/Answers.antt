use Rattle.std.proofs.Common.{arith}
use Rattle.node_tree.proofs.Listed.{up_to_first, leaves_are, paths_at, adds_at}
use Rattle.node_tree.proofs.numbers.add_first_leaf.Goals as goal

pub add-requires-clause-order : goal.add-requires-clause-order
add-requires-clause-order c = λ k there.
    let paths = paths_at _ _ _ _ _ c.above.ensures c.above-2.ensures c.add_paths.ensures.paths in
    omega (arith, c.mht_place.ensures, up_to_first c.add_paths.new.numbers.items c.args.low c.args.high c.requires.order c.requires.beside paths k there)

pub returns-clause-leaves : goal.returns-clause-leaves
returns-clause-leaves c =
    let paths = paths_at _ _ _ _ _ c.above.ensures c.above-2.ensures c.add_paths.ensures.paths in
    leaves_are c.add_paths.new.numbers.items c.add.new.numbers.items c.args.low c.args.high paths (adds_at _ _ _ _ c.mht_place.ensures c.add.ensures)
