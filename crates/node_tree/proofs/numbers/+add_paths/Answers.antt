use Rattle.std.proofs.Common.{arith, rules}
use Rattle.node_tree.proofs.Listed.{paths_of_root, up_to_first, up_to_second, paths_more, paths_at, adds_at}
use Rattle.node_tree.proofs.numbers.+add_paths.Goals as goal

pub returns-then-levels-eq0-clause-paths : goal.returns-then-levels-eq0-clause-paths
returns-then-levels-eq0-clause-paths t c =
    paths_of_root c.args.numbers.now.items c.add.new.numbers.items c.args.low c.args.high c.requires.empty c.requires.order (search rules) (adds_at _ _ _ _ c.mht_place.ensures c.add.ensures)

pub add-requires-2-clause-order : goal.add-requires-2-clause-order
add-requires-2-clause-order t c = λ k there.
    let paths = paths_at _ _ _ _ _ c.above.ensures c.above-2.ensures c.add_paths.ensures.paths in
    omega (arith, c.mht_place-2.ensures, up_to_first c.add_paths.new.numbers.items c.args.low c.args.high c.requires.order c.requires.beside paths k there)

pub add-requires-3-clause-order : goal.add-requires-3-clause-order
add-requires-3-clause-order t c = λ k there.
    let paths = paths_at _ _ _ _ _ c.above.ensures c.above-2.ensures c.add_paths.ensures.paths in
    omega (arith, c.mht_place-3.ensures, up_to_second c.add_paths.new.numbers.items c.add-2.new.numbers.items c.args.low c.args.high c.requires.order c.requires.beside paths (adds_at _ _ _ _ c.mht_place-2.ensures c.add-2.ensures) k there)

pub returns-clause-paths : goal.returns-clause-paths
returns-clause-paths t c =
    let paths = paths_at _ _ _ _ _ c.above.ensures c.above-2.ensures c.add_paths.ensures.paths in
    paths_more c.add_paths.new.numbers.items c.add-2.new.numbers.items c.add-3.new.numbers.items c.args.low c.args.high paths
    (adds_at _ _ _ _ c.mht_place-2.ensures c.add-2.ensures) (adds_at _ _ _ _ c.mht_place-3.ensures c.add-3.ensures)
