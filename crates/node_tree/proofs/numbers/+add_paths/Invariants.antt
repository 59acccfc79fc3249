use Rattle.node_tree.proofs.numbers.+add_paths.Given as goal

abbrev pub decreases-add_paths : goal.decreases-add_paths
decreases-add_paths l = l.levels
