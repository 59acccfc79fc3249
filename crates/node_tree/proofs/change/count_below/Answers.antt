use Rattle.node_tree.proofs.Zeroed.{count_found}
use Rattle.node_tree.proofs.change.count_below.Goals as goal

pub returns-else-numbers-count : goal.returns-else-numbers-count
returns-else-numbers-count c = count_found c.args.numbers.now c.args.bound c.loop-count.count c.requires c.loop-count.invariant.0 c.loop-count.invariant.1 (λ more. c.if-numbers-count.false)
