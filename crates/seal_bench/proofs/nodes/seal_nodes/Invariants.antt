use Rattle.std.proofs.Common.{◌≡◌}
use Rattle.seal_bench.specs.Nodes.{tag_sum}
use Rattle.seal_bench.proofs.nodes.seal_nodes.Given as goal

abbrev pub invariant-loop-node : goal.invariant-loop-node
invariant-loop-node l = l.sum ≡ tag_sum l.node
