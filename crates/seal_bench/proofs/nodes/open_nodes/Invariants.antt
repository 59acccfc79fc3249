use Rattle.std.proofs.Common.{◌≡◌, ◌≤◌, ◌*◌}
use Rattle.seal_bench.specs.Nodes.{byte_sum}
use Rattle.seal_bench.proofs.nodes.open_nodes.Given as goal

abbrev pub invariant-loop-i : goal.invariant-loop-i
invariant-loop-i l = record { sum : l.sum ≡ byte_sum l.i; small : l.sum ≤ 255 * l.i }
