use Rattle.std.proofs.Common.{◌%◌, arith}
use Rattle.std.proofs.lemmas.List.FromFn.{fill_by_all}
use Rattle.seal_bench.specs.Nodes.{plain_text}
use Rattle.seal_bench.proofs.nodes.plain_text.Goals as goal

pub returns : goal.returns
unfolding plain_text
returns c = fill_by_all (λ k. k % 251) c.loop-i.text 4096 0 c.loop-i.invariant.0 (λ k h. c.loop-i.invariant.1 k (omega arith))
