use Rattle.std.proofs.Common.{◌≡◌, ap, ◌∙◌, refl, arith}
use Rattle.std.specs.Int.{from_be_bytes, w128}
use Rattle.seal_bench.specs.Nodes.{tag_sum, sealed_tag}
use Rattle.seal_bench.proofs.Opened.{next_tag, seal_of_node}
use Rattle.seal_bench.proofs.nodes.seal_nodes.Goals as goal

pub loop-node-init : goal.loop-node-init
unfolding tag_sum
loop-node-init c = refl

pub loop-node-preserved : goal.loop-node-preserved
loop-node-preserved c =
    let node = c.loop-node.node in
    let tag : c.seal_in_place-tag.result ≡ sealed_tag node =
    c.seal_in_place-tag.ensures.tag ∙ ap (λ s. s.1) (seal_of_node node c.node_key.result c.plain_text-plain.result c.node_key.ensures c.plain_text-plain.ensures) in
    next_tag node c.loop-node.sum c.from_be_bytes-sum.result c.loop-node.invariant (c.from_be_bytes-sum.ensures ∙ ap (from_be_bytes w128) tag)

pub returns : goal.returns
returns c = let end : c.loop-node.node ≡ c.args.count = omega arith in c.loop-node.invariant ∙ ap tag_sum end
