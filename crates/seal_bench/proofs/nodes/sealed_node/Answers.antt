use Rattle.std.proofs.Common.{ap, ◌∙◌}
use Rattle.seal_bench.proofs.Opened.{seal_of_node}
use Rattle.seal_bench.proofs.nodes.sealed_node.Goals as goal

pub returns-clause-text : goal.returns-clause-text
returns-clause-text c = c.seal_in_place-tag.ensures.ciphertext ∙ ap (λ s. s.0) (seal_of_node c.args.node c.node_key.result c.plain_text-text.result c.node_key.ensures c.plain_text-text.ensures)

pub returns-clause-tag : goal.returns-clause-tag
returns-clause-tag c = c.seal_in_place-tag.ensures.tag ∙ ap (λ s. s.1) (seal_of_node c.args.node c.node_key.result c.plain_text-text.result c.node_key.ensures c.plain_text-text.ensures)
