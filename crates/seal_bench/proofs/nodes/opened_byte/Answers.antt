use Rattle.std.proofs.Common.{Some, ap, ◌∙◌, sym, get_or, is_some}
use Rattle.seal_bench.proofs.Opened.{opens_sealed_node, same_text}
use Rattle.seal_bench.proofs.nodes.opened_byte.Goals as goal

pub returns-then-open_in_place : goal.returns-then-open_in_place
returns-then-open_in_place c =
    let law = opens_sealed_node c.args.node c.node_key.result c.args.sealed.now.text c.args.sealed.now.tag c.node_key.ensures c.requires.text c.requires.tag c.sealed_opens.ensures.opens in
    ap (λ t. Some (get_or t c.args.at 0)) (same_text _ _ (sym (c.open_in_place.ensures.plain c.if-open_in_place.true) ∙ law))

pub returns-else-open_in_place : goal.returns-else-open_in_place
returns-else-open_in_place c =
    let law = opens_sealed_node c.args.node c.node_key.result c.args.sealed.now.text c.args.sealed.now.tag c.node_key.ensures c.requires.text c.requires.tag c.sealed_opens.ensures.opens in
    let opened = c.open_in_place.ensures.opened.1 (ap is_some law) in
    absurd (cc (opened, c.if-open_in_place.false))
