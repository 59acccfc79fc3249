use Rattle.std.proofs.Common.{◌≡◌, Option, Some, ap, ap₂, ◌∙◌, sym, rules}
use Rattle.std.specs.Option.{option_map}
use Rattle.node_layout.specs.Entries.{entry_at}
use Rattle.node_tree.specs.Nodes.{plain_at}
use Rattle.node_tree.specs.Fetching.{of_parent}
use Rattle.node_tree.specs.declared.nodes.HeldNode.{HeldNode}
use Rattle.node_tree.proofs.nodes.entry_of.Goals as goal

pub returns : goal.returns
returns c =
    let kept : plain_at c.args.nodes.now c.parent_of.result ≡ Some c.in-Some.parent.now.plain.value = ap (λ (o : Option HeldNode). option_map (λ n. n.plain.value) o) (sym c.in-Some.ensures.value) in
    of_parent c.in-Some.parent.now.plain.value (search rules)
    (ap (plain_at c.args.nodes.now) (sym c.parent_of.ensures) ∙ kept)
    (c.entry.ensures ∙ ap₂ entry_at c.deref.ensures c.slot_of.ensures.value)
