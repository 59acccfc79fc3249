use Rattle.std.proofs.Common.{List, ℕ, length, Option, ap, sym, ◌∙◌}
use Rattle.std.specs.Option.{option_map}
use Rattle.std.proofs.lemmas.Option.{same_Some}
use Rattle.node_tree.specs.declared.nodes.HeldNode.{HeldNode}
use Rattle.node_tree.proofs.putting.put_piece.Goals as goal

pub returns-clause-whole : goal.returns-clause-whole
returns-clause-whole c = λ plain there.
    ap (λ (l : List ℕ). length l) (same_Some plain c.in-Some.node.now.plain.value (sym there ∙ ap (λ (o : Option HeldNode). option_map (λ n. n.plain.value) o) (sym c.in-Some.ensures.value))) ∙ ap (λ (l : List ℕ). length l) (sym c.deref_mut.ensures.value) ∙ c.put_bytes.ensures.whole
