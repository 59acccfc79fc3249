use Rattle.std.proofs.Common.{◌≡◌, ◌≢◌, ◌⊎◌, inl, inr, ℕ, List, Option, Some, ap, ◌∙◌, sym, arith, ◌≤◌}
use Rattle.node_tree.specs.Nodes.{plain_at}
use Rattle.node_layout.specs.Places.{parent_of, slot_of}
use Rattle.node_layout.specs.Entries.{with_entry}
use Rattle.node_tree.specs.Opened.{IsAt, At}
use Rattle.node_tree.proofs.Placed.{entry_put, entry_length}
use Rattle.node_tree.proofs.Kept.{keeps_nodes, keeps_one}
use Rattle.node_tree.proofs.sealing.put_entry.Goals as goal

known_at : (number : ℕ) (f : ℕ → Option (List ℕ)) → number ≢ 1 → (number ≡ 1) ⊎ ((2 ≤ number) × IsAt (At f) (parent_of number)) → (2 ≤ number) × IsAt (At f) (parent_of number)
known_at number f apart (inl is) = absurd (apart is)
known_at number f apart (inr known) = known

pub returns-clause-put : goal.returns-clause-put
returns-clause-put c =
    let old = plain_at c.args.nodes.now in
    let new = plain_at c.put_at.new.nodes in
    let known = known_at c.args.number old (λ is. omega arith) c.requires.known in
    let up : c.parent_of.result ≡ parent_of c.args.number = c.parent_of.ensures in
    let slot : c.slot_of.result ≡ slot_of c.args.number = c.slot_of.ensures.value in
    entry_put c.args.number c.args.key.now c.args.tag.now old new c.args.root.now known.0 c.told-key c.told-tag known.1
    (λ plain was. ap new (sym up) ∙ c.put_at.ensures.here plain (ap old up ∙ was) ∙ ap (λ (s : ℕ). Some (with_entry plain s c.args.key.now c.args.tag.now)) slot)
    (λ plain was. c.put_at.ensures.whole plain (ap old up ∙ was))
    (λ j apart. c.put_at.ensures.others j (λ is. apart (is ∙ up)))

pub returns-then-number-eq1-clause-keeps : goal.returns-then-number-eq1-clause-keeps
returns-then-number-eq1-clause-keeps c = keeps_nodes c.args.nodes.now

pub returns-clause-keeps : goal.returns-clause-keeps
returns-clause-keeps c =
    let old = plain_at c.args.nodes.now in
    let known = known_at c.args.number old (λ is. omega arith) c.requires.known in
    keeps_one c.args.nodes.now c.put_at.new.nodes c.parent_of.result c.put_at.ensures.marks (known.1.0, ap old c.parent_of.ensures ∙ known.1.1)
    (λ plain there. (
      with_entry plain c.slot_of.result c.args.key.now c.args.tag.now,
      c.put_at.ensures.here plain there,
      entry_length c.slot_of.result plain c.args.key.now c.args.tag.now (omega arith) (c.put_at.ensures.whole plain there) c.told-key c.told-tag,
    ))
    c.put_at.ensures.others
