-- Nodes of which only bytes changed.
use Rattle.std.proofs.Common.{◌≡◌, ◌≢◌, inl, inr, ℕ, List, length, ap, ◌∙◌, sym, Some}
use Rattle.std.specs.BTreeMap.{BTreeMap}
use Rattle.std.proofs.lemmas.Bool.{cases_eq}
use Rattle.std.proofs.lemmas.Option.{same_Some}
use Rattle.node_tree.specs.Opened.{IsAt}
use Rattle.node_tree.specs.Nodes.{Keeps, plain_at}
use Rattle.node_tree.specs.Marks.{KeepsMarks}
use Rattle.node_tree.specs.Sealing.{KeepsNodes}
use Rattle.node_tree.specs.declared.nodes.HeldNode.{HeldNode}
use Rattle.node_tree.proofs.Marking.{keeps_marks, keeps_marks_then}

pub keeps_nodes : (m : BTreeMap ℕ HeldNode) → KeepsNodes m m
keeps_nodes m = record { marks = keeps_marks m; blocks = λ blocks. blocks; held = λ k there. there }

pub keeps_nodes_then : (a b c : BTreeMap ℕ HeldNode) → KeepsNodes a b → KeepsNodes b c → KeepsNodes a c
keeps_nodes_then a b c first second = record {
  marks = keeps_marks_then a b c first.marks second.marks;
  blocks = λ blocks. second.blocks (first.blocks blocks);
  held = λ k there. second.held k (first.held k there);
}

-- one node got other bytes, as many as before
pub keeps_one : (m n : BTreeMap ℕ HeldNode) (number : ℕ) → KeepsMarks m n → IsAt (Keeps m) number → ((plain : List ℕ) → plain_at m number ≡ Some plain → (after : List ℕ) × (plain_at n number ≡ Some after) × (length after ≡ length plain))
    → ((k : ℕ) → k ≢ number → plain_at n k ≡ plain_at m k) → KeepsNodes m n
keeps_one m n number marks there here others = record {
  marks = marks;
  blocks = λ blocks k plain now. elim (cases_eq k number) [
    | inl same ↦
        let q = here there.0 there.1 in
        ap length (sym (same_Some q.0 plain (sym q.1 ∙ ap (plain_at n) (sym same) ∙ now))) ∙ q.2 ∙ blocks number there.0 there.1
    | inr other ↦ blocks k plain (sym (others k other) ∙ now)
  ];
  held = λ k was. elim (cases_eq k number) [
    | inl same ↦ let q = here there.0 there.1 in (q.0, ap (plain_at n) same ∙ q.1)
    | inr other ↦ (was.0, others k other ∙ was.1)
  ];
}
