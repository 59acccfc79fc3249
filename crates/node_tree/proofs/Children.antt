-- The children of a hash-tree node.
pub use Rattle.node_tree.specs.Clearing.{child_of}
use Rattle.std.proofs.Common.{◌≡◌, inl, inr, ℕ, ◌+◌, ◌-◌, ◌*◌, ◌/◌, ◌%◌, ◌<◌, ◌≤◌, ap, ◌∙◌, arith, ltb}
use Rattle.std.proofs.lemmas.Bool.{cases_lt, cases_eq, cond-true, cond-false, lt-ltb, le-ltb}
use Rattle.node_layout.specs.Places.{data_place, mht_place, up, parent_of, slot_of}
use Rattle.node_layout.proofs.Numbers.{below_mht, below_data, of_data, of_mht}

child_data : (k s : ℕ) → s < 96 → child_of k s ≡ data_place (96 * ((k - 1) / 97) + s)
child_data k s lt = cond-true (ltb s 96) _ _ (lt-ltb s 96 lt)

child_mht : (k s : ℕ) → 96 ≤ s → child_of k s ≡ mht_place (32 * ((k - 1) / 97) + (s - 96) + 1)
child_mht k s le = cond-false (ltb s 96) _ _ (le-ltb s 96 le)

pub child_after : (k s : ℕ) → (k - 1) % 97 ≡ 0 → k < child_of k s
child_after k s rest =
    elim (cases_lt s 96) [
      | inl lt ↦ omega (arith, child_data k s lt)
      | inr ge ↦ omega (arith, child_mht k s ge)
    ]

-- a parent is a hash-tree node
pub parent_rest : (k : ℕ) → (parent_of k - 1) % 97 ≡ 0
parent_rest k =
    elim (cases_eq ((k - 1) % 97) 0) [
      | inl e ↦ let b = (below_mht k e).0 in omega (arith, b)
      | inr ne ↦ let b = (below_data k ne).0 in omega (arith, b)
    ]

-- the node whose entry stands in a node's parent at its place is that node
pub child_is : (k : ℕ) → 2 ≤ k → child_of (parent_of k) (slot_of k) ≡ k
child_is k two =
    elim (cases_eq ((k - 1) % 97) 0) [
      | inl e ↦
          let b = below_mht k e in
          let high : 96 ≤ slot_of k = omega (arith, b.1) in
          let m : (parent_of k - 1) / 97 ≡ up ((k - 1) / 97) = omega (arith, b.0) in
          child_mht (parent_of k) (slot_of k) high ∙ omega (arith, b.1, m)
      | inr ne ↦
          let b = below_data k ne in
          let low : slot_of k < 96 = omega (arith, b.1) in
          let m : (parent_of k - 1) / 97 ≡ (k - 1) / 97 = omega (arith, b.0) in
          child_data (parent_of k) (slot_of k) low ∙ omega (arith, b.1, m)
    ]

-- a place of a hash-tree node is that of a child
pub slot_is : (m s : ℕ) → s < 128 → (2 ≤ child_of (mht_place m) s) × (parent_of (child_of (mht_place m) s) ≡ mht_place m) × (slot_of (child_of (mht_place m) s) ≡ s)
slot_is m s within =
    let at : (mht_place m - 1) / 97 ≡ m = omega arith in
    elim (cases_lt s 96) [
      | inl lt ↦
          let d = 96 * m + s in
          let is : child_of (mht_place m) s ≡ data_place d = child_data (mht_place m) s lt ∙ ap (λ n. data_place (96 * n + s)) at in
          (omega (arith, is), ap parent_of is ∙ (of_data d).0 ∙ omega arith, ap slot_of is ∙ (of_data d).1 ∙ omega arith)
      | inr ge ↦
          let n = 32 * m + (s - 96) + 1 in
          let is : child_of (mht_place m) s ≡ mht_place n = child_mht (mht_place m) s ge ∙ ap (λ i. mht_place (32 * i + (s - 96) + 1)) at in
          let b = of_mht n (omega arith) in
          (omega (arith, is), ap parent_of is ∙ b.0 ∙ omega arith, ap slot_of is ∙ b.1 ∙ omega arith)
    ]
