-- The nodes that small ranges touch.
use Rattle.std.proofs.Common.{inl, inr, ℕ, zero, suc, [], ◌∷◌, refl, arith}
use Rattle.std.specs.Prelude.{Contains}
use Rattle.std.specs.List.Sorted.{IsStrictlyIncreasing}
use Rattle.node_layout.specs.Places.{leaf_of}
use Rattle.node_tree.specs.Touched.{IsTouched, Meets}
use Rattle.node_tree.specs.Examples.{LastByteTouched, RangesTouched}
use Rattle.node_tree.proofs.Order.{in_tail, no_member}
use Rattle.node_tree.proofs.Rooted.{levels_fall}

three_rise : IsStrictlyIncreasing (1 ∷ 98 ∷ 99 ∷ [])
three_rise zero lt = omega arith
three_rise (suc zero) lt = omega arith
three_rise (suc (suc k)) lt = absurd (omega (arith, lt))

two_rise : IsStrictlyIncreasing (1 ∷ 2 ∷ [])
two_rise zero lt = omega arith
two_rise (suc k) lt = absurd (omega (arith, lt))

last_meets : Meets 396288 396289 96
last_meets = record { some = omega arith; begins = omega arith; ends = omega arith }

last_touched : (k : ℕ) → Contains (1 ∷ 98 ∷ 99 ∷ []) k → IsTouched 396288 396289 k
last_touched k there =
    elim (in_tail 1 (98 ∷ 99 ∷ []) k there) [
      | inl root ↦ (96, last_meets, inr (0, (1, refl), root))
      | inr further ↦ elim (in_tail 98 (99 ∷ []) k further) [
        | inl leaf ↦ (96, last_meets, inr (1, (0, refl), leaf))
        | inr last ↦ elim (in_tail 99 [] k last) [ inl node ↦ (96, last_meets, inl node) | inr none ↦ absurd (no_member k none) ]
      ]
    ]

last_only : (k : ℕ) → IsTouched 396288 396289 k → Contains (1 ∷ 98 ∷ 99 ∷ []) k
last_only k (d, meets, inl is) = let b = meets.begins in let e = meets.ends in (2, omega arith, omega arith)
last_only k (d, meets, inr (zero, on, is)) = (0, omega arith, omega arith)
last_only k (d, meets, inr (suc m, (n, on), is)) =
    let b = meets.begins in let fall = levels_fall n (leaf_of d) in
    (1, omega arith, omega arith)

pub last_byte : LastByteTouched
last_byte byte = record { rising = three_rise; exactly = λ k. (last_touched k, last_only k) }

across_meets : Meets 3000 3100 0
across_meets = record { some = omega arith; begins = omega arith; ends = omega arith }

across_touched : (k : ℕ) → Contains (1 ∷ 2 ∷ []) k → IsTouched 3000 3100 k
across_touched k there =
    elim (in_tail 1 (2 ∷ []) k there) [
      | inl root ↦ (0, across_meets, inr (0, (0, refl), root))
      | inr further ↦ elim (in_tail 2 [] k further) [ inl node ↦ (0, across_meets, inl node) | inr none ↦ absurd (no_member k none) ]
    ]

across_only : (k : ℕ) → IsTouched 3000 3100 k → Contains (1 ∷ 2 ∷ []) k
across_only k (d, meets, inl is) = let b = meets.begins in (1, omega arith, omega arith)
across_only k (d, meets, inr (m, (n, on), is)) = let b = meets.begins in let fall = levels_fall n (leaf_of d) in (0, omega arith, omega arith)

pub ranges : RangesTouched
ranges = record {
  across = record { rising = two_rise; exactly = λ k. (across_touched k, across_only k) };
  nothing = record { rising = λ k lt. absurd (omega (arith, lt)); exactly = λ k. (λ there. absurd (no_member k there), λ on. absurd (let s = on.1.some in omega arith)) };
}
