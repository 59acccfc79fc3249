-- The marked nodes of a map.
use Rattle.std.proofs.Common.{◌≡◌, ◌⊎◌, ◌↔◌, inl, inr, ℕ, zero, suc, List, [], ◌∷◌, map, refl, ap, ◌∙◌, sym, arith, Bool, true, false, cond, Option, Some, None}
use Rattle.std.specs.Prelude.{Contains, filter, is_some}
use Rattle.std.specs.List.{AllByRecursion}
use Rattle.std.specs.List.Sorted.{IsStrictlyIncreasing, IsStrictlySortedBy}
use Rattle.std.specs.Cmp.{nat_cmp_total}
use Rattle.std.specs.Map.{keys_of}
use Rattle.std.specs.Ordering.{nat_cmp}
use Rattle.std.specs.declared.cmp.Ordering.TheVariants.{Less}
use Rattle.std.specs.BTreeMap.{BTreeMap, IsOrdered, get}
use Rattle.std.proofs.lemmas.Bool.{false≢true}
use Rattle.std.proofs.lemmas.Map.Keys.{IsStrictlyIncreasing-from_sorted}
use Rattle.std.proofs.lemmas.Map.Lookups.{exact_unsigned}
use Rattle.std.proofs.lemmas.Map.Views.{btree_map_get_iff}
use Rattle.node_tree.specs.Marks.{is_marked, marked_at, marked, KeepsMarks}
use Rattle.node_tree.specs.declared.nodes.HeldNode.{HeldNode}
use Rattle.node_tree.proofs.Order.{same_rising}

in_rest : {X : Type 0} (x : X) (xs : List X) (k : X) → Contains (x ∷ xs) k → (k ≡ x) ⊎ Contains xs k
in_rest x xs k (zero, within, is) = inl (sym is)
in_rest x xs k (suc i, within, is) = inr (i, omega arith, is)

to_rest : {X : Type 0} (x : X) (xs : List X) (k : X) → Contains xs k → Contains (x ∷ xs) k
to_rest x xs k (i, within, is) = (suc i, omega arith, is)

to_first : {X : Type 0} (x : X) (xs : List X) (k : X) → k ≡ x → Contains (x ∷ xs) k
to_first x xs k is = (0, omega arith, sym is)

-- a node of the entries with this number is marked
abbrev IsMarkedIn : List (ℕ × HeldNode) → ℕ → Type 0
IsMarkedIn es k = (node : HeldNode) × Contains es (k, node) × (node.dirty ≡ true)

has_more : (e : ℕ × HeldNode) (es : List (ℕ × HeldNode)) (k : ℕ) (b : Bool) → e.1.dirty ≡ b → (Contains (marked es) k → IsMarkedIn es k)
    → Contains (map (λ node. node.0) (cond b (e ∷ filter (λ node. node.1.dirty) es) (filter (λ node. node.1.dirty) es))) k → IsMarkedIn (e ∷ es) k
has_more e es k true is rest there =
    elim (in_rest e.0 (marked es) k there) [
      | inl same ↦ (e.1, to_first e es (k, e.1) (ap (λ (j : ℕ). (j, e.1)) same), is)
      | inr further ↦ let r = rest further in (r.0, to_rest e es (k, r.0) r.1, r.2)
    ]
has_more e es k false is rest there = let r = rest there in (r.0, to_rest e es (k, r.0) r.1, r.2)

marked_has : (es : List (ℕ × HeldNode)) (k : ℕ) → Contains (marked es) k → IsMarkedIn es k
marked_has [] k there = absurd (omega (arith, there.1))
marked_has (e ∷ es) k there = has_more e es k e.1.dirty refl (marked_has es k) there

marks_first : (e : ℕ × HeldNode) (es : List (ℕ × HeldNode)) (k : ℕ) (b : Bool) → b ≡ true → k ≡ e.0 → Contains (map (λ node. node.0) (cond b (e ∷ filter (λ node. node.1.dirty) es) (filter (λ node. node.1.dirty) es))) k
marks_first e es k true is same = to_first e.0 (marked es) k same
marks_first e es k false is same = absurd (false≢true is)

marks_more : (e : ℕ × HeldNode) (es : List (ℕ × HeldNode)) (k : ℕ) (b : Bool) → Contains (marked es) k → Contains (map (λ node. node.0) (cond b (e ∷ filter (λ node. node.1.dirty) es) (filter (λ node. node.1.dirty) es))) k
marks_more e es k true there = to_rest e.0 (marked es) k there
marks_more e es k false there = there

has_marked : (es : List (ℕ × HeldNode)) (k : ℕ) (node : HeldNode) → Contains es (k, node) → node.dirty ≡ true → Contains (marked es) k
has_marked [] k node there dirty = absurd (omega (arith, there.1))
has_marked (e ∷ es) k node there dirty =
    elim (in_rest e es (k, node) there) [
      | inl same ↦ marks_first e es k e.1.dirty (ap (λ (p : ℕ × HeldNode). p.1.dirty) (sym same) ∙ dirty) (ap (λ (p : ℕ × HeldNode). p.0) same)
      | inr further ↦ marks_more e es k e.1.dirty (has_marked es k node further dirty)
    ]

above_more : (k : ℕ) (e : ℕ × HeldNode) (es : List (ℕ × HeldNode)) (b : Bool) → nat_cmp k e.0 ≡ Less → AllByRecursion (λ y. nat_cmp k y ≡ Less) (marked es)
    → AllByRecursion (λ y. nat_cmp k y ≡ Less) (map (λ node. node.0) (cond b (e ∷ filter (λ node. node.1.dirty) es) (filter (λ node. node.1.dirty) es)))
above_more k e es true lt rest = (lt, rest)
above_more k e es false lt rest = rest

above_marked : (k : ℕ) (es : List (ℕ × HeldNode)) → AllByRecursion (λ y. nat_cmp k y ≡ Less) (keys_of es) → AllByRecursion (λ y. nat_cmp k y ≡ Less) (marked es)
above_marked k [] all = tt
above_marked k (e ∷ es) all = above_more k e es e.1.dirty all.0 (above_marked k es all.1)

sorted_more : (e : ℕ × HeldNode) (es : List (ℕ × HeldNode)) (b : Bool) → AllByRecursion (λ y. nat_cmp e.0 y ≡ Less) (marked es) → IsStrictlySortedBy nat_cmp (marked es)
    → IsStrictlySortedBy nat_cmp (map (λ node. node.0) (cond b (e ∷ filter (λ node. node.1.dirty) es) (filter (λ node. node.1.dirty) es)))
unfolding IsStrictlySortedBy
sorted_more e es true all rest = (all, rest)
sorted_more e es false all rest = rest

sorted_marked : (es : List (ℕ × HeldNode)) → IsStrictlySortedBy nat_cmp (keys_of es) → IsStrictlySortedBy nat_cmp (marked es)
unfolding IsStrictlySortedBy
sorted_marked [] sorted = tt
sorted_marked (e ∷ es) sorted = sorted_more e es e.1.dirty (above_marked e.0 es sorted.0) (sorted_marked es sorted.1)

module _ (m : BTreeMap ℕ HeldNode) (ordered : IsOrdered nat_cmp m) where
  pub marked_rises : IsStrictlyIncreasing (marked m.entries)
  marked_rises = IsStrictlyIncreasing-from_sorted (marked m.entries) (sorted_marked m.entries ordered)

  found : (k : ℕ) (o : Option HeldNode) → get nat_cmp m k ≡ o → is_marked o ≡ true → Contains (marked m.entries) k
  found k (Some node) is dirty = has_marked m.entries k node ((btree_map_get_iff nat_cmp_total exact_unsigned m ordered k node).0 is) dirty
  found k None is dirty = absurd (false≢true dirty)

  pub marked_iff : (k : ℕ) → Contains (marked m.entries) k ↔ (marked_at m k ≡ true)
  marked_iff k = (
    λ there. let r = marked_has m.entries k there in ap is_marked ((btree_map_get_iff nat_cmp_total exact_unsigned m ordered k r.0).1 r.1) ∙ r.2,
    λ is. found k (get nat_cmp m k) refl is,
  )

-- maps with the same marks have the same numbers marked
pub same_marked : (old new : BTreeMap ℕ HeldNode) → KeepsMarks old new → IsOrdered nat_cmp old → marked new.entries ≡ marked old.entries
same_marked old new keeps ordered =
    same_rising (marked new.entries) (marked old.entries) (marked_rises new (keeps.ordered ordered)) (marked_rises old ordered)
    (λ k there. (marked_iff old ordered k).1 (sym (keeps.same k) ∙ (marked_iff new (keeps.ordered ordered) k).0 there))
    (λ k there. (marked_iff new (keeps.ordered ordered) k).1 (keeps.same k ∙ (marked_iff old ordered k).0 there))

pub keeps_marks : (m : BTreeMap ℕ HeldNode) → KeepsMarks m m
keeps_marks m = record { same = λ k. refl; ordered = λ ordered. ordered }

pub keeps_marks_then : (a b c : BTreeMap ℕ HeldNode) → KeepsMarks a b → KeepsMarks b c → KeepsMarks a c
keeps_marks_then a b c first second = record { same = λ k. second.same k ∙ first.same k; ordered = λ ordered. second.ordered (first.ordered ordered) }

-- a node that is not kept is not marked
none_marked : (o : Option HeldNode) → is_some o ≡ false → is_marked o ≡ false
none_marked (Some node) is = absurd (false≢true (sym is))
none_marked None is = refl

pub unmarked : (m : BTreeMap ℕ HeldNode) (k : ℕ) → is_some (get nat_cmp m k) ≡ false → marked_at m k ≡ false
unmarked m k none = none_marked (get nat_cmp m k) none
