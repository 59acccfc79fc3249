-- Touched nodes come with their parents.
use Rattle.std.proofs.Common.{◌≡◌, ◌⊎◌, inl, inr, ℕ, zero, suc, ◌^◌, ◌<◌, ◌≤◌, List, slice_index, All, refl, ap, ◌∙◌, sym, arith}
use Rattle.std.proofs.lemmas.Bool.{cases_eq}
use Rattle.std.proofs.lemmas.List.Elements.{Contains-get_or, All-from_get_or}
use Rattle.node_layout.specs.Places.{leaf_of, up, levels_up, parent_of}
use Rattle.node_layout.proofs.Numbers.{of_data, of_mht, parent_before}
use Rattle.node_tree.specs.Touched.{IsTouched, AreTouched}
use Rattle.node_tree.specs.Fetching.{AreRooted}
use Rattle.node_tree.proofs.Order.{place_of, stands_before}

-- one level above n levels
next_level : (n m : ℕ) → levels_up (suc n) m ≡ up (levels_up n m)
next_level zero m = refl
next_level (suc n) m = next_level n (up m)

pub levels_fall : (n m : ℕ) → levels_up n m ≤ m
levels_fall zero m = omega arith
levels_fall (suc n) m = let le = levels_fall n (up m) in omega arith

-- a touched node is the root, or its parent is touched
pub parent_touched : (a b k : ℕ) → IsTouched a b k → (k ≡ 1) ⊎ ((2 ≤ k) × IsTouched a b (parent_of k))
parent_touched a b k (d, meets, inl is) =
    inr (omega arith, (d, meets, inr (leaf_of d, (0, refl), ap parent_of is ∙ (of_data d).0)))
parent_touched a b k (d, meets, inr (m, (n, on), is)) =
    elim (cases_eq m 0) [
      | inl root ↦ inl (omega arith)
      | inr below ↦ inr (omega arith, (d, meets, inr (up m, (suc n, ap up on ∙ sym (next_level n (leaf_of d))), ap parent_of is ∙ (of_mht m (omega arith)).0)))
    ]

pub rooted : (a b : ℕ) (numbers : List ℕ) → AreTouched a b numbers → AreRooted numbers
rooted a b numbers touched i within =
    let k = slice_index numbers i in
    elim (parent_touched a b k ((touched.exactly k).0 (Contains-get_or numbers i 0 within))) [
      | inl one ↦ inl one
      | inr up_one ↦
          let at = place_of numbers (parent_of k) ((touched.exactly (parent_of k)).1 up_one.1) in
          let before = (parent_before k up_one.0).1 in
          inr (up_one.0, (at.0, stands_before numbers at.0 i touched.rising at.1 within (let e = at.2 in omega arith), at.2))
    ]

touched_small : (a b k : ℕ) → b ≤ 2 ^ 40 → IsTouched a b k → k < 2 ^ 30
touched_small a b k le (d, meets, inl is) = let begins = meets.begins in omega arith
touched_small a b k le (d, meets, inr (m, (n, on), is)) = let begins = meets.begins in let fall = levels_fall n (leaf_of d) in omega arith

pub all_small : (a b : ℕ) (numbers : List ℕ) → b ≤ 2 ^ 40 → AreTouched a b numbers → All (λ k. k < 2 ^ 30) numbers
all_small a b numbers le touched = All-from_get_or (λ k. k < 2 ^ 30) numbers 0 (λ i within. touched_small a b (slice_index numbers i) le ((touched.exactly (slice_index numbers i)).0 (Contains-get_or numbers i 0 within)))
