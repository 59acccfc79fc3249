-- The list of touched nodes, as it grows.
use Rattle.std.proofs.Common.{◌≡◌, ◌⊎◌, inl, inr, ℕ, suc, ◌+◌, ◌-◌, ◌*◌, ◌/◌, ◌%◌, ◌<◌, ◌≤◌, List, [], length, refl, ap, ◌∙◌, sym, arith, subst}
use Rattle.std.specs.Prelude.{Contains}
use Rattle.std.specs.List.Sorted.{IsStrictlyIncreasing}
use Rattle.std.proofs.lemmas.Bool.{cases_eq}
use Rattle.node_layout.specs.Places.{data_place, mht_place, leaf_of, up, levels_up}
use Rattle.node_tree.specs.Touched.{Meets, IsTouched, AreTouched}
use Rattle.node_tree.specs.Listing.{Adds, UpTo, IsFrom, ArePaths, AreLeaves, IsNewLeaf, AddsLeaf, AddsData, IsBrought, ListedTo}
use Rattle.node_tree.proofs.Levels.{levels_of_root, from_below, from_step, from_itself, from_above}

no_member : (k : ℕ) → Contains {X = ℕ} [] k → ⊥
no_member k (i, within, is) = omega arith

pub up_to_none : (xs : List ℕ) (n : ℕ) → xs ≡ [] → UpTo xs n
up_to_none xs n is k there = absurd (no_member k (subst (λ (l : List ℕ). Contains l k) is there))

pub rising_none : (xs : List ℕ) → xs ≡ [] → IsStrictlyIncreasing xs
rising_none xs is = subst IsStrictlyIncreasing (sym is) (λ k lt. absurd (omega arith))

pub adds_at : (xs ys : List ℕ) (n m : ℕ) → n ≡ m → Adds xs ys n → Adds xs ys m
adds_at xs ys n m same adds = subst (λ (k : ℕ). Adds xs ys k) same adds

pub paths_at : (xs : List ℕ) (a b c d : ℕ) → a ≡ b → c ≡ d → ArePaths xs a c → ArePaths xs b d
paths_at xs a b c d same other paths = subst (λ (k : ℕ). ArePaths xs b k) other (subst (λ (k : ℕ). ArePaths xs k c) same paths)

at_root : (m n k : ℕ) → m ≡ 0 → k ≡ mht_place (levels_up n m) → k ≡ mht_place m
at_root m n k is from = from ∙ ap (λ j. mht_place (levels_up n j)) is ∙ ap mht_place (levels_of_root n ∙ sym is)

-- at the root
pub paths_of_root : (xs ys : List ℕ) (low high : ℕ) → xs ≡ [] → low ≤ high → high ≡ 0 → Adds xs ys (mht_place low) → ArePaths ys low high
paths_of_root xs ys low high none le root adds = record {
  rising = adds.rising;
  members = λ k. (
    λ there. elim ((adds.members k).0 there) [ inl old ↦ absurd (no_member k (subst (λ (l : List ℕ). Contains l k) none old)) | inr is ↦ inl (from_itself low k is) ],
    λ either. (adds.members k).1 (inr (elim either [ inl from ↦ at_root low from.0 k (omega arith) from.1 | inr from ↦ at_root high from.0 k root from.1 ∙ ap mht_place (let e : high ≡ low = omega arith in e) ])),
  );
}

-- above the order of what is put first and then second
pub up_to_first : (xs : List ℕ) (low high : ℕ) → low ≤ high → high ≤ low + 1 → ArePaths xs (up low) (up high) → UpTo xs (mht_place low)
up_to_first xs low high le near paths k there = from_below low high k near ((paths.members k).0 there) le

pub up_to_second : (xs ys : List ℕ) (low high : ℕ) → low ≤ high → high ≤ low + 1 → ArePaths xs (up low) (up high) → Adds xs ys (mht_place low) → UpTo ys (mht_place high)
up_to_second xs ys low high le near paths adds k there =
    elim ((adds.members k).0 there) [
      | inl old ↦ let a = up_to_first xs low high le near paths k old in omega arith
      | inr is ↦ omega arith
    ]

pub paths_more : (xs ys zs : List ℕ) (low high : ℕ) → ArePaths xs (up low) (up high) → Adds xs ys (mht_place low) → Adds ys zs (mht_place high) → ArePaths zs low high
paths_more xs ys zs low high paths first second = record {
  rising = second.rising;
  members = λ k. (
    λ there. elim ((second.members k).0 there) [
      | inl mid ↦ elim ((first.members k).0 mid) [
        | inl old ↦ elim ((paths.members k).0 old) [ inl a ↦ inl (from_above low k a) | inr b ↦ inr (from_above high k b) ]
        | inr is ↦ inl (from_itself low k is)
      ]
      | inr is ↦ inr (from_itself high k is)
    ],
    λ either. (second.members k).1 (elim either [
      | inl a ↦ inl ((first.members k).1 (elim (from_step low k a) [ inl is ↦ inr is | inr further ↦ inl ((paths.members k).1 (inl further)) ]))
      | inr b ↦ elim (from_step high k b) [ inl is ↦ inr is | inr further ↦ inl ((first.members k).1 (inl ((paths.members k).1 (inr further)))) ]
    ]),
  );
}

pub leaves_are : (xs ys : List ℕ) (low high : ℕ) → ArePaths xs (up low) (up high) → Adds xs ys (mht_place low) → AreLeaves ys low high
leaves_are xs ys low high paths adds = record {
  rising = adds.rising;
  members = λ k. (
    λ there. elim ((adds.members k).0 there) [ inl old ↦ inr ((paths.members k).0 old) | inr is ↦ inl is ],
    λ either. (adds.members k).1 (elim either [ inl is ↦ inr is | inr old ↦ inl ((paths.members k).1 old) ]),
  );
}

-- a leaf put there, or not
pub leaf_added : (xs ys : List ℕ) (d : ℕ) → d % 96 ≡ 0 → Adds xs ys (mht_place (d / 96)) → AddsLeaf xs ys d
leaf_added xs ys d first adds = record {
  rising = adds.rising;
  members = λ k. (
    λ there. elim ((adds.members k).0 there) [ inl old ↦ inl old | inr is ↦ inr (first, is) ],
    λ either. (adds.members k).1 (elim either [ inl old ↦ inl old | inr new ↦ inr new.1 ]),
  );
  not_longer = adds.not_longer;
}

pub leaf_there : (xs : List ℕ) (d : ℕ) → (d % 96 ≡ 0 → ⊥) → IsStrictlyIncreasing xs → AddsLeaf xs xs d
leaf_there xs d other rising = record {
  rising = rising;
  members = λ k. (λ there. inl there, λ either. elim either [ inl old ↦ old | inr new ↦ absurd (other new.0) ]);
  not_longer = omega arith;
}

pub up_to_leaf : (xs : List ℕ) (d : ℕ) → d % 96 ≡ 0 → UpTo xs (data_place d - 1) → UpTo xs (mht_place (d / 96))
up_to_leaf xs d first order k there = let a = order k there in omega arith

pub up_to_data : (xs ys : List ℕ) (d : ℕ) → UpTo xs (data_place d - 1) → AddsLeaf xs ys d → UpTo ys (data_place d)
up_to_data xs ys d order adds k there =
    elim ((adds.members k).0 there) [
      | inl old ↦ let a = order k old in omega arith
      | inr new ↦ let is = new.1 in omega arith
    ]

pub data_added : (xs ys zs : List ℕ) (d : ℕ) → AddsLeaf xs ys d → Adds ys zs (data_place d) → AddsData xs zs d
data_added xs ys zs d leaf adds = record {
  rising = adds.rising;
  members = λ k. (
    λ there. elim ((adds.members k).0 there) [
      | inl mid ↦ elim ((leaf.members k).0 mid) [ inl old ↦ inl old | inr new ↦ inr (inl new) ]
      | inr is ↦ inr (inr is)
    ],
    λ either. (adds.members k).1 (elim either [
      | inl old ↦ inl ((leaf.members k).1 (inl old))
      | inr brought ↦ elim brought [ inl new ↦ inl ((leaf.members k).1 (inr new)) | inr is ↦ inr is ]
    ]),
  );
  not_longer = omega (arith, leaf.not_longer, adds.not_longer);
}

-- the list before the first data node
pub listed_first : (xs : List ℕ) (first low high : ℕ) → AreLeaves xs low high → length xs ≤ 11 → ListedTo xs first first low high
listed_first xs first low high leaves short = record {
  rising = leaves.rising;
  members = λ k. (
    λ there. inl ((leaves.members k).0 there),
    λ either. elim either [ inl on ↦ (leaves.members k).1 on | inr (d, le, lt, what) ↦ absurd (omega arith) ],
  );
  short = omega arith;
}

pub listed_more : (xs ys : List ℕ) (first d low high : ℕ) → first ≤ d → ListedTo xs first d low high → AddsData xs ys d → ListedTo ys first (d + 1) low high
listed_more xs ys first d low high le listed adds = record {
  rising = adds.rising;
  members = λ k. (
    λ there. elim ((adds.members k).0 there) [
      | inl old ↦ elim ((listed.members k).0 old) [ inl on ↦ inl on | inr (e, low_e, high_e, what) ↦ inr (e, low_e, omega arith, what) ]
      | inr new ↦ inr (d, le, omega arith, new)
    ],
    λ either. (adds.members k).1 (elim either [
      | inl on ↦ inl ((listed.members k).1 (inl on))
      | inr (e, low_e, high_e, what) ↦ elim (cases_eq e d) [
        | inl same ↦ inr (subst (λ (n : ℕ). IsNewLeaf n k ⊎ (k ≡ data_place n)) same what)
        | inr other ↦ inl ((listed.members k).1 (inr (e, low_e, omega arith, what)))
      ]
    ]),
  );
  short = let s = listed.short in omega (arith, s, adds.not_longer);
}

-- all of it is below the next data node's hash-tree node or data node
pub listed_below : (xs : List ℕ) (first d low high : ℕ) → first ≤ d → low ≡ first / 96 → low ≤ high → high ≤ low + 1 → ListedTo xs first d low high → UpTo xs (data_place d - 1)
listed_below xs first d low high le is order near listed k there =
    elim ((listed.members k).0 there) [
      | inl on ↦ elim on [
        | inl here ↦ omega arith
        | inr above ↦ let a = from_below low high k near above order in omega arith
      ]
      | inr (e, low_e, high_e, what) ↦ elim what [
        | inl new ↦ let n = new.1 in omega arith
        | inr here ↦ omega arith
      ]
    ]

module _ (at end first last low high : ℕ) (some : at < end) (past : 3072 < end) (first_is : first ≡ (at - 3072) / 4096) (last_is : last ≡ (end - 3073) / 4096) (low_is : low ≡ first / 96) (high_is : high ≡ last / 96) (near : high ≤ low + 1) where
  meets : (d : ℕ) → first ≤ d → d ≤ last → Meets at end d
  meets d le ge = record { some = some; begins = omega arith; ends = omega arith }

  from_meets : (d : ℕ) → Meets at end d → (first ≤ d) × (d ≤ last)
  from_meets d m = let b = m.begins in let e = m.ends in (omega arith, omega arith)

  first_le_last : first ≤ last
  first_le_last = omega arith

  on_path : (d n k : ℕ) → first ≤ d → d ≤ last → k ≡ mht_place (levels_up n (leaf_of d)) → IsTouched at end k
  on_path d n k le ge is = (d, meets d le ge, inr (levels_up n (leaf_of d), (n, refl), is))

  touched_of : (k : ℕ) → ((k ≡ mht_place low) ⊎ (IsFrom (up low) k ⊎ IsFrom (up high) k)) ⊎ IsBrought first (last + 1) k → IsTouched at end k
  touched_of k (inl (inl here)) = on_path first 0 k (omega arith) first_le_last (here ∙ ap mht_place low_is)
  touched_of k (inl (inr (inl (n, is)))) = on_path first (suc n) k (omega arith) first_le_last (is ∙ ap (λ m. mht_place (levels_up n (up m))) low_is)
  touched_of k (inl (inr (inr (n, is)))) = on_path last (suc n) k first_le_last (omega arith) (is ∙ ap (λ m. mht_place (levels_up n (up m))) high_is)
  touched_of k (inr (d, le, lt, inl new)) = on_path d 0 k le (omega arith) new.1
  touched_of k (inr (d, le, lt, inr here)) = (d, meets d le (omega arith), inl here)

  listed_leaf : (d n k : ℕ) → first ≤ d → d ≤ last → k ≡ mht_place (levels_up n (leaf_of d)) → ((k ≡ mht_place low) ⊎ (IsFrom (up low) k ⊎ IsFrom (up high) k)) ⊎ IsBrought first (last + 1) k
  listed_leaf d n k le ge is =
      elim (cases_eq (leaf_of d) low) [
        | inl same ↦ elim (from_step low k (n, is ∙ ap (λ m. mht_place (levels_up n m)) same)) [ inl here ↦ inl (inl here) | inr above ↦ inl (inr (inl above)) ]
        | inr other ↦
            let same : leaf_of d ≡ high = omega arith in
            elim (from_step high k (n, is ∙ ap (λ m. mht_place (levels_up n m)) same)) [
              | inl here ↦ inr (96 * high, omega arith, omega arith, inl (omega arith, omega arith))
              | inr above ↦ inl (inr (inr above))
            ]
      ]

  listed_of : (k : ℕ) → IsTouched at end k → ((k ≡ mht_place low) ⊎ (IsFrom (up low) k ⊎ IsFrom (up high) k)) ⊎ IsBrought first (last + 1) k
  listed_of k (d, m, inl here) = let b = from_meets d m in inr (d, b.0, omega (arith, b.1), inr here)
  listed_of k (d, m, inr (n, (j, on), is)) = let b = from_meets d m in listed_leaf d j k b.0 b.1 (is ∙ ap mht_place on)

  -- the whole list
  pub touched_are : (xs : List ℕ) → ListedTo xs first (last + 1) low high → AreTouched at end xs
  touched_are xs listed = record {
    rising = listed.rising;
    exactly = λ k. (λ there. touched_of k ((listed.members k).0 there), λ on. (listed.members k).1 (listed_of k on));
  }

-- nothing is touched
pub touched_none : (at end : ℕ) (xs : List ℕ) → xs ≡ [] → (end ≤ at) ⊎ (end ≤ 3072) → AreTouched at end xs
touched_none at end xs is none = record {
  rising = rising_none xs is;
  exactly = λ k. (
    λ there. absurd (no_member k (subst (λ (l : List ℕ). Contains l k) is there)),
    λ on. let s = on.1.some in let b = on.1.begins in absurd (elim none [ inl le ↦ omega arith | inr le ↦ omega arith ]),
  );
}
