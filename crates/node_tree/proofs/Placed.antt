-- One entry more that is put.
use Rattle.std.proofs.Common.{◌≡◌, ◌≢◌, ◌⊎◌, inl, inr, ℕ, zero, suc, ◌+◌, ◌*◌, ◌<◌, ◌≤◌, List, [], ◌∷◌, ◌++◌, length, take, drop, refl, ap, ap₂, ◌∙◌, sym, subst, arith, Option, Some, slice_index}
use Rattle.std.specs.Prelude.{Contains, slice_index_or}
use Rattle.std.proofs.lemmas.Bool.{cases_eq}
use Rattle.std.proofs.lemmas.Option.{same_Some}
use Rattle.node_layout.specs.Places.{parent_of, slot_of}
use Rattle.node_layout.specs.Entries.{entry_at, with_entry}
use Rattle.node_layout.proofs.InNode.{entry_here, entry_elsewhere}
use Rattle.std.proofs.lemmas.List.{length-append, length-take-le, length-drop}
use Rattle.node_layout.proofs.Numbers.{parent_before, slot_below}
use Rattle.node_tree.specs.Opened.{Entry, IsAt}
use Rattle.node_tree.specs.Sealing.{HasKey, entry_for, IsEntryPut, ArePut}
use Rattle.node_tree.proofs.Children.{child_of, child_is}
use Rattle.node_tree.proofs.Keyed.{in_list}

pub none_in : (k : ℕ) → ¬ (Contains [] k)
none_in k (i, lt, is) = omega arith

-- nothing was put
pub put_none : (held : ℕ → Option (List ℕ)) (root : Entry) (keys : List (List ℕ)) → ArePut [] keys held held root root
put_none held root keys = record {
  entries = λ k key plain parent has. absurd (let w = has.within in omega arith);
  root_is = λ key plain has. absurd (let w = has.within in omega arith);
  no_root = λ _. refl;
  kept = λ k plain there. record { after = plain; there = there; same_length = refl; others = λ c two up apart. refl };
  childless = λ k apart. refl;
}

-- two nodes with one parent and one place are one
one_child : (c k : ℕ) → 2 ≤ c → 2 ≤ k → parent_of c ≡ parent_of k → slot_of c ≡ slot_of k → c ≡ k
one_child c k two two' up slot = sym (child_is c two) ∙ ap₂ child_of up slot ∙ child_is k two'

pub to_rest : (x : ℕ) (numbers : List ℕ) (k : ℕ) → Contains numbers k → Contains (x ∷ numbers) k
to_rest x numbers k (i, lt, is) = (suc i, omega arith, is)

-- the key of a number is that of the first, or of the rest
pub first_or_rest : (x : ℕ) (numbers : List ℕ) (key : List ℕ) (keys : List (List ℕ)) (k : ℕ) (key' : List ℕ) → HasKey (x ∷ numbers) (key ∷ keys) k key' → ((x ≡ k) × (key ≡ key')) ⊎ HasKey numbers keys k key'
first_or_rest x numbers key keys k key' has = go has.place has.within has.number_is has.key_is
  where
    go : (j : ℕ) → j < length (x ∷ numbers) → slice_index (x ∷ numbers) j ≡ k → slice_index_or (key ∷ keys) j [] ≡ key' → ((x ≡ k) × (key ≡ key')) ⊎ HasKey numbers keys k key'
    go zero lt number is = inl (number, is)
    go (suc j) lt number is = inr (record { place = j; within = omega arith; number_is = number; key_is = is })

pub with_key : (numbers : List ℕ) (keys : List (List ℕ)) (k : ℕ) (key : List ℕ) → HasKey numbers keys k key → Contains numbers k
with_key numbers keys k key has = subst (λ (j : ℕ). Contains numbers j) has.number_is (in_list numbers has.place has.within)

module _ (x : ℕ) (numbers : List ℕ) (key plain : List ℕ) (keys : List (List ℕ)) (held mid held_now : ℕ → Option (List ℕ)) (root root_mid root_now : Entry) (low : 1 ≤ x) (before : (k : ℕ) → Contains numbers k → x < k)
    (there : mid x ≡ Some plain) (rest : ArePut numbers keys held mid root root_mid) (one : IsEntryPut x (entry_for key plain) mid held_now root_mid root_now) where
  -- a node from x on is as in between
  pub behind : (k : ℕ) → x ≤ k → held_now k ≡ mid k
  behind k le = one.others k (λ two. let b = (parent_before x two).1 in λ same. omega (arith, same))

  root_before : 2 ≤ x ⊎ (x ≡ 1)
  root_before = elim (cases_eq x 1) [ inl is ↦ inr is | inr ne ↦ inl (omega arith) ]

  -- an entry that is not of x stays
  stays : (c : ℕ) (parent after : List ℕ) → 2 ≤ c → c ≢ x → mid (parent_of c) ≡ Some parent → held_now (parent_of c) ≡ Some after → entry_at after (slot_of c) ≡ entry_at parent (slot_of c)
  stays c parent after two apart was is =
      elim root_before [
        | inr first ↦
            let same = one.others (parent_of c) (λ two_x. absurd (omega arith)) in
            ap (λ (t : List ℕ). entry_at t (slot_of c)) (same_Some after parent (sym is ∙ same ∙ was))
        | inl two_x ↦ elim (cases_eq (parent_of c) (parent_of x)) [
          | inl up ↦
              let p = one.same_parent parent two_x (ap mid (sym up) ∙ was) in
              let q : after ≡ p.0 = same_Some after p.0 (sym is ∙ ap held_now up ∙ p.1) in
              ap (λ (t : List ℕ). entry_at t (slot_of c)) q ∙ p.3 (slot_of c) (slot_below c) (λ slot. apart (one_child c x two two_x up slot))
          | inr other ↦
              let same = one.others (parent_of c) (λ two'. other) in
              ap (λ (t : List ℕ). entry_at t (slot_of c)) (same_Some after parent (sym is ∙ same ∙ was))
        ]
      ]

  -- what is held of a node that was held in between
  still : (k : ℕ) (p : List ℕ) → mid k ≡ Some p → (after : List ℕ) × (held_now k ≡ Some after) × (length after ≡ length p)
  still k p was =
      elim root_before [
        | inr first ↦ (p, one.others k (λ two_x. absurd (omega arith)) ∙ was, refl)
        | inl two_x ↦ elim (cases_eq k (parent_of x)) [
          | inl up ↦ let q = one.same_parent p two_x (ap mid (sym up) ∙ was) in (q.0, ap held_now up ∙ q.1, q.2)
          | inr other ↦ (p, one.others k (λ two'. other) ∙ was, refl)
        ]
      ]

  -- it was held in between
  was_held : (k : ℕ) (after : List ℕ) → held_now k ≡ Some after → ((j : ℕ) → (j ≡ parent_of x) → 2 ≤ x → IsAt (λ i p. mid i ≡ Some p) j) → IsAt (λ i p. mid i ≡ Some p) k
  was_held k after is parent =
      elim root_before [
        | inr first ↦ (after, sym (one.others k (λ two_x. absurd (omega arith))) ∙ is)
        | inl two_x ↦ elim (cases_eq k (parent_of x)) [
          | inl up ↦ parent k up two_x
          | inr other ↦ (after, sym (one.others k (λ two'. other)) ∙ is)
        ]
      ]

  module _ (known : 2 ≤ x → IsAt (λ i p. mid i ≡ Some p) (parent_of x)) where
    parent_was : (j : ℕ) → (j ≡ parent_of x) → 2 ≤ x → IsAt (λ i p. mid i ≡ Some p) j
    parent_was j up two = let p = known two in (p.0, ap mid up ∙ p.1)

    pub put_more : ArePut (x ∷ numbers) (key ∷ keys) held held_now root root_now
    put_more = record {
      entries = λ k key' p parent has two here up. elim (first_or_rest x numbers key keys k key' has) [
        | inl (is, key_is) ↦
            let two_x : 2 ≤ x = omega (arith, is) in
            let same : plain ≡ p = same_Some plain p (sym there ∙ sym (behind x (omega arith)) ∙ ap held_now is ∙ here) in
            ap (λ (j : ℕ). entry_at parent (slot_of j)) (sym is) ∙ one.here parent two_x (ap (λ (j : ℕ). held_now (parent_of j)) is ∙ up) ∙ ap₂ entry_for key_is same
        | inr further ↦
            let after = before k (with_key numbers keys k key' further) in
            let q = was_held (parent_of k) parent up parent_was in
            stays k q.0 parent two (λ same. omega (arith, same)) q.1 up ∙ rest.entries k key' p q.0 further two (sym (behind k (omega arith)) ∙ here) q.1
      ];
      root_is = λ key' p has here. elim (first_or_rest x numbers key keys 1 key' has) [
        | inl (is, key_is) ↦
            let same : plain ≡ p = same_Some plain p (sym there ∙ sym (behind x (omega arith)) ∙ ap held_now is ∙ here) in
            one.of_root is ∙ ap₂ entry_for key_is same
        | inr further ↦ absurd (let after = before 1 (with_key numbers keys 1 key' further) in omega arith)
      ];
      no_root = λ none. elim root_before [
        | inr first ↦ absurd (none (0, omega arith, first))
        | inl two_x ↦ one.not_root two_x ∙ rest.no_root (λ further. none (to_rest x numbers 1 further))
      ];
      kept = λ k p was.
          let r = rest.kept k p was in
          let s = still k r.after r.there in
          record {
            after = s.0;
            there = s.1;
            same_length = s.2 ∙ r.same_length;
            others = λ c two up apart.
                stays c r.after s.0 two (λ same. apart (0, omega arith, sym same)) (ap mid up ∙ r.there) (ap held_now up ∙ s.1) ∙ r.others c two up (λ further. apart (to_rest x numbers c further));
          };
      childless = λ k apart. one.others k (λ two_x same. apart x (0, omega arith, refl) two_x (sym same)) ∙ rest.childless k (λ c further. apart c (to_rest x numbers c further));
    }

-- a node with an entry is as long as before
pub entry_length : (slot : ℕ) (plain key tag : List ℕ) → slot < 128 → length plain ≡ 4096 → length key ≡ 16 → length tag ≡ 16 → length (with_entry plain slot key tag) ≡ length plain
entry_length slot plain key tag lt long key_length tag_length =
    let front : length (take (32 * slot) plain) ≡ 32 * slot = length-take-le (32 * slot) plain (omega arith) in
    omega (arith, length-append (take (32 * slot) plain ++ key ++ tag) (drop (32 * slot + 32) plain), length-append (take (32 * slot) plain ++ key) tag, length-append (take (32 * slot) plain) key, front, length-drop (32 * slot + 32) plain)

-- an entry in the parent
pub entry_put : (k : ℕ) (key tag : List ℕ) (held held_now : ℕ → Option (List ℕ)) (root : Entry) → 2 ≤ k → length key ≡ 16 → length tag ≡ 16 → IsAt (λ i p. held i ≡ Some p) (parent_of k)
    → ((plain : List ℕ) → held (parent_of k) ≡ Some plain → held_now (parent_of k) ≡ Some (with_entry plain (slot_of k) key tag)) → ((plain : List ℕ) → held (parent_of k) ≡ Some plain → length plain ≡ 4096)
    → ((j : ℕ) → j ≢ parent_of k → held_now j ≡ held j) → IsEntryPut k (key, tag) held held_now root root
entry_put k key tag held held_now root two key_length tag_length known here whole others = record {
  of_root = λ is. absurd (omega arith);
  not_root = λ _. refl;
  here = λ plain _ there.
      let is : plain ≡ with_entry known.0 (slot_of k) key tag = same_Some plain (with_entry known.0 (slot_of k) key tag) (sym there ∙ here known.0 known.1) in
      ap (λ (t : List ℕ). entry_at t (slot_of k)) is ∙ entry_here (slot_of k) known.0 key tag (whole known.0 known.1) (slot_below k) key_length tag_length;
  same_parent = λ plain _ was. (
    with_entry plain (slot_of k) key tag,
    here plain was,
    entry_length (slot_of k) plain key tag (slot_below k) (whole plain was) key_length tag_length,
    λ s lt apart. entry_elsewhere (slot_of k) plain key tag (whole plain was) (slot_below k) key_length tag_length s apart,
  );
  others = λ j apart. others j (apart two);
}
