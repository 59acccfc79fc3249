-- The next sheet, by a plan of the dirty nodes' keys and of the sheet's other nodes.
use Rattle.std.proofs.Common.{◌≡◌, inl, inr, ℕ, ◌+◌, ◌-◌, ◌*◌, ◌/◌, ◌%◌, ◌<◌, ◌≤◌, List, [], length, get_or, refl, ap, ap₂, ◌∙◌, sym, subst, arith, Option, Some, None, ltb, slice_index}
use Rattle.std.specs.Prelude.{slice_get, slice_index_or, Contains}
use Rattle.std.specs.List.Sorted.{IsStrictlyIncreasing}
use Rattle.std.proofs.lemmas.Bool.{cases_lt, cond-false, le-ltb}
use Rattle.std.proofs.lemmas.List.{ext_get_or}
use Rattle.std.proofs.lemmas.List.FromFn.{length-map-range_with_len, get_or-map-range_with_len}
use Rattle.std.proofs.lemmas.List.Kept.{AllPairs-from_increasing}
use Rattle.std.proofs.lemmas.Option.{none-some}
use Rattle.node_layout.specs.Places.{data_place, mht_place, node_count, parent_of, slot_of}
use Rattle.node_layout.specs.Entries.{entry_at}
use Rattle.node_layout.proofs.Numbers.{parent_before}
use Rattle.node_tree.specs.Content.{data_text, byte_of, bytes_of}
use Rattle.node_tree.specs.Sheet.{Node, Sheet, HasNode, IsLinked, plain_in}
use Rattle.node_tree.proofs.Bytes.{data_byte, data_padding}
use Rattle.node_tree.proofs.Standing.{plain_in-there}
use Rattle.node_tree.specs.State.{TreeState, held_at, plain_or}
use Rattle.node_tree.specs.Backing.{Backs, now, plain_now}
use Rattle.node_tree.specs.State.{IsSound}
use Rattle.node_tree.specs.Existing.{AreKeys, MayBeSealed}
use Rattle.node_tree.specs.Next.{NextSheet, NextExists}
use Rattle.node_tree.proofs.Keyed.{key_of, key_within, key_there, any_default, in_list}
use Rattle.node_tree.proofs.Planned.{Plan, sheet_of, node_of, IsPlan, cases_option, length-data_text, free_entry, made_is, given_is, node_there, entry_in_made, linked}

-- a node that has zeros behind the content's end is its slice
pub slice_of : (first : List ℕ) (p : ℕ → List ℕ) (size d : ℕ) → length (p (data_place d)) ≡ 4096 → ((r : ℕ) → size ≤ 3072 + 4096 * d + r → r < 4096 → slice_index (p (data_place d)) r ≡ 0) → p (data_place d) ≡ data_text (bytes_of first p 0 size) d
slice_of first p size d whole zeros =
    let content = bytes_of first p 0 size in
    let long : length content ≡ size = length-map-range_with_len (byte_of first p) 0 size in
    ext_get_or 0 (p (data_place d)) (data_text content d) (whole ∙ sym (length-data_text content d))
    (λ r lt.
    let small : r < 4096 = omega (arith, whole) in
    let i = 3072 + 4096 * d + r in
    elim (cases_lt i size) [
      | inl in_content ↦
          let at_d : (i - 3072) / 4096 ≡ d = omega arith in
          let at_r : (i - 3072) % 4096 ≡ r = omega arith in
          ap₂ (λ (e s : ℕ). get_or (p (data_place e)) s 0) (sym at_d) (sym at_r)
          ∙ sym (cond-false (ltb i 3072) _ _ (le-ltb i 3072 (omega arith)))
          ∙ sym (get_or-map-range_with_len (byte_of first p) 0 size i i 0 in_content (omega arith))
          ∙ sym (data_byte content d r small (omega (arith, long)))
      | inr behind ↦ zeros r behind small ∙ sym (data_padding content d r (omega (arith, long)) small)
    ])

abbrev node_or : Option Node → Node
node_or (Some node) = node
node_or None = record { key = []; plain = [] }

abbrev node_in : Sheet → ℕ → Node
node_in sheet k = node_or (slice_get sheet.nodes (k - 1))

abbrev plan_of : Sheet → TreeState → List (List ℕ) → Plan
plan_of sheet tree keys = record { content = now sheet tree; keys = key_of tree.dirty keys; given = node_in sheet }

-- a key is at one place
one_place : (numbers : List ℕ) (i j : ℕ) → IsStrictlyIncreasing numbers → i < length numbers → j < length numbers → slice_index numbers i ≡ slice_index numbers j → i ≡ j
one_place numbers i j rising within within' same =
    elim (cases_lt i j) [
      | inl lt ↦ absurd (let below = AllPairs-from_increasing numbers rising i j 0 lt within' in omega arith)
      | inr ge ↦ elim (cases_lt j i) [
        | inl lt ↦ absurd (let below = AllPairs-from_increasing numbers rising j i 0 lt within in omega arith)
        | inr le ↦ omega arith
      ]
    ]

module _ (sheet : Sheet) (tree : TreeState) (keys : List (List ℕ)) (old : IsLinked sheet) (backs : Backs sheet tree) (sound : IsSound tree) (are : AreKeys (length tree.dirty) keys) where
  long : length (now sheet tree) ≡ tree.size
  long = length-map-range_with_len (byte_of tree.first (plain_now sheet tree)) 0 tree.size

  live : (k : ℕ) → k < node_count (length (now sheet tree)) → k < node_count tree.size
  live k lt = subst (λ (n : ℕ). k < node_count n) long lt

  not_dirty : (k : ℕ) → key_of tree.dirty keys k ≡ None → ¬ (Contains tree.dirty k)
  not_dirty k none dirty = let t = key_there tree.dirty keys k are.one_each dirty in none-some t.0 (sym none ∙ t.1)

  no_key : (k : ℕ) → ¬ (Contains tree.dirty k) → key_of tree.dirty keys k ≡ None
  no_key k clean =
      elim (cases_option (key_of tree.dirty keys k)) [
        | inl (key, there) ↦ absurd (let w = key_within tree.dirty keys k key there in clean (w.0, w.1, any_default tree.dirty w.0 k 0 w.1 ∙ w.3))
        | inr none ↦ none
      ]

  -- a clean live node is the sheet's
  clean_node : (k : ℕ) → 1 ≤ k → k < node_count (length (now sheet tree)) → key_of tree.dirty keys k ≡ None → HasNode sheet k (node_in sheet k)
  clean_node k low lt none = let n = backs.clean k low (live k lt) (not_dirty k none) in subst (λ (node : Node). HasNode sheet k node) (sym (ap node_or n.1.there)) n.1

  clean_plain : (k : ℕ) → 1 ≤ k → k < node_count (length (now sheet tree)) → key_of tree.dirty keys k ≡ None → plain_now sheet tree k ≡ (node_in sheet k).plain
  clean_plain k low lt none =
      let n = backs.clean k low (live k lt) (not_dirty k none) in
      let same : n.0.plain ≡ (node_in sheet k).plain = ap (λ (node : Node). node.plain) (sym (ap node_or n.1.there)) in
      elim (cases_option (held_at tree k)) [
        | inl (plain, there) ↦ ap (λ (o : Option (List ℕ)). plain_or o (plain_in sheet k)) there ∙ n.2 plain there ∙ same
        | inr none_held ↦ ap (λ (o : Option (List ℕ)). plain_or o (plain_in sheet k)) none_held ∙ plain_in-there sheet k n.0 n.1 ∙ same
      ]

  clean_slice : (d : ℕ) → data_place d < node_count (length (now sheet tree)) → key_of tree.dirty keys (data_place d) ≡ None → (node_in sheet (data_place d)).plain ≡ data_text (now sheet tree) d
  clean_slice d lt none =
      let has = clean_node (data_place d) (omega arith) lt none in
      let is = clean_plain (data_place d) (omega arith) lt none in
      sym is ∙ slice_of tree.first (plain_now sheet tree) tree.size d (ap length is ∙ old.whole (data_place d) (node_in sheet (data_place d)) has) (λ r le small. backs.padded.of_nodes d r (live (data_place d) lt) le small)

  is_plan : IsPlan (plan_of sheet tree keys)
  is_plan = record {
    key_length = λ k key low lt there.
        let w = key_within tree.dirty keys k key there in
        ap length (sym w.4) ∙ are.whole w.0 [] w.2;
    given_key = λ k low lt none. old.key_length k (node_in sheet k) (clean_node k low lt none);
    given_whole = λ k low lt none. old.whole k (node_in sheet k) (clean_node k low lt none);
    slices = clean_slice;
    parents = λ k two lt none. no_key k (λ dirty. not_dirty (parent_of k) none (backs.dirty_parents k dirty two));
    entries = λ k two lt none_up none.
        let before = parent_before k two in
        let after = before.1 in
        old.entries k (node_in sheet (parent_of k)) (node_in sheet k) two (clean_node (parent_of k) before.0 (omega arith) none_up) (clean_node k (omega arith) lt none);
  }

  module _ (path nonce : List ℕ) (may : MayBeSealed path nonce tree.size) where
    may_be : MayBeSealed path nonce (length (now sheet tree))
    may_be = subst (λ (n : ℕ). MayBeSealed path nonce n) (sym long) may

    pub is_next : NextSheet sheet tree path nonce keys (sheet_of (plan_of sheet tree keys) path nonce)
    is_next = record {
      linked = linked (plan_of sheet tree keys) is_plan path nonce may_be;
      path_is = refl;
      nonce_is = refl;
      content_is = refl;
      clean = λ k node clean has.
          let there = node_there (plan_of sheet tree keys) path nonce k node has in
          let none = no_key k clean in
          subst (λ (n : Node). HasNode sheet k n) (sym (there.1 ∙ given_is (plan_of sheet tree keys) k there.0 none)) (clean_node k has.numbered there.0 none);
      new_keys = λ j node lt has.
          let k = slice_index tree.dirty j in
          let there = node_there (plan_of sheet tree keys) path nonce k node has in
          let key = key_there tree.dirty keys k are.one_each (in_list tree.dirty j lt) in
          let w = key_within tree.dirty keys k key.0 key.1 in
          let same : w.0 ≡ j = one_place tree.dirty w.0 j sound.rising w.1 lt w.3 in
          ap (λ (n : Node). n.key) (there.1 ∙ made_is (plan_of sheet tree keys) k key.0 there.0 key.1) ∙ sym w.4 ∙ ap (λ (i : ℕ). slice_index_or keys i []) same;
      free_entries = λ m k node dirty has two up dead.
          let there = node_there (plan_of sheet tree keys) path nonce (mht_place m) node has in
          let key = key_there tree.dirty keys (mht_place m) are.one_each dirty in
          let entry = entry_in_made (plan_of sheet tree keys) is_plan k key.0 two (subst (λ (j : ℕ). j < node_count (length (now sheet tree))) (sym up) there.0) (ap (key_of tree.dirty keys) up ∙ key.1) in
          ap (λ (n : Node). entry_at n.plain (slot_of k)) there.1 ∙ ap (λ (j : ℕ). entry_at (node_of (plan_of sheet tree keys) j).plain (slot_of k)) (sym up) ∙ entry
          ∙ free_entry (plan_of sheet tree keys) (node_of (plan_of sheet tree keys)) k (subst (λ (n : ℕ). node_count n ≤ k) (sym long) dead);
    }

pub next_exists : NextExists
next_exists sheet tree path nonce keys old backs sound may are = (sheet_of (plan_of sheet tree keys) path nonce, is_next sheet tree keys old backs sound are path nonce may)
