-- A sheet by a plan: the nodes that get a key are made, children first, and the others are given.
use Rattle.std.proofs.Common.{◌≡◌, ◌⊎◌, inl, inr, ℕ, zero, suc, ◌+◌, ◌-◌, ◌*◌, ◌/◌, ◌%◌, ◌<◌, ◌≤◌, ◌==◌, List, [], length, take, drop, replicate, refl, ap, ◌∙◌, sym, arith, Option, Some, None, map, ltb, eq-eqb}
use Rattle.std.specs.Prelude.{nat_lt, if◌then◌else◌}
use Rattle.std.specs.List.{range_with_len}
use Rattle.std.proofs.lemmas.Bool.{cases_lt, cases_eq, ne_eqb, cond-true, cond-false, lt-ltb, le-ltb}
use Rattle.std.proofs.lemmas.List.{length-append, length-take, length-replicate}
use Rattle.std.proofs.lemmas.List.FromFn.{length-map-range_with_len, get_or-map-range_with_len}
use Rattle.std.proofs.lemmas.Option.{slice_get_within, get_or_from_slice_get}
use Rattle.node_layout.proofs.Lengths.{length-tag}
use Rattle.node_layout.specs.Places.{data_place, node_count, parent_of, slot_of}
use Rattle.node_layout.specs.Entries.{entry_at}
use Rattle.node_layout.proofs.Numbers.{parent_before, slot_below}
use Rattle.node_tree.specs.Content.{data_text}
use Rattle.node_tree.specs.Sheet.{Node, Sheet, HasNode, IsLinked, tag_of}
use Rattle.node_tree.specs.Existing.{MayBeSealed}
use Rattle.node_tree.specs.Opened.{Entry}
use Rattle.node_tree.proofs.Children.{child_of, child_after, child_is, parent_rest}
use Rattle.node_tree.proofs.Entering.{entries_text, AreWhole, length-entries_text, entry_at-entries_text}

pub record Plan : Type 0 where
  pub content : List ℕ
  pub keys : ℕ → Option (List ℕ)
  pub given : ℕ → Node

abbrev pub count_of : Plan → ℕ
count_of plan = node_count (length plan.content)

-- the entry of a child, from the nodes behind; of one that is not live, zeros
abbrev pub entry_made : Plan → (ℕ → Node) → ℕ → Entry
entry_made plan behind j = if nat_lt j (count_of plan) then ((behind j).key, tag_of (behind j)) else (replicate 16 0, replicate 16 0)

abbrev pub text_made : Plan → (ℕ → Node) → ℕ → List ℕ
text_made plan behind k = if (k - 1) % 97 == 0 then entries_text (λ s. entry_made plan behind (child_of k s)) else data_text plan.content (96 * ((k - 1) / 97) + ((k - 1) % 97 - 1))

abbrev pub made_with : Plan → (ℕ → Node) → ℕ → Option (List ℕ) → Node
made_with plan behind k (Some key) = record { key = key; plain = text_made plan behind k }
made_with plan behind k None = plan.given k

-- node k, made with n levels behind it
abbrev pub made : Plan → ℕ → ℕ → Node
made plan zero k = plan.given k
made plan (suc n) k = made_with plan (made plan n) k (plan.keys k)

abbrev pub node_of : Plan → ℕ → Node
node_of plan k = made plan (count_of plan) k

abbrev pub sheet_of : Plan → List ℕ → List ℕ → Sheet
sheet_of plan path nonce = record { path = path; nonce = nonce; content = plan.content; nodes = map (node_of plan) (range_with_len 1 (count_of plan - 1)) }

-- the nodes that get no key stand linked, below parents that get none
pub record IsPlan (plan : Plan) : Type 0 where
  pub key_length : (k : ℕ) (key : List ℕ) → 1 ≤ k → k < count_of plan → plan.keys k ≡ Some key → length key ≡ 16
  pub given_key : (k : ℕ) → 1 ≤ k → k < count_of plan → plan.keys k ≡ None → length (plan.given k).key ≡ 16
  pub given_whole : (k : ℕ) → 1 ≤ k → k < count_of plan → plan.keys k ≡ None → length (plan.given k).plain ≡ 4096
  pub slices : (d : ℕ) → data_place d < count_of plan → plan.keys (data_place d) ≡ None → (plan.given (data_place d)).plain ≡ data_text plan.content d
  pub parents : (k : ℕ) → 2 ≤ k → k < count_of plan → plan.keys (parent_of k) ≡ None → plan.keys k ≡ None
  pub entries : (k : ℕ) → 2 ≤ k → k < count_of plan → plan.keys (parent_of k) ≡ None → plan.keys k ≡ None → entry_at (plan.given (parent_of k)).plain (slot_of k) ≡ ((plan.given k).key, tag_of (plan.given k))

pub cases_option : {X : Type 0} (o : Option X) → ((x : X) × (o ≡ Some x)) ⊎ (o ≡ None)
cases_option (Some x) = inl (x, refl)
cases_option None = inr refl

pub length-data_text : (content : List ℕ) (d : ℕ) → length (data_text content d) ≡ 4096
length-data_text content d =
    let front = take 4096 (drop (3072 + 4096 * d) content) in
    omega (arith, length-append front (replicate (4096 - length front) 0), length-replicate {A = ℕ} (4096 - length front) 0, length-take 4096 (drop (3072 + 4096 * d) content))

module _ (plan : Plan) where
  pub live_entry : (behind : ℕ → Node) (j : ℕ) → j < count_of plan → entry_made plan behind j ≡ ((behind j).key, tag_of (behind j))
  live_entry behind j lt = cond-true (ltb j (count_of plan)) _ _ (lt-ltb j (count_of plan) lt)

  pub free_entry : (behind : ℕ → Node) (j : ℕ) → count_of plan ≤ j → entry_made plan behind j ≡ (replicate 16 0, replicate 16 0)
  free_entry behind j le = cond-false (ltb j (count_of plan)) _ _ (le-ltb j (count_of plan) le)

  pub hash_text : (behind : ℕ → Node) (k : ℕ) → (k - 1) % 97 ≡ 0 → text_made plan behind k ≡ entries_text (λ s. entry_made plan behind (child_of k s))
  hash_text behind k e = cond-true _ _ _ (eq-eqb ((k - 1) % 97) 0 e)

  data_is : (behind : ℕ → Node) (d : ℕ) → text_made plan behind (data_place d) ≡ data_text plan.content d
  data_is behind d =
      let rest : (data_place d - 1) % 97 ≡ 1 + d % 96 = omega arith in
      let whole : (data_place d - 1) / 97 ≡ d / 96 = omega arith in
      let is : 96 * ((data_place d - 1) / 97) + ((data_place d - 1) % 97 - 1) ≡ d = omega (arith, rest, whole) in
      cond-false _ _ _ (ne_eqb ((data_place d - 1) % 97) 0 (λ e. omega (arith, e, rest))) ∙ ap (data_text plan.content) is

  -- entries from nodes that are the same behind
  same_entry : (f g : ℕ → Node) (j : ℕ) → (j < count_of plan → f j ≡ g j) → entry_made plan f j ≡ entry_made plan g j
  same_entry f g j same =
      elim (cases_lt j (count_of plan)) [
        | inl lt ↦ live_entry f j lt ∙ ap (λ (n : Node). (n.key, tag_of n)) (same lt) ∙ sym (live_entry g j lt)
        | inr ge ↦ free_entry f j ge ∙ sym (free_entry g j ge)
      ]

  same_entries : (f g : ℕ → Entry) → ((s : ℕ) → f s ≡ g s) → entries_text f ≡ entries_text g
  same_entries f g same = ap entries_text (λ i s. same s i)

  same_text : (f g : ℕ → Node) (k : ℕ) → ((j : ℕ) → k < j → j < count_of plan → f j ≡ g j) → text_made plan f k ≡ text_made plan g k
  same_text f g k same =
      elim (cases_eq ((k - 1) % 97) 0) [
        | inl e ↦ hash_text f k e ∙ same_entries _ _ (λ s. same_entry f g (child_of k s) (λ lt. same (child_of k s) (child_after k s e) lt)) ∙ sym (hash_text g k e)
        | inr ne ↦ let t = ne_eqb ((k - 1) % 97) 0 ne in cond-false _ _ _ t ∙ sym (cond-false _ _ _ t)
      ]

  same_made : (f g : ℕ → Node) (k : ℕ) (o : Option (List ℕ)) → ((j : ℕ) → k < j → j < count_of plan → f j ≡ g j) → made_with plan f k o ≡ made_with plan g k o
  same_made f g k (Some key) same = let text = same_text f g k same in λ i. record { key = key; plain = text i }
  same_made f g k None same = refl

  -- more levels than there are nodes behind make the same
  enough : (n m k : ℕ) → k < count_of plan → count_of plan ≤ n + k → count_of plan ≤ m + k → made plan n k ≡ made plan m k
  enough zero m k lt le le' = absurd (omega arith)
  enough (suc n) zero k lt le le' = absurd (omega arith)
  enough (suc n) (suc m) k lt le le' = same_made (made plan n) (made plan m) k (plan.keys k) (λ j after live. enough n m j live (omega arith) (omega arith))

  one_more : (n k : ℕ) → k < count_of plan → count_of plan ≤ n + k → made plan n k ≡ made_with plan (made plan n) k (plan.keys k)
  one_more zero k lt le = absurd (omega arith)
  one_more (suc n) k lt le = same_made (made plan n) (made plan (suc n)) k (plan.keys k) (λ j after live. enough n (suc n) j live (omega arith) (omega arith))

  node_is : (k : ℕ) → k < count_of plan → node_of plan k ≡ made_with plan (node_of plan) k (plan.keys k)
  node_is k lt = one_more (count_of plan) k lt (omega arith)

  pub made_is : (k : ℕ) (key : List ℕ) → k < count_of plan → plan.keys k ≡ Some key → node_of plan k ≡ record { key = key; plain = text_made plan (node_of plan) k }
  made_is k key lt is = node_is k lt ∙ ap (made_with plan (node_of plan) k) is

  pub given_is : (k : ℕ) → k < count_of plan → plan.keys k ≡ None → node_of plan k ≡ plan.given k
  given_is k lt is = node_is k lt ∙ ap (made_with plan (node_of plan) k) is

  -- the sheet has these nodes
  pub node_there : (path nonce : List ℕ) (k : ℕ) (node : Node) → HasNode (sheet_of plan path nonce) k node → (k < count_of plan) × (node ≡ node_of plan k)
  node_there path nonce k node has =
      let nodes = map (node_of plan) (range_with_len 1 (count_of plan - 1)) in
      let low = has.numbered in
      let long = length-map-range_with_len (node_of plan) 1 (count_of plan - 1) in
      let within : k - 1 < length nodes = slice_get_within nodes (k - 1) node has.there in
      let lt : k - 1 < count_of plan - 1 = omega (arith, long) in
      (omega arith, sym (get_or_from_slice_get nodes (k - 1) node node has.there) ∙ get_or-map-range_with_len (node_of plan) 1 (count_of plan - 1) (k - 1) k node lt (omega arith))

  module _ (is : IsPlan plan) where
    key_whole : (k : ℕ) → 1 ≤ k → k < count_of plan → length (node_of plan k).key ≡ 16
    key_whole k low lt =
        elim (cases_option (plan.keys k)) [
          | inl (key, there) ↦ ap (λ (n : Node). length n.key) (made_is k key lt there) ∙ is.key_length k key low lt there
          | inr none ↦ ap (λ (n : Node). length n.key) (given_is k lt none) ∙ is.given_key k low lt none
        ]

    entry_whole : (j : ℕ) → 1 ≤ j → (length (entry_made plan (node_of plan) j).0 ≡ 16) × (length (entry_made plan (node_of plan) j).1 ≡ 16)
    entry_whole j low =
        elim (cases_lt j (count_of plan)) [
          | inl lt ↦
              let e = live_entry (node_of plan) j lt in
              let key = key_whole j low lt in
              (ap (λ (x : Entry). length x.0) e ∙ key, ap (λ (x : Entry). length x.1) e ∙ length-tag (node_of plan j).key [] (node_of plan j).plain key)
          | inr ge ↦
              let e = free_entry (node_of plan) j ge in
              (ap (λ (x : Entry). length x.0) e ∙ length-replicate {A = ℕ} 16 0, ap (λ (x : Entry). length x.1) e ∙ length-replicate {A = ℕ} 16 0)
        ]

    all_whole : (k : ℕ) → (k - 1) % 97 ≡ 0 → AreWhole (λ s. entry_made plan (node_of plan) (child_of k s))
    all_whole k e = record {
      key = λ s. (entry_whole (child_of k s) (let after = child_after k s e in omega arith)).0;
      tag = λ s. (entry_whole (child_of k s) (let after = child_after k s e in omega arith)).1;
    }

    text_whole : (k : ℕ) → length (text_made plan (node_of plan) k) ≡ 4096
    text_whole k =
        elim (cases_eq ((k - 1) % 97) 0) [
          | inl e ↦ ap length (hash_text (node_of plan) k e) ∙ length-entries_text (λ s. entry_made plan (node_of plan) (child_of k s)) (all_whole k e)
          | inr ne ↦ ap length (cond-false _ _ _ (ne_eqb ((k - 1) % 97) 0 ne)) ∙ length-data_text plan.content _
        ]

    plain_whole : (k : ℕ) → 1 ≤ k → k < count_of plan → length (node_of plan k).plain ≡ 4096
    plain_whole k low lt =
        elim (cases_option (plan.keys k)) [
          | inl (key, there) ↦ ap (λ (n : Node). length n.plain) (made_is k key lt there) ∙ text_whole k
          | inr none ↦ ap (λ (n : Node). length n.plain) (given_is k lt none) ∙ is.given_whole k low lt none
        ]

    slice_is : (d : ℕ) → data_place d < count_of plan → (node_of plan (data_place d)).plain ≡ data_text plan.content d
    slice_is d lt =
        elim (cases_option (plan.keys (data_place d))) [
          | inl (key, there) ↦ ap (λ (n : Node). n.plain) (made_is (data_place d) key lt there) ∙ data_is (node_of plan) d
          | inr none ↦ ap (λ (n : Node). n.plain) (given_is (data_place d) lt none) ∙ is.slices d lt none
        ]

    -- the entry of a node in a parent that is made
    pub entry_in_made : (k : ℕ) (key : List ℕ) → 2 ≤ k → parent_of k < count_of plan → plan.keys (parent_of k) ≡ Some key → entry_at (node_of plan (parent_of k)).plain (slot_of k) ≡ entry_made plan (node_of plan) k
    entry_in_made k key two live there =
        let rest = parent_rest k in
        ap (λ (n : Node). entry_at n.plain (slot_of k)) (made_is (parent_of k) key live there)
        ∙ ap (λ (t : List ℕ). entry_at t (slot_of k)) (hash_text (node_of plan) (parent_of k) rest)
        ∙ entry_at-entries_text (λ s. entry_made plan (node_of plan) (child_of (parent_of k) s)) (all_whole (parent_of k) rest) (slot_of k) (slot_below k)
        ∙ ap (entry_made plan (node_of plan)) (child_is k two)

    entry_is : (k : ℕ) → 2 ≤ k → k < count_of plan → entry_at (node_of plan (parent_of k)).plain (slot_of k) ≡ ((node_of plan k).key, tag_of (node_of plan k))
    entry_is k two lt =
        let before = (parent_before k two).1 in
        let live : parent_of k < count_of plan = omega arith in
        elim (cases_option (plan.keys (parent_of k))) [
          | inl (key, there) ↦ entry_in_made k key two live there ∙ live_entry (node_of plan) k lt
          | inr none ↦
              let here = is.parents k two lt none in
              ap (λ (n : Node). entry_at n.plain (slot_of k)) (given_is (parent_of k) live none) ∙ is.entries k two lt none here ∙ ap (λ (n : Node). (n.key, tag_of n)) (sym (given_is k lt here))
        ]

    pub linked : (path nonce : List ℕ) → MayBeSealed path nonce (length plan.content) → IsLinked (sheet_of plan path nonce)
    linked path nonce may = record {
      path_is = may.path_is;
      nonce_length = may.nonce_length;
      not_large = may.not_large;
      all_nodes = omega (arith, length-map-range_with_len (node_of plan) 1 (count_of plan - 1));
      key_length = λ k node has.
          let there = node_there path nonce k node has in
          ap (λ (n : Node). length n.key) there.1 ∙ key_whole k has.numbered there.0;
      whole = λ k node has.
          let there = node_there path nonce k node has in
          ap (λ (n : Node). length n.plain) there.1 ∙ plain_whole k has.numbered there.0;
      slices = λ d node has.
          let there = node_there path nonce (data_place d) node has in
          ap (λ (n : Node). n.plain) there.1 ∙ slice_is d there.0;
      entries = λ k parent node two has_parent has.
          let up = node_there path nonce (parent_of k) parent has_parent in
          let there = node_there path nonce k node has in
          ap (λ (n : Node). entry_at n.plain (slot_of k)) up.1 ∙ entry_is k two there.0 ∙ ap (λ (n : Node). (n.key, tag_of n)) (sym there.1);
    }
