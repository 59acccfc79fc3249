-- There is one next sheet.
use Rattle.std.proofs.Common.{◌≡◌, inl, inr, ℕ, zero, suc, ◌+◌, ◌-◌, ◌%◌, ◌<◌, ◌≤◌, List, [], length, ap, ◌∙◌, sym, subst, arith, Some}
use Rattle.std.specs.Prelude.{slice_get, Contains}
use Rattle.std.proofs.lemmas.Bool.{cases_lt}
use Rattle.std.proofs.lemmas.List.{ext_get_or}
use Rattle.std.proofs.lemmas.Option.{same_Some, get_or_from_slice_get}
use Rattle.node_layout.specs.Places.{mht_place, node_count, slot_of}
use Rattle.node_layout.specs.Entries.{entry_at}
use Rattle.node_layout.proofs.Numbers.{each_number}
use Rattle.node_tree.specs.Content.{data_text}
use Rattle.node_tree.specs.Sheet.{Node, Sheet, HasNode, tag_of}
use Rattle.node_tree.proofs.Standing.{node_there, within}
use Rattle.node_tree.specs.State.{TreeState}
use Rattle.node_tree.specs.Backing.{now, plain_now}
use Rattle.node_tree.proofs.Unforging.{contains_cases}
use Rattle.node_tree.specs.Content.{byte_of}
use Rattle.std.proofs.lemmas.List.FromFn.{length-map-range_with_len}
use Rattle.node_tree.specs.Next.{NextSheet, NextIsOne}
use Rattle.node_tree.proofs.Children.{child_of, child_after, slot_is}
use Rattle.node_tree.proofs.Entering.{entries_one}
use Rattle.node_tree.proofs.Keyed.{place_in}

module _ (sheet : Sheet) (tree : TreeState) (path nonce : List ℕ) (keys : List (List ℕ)) (a b : Sheet) (one : NextSheet sheet tree path nonce keys a) (two : NextSheet sheet tree path nonce keys b) where
  same_content : a.content ≡ b.content
  same_content = one.content_is ∙ sym two.content_is

  size_is : (s : Sheet) → s.content ≡ now sheet tree → length s.content ≡ tree.size
  size_is s is = ap length is ∙ length-map-range_with_len (byte_of tree.first (plain_now sheet tree)) 0 tree.size

  count_is : (s : Sheet) → NextSheet sheet tree path nonce keys s → 1 + length s.nodes ≡ node_count tree.size
  count_is s next = next.linked.all_nodes ∙ ap node_count (size_is s next.content_is)

  there_in : (s : Sheet) → NextSheet sheet tree path nonce keys s → (k : ℕ) → 1 ≤ k → k < node_count tree.size → (node : Node) × HasNode s k node
  there_in s next k low lt = let count = count_is s next in let le : k ≤ length s.nodes = omega arith in node_there s k low le

  same_key : (k : ℕ) (x y : Node) → Contains tree.dirty k → HasNode a k x → HasNode b k y → x.key ≡ y.key
  same_key k x y dirty has has' =
      let p = place_in tree.dirty k dirty in
      one.new_keys p.0 x p.1 (subst (λ (j : ℕ). HasNode a j x) (sym p.2) has) ∙ sym (two.new_keys p.0 y p.1 (subst (λ (j : ℕ). HasNode b j y) (sym p.2) has'))

  same_entry : (m s : ℕ) (x y : Node) → Contains tree.dirty (mht_place m) → HasNode a (mht_place m) x → HasNode b (mht_place m) y
      → ((j : ℕ) (u v : Node) → mht_place m < j → HasNode a j u → HasNode b j v → u ≡ v) → s < 128 → entry_at x.plain s ≡ entry_at y.plain s
  same_entry m s x y dirty has has' behind lt =
      let c = child_of (mht_place m) s in
      let is = slot_is m s lt in
      let rest : (mht_place m - 1) % 97 ≡ 0 = omega arith in
      let after = child_after (mht_place m) s rest in
      let at : (t : List ℕ) → entry_at t s ≡ entry_at t (slot_of c) = λ t. ap (entry_at t) (sym is.2) in
      elim (cases_lt c (node_count tree.size)) [
        | inl live ↦
            let low : 1 ≤ c = omega (arith, is.0) in
            let u = there_in a one c low live in
            let v = there_in b two c low live in
            at x.plain ∙ one.linked.entries c x u.0 is.0 (subst (λ (j : ℕ). HasNode a j x) (sym is.1) has) u.1
            ∙ ap (λ (n : Node). (n.key, tag_of n)) (behind c u.0 v.0 after u.1 v.1)
            ∙ sym (two.linked.entries c y v.0 is.0 (subst (λ (j : ℕ). HasNode b j y) (sym is.1) has') v.1) ∙ sym (at y.plain)
        | inr dead ↦
            at x.plain ∙ one.free_entries m c x dirty has is.0 is.1 dead ∙ sym (two.free_entries m c y dirty has' is.0 is.1 dead) ∙ sym (at y.plain)
      ]

  same_plain : (k : ℕ) (x y : Node) → Contains tree.dirty k → HasNode a k x → HasNode b k y
      → ((j : ℕ) (u v : Node) → k < j → HasNode a j u → HasNode b j v → u ≡ v) → x.plain ≡ y.plain
  same_plain k x y dirty has has' behind =
      elim (each_number k has.numbered) [
        | inl (d, is) ↦
            one.linked.slices d x (subst (λ (j : ℕ). HasNode a j x) is has) ∙ ap (λ (t : List ℕ). data_text t d) same_content ∙ sym (two.linked.slices d y (subst (λ (j : ℕ). HasNode b j y) is has'))
        | inr (m, is) ↦
            let has_m = subst (λ (j : ℕ). HasNode a j x) is has in
            let has_m' = subst (λ (j : ℕ). HasNode b j y) is has' in
            entries_one x.plain y.plain (one.linked.whole k x has) (two.linked.whole k y has')
            (λ s lt. same_entry m s x y (subst (Contains tree.dirty) is dirty) has_m has_m' (λ j u v after. behind j u v (omega arith)) lt)
      ]

  -- nodes behind first
  same_node : (n k : ℕ) (x y : Node) → node_count tree.size ≤ n + k → HasNode a k x → HasNode b k y → x ≡ y
  same_node zero k x y le has has' =
      let inside = within a k x has in
      let count = count_is a one in
      absurd (omega arith)
  same_node (suc n) k x y le has has' =
      elim (contains_cases tree.dirty k) [
        | inl dirty ↦
            let key = same_key k x y dirty has has' in
            let plain = same_plain k x y dirty has has' (λ j u v after has_u has_v. same_node n j u v (omega arith) has_u has_v) in
            λ i. record { key = key i; plain = plain i }
        | inr clean ↦ same_Some x y (sym (one.clean k x clean has).there ∙ (two.clean k y clean has').there)
      ]

  same_nodes : a.nodes ≡ b.nodes
  same_nodes =
      let none : Node = record { key = []; plain = [] } in
      let count = count_is a one in
      let count' = count_is b two in
      let long : length a.nodes ≡ length b.nodes = omega arith in
      ext_get_or none a.nodes b.nodes long
      (λ i lt.
      let x = node_there a (i + 1) (omega arith) (omega arith) in
      let y = node_there b (i + 1) (omega arith) (omega arith) in
      let e : i + 1 - 1 ≡ i = omega arith in
      let gets : (s : Sheet) (node : Node) → HasNode s (i + 1) node → slice_get s.nodes i ≡ Some node = λ s node has. ap (λ (j : ℕ). slice_get s.nodes j) (sym e) ∙ has.there in
      get_or_from_slice_get a.nodes i x.0 none (gets a x.0 x.1) ∙ same_node (node_count tree.size) (i + 1) x.0 y.0 (omega arith) x.1 y.1 ∙ sym (get_or_from_slice_get b.nodes i y.0 none (gets b y.0 y.1)))

  same_sheet : a ≡ b
  same_sheet =
      let path_is = one.path_is ∙ sym two.path_is in
      let nonce_is = one.nonce_is ∙ sym two.nonce_is in
      λ i. record { path = path_is i; nonce = nonce_is i; content = same_content i; nodes = same_nodes i }

pub next_is_one : NextIsOne
next_is_one sheet tree path nonce keys next other one two = same_sheet sheet tree path nonce keys next other one two
