-- What is held of the dirty nodes once they were put, and the next sheet.
use Rattle.std.proofs.Common.{◌≡◌, inl, inr, ℕ, zero, suc, ◌+◌, ◌-◌, ◌%◌, ◌<◌, ◌≤◌, List, length, ap, ◌∙◌, sym, subst, arith, Option, Some}
use Rattle.std.specs.Prelude.{Contains}
use Rattle.std.proofs.lemmas.Bool.{cases_lt}
use Rattle.std.proofs.lemmas.List.FromFn.{length-map-range_with_len}
use Rattle.node_layout.specs.Places.{data_place, mht_place, node_count, parent_of, slot_of}
use Rattle.node_layout.specs.Entries.{entry_at}
use Rattle.node_layout.proofs.Numbers.{each_number}
use Rattle.node_tree.specs.Content.{data_text, byte_of}
use Rattle.node_tree.specs.Sheet.{Node, Sheet, HasNode, IsLinked, plain_in}
use Rattle.node_tree.specs.Opened.{Entry}
use Rattle.node_tree.proofs.Standing.{node_there}
use Rattle.node_tree.specs.State.{TreeState, held_at, Held, root_in, plain_or}
use Rattle.node_tree.specs.Backing.{Backs, plain_now}
use Rattle.node_tree.specs.State.{IsSound}
use Rattle.node_tree.proofs.Unforging.{contains_cases}
use Rattle.node_tree.specs.Next.{NextSheet}
use Rattle.node_tree.specs.Clearing.{IsCleared, AreCleared}
use Rattle.node_tree.specs.Sealing.{ArePut}
use Rattle.node_tree.proofs.Children.{child_of, child_after, slot_is, parent_rest}
use Rattle.node_tree.proofs.Entering.{entries_one}
use Rattle.node_tree.proofs.Following.{slice_of}
use Rattle.node_tree.proofs.Keyed.{place_in}

module _ (sheet next : Sheet) (tree : TreeState) (path nonce : List ℕ) (keys : List (List ℕ)) (cleared held_now : ℕ → Option (List ℕ)) (root_now : Entry) (backs : Backs sheet tree) (sound : IsSound tree) (old : IsLinked sheet) (clear : AreCleared (node_count tree.size) tree.dirty (held_at tree) cleared)
    (is_next : NextSheet sheet tree path nonce keys next) (put : ArePut tree.dirty keys cleared held_now (root_in tree) root_now) where
  count_is : 1 + length next.nodes ≡ node_count tree.size
  count_is = is_next.linked.all_nodes ∙ ap node_count (ap length is_next.content_is ∙ length-map-range_with_len (byte_of tree.first (plain_now sheet tree)) 0 tree.size)

  there_in : (k : ℕ) → 1 ≤ k → k < node_count tree.size → (node : Node) × HasNode next k node
  there_in k low lt = let le : k ≤ length next.nodes = omega (arith, count_is) in node_there next k low le

  -- a data node has no children
  data_case : (d : ℕ) (node : Node) → Contains tree.dirty (data_place d) → HasNode next (data_place d) node → held_now (data_place d) ≡ Some node.plain
  data_case d node dirty has =
      let h = backs.dirty_held (data_place d) dirty in
      let is : plain_now sheet tree (data_place d) ≡ h.0 = ap (λ (o : Option (List ℕ)). plain_or o (plain_in sheet (data_place d))) h.1 in
      let slice = slice_of tree.first (plain_now sheet tree) tree.size d (ap length is ∙ sound.blocks (data_place d) h.0 h.1) (λ r le small. backs.padded.of_nodes d r (sound.live (data_place d) dirty) le small) in
      put.childless (data_place d) (λ c further two up. let rest = parent_rest c in let q : (data_place d - 1) % 97 ≡ 0 = ap (λ j. (j - 1) % 97) (sym up) ∙ rest in omega arith)
      ∙ clear.data_nodes d ∙ h.1 ∙ ap Some (sym is ∙ slice ∙ ap (λ (t : List ℕ). data_text t d) (sym is_next.content_is) ∙ sym (is_next.linked.slices d node has))

  -- an entry of a dirty hash-tree node
  entry_case : (m c : ℕ) (node : Node) (p after : List ℕ) → Contains tree.dirty (mht_place m) → HasNode next (mht_place m) node → Held tree (mht_place m) p → (z : IsCleared (node_count tree.size) (mht_place m) p (cleared (mht_place m))) → held_now (mht_place m) ≡ Some after → 2 ≤ c → parent_of c ≡ mht_place m
      → (¬ (Contains tree.dirty c) → entry_at after (slot_of c) ≡ entry_at z.after (slot_of c)) → ((u : Node) → Contains tree.dirty c → HasNode next c u → held_now c ≡ Some u.plain) → entry_at after (slot_of c) ≡ entry_at node.plain (slot_of c)
  entry_case m c node p after dirty has was z is two up stays child =
      elim (cases_lt c (node_count tree.size)) [
        | inr dead ↦
            stays (λ d. let l = sound.live c d in omega arith) ∙ z.dead c two up dead ∙ sym (is_next.free_entries m c node dirty has two up dead)
        | inl live ↦
            let u = there_in c (omega arith) live in
            let linked = is_next.linked.entries c node u.0 two (subst (λ (j : ℕ). HasNode next j node) (sym up) has) u.1 in
            elim (contains_cases tree.dirty c) [
              | inl dirty_c ↦
                  let q = place_in tree.dirty c dirty_c in
                  let key = is_next.new_keys q.0 u.0 q.1 (subst (λ (j : ℕ). HasNode next j u.0) (sym q.2) u.1) in
                  put.entries c u.0.key u.0.plain after (record { place = q.0; within = q.1; number_is = q.2; key_is = sym key }) two (child u.0 dirty_c u.1) (ap held_now up ∙ is) ∙ sym linked
              | inr clean_c ↦
                  stays clean_c ∙ z.live c two up live ∙ backs.entries c u.0 p two live clean_c (is_next.clean c u.0 clean_c u.1) (subst (Contains tree.dirty) (sym up) dirty) (ap (held_at tree) up ∙ was) ∙ sym linked
            ]
      ]

  hash_case : (m : ℕ) (node : Node) → Contains tree.dirty (mht_place m) → HasNode next (mht_place m) node
      → ((c : ℕ) (u : Node) → mht_place m < c → Contains tree.dirty c → HasNode next c u → held_now c ≡ Some u.plain) → held_now (mht_place m) ≡ Some node.plain
  hash_case m node dirty has child =
      let h = backs.dirty_held (mht_place m) dirty in
      let z = clear.hashes m h.0 dirty h.1 in
      let q = put.kept (mht_place m) z.after z.there in
      let long : length q.after ≡ 4096 = q.same_length ∙ z.same_length ∙ sound.blocks (mht_place m) h.0 h.1 in
      let same : q.after ≡ node.plain = entries_one q.after node.plain long (is_next.linked.whole (mht_place m) node has)
      (λ s lt.
      let c = child_of (mht_place m) s in
      let slot = slot_is m s lt in
      let rest : (mht_place m - 1) % 97 ≡ 0 = omega arith in
      let e = entry_case m c node h.0 q.after dirty has h.1 z q.there slot.0 slot.1 (λ clean. q.others c slot.0 slot.1 clean) (λ u. child c u (child_after (mht_place m) s rest)) in
      ap (entry_at q.after) (sym slot.2) ∙ e ∙ ap (entry_at node.plain) slot.2) in
      q.there ∙ ap Some same

  matches_below : (n k : ℕ) (node : Node) → node_count tree.size ≤ n + k → Contains tree.dirty k → HasNode next k node → held_now k ≡ Some node.plain
  matches_below zero k node le dirty has = absurd (let l = sound.live k dirty in omega arith)
  matches_below (suc n) k node le dirty has =
      elim (each_number k has.numbered) [
        | inl (d, is) ↦ ap held_now is ∙ data_case d node (subst (Contains tree.dirty) is dirty) (subst (λ (j : ℕ). HasNode next j node) is has)
        | inr (m, is) ↦
            ap held_now is ∙ hash_case m node (subst (Contains tree.dirty) is dirty) (subst (λ (j : ℕ). HasNode next j node) is has)
            (λ c u after dirty_c has_c. matches_below n c u (omega arith) dirty_c has_c)
      ]

  -- what is held of a dirty node once it was put is the next sheet's
  pub put_are_next : (k : ℕ) (node : Node) → Contains tree.dirty k → HasNode next k node → held_now k ≡ Some node.plain
  put_are_next k node dirty has = matches_below (node_count tree.size) k node (omega arith) dirty has
