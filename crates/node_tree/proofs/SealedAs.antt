-- A tree that was sealed is as the next sheet has it, and the sheet backs it once it is settled.
use Rattle.std.proofs.Common.{◌≡◌, ◌≢◌, inl, inr, ℕ, ◌+◌, ◌<◌, ◌≤◌, List, [], ◌∷◌, length, take, replicate, refl, ap, ap₂, ◌∙◌, sym, subst, arith, Option, Some, eqb, ltb, ◌-◌, slice_index}
use Rattle.std.specs.Prelude.{Contains}
use Rattle.std.proofs.lemmas.Bool.{cases_lt, cases_eq, cond-true, cond-false, eq-eqb, ne_eqb, lt-ltb}
use Rattle.std.proofs.lemmas.Option.{same_Some}
use Rattle.std.proofs.lemmas.List.{ext_get_or, length-append, length-take, length-replicate}
use Rattle.std.proofs.lemmas.List.FromFn.{length-map-range_with_len, get_or-map-range_with_len}
use Rattle.node_layout.specs.declared.metadata.MetaSecret.{MetaSecret}
use Rattle.node_layout.specs.Metadata.{IsMetaText}
use Rattle.node_layout.specs.Places.{data_place, node_count, parent_of}
use Rattle.node_layout.proofs.Numbers.{data_live}
use Rattle.node_tree.specs.Content.{first_text, data_text, byte_of, bytes_of}
use Rattle.node_tree.specs.Sheet.{Node, Sheet, HasNode, IsLinked, plain_in, root_of, meta_of}
use Rattle.node_tree.specs.Opened.{Entry}
use Rattle.node_tree.specs.State.{TreeState, held_at, Held, root_in, plain_or, sealed_root, IsSound}
use Rattle.node_tree.specs.Backing.{Backs, IsMetaOf, now, plain_now}
use Rattle.node_tree.specs.Clearing.{AreCleared}
use Rattle.node_tree.specs.Sealing.{ArePut}
use Rattle.node_tree.specs.Next.{NextSheet, IsSealedAs, IsSettled}
use Rattle.node_tree.specs.Stepping.{BacksWith}
use Rattle.node_tree.proofs.Bytes.{first_byte, first_padding, content_is, data_padding}
use Rattle.node_tree.proofs.Keyed.{place_in}
use Rattle.node_tree.proofs.Matching.{put_are_next}
use Rattle.node_tree.proofs.Order.{no_member}
use Rattle.node_tree.proofs.Planned.{cases_option}
use Rattle.node_tree.proofs.Standing.{node_there, root_is as root_of_is, plain_in-there, within, meta_is_text}
use Rattle.node_tree.proofs.Unforging.{contains_cases}

zeros : (nodes : List Node) → length nodes ≡ 0 → root_of nodes ≡ (replicate 16 0, replicate 16 0)
zeros [] none = refl
zeros (node ∷ nodes) none = absurd (omega arith)

-- the first bytes with zeros behind the content are those of the content
first_is : (first : List ℕ) (p : ℕ → List ℕ) (size : ℕ) → length first ≡ 3072 → ((i : ℕ) → size ≤ i → i < 3072 → slice_index first i ≡ 0) → first ≡ first_text (bytes_of first p 0 size)
first_is first p size long padded =
    let content = bytes_of first p 0 size in
    let whole : length content ≡ size = length-map-range_with_len (byte_of first p) 0 size in
    let front = take 3072 content in
    let all : length (first_text content) ≡ 3072 = omega (arith, length-append front (replicate (3072 - length front) 0), length-take 3072 content, length-replicate {A = ℕ} (3072 - length front) 0) in
    ext_get_or 0 first (first_text content) (long ∙ sym all)
    (λ i lt.
    let low : i < 3072 = omega (arith, long) in
    elim (cases_lt i size) [
      | inl inside ↦
          sym (first_byte content i low (omega (arith, whole)) ∙ get_or-map-range_with_len (byte_of first p) 0 size i i 0 inside (omega arith) ∙ cond-true (ltb i 3072) _ _ (lt-ltb i 3072 low))
      | inr behind ↦ padded i behind low ∙ sym (first_padding content i (omega (arith, whole)) low)
    ])

module _ (sheet next : Sheet) (tree new : TreeState) (path nonce : List ℕ) (keys : List (List ℕ)) (cleared held_now : ℕ → Option (List ℕ)) (root_now : Entry) (backs : Backs sheet tree) (sound : IsSound tree) (old : IsLinked sheet) (clear : AreCleared (node_count tree.size) tree.dirty (held_at tree) cleared)
    (is_next : NextSheet sheet tree path nonce keys next) (put : ArePut tree.dirty keys cleared held_now (root_in tree) root_now) (first_length : length tree.first ≡ 3072) (held : (k : ℕ) → held_at new k ≡ held_now k) (root_is : root_in new ≡ root_now) (size_same : new.size ≡ tree.size) (first_same : new.first ≡ tree.first) where
  size_is : length next.content ≡ tree.size
  size_is = ap length is_next.content_is ∙ length-map-range_with_len (byte_of tree.first (plain_now sheet tree)) 0 tree.size

  count_is : 1 + length next.nodes ≡ node_count tree.size
  count_is = is_next.linked.all_nodes ∙ ap node_count size_is

  there_in : (k : ℕ) → 1 ≤ k → k < node_count tree.size → (node : Node) × HasNode next k node
  there_in k low lt = let le : k ≤ length next.nodes = omega (arith, count_is) in node_there next k low le

  matches : (k : ℕ) (node : Node) → Contains tree.dirty k → HasNode next k node → held_now k ≡ Some node.plain
  matches k node dirty has = put_are_next sheet next tree path nonce keys cleared held_now root_now backs sound old clear is_next put k node dirty has

  root_next : node_count tree.size ≢ 1 → root_now ≡ root_of next.nodes
  root_next more =
      let n = there_in 1 (omega arith) (omega arith) in
      elim (contains_cases tree.dirty 1) [
        | inl dirty ↦
            let q = place_in tree.dirty 1 dirty in
            let key = is_next.new_keys q.0 n.0 q.1 (subst (λ (j : ℕ). HasNode next j n.0) (sym q.2) n.1) in
            put.root_is n.0.key n.0.plain (record { place = q.0; within = q.1; number_is = q.2; key_is = sym key }) (matches 1 n.0 dirty n.1) ∙ sym (root_of_is next.nodes n.0 n.1.there)
        | inr clean ↦
            let has = is_next.clean 1 n.0 clean n.1 in
            put.no_root clean ∙ backs.root ∙ root_of_is sheet.nodes n.0 has.there ∙ sym (root_of_is next.nodes n.0 n.1.there)
      ]

  root_sealed : sealed_root new ≡ root_of next.nodes
  root_sealed =
      elim (cases_eq (node_count new.size) 1) [
        | inl one ↦
            let single : node_count tree.size ≡ 1 = ap node_count (sym size_same) ∙ one in
            cond-true (eqb (node_count new.size) 1) _ _ (eq-eqb (node_count new.size) 1 one) ∙ sym (zeros next.nodes (omega (arith, count_is, single)))
        | inr more ↦ cond-false (eqb (node_count new.size) 1) _ _ (ne_eqb (node_count new.size) 1 more) ∙ root_is ∙ root_next (λ single. more (ap node_count size_same ∙ single))
      ]

  -- what is held of a live node is the next sheet's
  held_is : (k : ℕ) (node : Node) (plain : List ℕ) → k < node_count tree.size → HasNode next k node → held_now k ≡ Some plain → plain ≡ node.plain
  held_is k node plain live has there =
      elim (contains_cases tree.dirty k) [
        | inl dirty ↦ same_Some plain node.plain (sym there ∙ matches k node dirty has)
        | inr clean ↦
            let was = put.childless k (λ c dirty two up. clean (subst (Contains tree.dirty) up (backs.dirty_parents c dirty two))) in
            let n = backs.clean k has.numbered live clean in
            let same : n.0 ≡ node = same_Some n.0 node (sym n.1.there ∙ (is_next.clean k node clean has).there) in
            n.2 plain (sym (was ∙ clear.others k clean) ∙ there) ∙ ap (λ (m : Node). m.plain) same
      ]

  -- the tree is as the next sheet has it
  pub sealed_as : IsSealedAs next new
  sealed_as = record {
    linked = is_next.linked;
    size = size_is ∙ sym size_same;
    first = first_same ∙ first_is tree.first (plain_now sheet tree) tree.size first_length backs.padded.of_first ∙ ap first_text (sym is_next.content_is);
    root = root_sealed;
    plains = λ k node plain has there.
        let live = within next k node has in
        held_is k node plain (omega (arith, live, count_is)) has (sym (held k) ∙ there);
  }

-- once it is settled
module _ (next : Sheet) (old new : TreeState) (was : IsSealedAs next old) (settled : IsSettled old new) where
  none_dirty : (k : ℕ) → ¬ (Contains new.dirty k)
  none_dirty k dirty = no_member k (subst (λ (l : List ℕ). Contains l k) settled.dirty dirty)

  count_next : 1 + length next.nodes ≡ node_count new.size
  count_next = was.linked.all_nodes ∙ ap node_count (was.size ∙ sym settled.size)

  held_next : (k : ℕ) (node : Node) (plain : List ℕ) → HasNode next k node → Held new k plain → plain ≡ node.plain
  held_next k node plain has there = was.plains k node plain has (sym (settled.held k) ∙ there)

  plain_is : (k : ℕ) (node : Node) → HasNode next k node → plain_now next new k ≡ node.plain
  plain_is k node has =
      elim (cases_option (held_at new k)) [
        | inl (plain, there) ↦ ap (λ (o : Option (List ℕ)). plain_or o (plain_in next k)) there ∙ held_next k node plain has there
        | inr none ↦ ap (λ (o : Option (List ℕ)). plain_or o (plain_in next k)) none ∙ plain_in-there next k node has
      ]

  data_is : (d : ℕ) → data_place d < node_count new.size → plain_now next new (data_place d) ≡ data_text next.content d
  data_is d live =
      let n = node_there next (data_place d) (omega arith) (omega (arith, count_next)) in
      plain_is (data_place d) n.0 n.1 ∙ was.linked.slices d n.0 n.1

  settled_backs : Backs next new
  settled_backs = record {
    root = settled.root ∙ was.root;
    base = settled.base ∙ ap node_count (sym was.size);
    clean = λ k low live _.
        let n = node_there next k low (omega (arith, count_next)) in
        (n.0, n.1, λ plain there. held_next k n.0 plain n.1 there);
    dirty_held = λ k dirty. absurd (none_dirty k dirty);
    dirty_parents = λ k dirty two. absurd (none_dirty k dirty);
    entries = λ k node parent two live clean has dirty there. absurd (none_dirty (parent_of k) dirty);
    padded = record {
      of_first = λ i le lt. ap (λ (l : List ℕ). slice_index l i) (settled.first ∙ was.first) ∙ first_padding next.content i (let s = was.size in let t = settled.size in omega (arith, s, t)) lt;
      of_nodes = λ d r live le small.
          ap (λ (l : List ℕ). slice_index l r) (data_is d live) ∙ data_padding next.content d r (let s = was.size in let t = settled.size in omega (arith, s, t)) small;
    };
  }

  settled_now : now next new ≡ next.content
  settled_now =
      ap₂ (λ (first : List ℕ) (n : ℕ). bytes_of first (plain_now next new) 0 n) (settled.first ∙ was.first) (settled.size ∙ sym was.size)
      ∙ sym (content_is next.content (plain_now next new) (λ d lt. data_is d (subst (λ (n : ℕ). data_place d < node_count n) (was.size ∙ sym settled.size) ((data_live (length next.content) d).1 lt))))

  pub settled_with : BacksWith next new next.content
  settled_with = record { backs = settled_backs; content_is = settled_now }

-- its metadata
pub sealed_meta : (next : Sheet) (tree : TreeState) (path : List ℕ) (meta : MetaSecret) → IsSealedAs next tree → next.path ≡ path → meta ≡ record { path = path; size = tree.size; root_key = (sealed_root tree).0; root_tag = (sealed_root tree).1; first = tree.first } → IsMetaOf next meta
sealed_meta next tree path meta was named is =
    subst (λ (m : MetaSecret). IsMetaOf next m) (sym is)
    (subst (λ (f : List ℕ). IsMetaText (meta_of next) path tree.size (sealed_root tree).0 (sealed_root tree).1 f) (sym was.first)
    (subst (λ (r : Entry). IsMetaText (meta_of next) path tree.size r.0 r.1 (first_text next.content)) (sym was.root)
    (subst (λ (n : ℕ). IsMetaText (meta_of next) path n (root_of next.nodes).0 (root_of next.nodes).1 (first_text next.content)) was.size
    (subst (λ (p : List ℕ). IsMetaText (meta_of next) p (length next.content) (root_of next.nodes).0 (root_of next.nodes).1 (first_text next.content)) named (meta_is_text next was.linked)))))
