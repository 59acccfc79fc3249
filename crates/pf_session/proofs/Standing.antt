-- The file of the next sheet, made of the last one's clean nodes and of seals.
use Rattle.std.proofs.Common.{◌≡◌, inl, inr, ℕ, zero, suc, ◌+◌, ◌-◌, ◌*◌, ◌/◌, ◌<◌, ◌≤◌, Bool, true, false, List, ◌++◌, length, drop, refl, ap, ◌∙◌, sym, subst, arith, length-append, length-drop, Some, w64}
use Rattle.std.specs.Prelude.{Contains, slice_get}
use Rattle.std.specs.List.{flat_map}
use Rattle.std.specs.Int.{to_le_bytes}
use Rattle.std.proofs.lemmas.Bool.{cases_lt, false≢true}
use Rattle.std.proofs.lemmas.List.{length-take}
use Rattle.pf_io.specs.SplicingProofs.{get_left}
use Rattle.node_layout.specs.Metadata.{meta_block, path_field}
use Rattle.node_layout.specs.Places.{node_count}
use Rattle.node_layout.proofs.Blocks.{length-meta_block}
use Rattle.node_layout.proofs.InNode.{piece_behind}
use Rattle.node_layout.proofs.Texts.{length-path_field}
use Rattle.node_tree.specs.Content.{first_text}
use Rattle.node_tree.specs.Opened.{block_of}
use Rattle.node_tree.specs.Sealing.{InBlocks}
use Rattle.node_tree.specs.Sheet.{Node, Sheet, HasNode, IsLinked, sealed, meta_of, image_of, root_of, Stands}
use Rattle.node_tree.specs.State.{TreeState}
use Rattle.node_tree.proofs.Blocks.{length-sealed_node, length-blocks, block_there}
use Rattle.node_tree.proofs.Standing.{node_there, meta_is_text, block_is}
use Rattle.pf_session.specs.Copying.{is_in, clean_below}
use Rattle.pf_session.specs.Sealing.{HasNext, HasSealed}
use Rattle.pf_session.proofs.Lists.{byte_of_piece, is_in_there, there_is_in, clean_there}

-- the length of a sheet's file
module _ (key : List ℕ) (sheet : Sheet) (linked : IsLinked sheet) (key_length : length key ≡ 16) where
  pub whole_at : (j : ℕ) (node : Node) → slice_get sheet.nodes j ≡ Some node → length node.plain ≡ 4096
  whole_at j node there = linked.whole (suc j) node (record { numbered = omega arith; there = let e : suc j - 1 ≡ j = omega arith in ap (λ (i : ℕ). slice_get sheet.nodes i) e ∙ there })

  length-meta : length (meta_of sheet) ≡ 3880
  length-meta =
      let is = meta_is_text sheet linked in
      let path = path_field sheet.path in
      let size = to_le_bytes w64 (length sheet.content) in
      let root_key : List ℕ = (root_of sheet.nodes).0 in
      let root_tag : List ℕ = (root_of sheet.nodes).1 in
      let first = first_text sheet.content in
      omega (
        arith,
        length-append (path ++ size ++ root_key ++ root_tag) first,
        length-append (path ++ size ++ root_key) root_tag,
        length-append (path ++ size) root_key,
        length-append path size,
        length-path_field sheet.path linked.path_is,
        is.root_key_length,
        is.root_tag_length,
        is.first_length,
      )

  pub length-node_0 : length (meta_block key sheet.nonce (meta_of sheet)) ≡ 4096
  length-node_0 = length-meta_block key sheet.nonce (meta_of sheet) key_length linked.nonce_length length-meta

  pub length-image : length (image_of key sheet) ≡ 4096 + 4096 * length sheet.nodes
  length-image = omega (arith, length-append (meta_block key sheet.nonce (meta_of sheet)) (flat_map sealed sheet.nodes), length-node_0, length-blocks sheet.nodes whole_at)

  pub image_block : (k : ℕ) (node : Node) → HasNode sheet k node → block_of (image_of key sheet) k ≡ sealed node
  image_block k node has =
      let low = has.numbered in
      piece_behind (4096 * k) (4096 * (k - 1)) 4096 (meta_block key sheet.nonce (meta_of sheet)) (flat_map sealed sheet.nodes) (omega (arith, length-node_0)) ∙ block_there sheet.nodes (k - 1) node whole_at has.there

  pub image_front : (i : ℕ) → i < 4096 → slice_get (image_of key sheet) i ≡ slice_get (meta_block key sheet.nonce (meta_of sheet)) i
  image_front i lt = get_left (meta_block key sheet.nonce (meta_of sheet)) (flat_map sealed sheet.nodes) i (omega (arith, length-node_0))

-- the block of a byte is one node's alone
only_block : (dirty : List ℕ) (k i : ℕ) → 4096 * k ≤ i → i < 4096 * k + 4096 → ¬ (Contains dirty k) → ¬ (InBlocks dirty i)
only_block dirty k i low high out (j, among, from, to) = out (subst (λ (n : ℕ). Contains dirty n) (let e : j ≡ k = omega arith in e) among)

block_number : (i n : ℕ) → 4096 ≤ i → i < 4096 + 4096 * n → (k : ℕ) × (1 ≤ k) × (k ≤ n) × (4096 * k ≤ i) × (i < 4096 * k + 4096)
block_number i n low high = (i / 4096, omega arith, omega arith, omega arith, omega arith)

module _ (key path nonce : List ℕ) (sheet : Sheet) (tree : TreeState) (keys : List (List ℕ)) (next : Sheet) (bytes middle new : List ℕ) (key_length : length key ≡ 16) (has : HasNext sheet tree path nonce keys next) (stands : Stands bytes key sheet)
    (size : length next.content ≡ tree.size) (longer : length middle ≤ length new)
    (copies : (k i : ℕ) → Contains (clean_below tree.dirty (node_count tree.size)) k → 4096 * k ≤ i → i < 4096 * k + 4096 → (4096 * k + 4096 ≤ length middle) × (slice_get middle i ≡ slice_get bytes i)) (seals : HasSealed key next tree.dirty middle new) where
  linked : IsLinked next
  linked = has.is_next.linked

  is_clean : (k : ℕ) → 1 ≤ k → k ≤ length next.nodes → ¬ (Contains tree.dirty k) → Contains (clean_below tree.dirty (node_count tree.size)) k
  is_clean k low high out =
      let all = linked.all_nodes in
      let count = ap node_count size in
      clean_there tree.dirty 1 (node_count tree.size - 1) k (low, omega (arith, all, count), out)

  block_whole : (k : ℕ) → 1 ≤ k → k ≤ length next.nodes → 4096 * k + 4096 ≤ length new
  block_whole k low high = by_test (is_in tree.dirty k) refl where
    by_test : (b : Bool) → is_in tree.dirty k ≡ b → 4096 * k + 4096 ≤ length new
    by_test true is =
        let there = node_there next k low high in
        let block = seals.seals k there.0 (is_in_there tree.dirty k is) there.1 in
        let long : length (block_of new k) ≡ 4096 = ap (λ (l : List ℕ). length l) block ∙ length-sealed_node there.0 ∙ linked.whole k there.0 there.1 in
        omega (arith, long, length-take 4096 (drop (4096 * k) new), length-drop (4096 * k) new)
    by_test false is =
        let out : ¬ (Contains tree.dirty k) = λ among. false≢true (sym is ∙ there_is_in tree.dirty k among) in
        let c = copies k (4096 * k) (is_clean k low high out) (omega arith) (omega arith) in
        omega (arith, c.0, longer)

  long_enough : length (image_of key next) ≤ length new
  long_enough = by_count (length next.nodes) refl where
    by_count : (n : ℕ) → length next.nodes ≡ n → length (image_of key next) ≤ length new
    by_count zero is = let l = seals.at_least in omega (arith, is, l, length-image key next linked key_length)
    by_count (suc n) is = let w = block_whole (suc n) (omega arith) (omega (arith, is)) in omega (arith, is, w, length-image key next linked key_length)

  same_byte : (k i : ℕ) → 1 ≤ k → k ≤ length next.nodes → 4096 * k ≤ i → i < 4096 * k + 4096 → slice_get new i ≡ slice_get (image_of key next) i
  same_byte k i low high from to = by_test (is_in tree.dirty k) refl where
    by_test : (b : Bool) → is_in tree.dirty k ≡ b → slice_get new i ≡ slice_get (image_of key next) i
    by_test true is =
        let there = node_there next k low high in
        byte_of_piece new (image_of key next) (4096 * k) i (seals.seals k there.0 (is_in_there tree.dirty k is) there.1 ∙ sym (image_block key next linked key_length k there.0 there.1)) from to
    by_test false is =
        let out : ¬ (Contains tree.dirty k) = λ among. false≢true (sym is ∙ there_is_in tree.dirty k among) in
        let there = node_there next k low high in
        let c = copies k i (is_clean k low high out) from to in
        let old = has.is_next.clean k there.0 out there.1 in
        seals.before i (omega arith) (omega (arith, c.0)) (only_block tree.dirty k i from to out) ∙ c.1
        ∙ byte_of_piece bytes (image_of key next) (4096 * k) i (block_is sheet has.linked bytes key key_length stands k there.0 old ∙ sym (image_block key next linked key_length k there.0 there.1)) from to

  pub stands_next : Stands new key next
  stands_next = record {
    linked = linked;
    long = long_enough;
    same = λ i lt either. elim (cases_lt i 4096) [
      | inl front ↦ seals.node_0 i front ∙ sym (image_front key next linked key_length i front)
      | inr behind ↦
          let b = block_number i (length next.nodes) behind (omega (arith, lt, length-image key next linked key_length)) in
          same_byte b.0 i b.1 b.2 b.3 b.4
    ];
  }
