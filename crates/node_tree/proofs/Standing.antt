-- What a file that stands for a sheet opens to.
use Rattle.std.proofs.Common.{◌≡◌, ◌⊎◌, inl, inr, ℕ, zero, suc, ◌+◌, ◌-◌, ◌*◌, ◌<◌, ◌≤◌, List, [], ◌∷◌, ◌++◌, length, take, drop, replicate, get_or, refl, ap, ap₂, ◌∙◌, sym, arith, Option, Some, w64, subst}
use Rattle.std.specs.Prelude.{slice_get}
use Rattle.std.specs.List.{flat_map}
use Rattle.std.specs.Int.{to_le_bytes}
use Rattle.std.proofs.lemmas.Bool.{cases_eq}
use Rattle.std.proofs.lemmas.List.{length-take, length-take-le, length-append, length-replicate, get_or-take, get_or-drop}
use Rattle.std.proofs.lemmas.Option.{same_Some, none-some, slice_get_within, slice_get_cases}
use Rattle.aes_gcm.specs.Gcm.{opens}
use Rattle.aes_gcm.proofs.Sealed.{opens_sealed}
use Rattle.cmac_kdf.specs.MetadataKey.{metadata_key}
use Rattle.node_layout.specs.Metadata.{IsPlain, flag_at, IsMetaText, path_field, meta_block, meta_opens, nonce_at, tag_at, part_at}
use Rattle.node_layout.proofs.Blocks.{length-meta_block, meta_opens-meta_block, nonce_at-meta_block, flag_at-meta_block, IsPlain-meta_block}
use Rattle.node_layout.proofs.Lengths.{length-tag}
use Rattle.node_layout.proofs.Texts.{length-path_field, fields_same}
use Rattle.node_layout.specs.Places.{data_place, data_count, node_count, parent_of, slot_of}
use Rattle.node_layout.specs.Entries.{entry_at}
use Rattle.node_layout.proofs.InNode.{piece_before, piece_behind, piece_of_front}
use Rattle.node_layout.proofs.Numbers.{parent_before}
use Rattle.node_tree.specs.Content.{first_text, data_text, bytes_of}
use Rattle.node_tree.specs.Sheet.{Node, Sheet, HasNode, IsLinked, sealed, tag_of, plain_in, plain_or_none, root_of, meta_of, image_of, Stands, StandsForOne}
use Rattle.node_tree.specs.Opened.{Entry, Opened, root_opens, child_opens, OpensUnder, NothingHeld, BlockOf, block_of}
use Rattle.node_tree.proofs.Bytes.{same_piece, content_is}
use Rattle.node_tree.proofs.Blocks.{length-sealed_node, length-blocks, block_there}
use Rattle.node_tree.proofs.Opening.{opened_one, nothing_held, nothing_single, blocks_single}

-- the node at a number within a sheet
pub node_there : (sheet : Sheet) (k : ℕ) → 1 ≤ k → k ≤ length sheet.nodes → (node : Node) × HasNode sheet k node
node_there sheet k low high =
    elim (slice_get_cases sheet.nodes (k - 1)).1 [
      | inl there ↦ (there.0, record { numbered = low; there = there.2 })
      | inr past ↦ absurd (omega (arith, past.0))
    ]

pub within : (sheet : Sheet) (k : ℕ) (node : Node) → HasNode sheet k node → k ≤ length sheet.nodes
within sheet k node has = let lt = slice_get_within sheet.nodes (k - 1) node has.there in let low = has.numbered in omega arith

pub plain_in-there : (sheet : Sheet) (k : ℕ) (node : Node) → HasNode sheet k node → plain_in sheet k ≡ node.plain
plain_in-there sheet k node has = ap plain_or_none has.there

length-first_text : (content : List ℕ) → length (first_text content) ≡ 3072
length-first_text content =
    let front = take 3072 content in
    omega (arith, length-append front (replicate (3072 - length front) 0), length-replicate {A = ℕ} (3072 - length front) 0, length-take 3072 content)

pub root_is : (nodes : List Node) (node : Node) → slice_get nodes 0 ≡ Some node → root_of nodes ≡ (node.key, tag_of node)
root_is [] node there = absurd (none-some node there)
root_is (first ∷ nodes) node there = ap (λ (n : Node). (n.key, tag_of n)) (same_Some first node there)

length-root : (nodes : List Node) → ((node : Node) → slice_get nodes 0 ≡ Some node → length node.key ≡ 16) → (length (root_of nodes).0 ≡ 16) × (length (root_of nodes).1 ≡ 16)
length-root [] key = (length-replicate {A = ℕ} 16 0, length-replicate {A = ℕ} 16 0)
length-root (root ∷ nodes) key = (key root refl, length-tag root.key [] root.plain (key root refl))

cases_root : (k : ℕ) → 1 ≤ k → (k ≡ 1) ⊎ (2 ≤ k)
cases_root k le = elim (cases_eq k 1) [ inl is ↦ inl is | inr ne ↦ inr (omega arith) ]

under_entry : (e f : Entry) (block plain : List ℕ) → e ≡ f → OpensUnder e block plain → OpensUnder f block plain
under_entry e f block plain same o = record { whole = o.whole; opened = ap (λ (x : Entry). opens x.0 [] block x.1) (sym same) ∙ o.opened }

module _ (sheet : Sheet) (linked : IsLinked sheet) where
  whole_at : (j : ℕ) (node : Node) → slice_get sheet.nodes j ≡ Some node → length node.plain ≡ 4096
  whole_at j node there = linked.whole (suc j) node (record { numbered = omega arith; there = let e : suc j - 1 ≡ j = omega arith in ap (λ i. slice_get sheet.nodes i) e ∙ there })

  root_lengths : (length (root_of sheet.nodes).0 ≡ 16) × (length (root_of sheet.nodes).1 ≡ 16)
  root_lengths = length-root sheet.nodes (λ node there. linked.key_length 1 node (record { numbered = omega arith; there = there }))

  pub meta_is_text : IsMetaText (meta_of sheet) sheet.path (length sheet.content) (root_of sheet.nodes).0 (root_of sheet.nodes).1 (first_text sheet.content)
  meta_is_text = record {
    path_is = linked.path_is;
    not_large = linked.not_large;
    root_key_length = root_lengths.0;
    root_tag_length = root_lengths.1;
    first_length = length-first_text sheet.content;
    text_is = refl;
  }

  length-meta_of : length (meta_of sheet) ≡ 3880
  length-meta_of =
      let path = path_field sheet.path in
      let size = to_le_bytes w64 (length sheet.content) in
      let key : List ℕ = (root_of sheet.nodes).0 in
      let tag : List ℕ = (root_of sheet.nodes).1 in
      let first = first_text sheet.content in
      omega (
        arith,
        length-append (path ++ size ++ key ++ tag) first,
        length-append (path ++ size ++ key) tag,
        length-append (path ++ size) key,
        length-append path size,
        length-path_field sheet.path linked.path_is,
        root_lengths.0,
        root_lengths.1,
        length-first_text sheet.content,
      )

  module _ (file user : List ℕ) (user_length : length user ≡ 16) (stands : Stands file user sheet) where
    length-block0 : length (meta_block user sheet.nonce (meta_of sheet)) ≡ 4096
    length-block0 = length-meta_block user sheet.nonce (meta_of sheet) user_length linked.nonce_length length-meta_of

    length-image : length (image_of user sheet) ≡ 4096 + 4096 * length sheet.nodes
    length-image = omega (arith, length-append (meta_block user sheet.nonce (meta_of sheet)) (flat_map sealed sheet.nodes), length-block0, length-blocks sheet.nodes whole_at)

    -- a piece of node 0 that is not of its padding
    front_piece : (a n : ℕ) → a + n ≤ 3939 → take n (drop a file) ≡ take n (drop a (meta_block user sheet.nonce (meta_of sheet)))
    front_piece a n le =
        let long = stands.long in
        same_piece file (image_of user sheet) a n (omega (arith, length-image)) (omega (arith, length-image)) (λ i low high. stands.same i (omega (arith, length-image)) (inl (omega arith)))
        ∙ piece_before a n (meta_block user sheet.nonce (meta_of sheet)) (flat_map sealed sheet.nodes) (omega (arith, length-block0))

    pub nonce_there : nonce_at file ≡ sheet.nonce
    nonce_there = front_piece 10 32 (omega arith) ∙ nonce_at-meta_block user sheet.nonce (meta_of sheet) linked.nonce_length

    pub meta_there : meta_opens user file ≡ Some (meta_of sheet)
    unfolding meta_opens
    meta_there =
        let block = meta_block user sheet.nonce (meta_of sheet) in
        let opening : (List ℕ) → (List ℕ) → (List ℕ) → Option (List ℕ) = λ n p t. opens (metadata_key user n) [] p t in
        ap (λ (n : List ℕ). opening n (part_at file) (tag_at file)) (front_piece 10 32 (omega arith))
        ∙ ap₂ (λ (p t : List ℕ). opening (nonce_at block) p t) (front_piece 59 3880 (omega arith)) (front_piece 42 16 (omega arith))
        ∙ meta_opens-meta_block user sheet.nonce (meta_of sheet) user_length linked.nonce_length length-meta_of

    block_piece : (a n : ℕ) → a + n ≤ 3939 → take n (drop a (block_of file 0)) ≡ take n (drop a (meta_block user sheet.nonce (meta_of sheet)))
    block_piece a n le = piece_of_front a n 4096 file (omega arith) ∙ front_piece a n le

    block_byte : (i : ℕ) → i < 3939 → get_or (block_of file 0) i 0 ≡ get_or (meta_block user sheet.nonce (meta_of sheet)) i 0
    block_byte i lt =
        let same : i + 0 ≡ i = omega arith in
        let one = λ (t : List ℕ). get_or-take 1 (drop i t) 0 0 (omega arith) ∙ get_or-drop i t 0 0 ∙ ap (λ (j : ℕ). get_or t j 0) same in
        sym (one (block_of file 0)) ∙ ap (λ (t : List ℕ). get_or t 0 0) (block_piece i 1 (omega arith)) ∙ one (meta_block user sheet.nonce (meta_of sheet))

    -- node 0 of the file is whole, of version 1.0 with flag 0, and has the sheet's nonce and metadata
    pub whole_0 : length (block_of file 0) ≡ 4096
    whole_0 = let long = stands.long in length-take-le 4096 file (omega (arith, length-image))

    pub plain_0 : IsPlain (block_of file 0)
    plain_0 =
        let plain = IsPlain-meta_block user sheet.nonce (meta_of sheet) in
        record { magic_is = block_piece 0 8 (omega arith) ∙ plain.magic_is; major = block_byte 8 (omega arith) ∙ plain.major; minor = block_byte 9 (omega arith) ∙ plain.minor }

    pub flag_0 : flag_at (block_of file 0) ≡ 0
    flag_0 = block_byte 58 (omega arith) ∙ flag_at-meta_block user sheet.nonce (meta_of sheet) user_length linked.nonce_length

    pub nonce_0 : nonce_at (block_of file 0) ≡ sheet.nonce
    nonce_0 = block_piece 10 32 (omega arith) ∙ nonce_at-meta_block user sheet.nonce (meta_of sheet) linked.nonce_length

    pub meta_0 : meta_opens user (block_of file 0) ≡ Some (meta_of sheet)
    unfolding meta_opens
    meta_0 =
        let block = meta_block user sheet.nonce (meta_of sheet) in
        let there = block_of file 0 in
        let opening : (List ℕ) → (List ℕ) → (List ℕ) → Option (List ℕ) = λ n p t. opens (metadata_key user n) [] p t in
        ap (λ (n : List ℕ). opening n (part_at there) (tag_at there)) (block_piece 10 32 (omega arith))
        ∙ ap₂ (λ (p t : List ℕ). opening (nonce_at block) p t) (block_piece 59 3880 (omega arith)) (block_piece 42 16 (omega arith))
        ∙ meta_opens-meta_block user sheet.nonce (meta_of sheet) user_length linked.nonce_length length-meta_of

    pub block_is : (k : ℕ) (node : Node) → HasNode sheet k node → block_of file k ≡ sealed node
    block_is k node has =
        let low = has.numbered in
        let high = within sheet k node has in
        let long = stands.long in
        same_piece file (image_of user sheet) (4096 * k) 4096 (omega (arith, length-image)) (omega (arith, length-image)) (λ i from to. stands.same i (omega (arith, length-image)) (inr (omega arith)))
        ∙ piece_behind (4096 * k) (4096 * (k - 1)) 4096 (meta_block user sheet.nonce (meta_of sheet)) (flat_map sealed sheet.nodes) (omega (arith, length-block0))
        ∙ block_there sheet.nodes (k - 1) node whole_at has.there

    -- its block opens under its key and its tag
    pub opens_there : (k : ℕ) (node : Node) → HasNode sheet k node → OpensUnder (node.key, tag_of node) (block_of file k) node.plain
    opens_there k node has =
        let is = block_is k node has in record {
          whole = ap length is ∙ length-sealed_node node ∙ linked.whole k node has;
          opened = ap (λ (b : List ℕ). opens node.key [] b (tag_of node)) is ∙ opens_sealed node.key [] node.plain;
        }

    root_case : (k : ℕ) (node : Node) → k ≡ 1 → HasNode sheet k node → Opened NothingHeld (BlockOf file) (root_of sheet.nodes) k node.plain
    root_case k node one has =
        let first : k - 1 ≡ 0 = omega arith in
        let is = root_is sheet.nodes node (ap (λ j. slice_get sheet.nodes j) (sym first) ∙ has.there) in
        root_opens k (block_of file k) node.plain (nothing_held k) one refl (under_entry (node.key, tag_of node) (root_of sheet.nodes) (block_of file k) node.plain (sym is) (opens_there k node has))

    opened_below : (n k : ℕ) (node : Node) → k < n → HasNode sheet k node → Opened NothingHeld (BlockOf file) (root_of sheet.nodes) k node.plain
    opened_below zero k node lt has = absurd (omega arith)
    opened_below (suc n) k node lt has =
        let low = has.numbered in
        elim (cases_root k low) [
          | inl one ↦ root_case k node one has
          | inr two ↦
              let before = parent_before k two in
              let high = within sheet k node has in
              let parent = node_there sheet (parent_of k) before.0 (omega (arith, before.1)) in
              let up = opened_below n (parent_of k) parent.0 (omega (arith, before.1)) parent.1 in
              child_opens k parent.0.plain (block_of file k) node.plain (nothing_held k) two up refl
              (under_entry (node.key, tag_of node) (entry_at parent.0.plain (slot_of k)) (block_of file k) node.plain (sym (linked.entries k parent.0 node two parent.1 has)) (opens_there k node has))
        ]

    -- each node of the sheet opens to its plain text
    pub opened_there : (k : ℕ) (node : Node) → HasNode sheet k node → Opened NothingHeld (BlockOf file) (root_of sheet.nodes) k node.plain
    opened_there k node has = opened_below (suc k) k node (omega arith) has

-- the numbers of the data nodes of a content
pub data_within : (s d n : ℕ) → 1 + n ≡ node_count s → d < data_count s → data_place d ≤ n
data_within s d n is lt = omega arith

module _ (file user : List ℕ) (sheet other : Sheet) (user_length : length user ≡ 16) (stands : Stands file user sheet) (stands' : Stands file user other) where
  fields : (sheet.path ≡ other.path) × (length sheet.content ≡ length other.content) × ((root_of sheet.nodes).0 ≡ (root_of other.nodes).0) × ((root_of sheet.nodes).1 ≡ (root_of other.nodes).1) × (first_text sheet.content ≡ first_text other.content)
  fields =
      let text : meta_of sheet ≡ meta_of other = same_Some (meta_of sheet) (meta_of other) (sym (meta_there sheet stands.linked file user user_length stands) ∙ meta_there other stands'.linked file user user_length stands') in
      let is = meta_is_text other stands'.linked in
      fields_same (meta_of sheet) sheet.path (length sheet.content) (root_of sheet.nodes).0 (root_of sheet.nodes).1 (first_text sheet.content) other.path (length other.content) (root_of other.nodes).0 (root_of other.nodes).1 (first_text other.content)
      (meta_is_text sheet stands.linked)
      (record { path_is = is.path_is; not_large = is.not_large; root_key_length = is.root_key_length; root_tag_length = is.root_tag_length; first_length = is.first_length; text_is = text })

  same_root : root_of sheet.nodes ≡ root_of other.nodes
  same_root = ap₂ (λ (a b : List ℕ). (a, b)) fields.2 fields.3

  same_plain : (k : ℕ) (node node' : Node) → HasNode sheet k node → HasNode other k node' → node.plain ≡ node'.plain
  same_plain k node node' has has' =
      opened_one NothingHeld (BlockOf file) (root_of other.nodes) nothing_single (blocks_single file) k node.plain node'.plain
      (subst (λ (root : Entry). Opened NothingHeld (BlockOf file) root k node.plain) same_root (opened_there sheet stands.linked file user user_length stands k node has))
      (opened_there other stands'.linked file user user_length stands' k node' has')

  slices_of_other : (d : ℕ) → d < data_count (length other.content) → plain_in sheet (data_place d) ≡ data_text other.content d
  slices_of_other d lt =
      let same_size = fields.1 in
      let all = stands.linked.all_nodes in
      let all' = stands'.linked.all_nodes in
      let there = node_there sheet (data_place d) (omega arith) (data_within (length sheet.content) d (length sheet.nodes) all (omega (arith, ap data_count same_size))) in
      let there' = node_there other (data_place d) (omega arith) (data_within (length other.content) d (length other.nodes) all' lt) in
      plain_in-there sheet (data_place d) there.0 there.1 ∙ same_plain (data_place d) there.0 there'.0 there.1 there'.1 ∙ stands'.linked.slices d there'.0 there'.1

  slices_of_sheet : (d : ℕ) → d < data_count (length sheet.content) → plain_in sheet (data_place d) ≡ data_text sheet.content d
  slices_of_sheet d lt =
      let all = stands.linked.all_nodes in
      let there = node_there sheet (data_place d) (omega arith) (data_within (length sheet.content) d (length sheet.nodes) all lt) in
      plain_in-there sheet (data_place d) there.0 there.1 ∙ stands.linked.slices d there.0 there.1

  same_content : sheet.content ≡ other.content
  same_content =
      content_is sheet.content (plain_in sheet) slices_of_sheet
      ∙ ap₂ (λ (first : List ℕ) (n : ℕ). bytes_of first (plain_in sheet) 0 n) fields.4 fields.1
      ∙ sym (content_is other.content (plain_in sheet) slices_of_other)

  one_sheet : (sheet.path ≡ other.path) × (sheet.nonce ≡ other.nonce) × (sheet.content ≡ other.content)
  one_sheet = (
    fields.0,
    sym (nonce_there sheet stands.linked file user user_length stands) ∙ nonce_there other stands'.linked file user user_length stands',
    same_content,
  )

pub stands_for_one : StandsForOne
stands_for_one file user sheet other user_length stands stands' = one_sheet file user sheet other user_length stands stands'
