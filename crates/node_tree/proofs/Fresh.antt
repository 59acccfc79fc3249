-- A tree of a sheet's metadata stands on the sheet.
use Rattle.std.proofs.Common.{◌≡◌, ℕ, ◌+◌, ◌<◌, List, [], ◌∷◌, length, replicate, slice_index, refl, ap, ap₂, ◌∙◌, sym, arith, subst}
use Rattle.std.specs.Prelude.{Contains}
use Rattle.std.proofs.lemmas.Option.{none-some}
use Rattle.node_layout.specs.declared.metadata.MetaSecret.{MetaSecret}
use Rattle.node_layout.specs.Metadata.{IsMetaText}
use Rattle.node_layout.proofs.Texts.{fields_same}
use Rattle.node_layout.specs.Places.{data_place, data_count, node_count}
use Rattle.node_layout.proofs.Numbers.{data_live}
use Rattle.node_tree.specs.Content.{first_text, data_text, bytes_of}
use Rattle.node_tree.specs.Sheet.{Node, Sheet, IsLinked, plain_in, root_of, meta_of}
use Rattle.node_tree.specs.State.{TreeState}
use Rattle.node_tree.specs.Backing.{Backs, IsMetaOf, now}
use Rattle.node_tree.specs.Reading.{IsOfFile}
use Rattle.node_tree.specs.Inside.{plains}
use Rattle.node_tree.specs.Marks.{marked}
use Rattle.node_tree.proofs.Bytes.{content_is, first_padding, data_padding}
use Rattle.node_tree.proofs.Standing.{data_within, node_there, plain_in-there, meta_is_text}
use Rattle.node_tree.specs.declared.nodes.HeldNode.{HeldNode}

-- a tree of which no node is held
abbrev pub fresh : MetaSecret → TreeState
fresh meta = record { size = meta.size; first = meta.first; root_key = meta.root_key; root_tag = meta.root_tag; base = node_count meta.size; held = []; dirty = [] }

no_member : (k : ℕ) → Contains {X = ℕ} [] k → ⊥
no_member k (i, within, is) = omega arith

module _ (sheet : Sheet) (linked : IsLinked sheet) where
  pub slices : (d : ℕ) → d < data_count (length sheet.content) → plain_in sheet (data_place d) ≡ data_text sheet.content d
  slices d lt =
      let all = linked.all_nodes in
      let there = node_there sheet (data_place d) (omega arith) (data_within (length sheet.content) d (length sheet.nodes) all lt) in
      plain_in-there sheet (data_place d) there.0 there.1 ∙ linked.slices d there.0 there.1

  module _ (meta : MetaSecret) (is : IsMetaOf sheet meta) where
    pub fields : (sheet.path ≡ meta.path) × (length sheet.content ≡ meta.size) × ((root_of sheet.nodes).0 ≡ meta.root_key) × ((root_of sheet.nodes).1 ≡ meta.root_tag) × (first_text sheet.content ≡ meta.first)
    fields = fields_same (meta_of sheet) sheet.path (length sheet.content) (root_of sheet.nodes).0 (root_of sheet.nodes).1 (first_text sheet.content) meta.path meta.size meta.root_key meta.root_tag meta.first (meta_is_text sheet linked) is

    pub fresh_backs : Backs sheet (fresh meta)
    fresh_backs = record {
      root = ap₂ (λ (a b : List ℕ). (a, b)) (sym fields.2) (sym fields.3);
      base = ap node_count (sym fields.1);
      clean = λ k low live clean.
          let all = linked.all_nodes in
          let size = ap node_count fields.1 in
          let there = node_there sheet k low (omega (arith, size)) in
          (there.0, there.1, λ plain held. absurd (none-some plain held));
      dirty_held = λ k dirty. absurd (no_member k dirty);
      dirty_parents = λ k dirty. absurd (no_member k dirty);
      entries = λ k node parent two live clean has dirty held. absurd (no_member _ dirty);
      padded = record {
        of_first = λ i behind lt. ap (λ (t : List ℕ). slice_index t i) (sym fields.4) ∙ first_padding sheet.content i (omega (arith, fields.1)) lt;
        of_nodes = λ d r live behind lt. ap (λ (t : List ℕ). slice_index t r) (slices d ((data_live (length sheet.content) d).0 (let size = ap node_count fields.1 in omega (arith, size)))) ∙ data_padding sheet.content d r (omega (arith, fields.1)) lt;
      };
    }

    pub fresh_now : now sheet (fresh meta) ≡ sheet.content
    fresh_now = sym (content_is sheet.content (plain_in sheet) slices ∙ ap₂ (λ (first : List ℕ) (n : ℕ). bytes_of first (plain_in sheet) 0 n) fields.4 fields.1)

pub fresh_of_file : (meta : MetaSecret) (file : List ℕ) → IsOfFile file (fresh meta)
fresh_of_file meta file = record { each = λ k plain held. absurd (none-some plain held) }

-- the fields of a new tree
pub fresh_is : (meta : MetaSecret) (base : ℕ) (nodes : List (ℕ × HeldNode)) → base ≡ node_count meta.size → nodes ≡ []
    → ◌≡◌ {A = TreeState} (record { size = meta.size; first = meta.first; root_key = meta.root_key; root_tag = meta.root_tag; base = base; held = plains nodes; dirty = marked nodes }) (fresh meta)
fresh_is meta base nodes same none =
    ap₂ (λ (b : ℕ) (es : List (ℕ × HeldNode)). let t : TreeState = record { size = meta.size; first = meta.first; root_key = meta.root_key; root_tag = meta.root_tag; base = b; held = plains es; dirty = marked es } in t) same none

-- the metadata of an empty content
abbrev pub empty_meta : List ℕ → MetaSecret
empty_meta path = record { path = path; size = 0; root_key = replicate 16 0; root_tag = replicate 16 0; first = replicate 3072 0 }

no_nodes : (nodes : List Node) → 1 + length nodes ≡ 1 → root_of nodes ≡ (replicate 16 0, replicate 16 0)
no_nodes [] is = refl
no_nodes (node ∷ nodes) is = absurd (omega arith)

empty_text : first_text [] ≡ replicate 3072 0
empty_text = refl

pub empty_is_meta : (sheet : Sheet) → IsLinked sheet → sheet.content ≡ [] → IsMetaOf sheet (empty_meta sheet.path)
empty_is_meta sheet linked empty =
    let size : length sheet.content ≡ 0 = ap length empty in
    let root = no_nodes sheet.nodes (linked.all_nodes ∙ ap node_count size) in
    let first : first_text sheet.content ≡ replicate 3072 0 = ap first_text empty ∙ empty_text in
    subst (λ (f : List ℕ). IsMetaText (meta_of sheet) sheet.path 0 (replicate 16 0) (replicate 16 0) f) first
    (subst (λ (r : List ℕ × List ℕ). IsMetaText (meta_of sheet) sheet.path 0 r.0 r.1 (first_text sheet.content)) root
    (subst (λ (n : ℕ). IsMetaText (meta_of sheet) sheet.path n (root_of sheet.nodes).0 (root_of sheet.nodes).1 (first_text sheet.content)) size (meta_is_text sheet linked)))
