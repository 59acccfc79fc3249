-- Sheets of one node.
use Rattle.std.proofs.Common.{◌≡◌, ℕ, ◌≤◌, List, [], ◌∷◌, ◌++◌, length, replicate, refl, ap, ◌∙◌, arith}
use Rattle.std.specs.List.{flat_map}
use Rattle.std.proofs.lemmas.List.{append-nil}
use Rattle.node_layout.specs.Metadata.{meta_text, meta_block}
use Rattle.node_layout.specs.Places.{node_count}
use Rattle.node_tree.specs.Content.{first_text}
use Rattle.node_tree.specs.Sheet.{Node, Sheet, HasNode, IsLinked, sealed, root_of, image_of}
use Rattle.node_tree.specs.Standing.{IsOneNode, EachSmallSheet}
use Rattle.node_tree.proofs.Standing.{within}

no_list : {X : Type 0} (xs : List X) → length xs ≡ 0 → xs ≡ []
no_list [] none = refl
no_list (x ∷ xs) none = absurd (omega arith)

module _ (sheet : Sheet) (small : length sheet.content ≤ 3072) where
  one_count : node_count (length sheet.content) ≡ 1
  one_count = omega arith

  no_node : IsOneNode sheet → (k : ℕ) (node : Node) → HasNode sheet k node → ⊥
  no_node one k node has =
      let low = has.numbered in
      let high = within sheet k node has in
      omega (arith, ap (λ (l : List Node). length l) one.no_nodes)

  linked_one : IsLinked sheet → IsOneNode sheet
  linked_one linked = record {
    path_is = linked.path_is;
    nonce_length = linked.nonce_length;
    no_nodes = no_list sheet.nodes (let all = linked.all_nodes in omega (arith, one_count));
  }

  one_linked : IsOneNode sheet → IsLinked sheet
  one_linked one = record {
    path_is = one.path_is;
    nonce_length = one.nonce_length;
    not_large = omega arith;
    all_nodes = omega (arith, one_count, ap (λ (l : List Node). length l) one.no_nodes);
    key_length = λ k node has. absurd (no_node one k node has);
    whole = λ k node has. absurd (no_node one k node has);
    slices = λ d node has. absurd (no_node one _ node has);
    entries = λ k parent node two has_parent has. absurd (no_node one k node has);
  }

  image_one : (user : List ℕ) → IsOneNode sheet → image_of user sheet ≡ meta_block user sheet.nonce (meta_text sheet.path (length sheet.content) (replicate 16 0) (replicate 16 0) (first_text sheet.content))
  image_one user one =
      ap (λ (nodes : List Node). meta_block user sheet.nonce (meta_text sheet.path (length sheet.content) (root_of nodes).0 (root_of nodes).1 (first_text sheet.content)) ++ flat_map sealed nodes) one.no_nodes
      ∙ append-nil (meta_block user sheet.nonce (meta_text sheet.path (length sheet.content) (replicate 16 0) (replicate 16 0) (first_text sheet.content)))

pub small_sheet : EachSmallSheet
small_sheet sheet small = record { one_node = (linked_one sheet small, one_linked sheet small); image = image_one sheet small }
