-- Nodes that open from blocks of a sheet are the sheet's.
use Rattle.std.proofs.Common.{◌≡◌, ◌≢◌, inl, ℕ, ◌+◌, ◌-◌, ◌<◌, ◌≤◌, min, List, [], length, take, drop, refl, ap, ap₂, ◌∙◌, sym, arith, subst, Some}
use Rattle.std.proofs.lemmas.List.{take_min, length-drop}
use Rattle.std.proofs.lemmas.Option.{none-some}
use Rattle.aes_gcm.specs.Gcm.{opens}
use Rattle.aes_gcm.proofs.Sealed.{opens_sealed}
use Rattle.node_layout.specs.Entries.{entry_at}
use Rattle.node_layout.specs.Places.{node_count, data_place, parent_of, slot_of}
use Rattle.node_layout.specs.declared.damage.Kind.{Kind}
use Rattle.node_layout.specs.declared.metadata.MetaSecret.{MetaSecret}
use Rattle.node_layout.proofs.Numbers.{parent_before}
use Rattle.node_tree.specs.Content.{bytes_of, first_text}
use Rattle.node_tree.specs.Touched.{IsTouched}
use Rattle.node_tree.specs.Sheet.{Node, Sheet, HasNode, sealed, tag_of, plain_in, root_of}
use Rattle.node_tree.specs.Opened.{AtNodes, Entry, Opened, was_held, root_opens, child_opens, FailsUnder, Fails, is_short, root_fails, child_fails, NothingHeld, BlockOf, block_of}
use Rattle.node_tree.specs.Parts.{IsWhole, PIECE}
use Rattle.node_tree.specs.Unforged.{GivenOf}
use Rattle.node_tree.specs.Backing.{IsMetaOf}
use Rattle.node_tree.specs.Reading.{IsForeign}
use Rattle.node_tree.proofs.Blocks.{length-sealed_node}
use Rattle.node_tree.proofs.Bytes.{content_is}
use Rattle.node_tree.proofs.Fresh.{slices, fields}
use Rattle.node_tree.proofs.Lively.{touched_low, touched_live}
use Rattle.node_tree.proofs.SameBytes.{same_bytes, slice_bytes}
use Rattle.node_tree.proofs.Standing.{node_there, plain_in-there}
use Rattle.node_tree.proofs.Unforging.{root_entry}
use Rattle.pf_tool.proofs.Fronts as fronts

under : (e f : Entry) (block plain : List ℕ) → e ≡ f → opens e.0 [] block e.1 ≡ Some plain → opens f.0 [] block f.1 ≡ Some plain
under e f block plain same o = ap (λ (x : Entry). opens x.0 [] block x.1) (sym same) ∙ o

not_its_seal : (e : Entry) (block : List ℕ) (node : Node) → e ≡ (node.key, tag_of node) → FailsUnder e block → block ≢ sealed node
not_its_seal e block node entry fails same =
    none-some node.plain (sym fails.refused ∙ ap₂ (λ (x : Entry) (b : List ℕ). opens x.0 [] b x.1) entry same ∙ opens_sealed node.key [] node.plain)

module _ (sheet : Sheet) (given : AtNodes) (of_sheet : GivenOf sheet given) (file : List ℕ) (n : ℕ) (gave : (k : ℕ) → 1 ≤ k → k < n → given k (block_of file k)) where
  there : (k : ℕ) → 1 ≤ k → k < node_count (length sheet.content) → (node : Node) × HasNode sheet k node
  there k low live = let all = of_sheet.linked.all_nodes in node_there sheet k low (omega (arith, all, live))

  sheet_opened : (k : ℕ) (plain : List ℕ) → 1 ≤ k → k < n → k < node_count (length sheet.content) → Opened NothingHeld (BlockOf file) (root_of sheet.nodes) k plain → (node : Node) × HasNode sheet k node × (plain ≡ node.plain)
  sheet_opened k plain low high live (was_held _ _ held) = absurd held
  sheet_opened k plain low high live (root_opens _ block _ missing one is opens) =
      let node = there k low live in
      (node.0, node.1, of_sheet.seals k block plain node.0 (subst (λ (b : List ℕ). given k b) (sym is) (gave k low high)) opens.whole node.1 (under (root_of sheet.nodes) (node.0.key, tag_of node.0) block plain (root_entry sheet k node.0 one node.1) opens.opened))
  sheet_opened k plain low high live (child_opens _ parent block _ missing two up is opens) =
      let node = there k low live in
      let before = parent_before k two in
      let above = sheet_opened (parent_of k) parent before.0 (omega (arith, before.1, high)) (omega (arith, before.1, live)) up in
      let entry : entry_at parent (slot_of k) ≡ (node.0.key, tag_of node.0) = ap (λ (t : List ℕ). entry_at t (slot_of k)) above.2 ∙ of_sheet.linked.entries k above.0 node.0 two above.1 node.1 in
      (node.0, node.1, of_sheet.seals k block plain node.0 (subst (λ (b : List ℕ). given k b) (sym is) (gave k low high)) opens.whole node.1 (under (entry_at parent (slot_of k)) (node.0.key, tag_of node.0) block plain entry opens.opened))

  -- a block that fails is not the sheet's seal
  pub sheet_foreign : (k : ℕ) (kind : Kind) → 1 ≤ k → k < n → k < node_count (length sheet.content) → Fails NothingHeld (BlockOf file) (root_of sheet.nodes) k kind → IsForeign sheet given k
  sheet_foreign k kind low high live (is_short block missing is short same) =
      let node = there k low live in
      record { node = node.0; there = node.1; block = block; gave = subst (λ (b : List ℕ). given k b) (sym is) (gave k low high); other = λ seal. omega (arith, short, ap (λ (b : List ℕ). length b) seal, length-sealed_node node.0, of_sheet.linked.whole k node.0 node.1) }
  sheet_foreign k kind low high live (root_fails block missing one is fails same) =
      let node = there k low live in
      record { node = node.0; there = node.1; block = block; gave = subst (λ (b : List ℕ). given k b) (sym is) (gave k low high); other = not_its_seal (root_of sheet.nodes) block node.0 (root_entry sheet k node.0 one node.1) fails }
  sheet_foreign k kind low high live (child_fails parent block missing two up is fails same) =
      let node = there k low live in
      let before = parent_before k two in
      let above = sheet_opened (parent_of k) parent before.0 (omega (arith, before.1, high)) (omega (arith, before.1, live)) up in
      let entry : entry_at parent (slot_of k) ≡ (node.0.key, tag_of node.0) = ap (λ (t : List ℕ). entry_at t (slot_of k)) above.2 ∙ of_sheet.linked.entries k above.0 node.0 two above.1 node.1 in
      record { node = node.0; there = node.1; block = block; gave = subst (λ (b : List ℕ). given k b) (sym is) (gave k low high); other = not_its_seal (entry_at parent (slot_of k)) block node.0 entry fails }

  module _ (secret : MetaSecret) (is : IsMetaOf sheet secret) where
    pub root_same : fronts.root_entry secret ≡ root_of sheet.nodes
    root_same = let f = fields sheet of_sheet.linked secret is in ap₂ (λ (a b : List ℕ). (a, b)) (sym f.2) (sym f.3)

    pub size_same : length sheet.content ≡ secret.size
    size_same = (fields sheet of_sheet.linked secret is).1

    -- a whole piece is the sheet's
    pub sheet_piece : (at : ℕ) (piece : List ℕ) → at < secret.size → node_count (at + min PIECE (secret.size - at)) ≤ n → IsWhole NothingHeld (BlockOf file) (fronts.root_entry secret) secret.first at (min PIECE (secret.size - at)) piece
        → piece ≡ take PIECE (drop at sheet.content)
    sheet_piece at piece lt le whole =
        let m = min PIECE (secret.size - at) in
        let long = size_same in
        let f = fields sheet of_sheet.linked secret is in
        let same = same_bytes (first_text sheet.content) whole.plain (plain_in sheet) at m (λ d meets.
        let on : IsTouched at (at + m) (data_place d) = (d, meets, inl refl) in
        let live = touched_live at (at + m) (at + m) (data_place d) (omega arith) on in
        let live_all = touched_live at (at + m) (length sheet.content) (data_place d) (omega (arith, long)) on in
        let o = sheet_opened (data_place d) (whole.plain (data_place d)) (touched_low at (at + m) (data_place d) on) (omega (arith, live, le)) live_all
        (subst (λ (r : Entry). Opened NothingHeld (BlockOf file) r (data_place d) (whole.plain (data_place d))) root_same (whole.each (data_place d) on)) in
        o.2 ∙ sym (plain_in-there sheet (data_place d) o.0 o.1)) in
        let slice : take m (drop at sheet.content) ≡ bytes_of (first_text sheet.content) (plain_in sheet) at m =
        ap (λ (t : List ℕ). take m (drop at t)) (content_is sheet.content (plain_in sheet) (slices sheet of_sheet.linked)) ∙ slice_bytes (first_text sheet.content) (plain_in sheet) at m (length sheet.content) (omega (arith, long, lt)) in
        let short : take m (drop at sheet.content) ≡ take PIECE (drop at sheet.content) = ap (λ (j : ℕ). take (min PIECE j) (drop at sheet.content)) (omega (arith, length-drop at sheet.content, long)) ∙ take_min PIECE (drop at sheet.content) in
        whole.are ∙ ap (λ (t : List ℕ). bytes_of t whole.plain at m) (sym f.4) ∙ same ∙ sym slice ∙ short
