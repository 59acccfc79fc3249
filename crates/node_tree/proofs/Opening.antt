-- What opens over a file is one.
use Rattle.std.proofs.Common.{◌≡◌, ℕ, List, [], length, is_some, refl, ap, ap₂, ◌∙◌, sym, arith, Some}
use Rattle.std.proofs.lemmas.Option.{same_Some}
use Rattle.aes_gcm.specs.Gcm.{opens, crypted}
use Rattle.aes_gcm.proofs.Sealed.{same_where_opens, opens_where_same, length-crypted}
use Rattle.node_layout.specs.Places.{parent_of, slot_of}
use Rattle.node_layout.specs.Entries.{entry_at}
use Rattle.node_tree.specs.State.{AreBlocks}
use Rattle.node_tree.specs.Opened.{AtNodes, IsAt, Entry, Opened, was_held, root_opens, child_opens, NothingHeld, BlockOf}

-- one entry and one block, one plain text
pub one_plain : (e f : Entry) (a b p q : List ℕ) → e ≡ f → a ≡ b → opens e.0 [] a e.1 ≡ Some p → opens f.0 [] b f.1 ≡ Some q → p ≡ q
one_plain e f a b p q same_entry same_block one two =
    same_Some p q (sym one ∙ ap₂ (λ (x : Entry) (y : List ℕ). opens x.0 [] y x.1) same_entry same_block ∙ two)

pub nothing_held : (k : ℕ) → ¬ (IsAt NothingHeld k)
nothing_held k there = there.1

-- at each node at most one
abbrev pub IsSingle : AtNodes → Type 0
IsSingle there = (k : ℕ) (a b : List ℕ) → there k a → there k b → a ≡ b

module _ (held given : AtNodes) (root : Entry) (one_held : IsSingle held) (one_given : IsSingle given) where
  -- a node opens to one plain text
  pub opened_one : (k : ℕ) (p q : List ℕ) → Opened held given root k p → Opened held given root k q → p ≡ q
  opened_one k p q (was_held _ _ there) (was_held _ _ there') = one_held k p q there there'
  opened_one k p q (was_held _ _ there) (root_opens _ b _ missing is gave opens) = absurd (missing (p, there))
  opened_one k p q (was_held _ _ there) (child_opens _ v b _ missing le up gave opens) = absurd (missing (p, there))
  opened_one k p q (root_opens _ a _ missing is gave opens) (was_held _ _ there) = absurd (missing (q, there))
  opened_one k p q (child_opens _ u a _ missing le up gave opens) (was_held _ _ there) = absurd (missing (q, there))
  opened_one k p q (root_opens _ a _ miss is gave opens) (root_opens _ b _ miss' is' gave' opens') = one_plain root root a b p q refl (one_given k a b gave gave') opens.opened opens'.opened
  opened_one k p q (root_opens _ a _ miss is gave opens) (child_opens _ parent b _ miss' le up gave' opens') = absurd (omega arith)
  opened_one k p q (child_opens _ parent a _ miss le up gave opens) (root_opens _ b _ miss' is' gave' opens') = absurd (omega arith)
  opened_one k p q (child_opens _ u a _ miss le up gave opens) (child_opens _ v b _ miss' le' up' gave' opens') =
      one_plain (entry_at u (slot_of k)) (entry_at v (slot_of k)) a b p q (ap (λ (t : List ℕ). entry_at t (slot_of k)) (opened_one (parent_of k) u v up up')) (one_given k a b gave gave') opens.opened opens'.opened

pub nothing_single : IsSingle NothingHeld
nothing_single k a b there there' = absurd there

pub blocks_single : (file : List ℕ) → IsSingle (BlockOf file)
blocks_single file k a b there there' = there ∙ sym there'

length-opens : (key block tag plain : List ℕ) → opens key [] block tag ≡ Some plain → length plain ≡ length block
length-opens key block tag plain is =
    let same = same_where_opens key [] block tag (ap is_some is) in
    ap length (same_Some plain (crypted key block) (sym is ∙ opens_where_same key [] block tag (crypted key block) same refl)) ∙ length-crypted key block

-- what opens is a whole block, where what is held is
pub opened_block : (held given : AtNodes) (root : Entry) → AreBlocks held → (k : ℕ) (plain : List ℕ) → Opened held given root k plain → length plain ≡ 4096
opened_block held given root blocks k plain (was_held _ _ there) = blocks k plain there
opened_block held given root blocks k plain (root_opens _ block _ missing one gave opens) = length-opens root.0 block root.1 plain opens.opened ∙ opens.whole
opened_block held given root blocks k plain (child_opens _ parent block _ missing two up gave opens) =
    length-opens (entry_at parent (slot_of k)).0 block (entry_at parent (slot_of k)).1 plain opens.opened ∙ opens.whole
