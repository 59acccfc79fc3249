-- A part of a file is one.
use Rattle.std.proofs.Common.{◌≡◌, inl, inr, ℕ, ◌+◌, ◌<◌, List, [], length, refl, ap, ap₂, ◌∙◌, sym, arith, subst, Result, Ok, Err}
use Rattle.std.proofs.lemmas.Bool.{cases_order}
use Rattle.std.proofs.lemmas.Option.{none-some}
use Rattle.aes_gcm.specs.Gcm.{opens}
use Rattle.node_layout.specs.declared.damage.Damage.{Damage}
use Rattle.node_layout.specs.declared.damage.Kind.{Kind}
use Rattle.node_layout.specs.Places.{data_place, parent_of, slot_of}
use Rattle.node_layout.specs.Entries.{entry_at}
use Rattle.node_tree.specs.Touched.{IsTouched}
use Rattle.node_tree.specs.Opened.{AtNodes, Entry, OpensUnder, FailsUnder, Opened, was_held, root_opens, child_opens, Fails, is_short, root_fails, child_fails, NothingHeld, BlockOf}
use Rattle.node_tree.specs.Parts.{IsWhole, IsBroken, IsPart, OnePart}
use Rattle.node_tree.proofs.Opening.{IsSingle, opened_one, nothing_single, blocks_single}
use Rattle.node_tree.proofs.SameBytes.{same_bytes}

-- one entry and one block open or fail
not_both : (e f : Entry) (a b p : List ℕ) → e ≡ f → a ≡ b → OpensUnder e a p → FailsUnder f b → ⊥
not_both e f a b p same_entry same_block good bad = none-some p (sym bad.refused ∙ sym (ap₂ (λ (x : Entry) (y : List ℕ). opens x.0 [] y x.1) same_entry same_block) ∙ good.opened)

too_short : (a b : List ℕ) → a ≡ b → length a ≡ 4096 → length b < 4096 → ⊥
too_short a b same whole short = omega (arith, ap (λ (l : List ℕ). length l) same)

module _ (held given : AtNodes) (root : Entry) (one_held : IsSingle held) (one_given : IsSingle given) where
  -- a node that opens does not fail
  opened_fails : (k : ℕ) (plain : List ℕ) (kind : Kind) → Opened held given root k plain → Fails held given root k kind → ⊥
  opened_fails k plain kind (was_held _ _ there) (is_short b missing gave short is) = missing (plain, there)
  opened_fails k plain kind (was_held _ _ there) (root_fails b missing one gave bad is) = missing (plain, there)
  opened_fails k plain kind (was_held _ _ there) (child_fails v b missing two up gave bad is) = missing (plain, there)
  opened_fails k plain kind (root_opens _ a _ m is gave opens) (is_short b m' gave' short is') = too_short a b (one_given k a b gave gave') opens.whole short
  opened_fails k plain kind (root_opens _ a _ m is gave opens) (root_fails b m' is' gave' fails same) = not_both root root a b plain refl (one_given k a b gave gave') opens fails
  opened_fails k plain kind (root_opens _ a _ m is gave opens) (child_fails parent b m' two up gave' fails same) = omega arith
  opened_fails k plain kind (child_opens _ u a _ m two up gave opens) (is_short b m' gave' short is') = too_short a b (one_given k a b gave gave') opens.whole short
  opened_fails k plain kind (child_opens _ u a _ m two up gave opens) (root_fails b m' is' gave' fails same) = omega arith
  opened_fails k plain kind (child_opens _ u a _ m two up gave opens) (child_fails v b m' two' up' gave' fails same) =
      not_both (entry_at u (slot_of k)) (entry_at v (slot_of k)) a b plain (ap (λ (t : List ℕ). entry_at t (slot_of k)) (opened_one held given root one_held one_given (parent_of k) u v up up')) (one_given k a b gave gave') opens fails

  -- a node fails in one way
  fails_one : (k : ℕ) (kind other : Kind) → Fails held given root k kind → Fails held given root k other → kind ≡ other
  fails_one k kind other (is_short a m gave short is) (is_short b m' gave' short' is') = is ∙ sym is'
  fails_one k kind other (is_short a m gave short is) (root_fails b m' one gave' fails is') = absurd (too_short b a (one_given k b a gave' gave) fails.whole short)
  fails_one k kind other (is_short a m gave short is) (child_fails v b m' two up gave' fails is') = absurd (too_short b a (one_given k b a gave' gave) fails.whole short)
  fails_one k kind other (root_fails a m one gave fails is) (is_short b m' gave' short is') = absurd (too_short a b (one_given k a b gave gave') fails.whole short)
  fails_one k kind other (root_fails a m one gave fails is) (root_fails b m' one' gave' fails' is') = is ∙ sym is'
  fails_one k kind other (root_fails a m one gave fails is) (child_fails v b m' two up gave' fails' is') = is ∙ sym is'
  fails_one k kind other (child_fails u a m two up gave fails is) (is_short b m' gave' short is') = absurd (too_short a b (one_given k a b gave gave') fails.whole short)
  fails_one k kind other (child_fails u a m two up gave fails is) (root_fails b m' one gave' fails' is') = is ∙ sym is'
  fails_one k kind other (child_fails u a m two up gave fails is) (child_fails v b m' two' up' gave' fails' is') = is ∙ sym is'

  module _ (first : List ℕ) (at n : ℕ) where
    whole_one : (xs ys : List ℕ) → IsWhole held given root first at n xs → IsWhole held given root first at n ys → xs ≡ ys
    whole_one xs ys w v =
        w.are ∙ same_bytes first w.plain v.plain at n (λ d meets. let on : IsTouched at (at + n) (data_place d) = (d, meets, inl refl) in opened_one held given root one_held one_given (data_place d) (w.plain (data_place d)) (v.plain (data_place d)) (w.each (data_place d) on) (v.each (data_place d) on)) ∙ sym v.are

    whole_broken : (xs : List ℕ) (damage : Damage) → IsWhole held given root first at n xs → IsBroken held given root at n damage → ⊥
    whole_broken xs damage w b = opened_fails damage.node (w.plain damage.node) damage.kind (w.each damage.node b.touched) b.fails

    not_sooner : (damage other : Damage) → IsBroken held given root at n damage → IsBroken held given root at n other → damage.node < other.node → ⊥
    not_sooner damage other b c lt = let there = c.before damage.node b.touched lt in opened_fails damage.node there.0 damage.kind there.1 b.fails

    broken_one : (damage other : Damage) → IsBroken held given root at n damage → IsBroken held given root at n other → damage ≡ other
    broken_one damage other b c =
        let node : damage.node ≡ other.node = elim (cases_order damage.node other.node) [
          | inl same ↦ same
          | inr sooner ↦ elim sooner [ inl lt ↦ absurd (not_sooner damage other b c lt) | inr gt ↦ absurd (not_sooner other damage c b gt) ]
        ] in
        let kind = fails_one other.node damage.kind other.kind (subst (λ (k : ℕ). Fails held given root k damage.kind) node b.fails) c.fails in
        ap₂ (λ (k : ℕ) (l : Kind). let d : Damage = record { node = k; kind = l } in d) node kind

    -- a read comes to one end
    pub one_end : (part other : Result (List ℕ) Damage) → IsPart held given root first at n part → IsPart held given root first at n other → part ≡ other
    one_end (Ok xs) (Ok ys) one two = ap (λ (l : List ℕ). Ok l) (whole_one xs ys one two)
    one_end (Ok xs) (Err d) one two = absurd (whole_broken xs d one two)
    one_end (Err d) (Ok ys) one two = absurd (whole_broken ys d two one)
    one_end (Err d) (Err e) one two = ap (λ (x : Damage). Err x) (broken_one d e one two)

pub one_part : OnePart
one_part file secret at n part other one two = one_end NothingHeld (BlockOf file) (secret.root_key, secret.root_tag) nothing_single (blocks_single file) secret.first at n part other one two
