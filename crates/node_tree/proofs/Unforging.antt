-- What opens from blocks that are given of a sheet is the sheet's.
use Rattle.std.proofs.Common.{◌≡◌, ◌⊎◌, inl, inr, ℕ, zero, suc, ◌+◌, ◌-◌, ◌<◌, ◌≤◌, List, [], ◌∷◌, length, take, drop, ◌≢◌, refl, ap, ap₂, ◌∙◌, sym, arith, subst, Option, Some, None, Result, Ok, Err}
use Rattle.std.specs.Prelude.{Contains, slice_get, slice_index}
use Rattle.std.proofs.lemmas.Bool.{cases_eq}
use Rattle.std.proofs.lemmas.Option.{same_Some, none-some}
use Rattle.aes_gcm.specs.Gcm.{opens}
use Rattle.pf_io.specs.Host.{Name, HostState}
use Rattle.node_layout.specs.Places.{data_place, node_count, parent_of, slot_of}
use Rattle.node_layout.specs.Entries.{entry_at}
use Rattle.node_layout.proofs.Numbers.{parent_before, data_live}
use Rattle.aes_gcm.proofs.Sealed.{opens_sealed}
use Rattle.node_layout.specs.declared.damage.Kind.{Kind}
use Rattle.node_tree.proofs.Blocks.{length-sealed_node}
use Rattle.node_tree.proofs.Lively.{touched_low, touched_live}
use Rattle.node_tree.specs.Content.{bytes_of}
use Rattle.node_tree.specs.Touched.{Meets, IsTouched}
use Rattle.node_tree.specs.Sheet.{Node, Sheet, HasNode, sealed, tag_of, plain_in, root_of}
use Rattle.node_tree.specs.Opened.{AtNodes, IsAt, Entry, Opened, was_held, root_opens, child_opens, FailsUnder, Fails, is_short, root_fails, child_fails, Given}
use Rattle.node_tree.specs.State.{TreeState, held_at, Held, root_in, readable, plain_or}
use Rattle.node_tree.specs.Unforged.{GivenOf}
use Rattle.node_tree.specs.Fetching.{Fetched}
use Rattle.node_tree.specs.Backing.{Backs, plain_now, now}
use Rattle.node_tree.specs.Reading.{KeepsFields, ReadEnds, Reads, IsSlice, IsForeign, DamageIsForeign, StaysBacked, BackedRead}
use Rattle.node_tree.proofs.Standing.{root_is, plain_in-there}
use Rattle.node_tree.specs.declared.fault.TreeFault.{TreeFault}
use Rattle.node_tree.specs.declared.fault.TreeFault.TheVariants as faults
use Rattle.node_tree.proofs.SameBytes.{same_bytes, slice_bytes}

elsewhere : (x : ℕ) (xs : List ℕ) (k : ℕ) → (x ≡ k → ⊥) → ¬ (Contains xs k) → Contains (x ∷ xs) k → ⊥
elsewhere x xs k other nowhere (zero, within, is) = other is
elsewhere x xs k other nowhere (suc i, within, is) = nowhere (i, omega arith, is)

pub contains_cases : (xs : List ℕ) (k : ℕ) → Contains xs k ⊎ ¬ (Contains xs k)
contains_cases [] k = inr (λ there. absurd (omega (arith, there.1)))
contains_cases (x ∷ xs) k =
    elim (cases_eq x k) [
      | inl is ↦ inl (0, omega arith, is)
      | inr other ↦ elim (contains_cases xs k) [
        | inl there ↦ inl (suc there.0, let w = there.1 in omega arith, there.2)
        | inr nowhere ↦ inr (λ there. elsewhere x xs k other nowhere there)
      ]
    ]

one_node : (sheet : Sheet) (k : ℕ) (node node' : Node) → HasNode sheet k node → HasNode sheet k node' → node ≡ node'
one_node sheet k node node' has has' = same_Some node node' (sym has.there ∙ has'.there)

pub root_entry : (sheet : Sheet) (k : ℕ) (node : Node) → k ≡ 1 → HasNode sheet k node → root_of sheet.nodes ≡ (node.key, tag_of node)
root_entry sheet k node one has = root_is sheet.nodes node (ap (λ j. slice_get sheet.nodes j) (let e : 0 ≡ k - 1 = omega arith in e) ∙ has.there)

opens_by : (e f : Entry) (block plain : List ℕ) → e ≡ f → opens e.0 [] block e.1 ≡ Some plain → opens f.0 [] block f.1 ≡ Some plain
opens_by e f block plain same o = ap (λ (x : Entry). opens x.0 [] block x.1) (sym same) ∙ o

-- a node that is held opens to what is held
pub opened_held : (s : TreeState) (given : ℕ → List ℕ → Type 0) (root : Entry) (k : ℕ) (plain : List ℕ) → IsAt (Held s) k → Opened (Held s) given root k plain → Held s k plain
opened_held s given root k plain there (was_held _ _ held) = held
opened_held s given root k plain there (root_opens _ block _ missing one gave opens) = absurd (missing there)
opened_held s given root k plain there (child_opens _ parent block _ missing two up gave opens) = absurd (missing there)

module _ (given : AtNodes) (sheet : Sheet) (of_sheet : GivenOf sheet given) (s : TreeState) (backs : Backs sheet s) where
  -- the entry of a clean node, in what its parent opens to
  entry_above : (k : ℕ) (parent : List ℕ) (node : Node) → 2 ≤ k → k < node_count s.size → ¬ (Contains s.dirty k) → HasNode sheet k node → Opened (Held s) given (root_in s) (parent_of k) parent
      → (¬ (Contains s.dirty (parent_of k)) → (p : Node) × HasNode sheet (parent_of k) p × (parent ≡ p.plain)) → entry_at parent (slot_of k) ≡ (node.key, tag_of node)
  entry_above k parent node two live clean has up clean_parent =
      elim (contains_cases s.dirty (parent_of k)) [
        | inl dirty ↦ backs.entries k node parent two live clean has dirty (opened_held s given (root_in s) (parent_of k) parent (backs.dirty_held (parent_of k) dirty) up)
        | inr not_dirty ↦ let p = clean_parent not_dirty in ap (λ (t : List ℕ). entry_at t (slot_of k)) p.2 ∙ of_sheet.linked.entries k p.0 node two p.1 has
      ]

  clean_opened : (k : ℕ) (plain : List ℕ) → 1 ≤ k → k < node_count s.size → ¬ (Contains s.dirty k) → Opened (Held s) given (root_in s) k plain → (node : Node) × HasNode sheet k node × (plain ≡ node.plain)
  clean_opened k plain low live clean (was_held _ _ there) = let n = backs.clean k low live clean in (n.0, n.1, n.2 plain there)
  clean_opened k plain low live clean (root_opens _ block _ missing one gave opens) =
      let n = backs.clean k low live clean in
      let entry : root_in s ≡ (n.0.key, tag_of n.0) = backs.root ∙ root_entry sheet k n.0 one n.1 in
      (n.0, n.1, of_sheet.seals k block plain n.0 gave opens.whole n.1 (opens_by (root_in s) (n.0.key, tag_of n.0) block plain entry opens.opened))
  clean_opened k plain low live clean (child_opens _ parent block _ missing two up gave opens) =
      let n = backs.clean k low live clean in
      let before = parent_before k two in
      let entry = entry_above k parent n.0 two live clean n.1 up (λ not_dirty. clean_opened (parent_of k) parent before.0 (omega (arith, before.1)) not_dirty up) in
      (n.0, n.1, of_sheet.seals k block plain n.0 gave opens.whole n.1 (opens_by (entry_at parent (slot_of k)) (n.0.key, tag_of n.0) block plain entry opens.opened))

  not_its_seal : (e : Entry) (block : List ℕ) (node : Node) → e ≡ (node.key, tag_of node) → FailsUnder e block → block ≢ sealed node
  not_its_seal e block node entry fails same =
      none-some node.plain (sym fails.refused ∙ ap₂ (λ (x : Entry) (b : List ℕ). opens x.0 [] b x.1) entry same ∙ opens_sealed node.key [] node.plain)

  -- a block that fails is not the sheet's seal
  pub foreign : (k : ℕ) (kind : Kind) → 1 ≤ k → k < node_count s.size → Fails (Held s) given (root_in s) k kind → IsForeign sheet given k
  foreign k kind low live (is_short block missing gave short is) =
      let n = backs.clean k low live (λ dirty. missing (backs.dirty_held k dirty)) in
      record { node = n.0; there = n.1; block = block; gave = gave; other = λ same. omega (arith, ap (λ (b : List ℕ). length b) same, length-sealed_node n.0, of_sheet.linked.whole k n.0 n.1) }
  foreign k kind low live (root_fails block missing one gave fails is) =
      let n = backs.clean k low live (λ dirty. missing (backs.dirty_held k dirty)) in
      record { node = n.0; there = n.1; block = block; gave = gave; other = not_its_seal (root_in s) block n.0 (backs.root ∙ root_entry sheet k n.0 one n.1) fails }
  foreign k kind low live (child_fails parent block missing two up gave fails is) =
      let clean = λ (dirty : Contains s.dirty k). missing (backs.dirty_held k dirty) in
      let n = backs.clean k low live clean in
      let before = parent_before k two in
      let entry = entry_above k parent n.0 two live clean n.1 up (λ not_dirty. clean_opened (parent_of k) parent before.0 (omega (arith, before.1)) not_dirty up) in
      record { node = n.0; there = n.1; block = block; gave = gave; other = not_its_seal (entry_at parent (slot_of k)) block n.0 entry fails }

  -- what a live node opens to is what the content has of it
  now_opened : (k : ℕ) (plain : List ℕ) → 1 ≤ k → k < node_count s.size → Opened (Held s) given (root_in s) k plain → plain ≡ plain_now sheet s k
  now_opened k plain low live opened = now_at (held_at s k) refl where
    now_at : (o : Option (List ℕ)) → held_at s k ≡ o → plain ≡ plain_or o (plain_in sheet k)
    now_at (Some p) is = same_Some plain p (sym (opened_held s given (root_in s) k plain (p, is) opened) ∙ is)
    now_at None is =
        let clean = λ (dirty : Contains s.dirty k). let t = backs.dirty_held k dirty in none-some t.0 (sym is ∙ t.1) in
        let n = clean_opened k plain low live clean opened in
        n.2 ∙ sym (plain_in-there sheet k n.0 n.1)

  -- the tree with other nodes held: what is held was held or opens, and a dirty node stays
  module _ (h : List (ℕ × List ℕ)) (came : (k : ℕ) (plain : List ℕ) → Held (record s { held = h }) k plain → Opened (Held s) given (root_in s) k plain)
      (stays : (k : ℕ) (plain : List ℕ) → Contains s.dirty k → Held s k plain → Held (record s { held = h }) k plain) where
    plain_still : (k : ℕ) → 1 ≤ k → k < node_count s.size → plain_now sheet (record s { held = h }) k ≡ plain_now sheet s k
    plain_still k low live = still_at (held_at (record s { held = h }) k) refl where
      still_at : (o : Option (List ℕ)) → held_at (record s { held = h }) k ≡ o → plain_or o (plain_in sheet k) ≡ plain_now sheet s k
      still_at (Some p) is = now_opened k p low live (came k p is)
      still_at None is = clean_before (held_at s k) refl where
        clean_before : (o : Option (List ℕ)) → held_at s k ≡ o → plain_in sheet k ≡ plain_or o (plain_in sheet k)
        clean_before None was = refl
        clean_before (Some p) was =
            let n = backs.clean k low live (λ dirty. none-some p (sym is ∙ stays k p dirty was)) in
            plain_in-there sheet k n.0 n.1 ∙ sym (n.2 p was)

    pub backs_still : Backs sheet (record s { held = h })
    backs_still = record {
      root = backs.root;
      base = backs.base;
      clean = λ k low live clean.
          let n = backs.clean k low live clean in
          (n.0, n.1, λ plain there. let o = clean_opened k plain low live clean (came k plain there) in o.2 ∙ ap (λ (m : Node). m.plain) (one_node sheet k o.0 n.0 o.1 n.1));
      dirty_held = λ k dirty. let t = backs.dirty_held k dirty in (t.0, stays k t.0 dirty t.1);
      dirty_parents = backs.dirty_parents;
      entries = λ k node parent two live clean has dirty there.
          let t = backs.dirty_held (parent_of k) dirty in
          let same : t.0 ≡ parent = same_Some t.0 parent (sym (stays (parent_of k) t.0 dirty t.1) ∙ there) in
          ap (λ (b : List ℕ). entry_at b (slot_of k)) (sym same) ∙ backs.entries k node t.0 two live clean has dirty t.1;
      padded = record {
        of_first = backs.padded.of_first;
        of_nodes = λ d r live behind lt. ap (λ (b : List ℕ). slice_index b r) (plain_still (data_place d) (omega arith) live) ∙ backs.padded.of_nodes d r live behind lt;
      };
    }

    live_data : (d n at : ℕ) → at + n ≤ s.size → Meets at (at + n) d → data_place d < node_count s.size
    live_data d n at le meets = let b = meets.begins in (data_live s.size d).1 (omega arith)

    pub now_still : now sheet (record s { held = h }) ≡ now sheet s
    now_still = same_bytes s.first (plain_now sheet (record s { held = h })) (plain_now sheet s) 0 s.size (λ d meets. plain_still (data_place d) (omega arith) (live_data d s.size 0 (omega arith) meets))

    slice_now : (at n : ℕ) (plain : ℕ → List ℕ) → at + n ≤ s.size → ((k : ℕ) → IsTouched at (at + n) k → Opened (Held s) given (root_in s) k (plain k)) → bytes_of s.first plain at n ≡ take n (drop at (now sheet s))
    slice_now at n plain le each =
        same_bytes s.first plain (plain_now sheet s) at n (λ d meets. now_opened (data_place d) (plain (data_place d)) (omega arith) (live_data d n at le meets) (each (data_place d) (d, meets, inl refl)))
        ∙ sym (slice_bytes s.first (plain_now sheet s) at n s.size le)

-- a tree of which only the held nodes changed is the same tree with other nodes held
pub held_other : (s s' : TreeState) → KeepsFields s s' → record s { held = s'.held } ≡ s'
held_other s s' rest = sym (ap (λ (t : TreeState). record t { held = s'.held }) rest)

module _ (given : AtNodes) (sheet : Sheet) (of_sheet : GivenOf sheet given) (s s' : TreeState) (backs : Backs sheet s) (at : ℕ) (buffer : List ℕ) where
  slice_of : (result : Result ℕ TreeFault) → ((k : ℕ) (plain : List ℕ) → Held (record s { held = s'.held }) k plain → Opened (Held s) given (root_in s) k plain)
      → ((k : ℕ) (plain : List ℕ) → Contains s.dirty k → Held s k plain → Held (record s { held = s'.held }) k plain) → ReadEnds result given at buffer s s' → IsSlice result at buffer (now sheet s)
  slice_of (Ok n) came stays ends =
      let whole = ends.1 in
      let count = ends.0 in
      elim (cases_eq n 0) [
        | inl none ↦ whole.are ∙ ap (λ (m : ℕ). bytes_of s.first whole.plain at m) none ∙ sym (ap (λ (m : ℕ). take m (drop at (now sheet s))) none)
        | inr some ↦ whole.are ∙ slice_now given sheet of_sheet s backs s'.held came stays at n whole.plain (omega arith) whole.each
      ]
  slice_of (Err fault) came stays ends = tt

  foreign_of : (result : Result ℕ TreeFault) → ReadEnds result given at buffer s s' → DamageIsForeign result sheet given
  foreign_of (Ok n) ends = tt
  foreign_of (Err (faults.Damaged damage)) ends =
      let some = ends.touched.1.some in
      foreign given sheet of_sheet s backs damage.node damage.kind (touched_low _ _ damage.node ends.touched) (touched_live at (at + readable s at (length buffer)) s.size damage.node (omega arith) ends.touched) ends.fails
  foreign_of (Err faults.Host) ends = tt
  foreign_of (Err faults.Memory) ends = tt

pub stays_backed : (result : Result ℕ TreeFault) (name : Name) (at : ℕ) (buffer : List ℕ) (s s' : TreeState) (before after : HostState) → (reads : Reads result name at buffer s s' before after) → (sheet : Sheet) → GivenOf sheet (Given name reads.these) → Backs sheet s
    → StaysBacked result sheet (Given name reads.these) at buffer s s'
stays_backed result name at buffer s s' before after reads sheet of_sheet backs =
    let given = Given name reads.these in
    let is = held_other s s' reads.rest in
    let fetched = subst (λ (t : TreeState). Fetched (Held s) (Held t) given (root_in s)) (sym is) reads.fetched in
    let stays = λ (k : ℕ) (plain : List ℕ) (dirty : Contains s.dirty k) (there : Held s k plain). fetched.kept k plain there in
    record {
      backs = subst (λ (t : TreeState). Backs sheet t) is (backs_still given sheet of_sheet s backs s'.held fetched.came stays);
      same = ap (λ (t : TreeState). now sheet t) (sym is) ∙ now_still given sheet of_sheet s backs s'.held fetched.came stays;
      slice = slice_of given sheet of_sheet s s' backs at buffer result fetched.came stays reads.ends;
      damage = foreign_of given sheet of_sheet s s' backs at buffer result reads.ends;
    }

pub backed_read : (result : Result ℕ TreeFault) (name : Name) (at : ℕ) (buffer : List ℕ) (s s' : TreeState) (before after : HostState) → Reads result name at buffer s s' before after → BackedRead result name at buffer s s' before after
backed_read result name at buffer s s' before after reads = record { these = reads.these; answered = reads.answered; holds = stays_backed result name at buffer s s' before after reads }
