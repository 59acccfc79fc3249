-- A read of a tree, from its fields.
use Rattle.std.proofs.Common.{◌≡◌, inl, ℕ, ◌+◌, ◌<◌, ◌≤◌, slice_index, List, [], ◌++◌, length, take, drop, refl, ap, ◌∙◌, sym, arith, subst, is_some, Option, Some, None, Result, Ok, Err}
use Rattle.std.specs.Option.{option_map}
use Rattle.std.specs.Prelude.{Contains}
use Rattle.std.specs.List.Sorted.{IsStrictlyIncreasing}
use Rattle.std.specs.Ordering.{nat_cmp}
use Rattle.std.specs.BTreeMap.{BTreeMap, get}
use Rattle.std.proofs.lemmas.List.{take_at, length-append, length-drop}
use Rattle.pf_io.specs.Host.{Name, HostState}
use Rattle.node_tree.specs.Content.{bytes_of}
use Rattle.node_tree.specs.Touched.{AreTouched, Meets}
use Rattle.node_tree.specs.Opened.{AtNodes, At, IsAt, Given}
use Rattle.node_tree.specs.Nodes.{plain_at, kept_plain}
use Rattle.node_tree.specs.State.{TreeState, held_at, readable, plain_or, AreBlocks, MOST_DIRTY}
use Rattle.node_tree.specs.Fetching.{CountsReads, Fetches, missing_of}
use Rattle.node_tree.specs.Reading.{KeepsFields, Reads, ReadsFew, DamageComes}
use Rattle.node_tree.specs.Inside.{state_of, IsWell}
use Rattle.node_tree.specs.Marks.{marked, KeepsMarks}
use Rattle.node_layout.specs.Places.{data_place, parent_of}
use Rattle.node_tree.specs.declared.fault.TreeFault.{TreeFault}
use Rattle.node_tree.specs.declared.fault.TreeFault.TheVariants as faults
use Rattle.node_tree.proofs.Opening.{opened_block}
use Rattle.node_tree.specs.declared.nodes.HeldNode.{HeldNode}
use Rattle.node_tree.specs.declared.tree.Tree.TheInside.{Inside}
use Rattle.node_tree.proofs.Order.{place_of}
use Rattle.node_tree.proofs.Marking.{same_marked}
use Rattle.node_tree.proofs.Ends.{same_held, reads_none, reads_ok, reads_failed, few_reads}

module _ (name : Name) (at : ℕ) (inside : Inside) (nodes : BTreeMap ℕ HeldNode) (old : TreeState) (is : state_of inside ≡ old) (before after : HostState) (numbers : List ℕ) (count room : ℕ)
    (count_is : count ≡ readable (state_of inside) at room) (touched : AreTouched at (at + count) numbers) (rest : KeepsFields (state_of inside) (state_of (record inside { nodes = nodes }))) where
  states : {T : Type 0} (r : Result T TreeFault) → Fetches r name numbers (plain_at inside.nodes) (plain_at nodes) inside.root before after
      → Fetches r name numbers (held_at (state_of inside)) (held_at (state_of (record inside { nodes = nodes }))) inside.root before after
  states r fetches =
      subst (λ (f : ℕ → Option (List ℕ)). Fetches r name numbers f (held_at (state_of (record inside { nodes = nodes }))) inside.root before after) (same_held inside.nodes)
      (subst (λ (f : ℕ → Option (List ℕ)). Fetches r name numbers (plain_at inside.nodes) f inside.root before after) (same_held nodes) fetches)

  pub tree_fails : {T : Type 0} (r : Result ℕ TreeFault) (fault : TreeFault) (buffer : List ℕ) → r ≡ Err fault → length buffer ≡ room
      → Fetches {T = T} (Err fault) name numbers (plain_at inside.nodes) (plain_at nodes) inside.root before after → Reads r name at buffer old (state_of (record inside { nodes = nodes })) before after
  tree_fails r fault buffer fails long fetches =
      let here : count ≡ readable (state_of inside) at (length buffer) = count_is ∙ ap (readable (state_of inside) at) (sym long) in
      subst (λ (t : TreeState). Reads r name at buffer t (state_of (record inside { nodes = nodes })) before after) is
      (subst (λ (x : Result ℕ TreeFault). Reads x name at buffer (state_of inside) (state_of (record inside { nodes = nodes })) before after) (sym fails)
      (reads_failed name at (state_of inside) (state_of (record inside { nodes = nodes })) before after rest numbers fault buffer
      (subst (λ (n : ℕ). AreTouched at (at + n) numbers) here touched) (states (Err fault) fetches)))

  pub tree_ok : {T : Type 0} (value : T) (buffer : List ℕ) → length buffer ≡ room → take count buffer ≡ bytes_of inside.first (kept_plain nodes) at count
      → Fetches (Ok value) name numbers (plain_at inside.nodes) (plain_at nodes) inside.root before after → Reads (Ok count) name at buffer old (state_of (record inside { nodes = nodes })) before after
  tree_ok value buffer long bytes fetches =
      let here : count ≡ readable (state_of inside) at (length buffer) = count_is ∙ ap (readable (state_of inside) at) (sym long) in
      let same : bytes_of inside.first (kept_plain nodes) at count ≡ bytes_of inside.first (λ k. plain_or (held_at (state_of (record inside { nodes = nodes })) k) []) at count =
      ap (λ (f : ℕ → Option (List ℕ)). bytes_of inside.first (λ k. plain_or (f k) []) at count) (same_held nodes) in
      subst (λ (t : TreeState). Reads (Ok count) name at buffer t (state_of (record inside { nodes = nodes })) before after) is
      (reads_ok name at (state_of inside) (state_of (record inside { nodes = nodes })) before after rest numbers value buffer count here touched (states (Ok value) fetches) (bytes ∙ same))

  pub tree_few : CountsReads (length (missing_of (plain_at inside.nodes) numbers)) before after → ReadsFew at room old before after
  tree_few few =
      subst (λ (t : TreeState). ReadsFew at room t before after) is
      (few_reads name at (state_of inside) (state_of inside) before after room numbers (subst (λ (n : ℕ). AreTouched at (at + n) numbers) count_is touched)
      (subst (λ (f : ℕ → Option (List ℕ)). CountsReads (length (missing_of f numbers)) before after) (same_held inside.nodes) few))

-- nothing was to be read
pub tree_none : (name : Name) (at : ℕ) (old : TreeState) (host : HostState) (buffer : List ℕ) (count : ℕ) → count ≡ 0 → count ≡ readable old at (length buffer) → Reads (Ok 0) name at buffer old old host host
tree_none name at old host buffer count none is = reads_none name at old old host host buffer 0 refl (sym none ∙ is)

-- the front of a buffer of which the front was written
pub front_of : (n : ℕ) (front old : List ℕ) → length front ≡ n → n ≤ length old → (take n (front ++ drop n old) ≡ front) × (length (front ++ drop n old) ≡ length old)
front_of n front old long le = (take_at front (drop n old) n long, omega (arith, length-append front (drop n old), length-drop n old))

-- a data node within what was read is held
pub data_held : (at count n d : ℕ) (numbers : List ℕ) (held : AtNodes) → n ≡ count → AreTouched at (at + count) numbers → ((i : ℕ) → i < length numbers → IsAt held (slice_index numbers i)) → Meets at (at + n) d → IsAt held (data_place d)
data_held at count n d numbers held same touched all meets =
    let there = subst (λ (m : ℕ). Meets at (at + m) d) same meets in
    let place = place_of numbers (data_place d) ((touched.exactly (data_place d)).1 (d, there, inl refl)) in
    subst (λ (k : ℕ). IsAt held k) place.2 (all place.0 place.1)

-- only the held nodes changed where the marks stay
pub kept_fields : (inside : Inside) (nodes : BTreeMap ℕ HeldNode) → IsWell inside → KeepsMarks inside.nodes nodes → KeepsFields (state_of inside) (state_of (record inside { nodes = nodes }))
kept_fields inside nodes well keeps = ap (λ (dirty : List ℕ). record (state_of inside) { dirty = dirty }) (same_marked inside.nodes nodes keeps well.ordered)

-- what holds of a tree holds once nodes came
pub well_then : {T : Type 0} (r : Result T TreeFault) (name : Name) (numbers : List ℕ) (inside : Inside) (nodes : BTreeMap ℕ HeldNode) (before after : HostState) → IsWell inside → KeepsMarks inside.nodes nodes
    → Fetches r name numbers (plain_at inside.nodes) (plain_at nodes) inside.root before after → IsWell (record inside { nodes = nodes })
well_then r name numbers inside nodes before after well keeps fetches =
    let sound = well.sound in
    let is = same_marked inside.nodes nodes keeps well.ordered in
    let was : (k : ℕ) → Contains (marked nodes.entries) k → Contains (marked inside.nodes.entries) k = λ k there. subst (λ (l : List ℕ). Contains l k) is there in
    record {
      sound = record {
        small = sound.small;
        blocks =
            subst (λ (f : ℕ → Option (List ℕ)). AreBlocks (At f)) (same_held nodes)
            (λ k plain there. opened_block (At (plain_at inside.nodes)) (Given name fetches.these) inside.root (subst (λ (f : ℕ → Option (List ℕ)). AreBlocks (At f)) (sym (same_held inside.nodes)) sound.blocks) k plain (fetches.fetched.came k plain there));
        rising = subst (λ (l : List ℕ). IsStrictlyIncreasing l) (sym is) sound.rising;
        low = λ k there. sound.low k (was k there);
        live = λ k there. sound.live k (was k there);
        dirty_held = λ k there.
            let h = subst (λ (f : ℕ → Option (List ℕ)). IsAt (At f) k) (sym (same_held inside.nodes)) (sound.dirty_held k (was k there)) in
            subst (λ (f : ℕ → Option (List ℕ)). IsAt (At f) k) (same_held nodes) (h.0, fetches.fetched.kept k h.0 h.1);
        dirty_parents = λ k there two. subst (λ (l : List ℕ). Contains l (parent_of k)) (sym is) (sound.dirty_parents k (was k there) two);
        few = subst (λ (l : List ℕ). length l ≤ MOST_DIRTY) (sym is) sound.few;
      };
      ordered = keeps.ordered well.ordered;
    }

-- why a read met a damage
pub damage_comes : (result : Result ℕ TreeFault) (name : Name) (at : ℕ) (buffer : List ℕ) (old new : TreeState) (before after : HostState) → Reads result name at buffer old new before after → DamageComes result name at (length buffer) old before after
damage_comes (Ok n) name at buffer old new before after reads = tt
damage_comes (Err (faults.Damaged damage)) name at buffer old new before after reads = record { these = reads.these; answered = reads.answered; holds = reads.ends }
damage_comes (Err faults.Host) name at buffer old new before after reads = tt
damage_comes (Err faults.Memory) name at buffer old new before after reads = tt

some_plain : (o : Option HeldNode) → is_some o ≡ is_some (option_map (λ (n : HeldNode). n.plain.value) o)
some_plain (Some node) = refl
some_plain None = refl

-- a node is held where the map has it
pub tree_holds : (inside : Inside) (tree : TreeState) (k : ℕ) → state_of inside ≡ tree → is_some (get nat_cmp inside.nodes k) ≡ is_some (held_at tree k)
tree_holds inside tree k is =
    some_plain (get nat_cmp inside.nodes k) ∙ ap (λ (f : ℕ → Option (List ℕ)). is_some (f k)) (same_held inside.nodes) ∙ ap (λ (t : TreeState). is_some (held_at t k)) is
