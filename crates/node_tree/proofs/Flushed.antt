-- The sealing of a tree's changes, from its fields.
use Rattle.std.proofs.Common.{◌≡◌, ℕ, ◌^◌, ◌<◌, ◌≤◌, ◌==◌, List, [], ◌∷◌, length, refl, ap, ◌∙◌, sym, subst, arith, true, Option, Result, Ok, Err, OnOk, if◌then◌else◌}
use Rattle.std.specs.Prelude.{Contains}
use Rattle.std.specs.List.Sorted.{IsStrictlyIncreasing}
use Rattle.std.specs.Ordering.{nat_cmp}
use Rattle.std.specs.BTreeMap.{BTreeMap, IsOrdered}
use Rattle.pf_io.specs.Disk.{File, Disk}
use Rattle.pf_io.specs.Host.{Name, HostState, Both}
use Rattle.pf_io.specs.Moments.{Ran, Ends}
use Rattle.pf_io.proofs.Telling.{both_weaker}
use Rattle.node_layout.specs.Places.{node_count, parent_of}
use Rattle.node_tree.specs.Sheet.{Sheet, HasNode}
use Rattle.node_tree.specs.Opened.{At, IsAt, Entry}
use Rattle.node_tree.specs.Nodes.{plain_at, Keeps}
use Rattle.node_tree.specs.State.{TreeState, held_at, Held, AreBlocks, NO_ENTRY, MOST_DIRTY}
use Rattle.node_tree.specs.Inside.{state_of, IsWell}
use Rattle.node_tree.specs.Marks.{marked, marked_at}
use Rattle.node_tree.specs.Clearing.{AreCleared}
use Rattle.node_tree.specs.Sealing.{KeepsNodes, HasKey, ArePut, SealedFile, LeavesOutside, HasSealsOf, PutEnds}
use Rattle.node_tree.specs.Next.{SealsNext, IsSealedAs, KeepsShape, IsSettled}
use Rattle.node_tree.specs.declared.nodes.HeldNode.{HeldNode}
use Rattle.node_tree.specs.declared.tree.Tree.TheInside.{Inside}
use Rattle.node_tree.proofs.Ends.{same_held}
use Rattle.node_tree.proofs.Keyed.{place_in}
use Rattle.node_tree.proofs.Marking.{marked_iff, same_marked}
use Rattle.node_tree.proofs.Matching.{put_are_next}
use Rattle.node_tree.proofs.Order.{no_member, at_head}
use Rattle.node_tree.proofs.SealedAs.{sealed_as}
use Rattle.node_tree.proofs.Seals.{puts_weaker}

module _ (inside : Inside) (old : TreeState) (is : state_of inside ≡ old) (well : IsWell inside) (numbers : List ℕ) (numbers_are : numbers ≡ marked inside.nodes.entries) where
  dirty_of : (k : ℕ) → Contains numbers k → Contains (marked inside.nodes.entries) k
  dirty_of k there = subst (λ (l : List ℕ). Contains l k) numbers_are there

  of_dirty : (k : ℕ) → Contains (marked inside.nodes.entries) k → Contains numbers k
  of_dirty k there = subst (λ (l : List ℕ). Contains l k) (sym numbers_are) there

  pub numbers_is : numbers ≡ old.dirty
  numbers_is = numbers_are ∙ ap (λ (t : TreeState). t.dirty) is

  pub numbers_rise : IsStrictlyIncreasing numbers
  numbers_rise = subst (λ (l : List ℕ). IsStrictlyIncreasing l) (sym numbers_are) well.sound.rising

  pub numbers_low : (k : ℕ) → Contains numbers k → 1 ≤ k
  numbers_low k there = well.sound.low k (dirty_of k there)

  pub numbers_high : (k : ℕ) → Contains numbers k → k < 2 ^ 29
  numbers_high k there = let live = well.sound.live k (dirty_of k there) in let small = well.sound.small in omega arith

  pub numbers_held : (k : ℕ) → Contains numbers k → IsAt (Keeps inside.nodes) k
  numbers_held k there = subst (λ (f : ℕ → Option (List ℕ)). IsAt (At f) k) (sym (same_held inside.nodes)) (well.sound.dirty_held k (dirty_of k there))

  pub numbers_parents : (k : ℕ) → Contains numbers k → 2 ≤ k → Contains numbers (parent_of k)
  numbers_parents k there two = of_dirty (parent_of k) (well.sound.dirty_parents k (dirty_of k there) two)

  pub numbers_many : length numbers ≡ length old.dirty
  numbers_many = ap length numbers_is

  -- only bytes of nodes that are held, and the root, changed
  module _ (root : Entry) (e : BTreeMap ℕ HeldNode) (keeps : KeepsNodes inside.nodes e) where
    same_numbers : marked e.entries ≡ marked inside.nodes.entries
    same_numbers = same_marked inside.nodes e keeps.marks well.ordered

    held_then : (k : ℕ) → IsAt (Held (state_of inside)) k → IsAt (Held (state_of (record inside { root = root; nodes = e }))) k
    held_then k there = subst (λ (f : ℕ → Option (List ℕ)). IsAt (At f) k) (same_held e) (keeps.held k (subst (λ (f : ℕ → Option (List ℕ)). IsAt (At f) k) (sym (same_held inside.nodes)) there))

    pub well_put : IsWell (record inside { root = root; nodes = e })
    well_put =
        let sound = well.sound in
        let was : (k : ℕ) → Contains (marked e.entries) k → Contains (marked inside.nodes.entries) k = λ k there. subst (λ (l : List ℕ). Contains l k) same_numbers there in
        record {
          sound = record {
            small = sound.small;
            blocks = subst (λ (f : ℕ → Option (List ℕ)). AreBlocks (At f)) (same_held e) (keeps.blocks (subst (λ (f : ℕ → Option (List ℕ)). AreBlocks (At f)) (sym (same_held inside.nodes)) sound.blocks));
            rising = subst (λ (l : List ℕ). IsStrictlyIncreasing l) (sym same_numbers) sound.rising;
            low = λ k there. sound.low k (was k there);
            live = λ k there. sound.live k (was k there);
            dirty_held = λ k there. held_then k (sound.dirty_held k (was k there));
            dirty_parents = λ k there two. subst (λ (l : List ℕ). Contains l (parent_of k)) (sym same_numbers) (sound.dirty_parents k (was k there) two);
            few = subst (λ (l : List ℕ). length l ≤ MOST_DIRTY) (sym same_numbers) sound.few;
          };
          ordered = keeps.marks.ordered well.ordered;
        }

    pub shape : KeepsShape old (state_of (record inside { root = root; nodes = e }))
    shape = subst (λ (t : TreeState). KeepsShape t (state_of (record inside { root = root; nodes = e }))) is (record { size = refl; first = refl; base = refl; dirty = same_numbers; held = held_then })

    pub held_e : plain_at e ≡ held_at (state_of (record inside { root = root; nodes = e }))
    held_e = same_held e

    module _ (keys : List (List ℕ)) (cleared : BTreeMap ℕ HeldNode) (clear : AreCleared (node_count inside.size) numbers (plain_at inside.nodes) (plain_at cleared)) (first_length : length inside.first ≡ 3072) where
      module _ (put : ArePut numbers keys (plain_at cleared) (plain_at e) inside.root root) (sheet next : Sheet) (seals : SealsNext sheet (state_of inside) keys next) where
        clear_in : AreCleared (node_count inside.size) (marked inside.nodes.entries) (held_at (state_of inside)) (plain_at cleared)
        clear_in =
            subst (λ (l : List ℕ). AreCleared (node_count inside.size) l (held_at (state_of inside)) (plain_at cleared)) numbers_are
            (subst (λ (f : ℕ → Option (List ℕ)). AreCleared (node_count inside.size) numbers f (plain_at cleared)) (same_held inside.nodes) clear)

        put_in : ArePut (marked inside.nodes.entries) keys (plain_at cleared) (plain_at e) inside.root root
        put_in = subst (λ (l : List ℕ). ArePut l keys (plain_at cleared) (plain_at e) inside.root root) numbers_are put

        sealed_in : IsSealedAs next (state_of (record inside { root = root; nodes = e }))
        sealed_in =
            sealed_as sheet next (state_of inside) (state_of (record inside { root = root; nodes = e })) seals.path seals.nonce keys (plain_at cleared) (plain_at e) root seals.backs well.sound seals.linked clear_in seals.is_next put_in first_length
            (λ k. sym (ap (λ (f : ℕ → Option (List ℕ)). f k) (same_held e))) refl refl refl

        file_in : (f g : File) → SealedFile numbers keys (plain_at e) numbers f g → HasSealsOf next (marked inside.nodes.entries) f.bytes g.bytes
        file_in f g file = subst (λ (l : List ℕ). HasSealsOf next l f.bytes g.bytes) numbers_are (record {
          seals = λ k node among has.
              let dirty = dirty_of k among in
              let q = place_in (marked inside.nodes.entries) k dirty in
              let key = seals.is_next.new_keys q.0 node q.1 (subst (λ (j : ℕ). HasNode next j node) (sym q.2) has) in
              let same_place : HasKey numbers keys k node.key = subst (λ (l : List ℕ). HasKey l keys k node.key) (sym numbers_are) (record { place = q.0; within = q.1; number_is = q.2; key_is = sym key }) in
              file.reads.seals k node.key node.plain same_place
              (put_are_next sheet next (state_of inside) seals.path seals.nonce keys (plain_at cleared) (plain_at e) root seals.backs well.sound seals.linked clear_in seals.is_next put_in k node dirty has);
          longer = file.reads.longer;
          before = file.reads.before;
          gap = file.reads.gap;
          ends = file.reads.ends;
        })

      pub tree_sealed : ArePut numbers keys (plain_at cleared) (plain_at e) inside.root root → (sheet next : Sheet) → SealsNext sheet old keys next → IsSealedAs next (state_of (record inside { root = root; nodes = e }))
      tree_sealed put sheet next seals = sealed_in put sheet next (subst (λ (t : TreeState). SealsNext sheet t keys next) (sym is) seals)

      ends_in : {T E : Type 0} (r : Result T E) (name : Name) (d f : Disk) → OnOk r (ArePut numbers keys (plain_at cleared) (plain_at e) inside.root root) → (sheet next : Sheet) → SealsNext sheet (state_of inside) keys next → PutEnds r (SealedFile numbers keys (plain_at e) numbers) name d f
          → PutEnds r (λ a b. HasSealsOf next (marked inside.nodes.entries) a.bytes b.bytes) name d f
      ends_in (Ok value) name d f put sheet next seals ends = puts_weaker (SealedFile numbers keys (plain_at e) numbers) (λ a b. HasSealsOf next (marked inside.nodes.entries) a.bytes b.bytes) name d f (file_in put sheet next seals) ends
      ends_in (Err fault) name d f put sheet next seals ends = ends

      pub tree_seals : {T E : Type 0} (r : Result T E) (name : Name) (before after : HostState) → OnOk r (ArePut numbers keys (plain_at cleared) (plain_at e) inside.root root)
          → Both before.honest after.honest (Ran (LeavesOutside name numbers) (PutEnds r (SealedFile numbers keys (plain_at e) numbers) name)) → (sheet next : Sheet) → SealsNext sheet old keys next
          → Both before.honest after.honest (Ends (PutEnds r (λ a b. HasSealsOf next old.dirty a.bytes b.bytes) name))
      tree_seals r name before after put disk sheet next seals =
          subst (λ (l : List ℕ). Both before.honest after.honest (Ends (PutEnds r (λ a b. HasSealsOf next l a.bytes b.bytes) name))) (ap (λ (t : TreeState). t.dirty) is)
          (both_weaker (Ran (LeavesOutside name numbers) (PutEnds r (SealedFile numbers keys (plain_at e) numbers) name)) (Ends (PutEnds r (λ a b. HasSealsOf next (marked inside.nodes.entries) a.bytes b.bytes) name)) before.honest after.honest disk
          (λ a b run. ends_in r name a.now b.now put sheet next (subst (λ (t : TreeState). SealsNext sheet t keys next) (sym is) seals) run.ends))

  -- no node is dirty any more
  module _ (root : Entry) (base : ℕ) (e : BTreeMap ℕ HeldNode) (plains : (k : ℕ) → plain_at e k ≡ plain_at inside.nodes k) (marks : (k : ℕ) → marked_at e k ≡ true → (marked_at inside.nodes k ≡ true) × ¬ (Contains numbers k))
      (ordered : IsOrdered nat_cmp inside.nodes → IsOrdered nat_cmp e) (root_is : root ≡ (if node_count inside.size == 1 then NO_ENTRY else inside.root)) (base_is : base ≡ node_count inside.size) where
    none_of : (xs : List ℕ) → ((k : ℕ) → ¬ (Contains xs k)) → xs ≡ []
    none_of [] nowhere = refl
    none_of (x ∷ xs) nowhere = absurd (nowhere x (at_head x xs))

    none_dirty : marked e.entries ≡ []
    none_dirty = none_of (marked e.entries) (λ k there.
        let m = marks k ((marked_iff e (ordered well.ordered) k).0 there) in
        m.1 (of_dirty k ((marked_iff inside.nodes well.ordered k).1 m.0)))

    held_same : (k : ℕ) → held_at (state_of (record inside { root = root; base = base; nodes = e })) k ≡ held_at (state_of inside) k
    held_same k = sym (ap (λ (f : ℕ → Option (List ℕ)). f k) (same_held e)) ∙ plains k ∙ ap (λ (f : ℕ → Option (List ℕ)). f k) (same_held inside.nodes)

    no_dirty : (k : ℕ) → ¬ (Contains (marked e.entries) k)
    no_dirty k there = no_member k (subst (λ (l : List ℕ). Contains l k) none_dirty there)

    pub well_settled : IsWell (record inside { root = root; base = base; nodes = e })
    well_settled =
        let sound = well.sound in
        record {
          sound = record {
            small = sound.small;
            blocks = λ k plain there. sound.blocks k plain (sym (held_same k) ∙ there);
            rising = subst (λ (l : List ℕ). IsStrictlyIncreasing l) (sym none_dirty) (λ k lt. absurd (omega arith));
            low = λ k there. absurd (no_dirty k there);
            live = λ k there. absurd (no_dirty k there);
            dirty_held = λ k there. absurd (no_dirty k there);
            dirty_parents = λ k there two. absurd (no_dirty k there);
            few = subst (λ (l : List ℕ). length l ≤ MOST_DIRTY) (sym none_dirty) (omega arith);
          };
          ordered = ordered well.ordered;
        }

    pub settled_is : IsSettled old (state_of (record inside { root = root; base = base; nodes = e }))
    settled_is = subst (λ (t : TreeState). IsSettled t (state_of (record inside { root = root; base = base; nodes = e }))) is (record {
      size = refl;
      first = refl;
      root = root_is;
      base = base_is;
      held = held_same;
      dirty = none_dirty;
    })
