-- A step of a tree, from its fields.
use Rattle.std.proofs.Common.{◌≡◌, ◌⊎◌, ◌↔◌, inl, inr, ℕ, ◌+◌, ◌*◌, ◌<◌, ◌≤◌, max, List, [], length, take, drop, replicate, slice_index, refl, ap, ◌∙◌, sym, arith, subst, Option, Some, Result, Ok, Err, Bool, true, false}
use Rattle.std.specs.Prelude.{Contains}
use Rattle.std.specs.Option.{option_map}
use Rattle.std.specs.List.Sorted.{IsStrictlyIncreasing}
use Rattle.std.specs.Ordering.{nat_cmp}
use Rattle.std.specs.BTreeMap.{BTreeMap, IsOrdered, get}
use Rattle.std.proofs.lemmas.Bool.{cases_lt, false≢true}
use Rattle.std.proofs.lemmas.Option.{none-some, same_Some}
use Rattle.std.proofs.lemmas.List.{append-nil, length-replicate, take_all}
use Rattle.std.proofs.lemmas.List.Elements.{Contains-get_or}
use Rattle.pf_io.specs.Host.{Name, HostState}
use Rattle.node_layout.specs.Metadata.{MOST_SIZE}
use Rattle.node_layout.specs.Places.{data_place, data_count, node_count, parent_of}
use Rattle.node_layout.proofs.Numbers.{parent_before}
use Rattle.node_tree.specs.Touched.{IsTouched, AreTouched, Meets}
use Rattle.node_tree.specs.Opened.{At, IsAt, Given}
use Rattle.node_tree.specs.Nodes.{plain_at, Keeps}
use Rattle.node_tree.specs.State.{TreeState, held_at, Held, AreBlocks, MOST_DIRTY}
use Rattle.node_tree.specs.Inside.{state_of, IsWell}
use Rattle.node_tree.specs.Marks.{marked, marked_at, is_marked, KeepsMarks, AreChanged, MayChange}
use Rattle.node_tree.specs.Fetching.{Fetches, CountsReads, missing_of}
use Rattle.node_tree.specs.Reading.{KeepsFields}
use Rattle.node_tree.specs.Putting.{IsPutFirst, IsPut, IsPutting}
use Rattle.node_tree.specs.Zeroing.{IsZeroed, IsCountBelow, MayZero, IsCutAt}
use Rattle.node_tree.specs.Applying.{Step, to_of, Touches}
use Rattle.node_tree.specs.Stepping.{Stepped, StepEnds, Steps, StepsFew, AreLiveTouched}
use Rattle.node_tree.specs.declared.fault.TreeFault.{TreeFault}
use Rattle.node_tree.specs.declared.fault.TreeFault.TheVariants as faults
use Rattle.node_tree.specs.declared.nodes.HeldNode.{HeldNode}
use Rattle.node_tree.specs.declared.tree.Tree.TheInside.{Inside}
use Rattle.node_tree.proofs.Asked.{all_open}
use Rattle.node_tree.proofs.Order.{stands_before, same_rising}
use Rattle.node_tree.proofs.Rooted.{parent_touched}
use Rattle.node_tree.proofs.Marking.{marked_iff, marked_rises, same_marked}
use Rattle.node_tree.proofs.Fronts.{rising_front, in_front, of_front, contains_front, in_back, of_back, fewer_rising}
use Rattle.node_tree.proofs.Ends.{same_held}
use Rattle.node_tree.proofs.OfTree.{kept_fields, well_then}
use Rattle.node_tree.proofs.Putted.{putted}

not_true : (b : Bool) → (b ≡ true → ⊥) → b ≡ false
not_true true never = absurd (never refl)
not_true false never = refl

module _ (name : Name) (at : ℕ) (from : List ℕ) (inside : Inside) (old : TreeState) (is : state_of inside ≡ old) (before after : HostState) (well : IsWell inside) (numbers : List ℕ) (touched : AreTouched at (at + length from) numbers)
    (n : ℕ) (below : IsCountBelow numbers (node_count inside.size) n) (fetched : BTreeMap ℕ HeldNode) (marks : KeepsMarks inside.nodes fetched) where
  states : {T : Type 0} (r : Result T TreeFault) → Fetches r name (take n numbers) (plain_at inside.nodes) (plain_at fetched) inside.root before after
      → Fetches r name (take n numbers) (held_at (state_of inside)) (held_at (state_of (record inside { nodes = fetched }))) inside.root before after
  states r fetches =
      subst (λ (f : ℕ → Option (List ℕ)). Fetches r name (take n numbers) f (held_at (state_of (record inside { nodes = fetched }))) inside.root before after) (same_held inside.nodes)
      (subst (λ (f : ℕ → Option (List ℕ)). Fetches r name (take n numbers) (plain_at inside.nodes) f inside.root before after) (same_held fetched) fetches)

  rest : KeepsFields (state_of inside) (state_of (record inside { nodes = fetched }))
  rest = kept_fields inside fetched well marks

  -- a node that comes is not marked
  pub none_marked : (k : ℕ) → Contains (drop n numbers) k → marked_at fetched k ≡ false
  none_marked k there =
      not_true (marked_at fetched k) (λ on.
      let live = well.sound.live k ((marked_iff inside.nodes well.ordered k).1 (sym (marks.same k) ∙ on)) in
      let ge = (of_back at (at + length from) inside.size numbers touched n below k there).1 in
      omega (arith, live, ge))

  module _ (step : Step) (size : ℕ) (putting : IsPutting step inside.size at from size) where
    on_range : (k : ℕ) → IsTouched at (at + length from) k → Touches step inside.size k
    on_range k on = subst (λ (a : ℕ). IsTouched a (to_of step inside.size) k) (sym putting.from_is) (subst (λ (b : ℕ). IsTouched at b k) (sym putting.to_is) on)

    off_range : (k : ℕ) → Touches step inside.size k → IsTouched at (at + length from) k
    off_range k on = subst (λ (b : ℕ). IsTouched at b k) putting.to_is (subst (λ (a : ℕ). IsTouched a (to_of step inside.size) k) putting.from_is on)

    live_numbers : AreLiveTouched step inside.size (take n numbers)
    live_numbers = record {
      rising = rising_front n numbers touched.rising;
      exactly = λ k. (
        λ there. let f = of_front at (at + length from) inside.size numbers touched n below k there in (on_range k f.0, f.1),
        λ both. contains_front at (at + length from) inside.size numbers touched n below k (off_range k both.0) both.1,
      );
    }

    pub step_few : CountsReads (length (missing_of (plain_at inside.nodes) (take n numbers))) before after → StepsFew step old before after
    step_few few =
        subst (λ (t : TreeState). StepsFew step t before after) is
        (λ others live.
        let same = same_rising (take n numbers) others live_numbers.rising live.rising (λ k there. (live.exactly k).1 ((live_numbers.exactly k).0 there)) (λ k there. (live_numbers.exactly k).1 ((live.exactly k).0 there)) in
        subst (λ (f : ℕ → Option (List ℕ)). CountsReads (length (missing_of f others)) before after) (same_held inside.nodes)
        (subst (λ (l : List ℕ). CountsReads (length (missing_of (plain_at inside.nodes) l)) before after) same few))

    -- the step stops where the fetching does
    stops : (fault : TreeFault) (fetches : Fetches {T = Unit {0}} (Err fault) name (take n numbers) (held_at (state_of inside)) (held_at (state_of (record inside { nodes = fetched }))) inside.root before after)
        → StepEnds (Err fault) step (Given name fetches.these) (state_of inside) (state_of (record inside { nodes = fetched })) (state_of (record inside { nodes = fetched }))
    stops (faults.Damaged damage) fetches =
        let ends = fetches.ends in
        let here = of_front at (at + length from) inside.size numbers touched n below (slice_index (take n numbers) ends.i) (Contains-get_or (take n numbers) ends.i 0 ends.within) in (
          record {
            touched = subst (λ (k : ℕ). Touches step inside.size k) (sym ends.node_is) (on_range (slice_index (take n numbers) ends.i) here.0);
            live = subst (λ (k : ℕ). k < node_count inside.size) (sym ends.node_is) here.1;
            before = λ k on lt.
                let place = in_front at (at + length from) inside.size numbers touched n below k (off_range k on) (let l = here.1 in omega (arith, l, ends.node_is)) in
                let sooner = stands_before (take n numbers) place.0 ends.i (rising_front n numbers touched.rising) place.1 ends.within (omega (arith, place.2, ends.node_is)) in
                let there = subst (λ (j : ℕ). IsAt (Held (state_of (record inside { nodes = fetched }))) j) place.2 (ends.before place.0 sooner) in
                (there.0, fetches.fetched.came k there.0 there.1);
            fails = ends.fails;
          },
          refl,
        )
    stops faults.Host fetches = (fetches.ends, refl)
    stops faults.Memory fetches = (fetches.ends, record { rest = refl; same = λ k either. refl })

    pub step_fails : (r : Result (Unit {0}) TreeFault) (fault : TreeFault) → r ≡ Err fault → Fetches {T = Unit {0}} (Err fault) name (take n numbers) (plain_at inside.nodes) (plain_at fetched) inside.root before after
        → Steps r name step old (state_of (record inside { nodes = fetched })) before after
    step_fails r fault fails fetches =
        let f = states (Err fault) fetches in
        subst (λ (t : TreeState). Steps r name step t (state_of (record inside { nodes = fetched })) before after) is
        (subst (λ (x : Result (Unit {0}) TreeFault). Steps x name step (state_of inside) (state_of (record inside { nodes = fetched })) before after) (sym fails)
        (record { these = f.these; answered = f.answered; counted = f.counted; mid = state_of (record inside { nodes = fetched }); rest = rest; fetched = f.fetched; numbers = take n numbers; touched = live_numbers; asked = f.asked; ends = stops fault f }))

  module _ {T : Type 0} (value : T) (fetches : Fetches (Ok value) name (take n numbers) (plain_at inside.nodes) (plain_at fetched) inside.root before after) where
    well_fetched : IsWell (record inside { nodes = fetched })
    well_fetched = well_then (Ok value) name (take n numbers) inside fetched before after well marks fetches

    live_held : (k : ℕ) → IsTouched at (at + length from) k → k < node_count inside.size → IsAt (Keeps fetched) k
    live_held k on live = let p = in_front at (at + length from) inside.size numbers touched n below k on live in subst (λ (j : ℕ). IsAt (Keeps fetched) j) p.2 (fetches.ends p.0 p.1)

    module _ (zeros : BTreeMap ℕ HeldNode) (may : MayZero (drop n numbers) (plain_at fetched) (plain_at zeros)) (marks' : KeepsMarks fetched zeros) where
      -- a live node is as it was
      zeros_live : (k : ℕ) → (k < node_count inside.size) ⊎ Contains (marked inside.nodes.entries) k → plain_at zeros k ≡ plain_at fetched k
      zeros_live k either =
          may.others k (λ there.
          let ge = (of_back at (at + length from) inside.size numbers touched n below k there).1 in
          let lt : k < node_count inside.size = elim either [ inl live ↦ live | inr dirty ↦ well.sound.live k dirty ] in
          omega (arith, lt, ge))

      zeros_blocks : AreBlocks (Keeps zeros)
      zeros_blocks k plain there =
          elim (may.either k) [
            | inl still ↦ subst (λ (f : ℕ → Option (List ℕ)). AreBlocks (At f)) (sym (same_held fetched)) well_fetched.sound.blocks k plain (sym still ∙ there)
            | inr zero ↦ ap length (sym (same_Some (replicate 4096 0) plain (sym zero ∙ there))) ∙ length-replicate {A = ℕ} 4096 0
          ]

      same_numbers : marked zeros.entries ≡ marked fetched.entries
      same_numbers = same_marked fetched zeros marks' well_fetched.ordered

      held_zeros : (k : ℕ) → plain_at zeros k ≡ plain_at fetched k → held_at (state_of (record inside { nodes = zeros })) k ≡ held_at (state_of (record inside { nodes = fetched })) k
      held_zeros k same = sym (ap (λ (f : ℕ → Option (List ℕ)). f k) (same_held zeros)) ∙ same ∙ ap (λ (f : ℕ → Option (List ℕ)). f k) (same_held fetched)

      -- the numbers that are dirty are those of the start
      was_dirty : (k : ℕ) → Contains (marked fetched.entries) k → Contains (marked inside.nodes.entries) k
      was_dirty k there = subst (λ (l : List ℕ). Contains l k) (same_marked inside.nodes fetched marks well.ordered) there

      pub well_zeroed : IsWell (record inside { nodes = zeros })
      well_zeroed =
          let sound = well_fetched.sound in
          let was : (k : ℕ) → Contains (marked zeros.entries) k → Contains (marked fetched.entries) k = λ k there. subst (λ (l : List ℕ). Contains l k) same_numbers there in
          record {
            sound = record {
              small = sound.small;
              blocks = subst (λ (f : ℕ → Option (List ℕ)). AreBlocks (At f)) (same_held zeros) zeros_blocks;
              rising = subst (λ (l : List ℕ). IsStrictlyIncreasing l) (sym same_numbers) sound.rising;
              low = λ k there. sound.low k (was k there);
              live = λ k there. sound.live k (was k there);
              dirty_held = λ k there. let h = sound.dirty_held k (was k there) in (h.0, held_zeros k (zeros_live k (inr (was_dirty k (was k there)))) ∙ h.1);
              dirty_parents = λ k there two. subst (λ (l : List ℕ). Contains l (parent_of k)) (sym same_numbers) (sound.dirty_parents k (was k there) two);
              few = subst (λ (l : List ℕ). length l ≤ MOST_DIRTY) (sym same_numbers) sound.few;
            };
            ordered = marks'.ordered well_fetched.ordered;
          }

      -- memory was wanted after the fetching
      pub step_starves : (step : Step) (size : ℕ) (putting : IsPutting step inside.size at from size) (r : Result (Unit {0}) TreeFault) (fault : TreeFault) → r ≡ Err fault → fault ≡ faults.Memory
          → Steps r name step old (state_of (record inside { nodes = zeros })) before after
      step_starves step size putting r fault fails memory =
          let f = states (Ok value) fetches in
          let missing = missing_of (held_at (state_of inside)) (take n numbers) in
          subst (λ (t : TreeState). Steps r name step t (state_of (record inside { nodes = zeros })) before after) is
          (subst (λ (x : Result (Unit {0}) TreeFault). Steps x name step (state_of inside) (state_of (record inside { nodes = zeros })) before after) (sym (fails ∙ ap (λ (x : TreeFault). let e : Result (Unit {0}) TreeFault = Err x in e) memory))
          (record {
            these = f.these;
            answered = f.answered;
            counted = f.counted;
            mid = state_of (record inside { nodes = fetched });
            rest = rest;
            fetched = f.fetched;
            numbers = take n numbers;
            touched = live_numbers step size putting;
            asked = record { done = missing; left = []; split = sym (append-nil missing); asks = f.asked };
            ends = (
              all_open value name (take n numbers) (held_at (state_of inside)) (held_at (state_of (record inside { nodes = fetched }))) inside.root before after f,
              record {
                rest = kept_fields (record inside { nodes = fetched }) zeros well_fetched marks';
                same = λ k either. held_zeros k (zeros_live k (elim either [ inl live ↦ inl live | inr dirty ↦ inr (was_dirty k dirty) ]));
              },
            );
          }))

      module _ (zeroed : IsZeroed (length (drop n numbers)) (drop n numbers) (plain_at fetched) (plain_at zeros)) where
        all_back : take (length (drop n numbers)) (drop n numbers) ≡ drop n numbers
        all_back = take_all (length (drop n numbers)) (drop n numbers) (omega arith)

        new_zeroed : (k : ℕ) → IsTouched at (at + length from) k → node_count inside.size ≤ k → plain_at zeros k ≡ Some (replicate 4096 0)
        new_zeroed k on new = zeroed.zeros k (subst (λ (l : List ℕ). Contains l k) (sym all_back) (in_back at (at + length from) inside.size numbers touched n below k on new))

        others_kept : (k : ℕ) → (IsTouched at (at + length from) k → k < node_count inside.size) → plain_at zeros k ≡ plain_at fetched k
        others_kept k live = zeroed.others k (λ there.
            let b = of_back at (at + length from) inside.size numbers touched n below k (subst (λ (l : List ℕ). Contains l k) all_back there) in
            let lt = live b.0 in let ge = b.1 in omega (arith, lt, ge))

        -- each touched node is held before marks are set
        touched_zeros : (k : ℕ) → IsTouched at (at + length from) k → IsAt (Keeps zeros) k
        touched_zeros k on =
            elim (cases_lt k (node_count inside.size)) [
              | inl live ↦ let h = live_held k on live in (h.0, others_kept k (λ _. live) ∙ h.1)
              | inr new ↦ (replicate 4096 0, new_zeroed k on new)
            ]

        pub numbers_held : (k : ℕ) → Contains numbers k → IsAt (Keeps zeros) k
        numbers_held k there = touched_zeros k ((touched.exactly k).0 there)

        module _ (m : BTreeMap ℕ HeldNode) (plains : (k : ℕ) → plain_at m k ≡ plain_at zeros k) (marked_then : (k : ℕ) → (marked_at m k ≡ true) ↔ ((marked_at zeros k ≡ true) ⊎ Contains numbers k))
            (ordered_then : IsOrdered nat_cmp zeros → IsOrdered nat_cmp m) where
          -- each met data node is held before bytes are put
          pub met_held : (d : ℕ) → Meets at (at + length from) d → IsAt (Keeps m) (data_place d)
          met_held d meets = let h = touched_zeros (data_place d) (d, meets, inl refl) in (h.0, plains (data_place d) ∙ h.1)

          ordered_m : IsOrdered nat_cmp m
          ordered_m = ordered_then (marks'.ordered well_fetched.ordered)

          marked_m : (k : ℕ) → (marked_at m k ≡ true) ↔ (Contains (marked inside.nodes.entries) k ⊎ IsTouched at (at + length from) k)
          marked_m k = (
            λ on. elim ((marked_then k).0 on) [
              | inl was ↦ inl ((marked_iff inside.nodes well.ordered k).1 (sym (marks.same k) ∙ sym (marks'.same k) ∙ was))
              | inr there ↦ inr ((touched.exactly k).0 there)
            ],
            λ either. (marked_then k).1 (elim either [
              | inl was ↦ inl (marks'.same k ∙ marks.same k ∙ (marked_iff inside.nodes well.ordered k).0 was)
              | inr on ↦ inr ((touched.exactly k).1 on)
            ]),
          )

          -- the marked nodes are those that may change
          changed_m : AreChanged (marked inside.nodes.entries) at (at + length from) (marked m.entries)
          changed_m = record {
            rising = marked_rises m ordered_m;
            exactly = λ k. (λ there. (marked_m k).0 ((marked_iff m ordered_m k).0 there), λ either. (marked_iff m ordered_m k).1 ((marked_m k).1 either));
          }

          module _ (size : ℕ) (first : List ℕ) (q e : BTreeMap ℕ HeldNode) (no_gap : at ≤ inside.size) (within : at ≤ size) (grows : size ≤ max inside.size (at + length from)) (lives : at + length from ≤ max size (3072 + 4096 * data_count size))
              (first_put : IsPutFirst at from inside.first first) (put : IsPut at from (at + length from) (plain_at m) (plain_at q)) (put_marks : KeepsMarks m q) (put_blocks : AreBlocks (Keeps m) → AreBlocks (Keeps q))
              (cut : IsCutAt (node_count size) (get nat_cmp q) (get nat_cmp e)) (cut_ordered : IsOrdered nat_cmp q → IsOrdered nat_cmp e) where
            ordered_e : IsOrdered nat_cmp e
            ordered_e = cut_ordered (put_marks.ordered ordered_m)

            plain_cut : IsCutAt (node_count size) (plain_at q) (plain_at e)
            plain_cut = record {
              below = λ k lt. ap (λ (o : Option HeldNode). option_map (λ node. node.plain.value) o) (cut.below k lt);
              gone = λ k ge. ap (λ (o : Option HeldNode). option_map (λ node. node.plain.value) o) (cut.gone k ge);
            }

            dirty_after : (k : ℕ) → Contains (marked e.entries) k ↔ ((Contains (marked inside.nodes.entries) k ⊎ IsTouched at (at + length from) k) × (k < node_count size))
            dirty_after k = (
              λ there.
                  let on = (marked_iff e ordered_e k).0 there in
                  elim (cases_lt k (node_count size)) [
                    | inl lt ↦ ((marked_m k).0 (sym (put_marks.same k) ∙ sym (ap is_marked (cut.below k lt)) ∙ on), lt)
                    | inr ge ↦ absurd (false≢true (sym (ap is_marked (cut.gone k ge)) ∙ on))
                  ],
              λ both. (marked_iff e ordered_e k).1 (ap is_marked (cut.below k both.1) ∙ put_marks.same k ∙ (marked_m k).1 both.0),
            )

            few_after : MayChange (marked inside.nodes.entries) at (at + length from) → length (marked e.entries) ≤ MOST_DIRTY
            few_after fits =
                let le = fewer_rising (marked e.entries) (marked m.entries) (marked_rises e ordered_e) (marked_rises m ordered_m) (λ k there. (changed_m.exactly k).1 ((dirty_after k).0 there).0) in
                let most = fits (marked m.entries) changed_m in
                omega (arith, le, most)

            stepped : (step : Step) → IsPutting step inside.size at from size → Stepped step (state_of (record inside { nodes = fetched })) (state_of (record inside { size = size; first = first; nodes = e }))
            stepped step putting =
                putted step at from size (state_of (record inside { nodes = fetched })) (state_of (record inside { size = size; first = first; nodes = e })) putting refl no_gap within grows lives
                (λ k on live. subst (λ (f : ℕ → Option (List ℕ)). IsAt (At f) k) (same_held fetched) (live_held k on live))
                (plain_at m) (λ k on new. plains k ∙ new_zeroed k on new) (λ k live. plains k ∙ others_kept k live ∙ ap (λ (f : ℕ → Option (List ℕ)). f k) (same_held fetched))
                first_put (plain_at q) put (subst (λ (f : ℕ → Option (List ℕ)). IsCutAt (node_count size) (plain_at q) f) (same_held e) plain_cut) refl refl (marked_rises e ordered_e)
                (λ k. (
                  λ there. let d = (dirty_after k).0 there in (elim d.0 [ inl was ↦ inl (now_dirty k was) | inr on ↦ inr on ], d.1),
                  λ both. (dirty_after k).1 (elim both.0 [ inl was ↦ inl (was_dirty k was) | inr on ↦ inr on ], both.1),
                ))
                well_fetched.sound.low
              where
                now_dirty : (k : ℕ) → Contains (marked inside.nodes.entries) k → Contains (marked fetched.entries) k
                now_dirty k there = subst (λ (l : List ℕ). Contains l k) (sym (same_marked inside.nodes fetched marks well.ordered)) there

            blocks_after : AreBlocks (Keeps e)
            blocks_after k plain there =
                let q_blocks = put_blocks (λ j p on. zeros_blocks j p (sym (plains j) ∙ on)) in
                elim (cases_lt k (node_count size)) [
                  | inl lt ↦ q_blocks k plain (sym (plain_cut.below k lt) ∙ there)
                  | inr ge ↦ absurd (none-some plain (sym (plain_cut.gone k ge) ∙ there))
                ]

            pub well_after : (step : Step) → IsPutting step inside.size at from size → size ≤ MOST_SIZE → MayChange (marked inside.nodes.entries) at (at + length from) → IsWell (record inside { size = size; first = first; nodes = e })
            well_after step putting small fits =
                let s = stepped step putting in
                record {
                  sound = record {
                    small = small;
                    blocks = subst (λ (f : ℕ → Option (List ℕ)). AreBlocks (At f)) (same_held e) blocks_after;
                    rising = s.rising;
                    low = s.low;
                    live = λ k there. ((s.dirty k).0 there).1;
                    dirty_held = λ k there. let d = (s.dirty k).0 there in elim d.0 [
                      | inl was ↦ s.still k (s.low k there) d.1 (well_fetched.sound.dirty_held k was)
                      | inr on ↦ s.touched k on d.1
                    ];
                    dirty_parents = λ k there two.
                        let d = (dirty_after k).0 there in
                        let low = (parent_before k two).1 in
                        let live = d.1 in
                        (dirty_after (parent_of k)).1 (
                          elim d.0 [
                            | inl was ↦ inl (well.sound.dirty_parents k was two)
                            | inr on ↦ elim (parent_touched at (at + length from) k on) [ inl one ↦ absurd (omega arith) | inr above ↦ inr above.1 ]
                          ],
                          omega arith,
                        );
                    few = few_after fits;
                  };
                  ordered = ordered_e;
                }

            pub step_ends : (step : Step) → IsPutting step inside.size at from size → Steps (Ok tt) name step old (state_of (record inside { size = size; first = first; nodes = e })) before after
            step_ends step putting =
                let f = states (Ok value) fetches in
                subst (λ (t : TreeState). Steps (Ok tt) name step t (state_of (record inside { size = size; first = first; nodes = e })) before after) is
                (record {
                  these = f.these;
                  answered = f.answered;
                  counted = f.counted;
                  mid = state_of (record inside { nodes = fetched });
                  rest = rest;
                  fetched = f.fetched;
                  numbers = take n numbers;
                  touched = live_numbers step size putting;
                  asked = f.asked;
                  ends = stepped step putting;
                })
