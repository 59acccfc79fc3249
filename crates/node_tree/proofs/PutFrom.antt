-- The nodes from a place on are put.
use Rattle.std.proofs.Common.{◌≡◌, ℕ, suc, ◌+◌, ◌-◌, ◌*◌, ◌<◌, ◌≤◌, List, [], ◌∷◌, ◌++◌, length, drop, drop-cons, get_or, refl, ap, ap₂, ◌∙◌, sym, subst, arith, Option, Some, Result, Ok, slice_index}
use Rattle.std.specs.Prelude.{Contains, slice_index_or}
use Rattle.std.specs.List.Sorted.{IsStrictlyIncreasing}
use Rattle.std.proofs.lemmas.List.{length-drop, get_or-drop}
use Rattle.std.proofs.lemmas.List.Kept.{AllPairs-from_increasing}
use Rattle.pf_io.specs.Counts.{HasCause, counted}
use Rattle.pf_io.specs.Disk.{Disk, Image, IsImage}
use Rattle.pf_io.specs.Host.{Name, Answer, Wrote, HostState, Both, IsMore, CountsWrite}
use Rattle.pf_io.specs.Moments.{Does, Ran}
use Rattle.pf_io.specs.Steps.{KeepsOthers, Changes, Writes}
use Rattle.pf_io.proofs.Images.{others_then}
use Rattle.pf_io.proofs.Runs.{started, goes_on}
use Rattle.pf_io.proofs.Telling.{told_on, told_none, both_weaker}
use Rattle.node_layout.specs.Places.{parent_of}
use Rattle.node_tree.specs.State.{plain_or}
use Rattle.node_tree.specs.Opened.{Entry, IsAt}
use Rattle.node_tree.specs.Sealing.{CountsPuts, CountsWrites, IsEntryPut, ArePut, SealedFile, LeavesOutside, PutsAll, PutsFront, entry_for, seal_for, writes_of}
use Rattle.pf_io.proofs.Slices.{times_then}
use Rattle.node_tree.proofs.Keyed.{any_default, in_list}
use Rattle.node_tree.proofs.Placed.{to_rest, put_none, put_more, behind}
use Rattle.node_tree.proofs.Seals.{OutsideFile, outside_none, outside_image, puts_none, puts_then, sealed_none, sealed_more, any_write}

-- the numbers from a place on are put, as far as the host told and an honest disk shows
pub record ArePutFrom (left : ℕ) (name numbers : List ℕ) (keys : List (List ℕ)) (held held_now : ℕ → Option (List ℕ)) (root root_now : Entry) (before after : HostState) : Type 0 where
  pub within : left ≤ length numbers
  pub still : after.faults ≡ before.faults
  pub counts : CountsPuts (length numbers - left) before after
  pub calls : CountsWrites (length numbers - left) before after
  pub put : ArePut (drop left numbers) (drop left keys) held held_now root root_now
  pub told : Both before.given after.given (IsMore (writes_of name held_now (drop left numbers) (drop left keys)))
  pub disk : Both before.honest after.honest (Ran (LeavesOutside name numbers) (PutsAll (SealedFile (drop left numbers) (drop left keys) held_now numbers) name))

-- what was held is held
pub held_still : (numbers : List ℕ) (keys : List (List ℕ)) (held held_now : ℕ → Option (List ℕ)) (root root_now : Entry) (k : ℕ) → ArePut numbers keys held held_now root root_now → IsAt (λ i p. held i ≡ Some p) k → IsAt (λ i p. held_now i ≡ Some p) k
held_still numbers keys held held_now root root_now k put there = let q = put.kept k there.0 there.1 in (q.after, q.there)

writes_same : (name : List ℕ) (f g : ℕ → Option (List ℕ)) (numbers : List ℕ) (keys : List (List ℕ)) → ((k : ℕ) → Contains numbers k → f k ≡ g k) → writes_of name f numbers keys ≡ writes_of name g numbers keys
writes_same name f g [] keys same = refl
writes_same name f g (k ∷ numbers) [] same = refl
writes_same name f g (k ∷ numbers) (key ∷ keys) same =
    ap₂ (λ (front : List Answer) (o : Option (List ℕ)). front ++ (Wrote name (4096 * k) (seal_for key (plain_or o [])) ∷ []))
    (writes_same name f g numbers keys (λ j further. same j (to_rest k numbers j further))) (same k (0, omega arith, refl))

-- later numbers are larger
pub later_larger : (numbers : List ℕ) (j k : ℕ) → IsStrictlyIncreasing numbers → j < length numbers → Contains (drop (suc j) numbers) k → slice_index numbers j < k
later_larger numbers j k rising lt (i, within, is) =
    let far : suc j + i < length numbers = omega (arith, length-drop (suc j) numbers) in
    let at : get_or numbers (suc j + i) 0 ≡ k = any_default numbers (suc j + i) 0 k far ∙ sym (get_or-drop (suc j) numbers i k) ∙ is in
    let below = AllPairs-from_increasing numbers rising j (suc j + i) 0 (omega arith) far in
    omega (arith, below, at)

drop_all : {X : Type 0} (n : ℕ) (xs : List X) → length xs ≤ n → drop n xs ≡ []
drop_all n xs le = nothing (drop n xs) (omega (arith, length-drop n xs)) where
  nothing : {X : Type 0} (ys : List X) → length ys ≡ 0 → ys ≡ []
  nothing [] none = refl
  nothing (y ∷ ys) none = absurd (omega arith)

-- before the first call an image is as the disk is
first_image : (name : Name) (dirty : List ℕ) (d : Disk) (image : Image) → IsImage d image → LeavesOutside name dirty d image
first_image name dirty d image is = outside_image name dirty d d image (puts_none (OutsideFile dirty) name d d (outside_none dirty) refl) is

-- none was put yet
pub put_from_none : (left : ℕ) (name numbers : List ℕ) (keys : List (List ℕ)) (held : ℕ → Option (List ℕ)) (root : Entry) (before : HostState) → left ≡ length numbers → length keys ≡ length numbers → ArePutFrom left name numbers keys held held root root before before
put_from_none left name numbers keys held root before is same =
    let none : drop left numbers ≡ [] = drop_all left numbers (omega arith) in
    let no_keys : drop left keys ≡ [] = drop_all left keys (omega arith) in
    record {
      within = omega arith;
      still = refl;
      counts = record { reads = refl; writes = omega arith; widest = omega arith };
      calls = subst (λ (n : ℕ). CountsWrites n before before) (let e : 0 ≡ length numbers - left = omega arith in e) (record { reads = refl; writes = refl; untouched = λ none. refl });
      put = subst (λ (l : List ℕ). ArePut l (drop left keys) held held root root) (sym none) (put_none held root (drop left keys));
      told = subst (λ (l : List ℕ). Both before.given before.given (IsMore (writes_of name held l (drop left keys)))) (sym none) (told_none before before refl);
      disk =
          subst (λ (l : List ℕ). Both before.honest before.honest (Ran (LeavesOutside name numbers) (PutsAll (SealedFile l (drop left keys) held numbers) name))) (sym none)
          (both_weaker (Ran (LeavesOutside name numbers) (λ old new. new ≡ old)) (Ran (LeavesOutside name numbers) (PutsAll (SealedFile [] (drop left keys) held numbers) name)) before.honest before.honest
          (started (LeavesOutside name numbers) before.honest (λ d image is. first_image name numbers d image is))
          (λ a b run. record { leaves = run.leaves; ends = puts_none (SealedFile [] (drop left keys) held numbers) name a.now b.now (sealed_none (drop left keys) held numbers) run.ends }));
    }

module _ (j : ℕ) (name numbers : List ℕ) (keys : List (List ℕ)) (held mid held_now : ℕ → Option (List ℕ)) (root root_mid root_now : Entry) (before between after : HostState) (lt : j < length numbers) (same : length keys ≡ length numbers) (rising : IsStrictlyIncreasing numbers)
    (low : 1 ≤ slice_index numbers j) (here : IsAt (λ i p. mid i ≡ Some p) (slice_index numbers j)) (known : 2 ≤ slice_index numbers j → IsAt (λ i p. mid i ≡ Some p) (parent_of (slice_index numbers j)))
    (so_far : ArePutFrom (suc j) name numbers keys held mid root root_mid before between) (counts : CountsWrite 4096 between after)
    (one : (plain : List ℕ) → mid (slice_index numbers j) ≡ Some plain → IsEntryPut (slice_index numbers j) (entry_for (slice_index_or keys j []) plain) mid held_now root_mid root_now)
    (whole : (plain : List ℕ) → mid (slice_index numbers j) ≡ Some plain → length (seal_for (slice_index_or keys j []) plain) ≡ 4096) where
  behind_it : (k : ℕ) → Contains (drop (suc j) numbers) k → slice_index numbers j < k
  behind_it k = later_larger numbers j k rising lt

  numbers_is : drop j numbers ≡ slice_index numbers j ∷ drop (suc j) numbers
  numbers_is = drop-cons numbers j 0 lt

  keys_is : drop j keys ≡ slice_index_or keys j [] ∷ drop (suc j) keys
  keys_is = drop-cons keys j [] (omega arith)

  put_now : ArePut (slice_index numbers j ∷ drop (suc j) numbers) (slice_index_or keys j [] ∷ drop (suc j) keys) held held_now root root_now
  put_now =
      put_more (slice_index numbers j) (drop (suc j) numbers) (slice_index_or keys j []) here.0 (drop (suc j) keys) held mid held_now root root_mid root_now low behind_it here.1 so_far.put (one here.0 here.1) known

  stay : (k : ℕ) → slice_index numbers j ≤ k → held_now k ≡ mid k
  stay = behind (slice_index numbers j) (drop (suc j) numbers) (slice_index_or keys j []) here.0 (drop (suc j) keys) held mid held_now root root_mid root_now low behind_it here.1 so_far.put (one here.0 here.1)

  counts_now : CountsPuts (length numbers - j) before after
  counts_now =
      let a = so_far.counts in
      record {
        reads = counts.reads ∙ a.reads;
        writes = let w = a.writes in let e = counts.writes in omega (arith, e);
        widest = let w = a.widest in let e = counts.widest in omega (arith, e);
      }

  calls_now : CountsWrites (length numbers - suc j + 1) before after
  calls_now =
      let a = so_far.calls in
      record {
        reads = counts.reads ∙ a.reads;
        writes = counts.writes ∙ ap counted a.writes ∙ times_then (length numbers - suc j) 1 before.writes;
        untouched = λ none. absurd (omega (arith, none));
      }

  pub put_one_more : (T E : Type 0) (value : T) → after.faults ≡ between.faults
      → ((plain : List ℕ) → mid (slice_index numbers j) ≡ Some plain → Both between.given after.given (IsMore (Wrote name (4096 * slice_index numbers j) (seal_for (slice_index_or keys j []) plain) ∷ [])))
      → ((plain : List ℕ) → mid (slice_index numbers j) ≡ Some plain → Both between.honest after.honest (Does (Changes name (Writes {T = T} {E = E} (4096 * slice_index numbers j) (seal_for (slice_index_or keys j []) plain) (Ok value)))))
      → ArePutFrom j name numbers keys held held_now root root_now before after
  put_one_more T E value still told does =
      let x = slice_index numbers j in
      let key = slice_index_or keys j [] in
      let these = writes_of name mid (drop (suc j) numbers) (drop (suc j) keys) in
      let those = Wrote name (4096 * x) (seal_for key here.0) ∷ [] in
      let all : these ++ those ≡ writes_of name held_now (x ∷ drop (suc j) numbers) (key ∷ drop (suc j) keys) =
      ap₂ (λ (front : List Answer) (o : Option (List ℕ)). front ++ (Wrote name (4096 * x) (seal_for key (plain_or o [])) ∷ []))
      (writes_same name mid held_now (drop (suc j) numbers) (drop (suc j) keys) (λ k further. let b = behind_it k further in sym (stay k (omega arith)))) (sym (stay x (omega arith) ∙ here.1)) in
      let P = LeavesOutside name numbers in
      let Q = PutsAll (SealedFile (drop (suc j) numbers) (drop (suc j) keys) mid numbers) name in
      let R = PutsAll (SealedFile (x ∷ drop (suc j) numbers) (key ∷ drop (suc j) keys) held_now numbers) name in
      let among = in_list numbers j lt in
      record {
        within = omega arith;
        still = still ∙ so_far.still;
        counts = counts_now;
        calls = subst (λ (n : ℕ). CountsWrites n before after) (let e : length numbers - suc j + 1 ≡ length numbers - j = omega arith in e) calls_now;
        put = subst (λ (l : List ℕ). ArePut l (drop j keys) held held_now root root_now) (sym numbers_is) (subst (λ (ks : List (List ℕ)). ArePut (x ∷ drop (suc j) numbers) ks held held_now root root_now) (sym keys_is) put_now);
        told = subst (λ (l : List Answer). Both before.given after.given (IsMore l)) (all ∙ ap₂ (writes_of name held_now) (sym numbers_is) (sym keys_is)) (told_on these those before between after so_far.told (told here.0 here.1));
        disk =
            subst (λ (l : List ℕ). Both before.honest after.honest (Ran P (PutsAll (SealedFile l (drop j keys) held_now numbers) name))) (sym numbers_is)
            (subst (λ (ks : List (List ℕ)). Both before.honest after.honest (Ran P (PutsAll (SealedFile (x ∷ drop (suc j) numbers) ks held_now numbers) name))) (sym keys_is)
            (goes_on P Q R (Changes name (Writes {T = T} {E = E} (4096 * x) (seal_for key here.0) (Ok value))) before.honest between.honest after.honest so_far.disk (does here.0 here.1)
            (λ d e f puts changes. (
              puts_then (SealedFile (drop (suc j) numbers) (drop (suc j) keys) mid numbers) (Writes {T = T} {E = E} (4096 * x) (seal_for key here.0) (Ok value)) (SealedFile (x ∷ drop (suc j) numbers) (key ∷ drop (suc j) keys) held_now numbers) name d e f
                  (λ a b c so writes. sealed_more x (drop (suc j) numbers) numbers key here.0 (drop (suc j) keys) mid held_now behind_it among stay here.1 (whole here.0 here.1) T E value a b c so writes) puts changes,
              λ image is. any_write x (drop (suc j) numbers) numbers key here.0 (drop (suc j) keys) mid held_now behind_it among stay here.1 (whole here.0 here.1) {T = T} {E = E} (Ok value) name d e f puts changes image is,
            ))));
      }

  -- the write failed
  pub put_stops_disk : {T E : Type 0} (r : Result T E) → ((plain : List ℕ) → mid (slice_index numbers j) ≡ Some plain → Both between.honest after.honest (Does (Changes name (Writes (4096 * slice_index numbers j) (seal_for (slice_index_or keys j []) plain) r))))
      → Both before.honest after.honest (Ran (LeavesOutside name numbers) (KeepsOthers name))
  put_stops_disk r does =
      let x = slice_index numbers j in
      let key = slice_index_or keys j [] in
      goes_on (LeavesOutside name numbers) (PutsAll (SealedFile (drop (suc j) numbers) (drop (suc j) keys) mid numbers) name) (KeepsOthers name) (Changes name (Writes (4096 * x) (seal_for key here.0) r)) before.honest between.honest after.honest so_far.disk (does here.0 here.1)
      (λ d e f puts changes. (
        others_then name d e f puts.others changes.others,
        λ image is. any_write x (drop (suc j) numbers) numbers key here.0 (drop (suc j) keys) mid held_now behind_it (in_list numbers j lt) stay here.1 (whole here.0 here.1) r name d e f puts changes image is,
      ))

  pub put_stops_told : after.given ≡ between.given → PutsFront name held_now numbers keys before after
  put_stops_told given = record {
    left = suc j;
    undone = omega arith;
    within = omega arith;
    calls = calls_now;
    told =
        subst (λ (g : Option (List Answer)). Both before.given g (IsMore (writes_of name held_now (drop (suc j) numbers) (drop (suc j) keys)))) (sym given)
        (subst (λ (l : List Answer). Both before.given between.given (IsMore l))
        (writes_same name mid held_now (drop (suc j) numbers) (drop (suc j) keys) (λ k further. let b = behind_it k further in sym (stay k (omega arith)))) so_far.told);
  }

  pub put_stops_counts : CountsPuts (length keys) before after
  put_stops_counts = let c = counts_now in record { reads = c.reads; writes = let w = c.writes in omega (arith, same); widest = c.widest }

pub put_stops_cause : {T E : Type 0} (r : Result T E) (before between after : HostState) → between.faults ≡ before.faults → HasCause between.faults after.faults r → HasCause before.faults after.faults r
put_stops_cause r before between after same cause = subst (λ (n : ℕ). HasCause n after.faults r) same cause

pub put_all_counts : (name numbers : List ℕ) (keys : List (List ℕ)) (held held_now : ℕ → Option (List ℕ)) (root root_now : Entry) (before after : HostState) (left : ℕ) → length keys ≡ length numbers → ArePutFrom left name numbers keys held held_now root root_now before after → CountsPuts (length keys) before after
put_all_counts name numbers keys held held_now root root_now before after left same put = let c = put.counts in record { reads = c.reads; writes = let w = c.writes in omega (arith, same); widest = c.widest }

-- all of them, one a key
pub put_all_calls : (name numbers : List ℕ) (keys : List (List ℕ)) (held held_now : ℕ → Option (List ℕ)) (root root_now : Entry) (before after : HostState) (left : ℕ) → left ≡ 0 → length keys ≡ length numbers → ArePutFrom left name numbers keys held held_now root root_now before after
    → CountsWrites (length keys) before after
put_all_calls name numbers keys held held_now root root_now before after left none same put = subst (λ (n : ℕ). CountsWrites n before after) (let e : length numbers - left ≡ length keys = omega (arith, none, same) in e) put.calls
