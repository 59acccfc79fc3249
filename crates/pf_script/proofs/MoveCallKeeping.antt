-- What a move of a session keeps of a book, from its contract.
use Rattle.std.proofs.Common.{◌≡◌, ◌≢◌, ◌⊎◌, inl, inr, Bool, true, false, List, [], ◌∷◌, ℕ, refl, sym, ◌∙◌, ap, subst, Option, Some, None, Result, Ok, Err}
use Rattle.pf_io.specs.Disk.{Name, File, Disk, IsImage, reading, read_of}
use Rattle.pf_io.specs.Names.{IsTarget, recovery_of}
use Rattle.pf_io.specs.Moments.{Honest, Ran, Where}
use Rattle.pf_io.specs.Host.{HostState, OnDisk, ReadsAsImage}
use Rattle.pf_io.specs.Words.{WordsState}
use Rattle.node_tree.specs.Sheet.{Sheet}
use Rattle.pf_session.specs.Aside.{Apart, LeavesApart, KeepsApart, LeavesApartBoth, KeepsApartBoth, AsideBoth}
use Rattle.pf_session.specs.Moving.{MoveGoes, misnamed, no_memory, look_up_failed, was_there, no_words, not_flushed, not_moved, moved, IsFree, FlushesFirst, as_it_is, flushed, MovesOn as MovesAs, Moves, IsKeptOn, renamed, MovedAs, MovedIf}
use Rattle.pf_session.specs.Reopening.{Stood}
use Rattle.pf_session.specs.State.{SessionState}
use Rattle.pf_session.specs.declared.fault.MoveFault.{MoveFault}
use Rattle.pf_script.specs.Book.{Entry}
use Rattle.pf_script.specs.BookActs.{Flush, flushed as flushed_book}
use Rattle.pf_script.specs.BookDebts.{Unchanged, Owes, seat_of}
use Rattle.pf_script.specs.BookSeats.{IsOfScript, Covers, Kept, KeepsUnder}
use Rattle.pf_script.proofs.ActKeeping.{no_sheet, one_act, one_spares, idle_keeps, unchanged_now}
use Rattle.pf_script.proofs.CallKeeping.{both_with, at_both, on_to, read_image, idle_reads, idle_same, seal_ended, ended_keeps, was_sealed}
use Rattle.pf_script.proofs.During.{leaves_more}
use Rattle.pf_script.proofs.MoveKeeping.{MovesOn, MovesOnce, moved_keeps}
use Rattle.pf_script.proofs.NameMaps.{name_or}
use Rattle.pf_script.proofs.Ruling.{never}
use Rattle.pf_script.proofs.Seats.{seats_after}
use Rattle.pf_script.proofs.StepKeeping.{keeps_next, keeps_more, after_reads}

-- a move of a session of which nothing is to be sealed, to another name
module _ (done : Bool) (to : Name) (nonce : List ℕ) (old new : SessionState) (before after : HostState) (a b : Honest) (is : before.honest ≡ Some a) (is2 : after.honest ≡ Some b) (apart : old.name ≢ to) (moves : Moves done to nonce old before after)
    (is_new : done ≡ true → new ≡ renamed to nonce old) where
  new_absent : a.now to ≡ None
  new_absent = at_both (λ x y. x.now to ≡ None) before.honest after.honest a b is is2 (moves.absent apart)

  moves_on : (base : Sheet) → MovesAs done to nonce base old before after → MovesOn done old new to base a b
  moves_on base on = record {
    next = on.next;
    moves = record {
      path_is = on.is_next.path_is;
      content_is = on.same_content;
      sealed = λ stood.
          at_both (Where (λ disk. Stood old.key old.name base disk × (disk to ≡ None)) (Ran (λ disk. MovedAs old.key old.name base to on.next) (MovedIf done old.key old.name to on.next))) before.honest after.honest a b is is2 on.moved
          (stood, new_absent);
    };
    on_next = λ is_done. subst (λ (s : SessionState). IsKeptOn on.next s) (sym (is_new is_done)) (record { backed = on.on_next.stands.backed; rests = λ _. on.on_next });
  }

  moves_once : IsImage b.now (reading b.now) → old.broken ≡ false → old.changed ≡ false → new.key ≡ old.key → (done ≡ false → new.broken ≡ true) → MovesOnce done old new to a b
  moves_once reads whole calm key_is fails =
      let ran = at_both (Ran (LeavesApartBoth old.name to) (KeepsApartBoth old.name to)) before.honest after.honest a b is is2 moves.carries.aside in
      record {
        others = record {
          leaves = leaves_more ran.leaves (λ image leaves other far. leaves other (record { of_old = far.1; of_new = far.0 }));
          ends = λ other far. ran.ends other (record { of_old = far.1; of_new = far.0 });
        };
        reads = reads;
        absent = new_absent;
        whole = whole;
        calm = calm;
        key_is = key_is;
        name_is = λ is_done. ap (λ (s : SessionState). s.name) (is_new is_done);
        fails = fails;
        moved = λ base linked rests. moves_on base (moves.carries.each base linked rests);
      }

module _ (old : SessionState) (mine : IsOfScript old) (whole : old.broken ≡ false) (to : Name) where
  -- the names of a move
  abbrev concerned : Name → Type 0
  concerned name = (name ≡ to) ⊎ (name ≡ old.name)

  -- what comes before the move itself
  record FirstKeeps (mid : SessionState) (between : HostState) (a : Honest) : Type 0 where
    key_is : mid.key ≡ old.key
    name_is : mid.name ≡ old.name
    whole_too : mid.broken ≡ false
    calm : mid.changed ≡ false
    at : Honest
    told : between.honest ≡ Some at
    reads : IsImage a.now (reading a.now) → IsImage at.now (reading at.now)
    keeps : KeepsUnder (Covers old) (Covers mid) concerned a at

  first_keeps : (mid : SessionState) (nonce : List ℕ) (before between : HostState) (random random' : WordsState) (a : Honest) → before.honest ≡ Some a → FlushesFirst old mid nonce before between random random' → FirstKeeps mid between a
  first_keeps mid nonce before between random random' a is (as_it_is calm same stays drawn) = record {
    key_is = ap (λ (s : SessionState). s.key) same;
    name_is = ap (λ (s : SessionState). s.name) same;
    whole_too = ap (λ (s : SessionState). s.broken) same ∙ whole;
    calm = ap (λ (s : SessionState). s.changed) same ∙ calm;
    at = a;
    told = ap (λ (s : HostState). s.honest) stays ∙ is;
    reads = λ reads. reads;
    keeps = idle_keeps old mid a a concerned (idle_reads old mine mid a a whole same (unchanged_now a));
  }
  first_keeps mid nonce before between random random' a is (flushed sealed keys words is_changed came drawn goes aside reads) =
      let m = on_to (Ran (LeavesApart old.name) (KeepsApart old.name)) before.honest between.honest a is aside in
      let state = (was_sealed old mine sealed keys mid before between goes).state in
      let well = read_image between.honest m.0 m.1 reads in
      record {
        key_is = ap (λ (s : SessionState). s.key) state;
        name_is = ap (λ (s : SessionState). s.name) state;
        whole_too = ap (λ (s : SessionState). s.broken) state ∙ whole;
        calm = ap (λ (s : SessionState). s.changed) state;
        at = m.0;
        told = m.1;
        reads = λ _. well;
        keeps = keeps_more (Covers old) (Covers mid) (λ name. name ≡ old.name) concerned a m.0 (λ name same. inr same)
            (ended_keeps old mine mid a m.0 (seal_ended old mine (Ok tt) sealed keys mid before between a m.0 is m.1 whole m.2 well goes));
      }

  -- the move after that
  carry_keeps : (done : Bool) (nonce : List ℕ) (mid new : SessionState) (between after : HostState) (a b : Honest) (first : FirstKeeps mid between a) → after.honest ≡ Some b → IsTarget to → old.name ≢ to → Moves done to nonce mid between after
      → IsImage b.now (reading b.now) → new.key ≡ mid.key → (done ≡ true → new ≡ renamed to nonce mid) → (done ≡ false → new.broken ≡ true) → KeepsUnder (Covers old) (Covers new) concerned a b
  carry_keeps done nonce mid new between after a b first is2 of_to apart moves reads key_is is_new fails =
      keeps_next (Covers old) (Covers mid) (Covers new) concerned a first.at b first.reads first.keeps
      (subst (λ (n : Name). KeepsUnder (Covers mid) (Covers new) (λ name. (name ≡ to) ⊎ (name ≡ n)) first.at b) first.name_is
      (moved_keeps done mid new to first.at b (subst IsTarget (sym first.name_is) mine.is_target) of_to
      (moves_once done to nonce mid new between after first.at b first.told is2 (λ same. apart (sym first.name_is ∙ same)) moves is_new reads first.whole_too first.calm key_is fails)))

  -- A move to the session's own name, where there is no file: the book does not speak of it.
  itself_keeps : (new : SessionState) (a b : Honest) → IsTarget to → old.name ≡ to → new.name ≡ to → a.now to ≡ None → Ran (LeavesApartBoth old.name to) (KeepsApartBoth old.name to) a b → IsImage b.now (reading b.now)
      → KeepsUnder (Covers old) (Covers new) concerned a b
  itself_keeps new a b of_to same same_new none ran reads book seats agrees was_image covers = by_entry (book to) refl
    where
      by_entry : (o : Option Entry) → book to ≡ o → Kept (Covers new) concerned book seats a b
      by_entry None was =
          let seal = seat_of old.key to no_sheet in (
            record { deed = Flush seal; done = false } ∷ [],
            seats_after (Flush seal) false seats,
            one_act book seats (Flush seal) false a b
                (record {
                  targets = of_to;
                  others = record {
                    leaves = leaves_more ran.leaves (λ image leaves other far. leaves other (record { of_old = subst (λ (n : Name). Apart n other) (sym same) far; of_new = far }));
                    ends = λ other far. ran.ends other (record { of_old = subst (λ (n : Name). Apart n other) (sym same) far; of_new = far });
                  };
                  reads = reads;
                })
                (subst (λ (o : Option Entry). Owes seats (Flush seal) false o a b) (sym was) tt),
            λ entry whole_new is.
                let e : None ≡ Some entry = sym was ∙ sym (ap book same_new) ∙ sym (ap (λ (o : Option Entry). flushed_book seal false o book new.name) was) ∙ is in
                absurd (cc),
            one_spares seats (Flush seal) false,
            only_it,
          )
        where
          only_it : (name : Name) → (name ≡ to) ⊎ ⊥ → concerned name
          only_it name (inl is) = inl is
          only_it name (inr no_one) = absurd no_one
      by_entry (Some entry) was =
          let is_entry = ap book same ∙ was in
          let seat = covers entry whole is_entry in
          let stood = (agrees.stand (seat_of old.key old.name seat.0) entry seat.1 is_entry).stood in
          absurd (never old.key seat.0 (reading a.now old.name) (reading a.now (recovery_of old.name)) (ap (λ (o : Option File). read_of o) (ap a.now same ∙ none)) stood.as_sheet)

  module _ (new : SessionState) (before after : HostState) (a b : Honest) (is : before.honest ≡ Some a) (is2 : after.honest ≡ Some b) (ran : Ran (LeavesApartBoth old.name to) (KeepsApartBoth old.name to) a b) (reads : IsImage b.now (reading b.now)) where
    idles : new ≡ old → Unchanged a b → KeepsUnder (Covers old) (Covers new) concerned a b
    idles same only = idle_keeps old new a b concerned (idle_reads old mine new a b whole same only)

    idles_still : new ≡ old → after ≡ before → KeepsUnder (Covers old) (Covers new) concerned a b
    idles_still same stays = idle_keeps old new a b concerned (idle_same old mine new before after a b is is2 whole same stays)

    -- once the name was found to be free
    free_keeps : (done : Bool) (nonce : List ℕ) (start between : HostState) (mid : SessionState) (random random' : WordsState) → IsFree to before start → FlushesFirst old mid nonce start between random random' → Moves done to nonce mid between after
        → new.key ≡ mid.key → (mid.name ≡ old.name → old.name ≡ to → new.name ≡ to) → (done ≡ true → new ≡ renamed to nonce mid) → (done ≡ false → new.broken ≡ true) → KeepsUnder (Covers old) (Covers new) concerned a b
    free_keeps done nonce start between mid random random' free first moves key_is itself is_new fails =
        let m = on_to Unchanged before.honest start.honest a is free.looks.disk in
        by_name m.0 m.1 m.2 (first_keeps mid nonce start between random random' m.0 m.1 first) (name_or old.name to)
      where
        by_name : (m : Honest) → start.honest ≡ Some m → Unchanged a m → FirstKeeps mid between m → (old.name ≡ to) ⊎ (old.name ≢ to) → KeepsUnder (Covers old) (Covers new) concerned a b
        by_name m is_m only first (inl same) =
            itself_keeps new a b free.is_target same (itself first.name_is same) (sym (ap (λ (d : Disk). d to) only.ends) ∙ at_both (λ x y. y.now to ≡ None) before.honest start.honest a m is is_m free.absent) ran reads
        by_name m is_m only first (inr apart) =
            after_reads (Covers old) (Covers new) concerned a m b only (carry_keeps done nonce mid new between after m b first is2 free.is_target apart moves reads key_is is_new fails)

    by_case : (result : Result (Unit {0}) MoveFault) (random random' : WordsState) → MoveGoes result to old new before after random random' → KeepsUnder (Covers old) (Covers new) concerned a b
    by_case result random random' (misnamed bad same stays words said) = idles_still same stays
    by_case result random random' (no_memory good same stays words said) = idles_still same stays
    by_case result random random' (look_up_failed good fails same words said) = idles same (at_both Unchanged before.honest after.honest a b is is2 fails.disk)
    by_case result random random' (was_there size good looks same words said) = idles same (at_both Unchanged before.honest after.honest a b is is2 looks.disk)
    by_case result random random' (no_words free fewer same said) = idles same (at_both Unchanged before.honest after.honest a b is is2 free.looks.disk)
    by_case result random random' (not_flushed start fault free fails said) =
        let m = on_to Unchanged before.honest start.honest a is free.looks.disk in
        let others = at_both (Ran (LeavesApart old.name) (KeepsApart old.name)) start.honest after.honest m.0 b m.1 is2 fails.aside in
        after_reads (Covers old) (Covers new) concerned a m.0 b m.2
        (keeps_more (Covers old) (Covers new) (λ name. name ≡ old.name) concerned m.0 b (λ name same. inr same)
        (ended_keeps old mine new m.0 b (seal_ended old mine (Err fault) fails.sealed fails.keys new start after m.0 b m.1 is2 whole others reads fails.goes)))
    by_case result random random' (not_moved start between mid nonce fault free first carry moves same said) =
        free_keeps false nonce start between mid random random' free first moves (ap (λ (s : SessionState). s.key) same) (λ was_name is_to. ap (λ (s : SessionState). s.name) same ∙ was_name ∙ is_to) (λ e. absurd (cc)) (λ _. ap (λ (s : SessionState). s.broken) same)
    by_case result random random' (moved start between mid nonce free first carry moves same said) =
        free_keeps true nonce start between mid random random' free first moves (ap (λ (s : SessionState). s.key) same) (λ was_name is_to. ap (λ (s : SessionState). s.name) same) (λ _. same) (λ e. absurd (cc))

  pub move_keeps : (result : Result (Unit {0}) MoveFault) (new : SessionState) (before after : HostState) (random random' : WordsState) → MoveGoes result to old new before after random random' → AsideBoth old.name to before after → ReadsAsImage after
      → OnDisk before after (KeepsUnder (Covers old) (Covers new) (λ name. (name ≡ to) ⊎ (name ≡ old.name)))
  move_keeps result new before after random random' goes aside reads =
      both_with (Ran (LeavesApartBoth old.name to) (KeepsApartBoth old.name to)) (KeepsUnder (Covers old) (Covers new) concerned) before.honest after.honest aside
      (λ a b is is2 ran. by_case new before after a b is is2 ran (read_image after.honest b is2 reads) result random random' goes)
