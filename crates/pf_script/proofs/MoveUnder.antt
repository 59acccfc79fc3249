-- The line `move` under a book, from the contract of a move.
use Rattle.std.proofs.Common.{◌≡◌, ◌⊎◌, inl, inr, Bool, true, false, List, [], ◌∷◌, ◌++◌, ℕ, refl, sym, ◌∙◌, ap, subst, Option, Some, None, Ok}
use Rattle.std.specs.Prelude.{Contains}
use Rattle.node_tree.specs.Backing.{now}
use Rattle.node_tree.specs.Sheet.{Sheet}
use Rattle.node_tree.specs.State.{TreeState}
use Rattle.pf_io.specs.Disk.{Name, IsImage, reading}
use Rattle.pf_io.specs.Host.{Answer, HostState, Both, IsMore, ReadsAsImage}
use Rattle.pf_io.specs.Moments.{Honest, Ran, Where}
use Rattle.pf_io.specs.Names.{IsTarget}
use Rattle.pf_io.specs.Words.{WordsState}
use Rattle.pf_io.proofs.Telling.{told_none}
use Rattle.pf_session.specs.Aside.{Aside, LeavesApart, KeepsApart, LeavesApartBoth, KeepsApartBoth}
use Rattle.pf_session.specs.Asking.{IsTaken as AreTaken}
use Rattle.pf_session.specs.Backing.{StandsOn, RestsOn}
use Rattle.pf_session.specs.Drawing.{IsDrawn}
use Rattle.pf_session.specs.Moving.{MovesOn as MovesAs, FlushesFirst, as_it_is, flushed, Carries, IsKeptOn, renamed, MovedAs, MovedIf}
use Rattle.pf_session.specs.Reopening.{AsEither, Stood}
use Rattle.pf_session.specs.Sealing.{StoodIf, Replaces, StandsNext}
use Rattle.pf_session.specs.State.{SessionState}
use Rattle.pf_script.specs.Book.{Book, Entry, Seal, Agrees}
use Rattle.pf_script.specs.BookActs.{Flush, Move, Act, Among, booked_all, flushed as flushed_book, sealed_entry}
use Rattle.pf_script.specs.BookDebts.{DidAll, Owes, seat_of}
use Rattle.pf_script.specs.BookSeats.{SparesSeats}
use Rattle.pf_script.specs.Desk.{IsSeated, seat_on}
use Rattle.pf_script.specs.Script.{OwnSeat}
use Rattle.pf_script.specs.SeatSteps.{SealsMoved, IsNextSheet, renamed as renamed_own}
use Rattle.pf_script.specs.Turns.{FlushedToMove, as_it_was, was_changed, flushes}
use Rattle.pf_script.proofs.ActKeeping.{one_act, one_spares, unchanged_now}
use Rattle.pf_script.proofs.CallKeeping.{at_both, on_to, read_image}
use Rattle.pf_script.proofs.Composing.{did_on}
use Rattle.pf_script.proofs.During.{leaves_more}
use Rattle.pf_script.proofs.Flushed.{SealsWith, FlushEnds, not_begun, not_ended, was_ended, seal_ends, next_of}
use Rattle.pf_script.proofs.FlushLine.{flush_act, resealed_own}
use Rattle.pf_script.proofs.NameMaps.{set_at-same}
use Rattle.pf_script.proofs.Refusing.{none_taken}
use Rattle.pf_script.proofs.SeatCalls.{own_same}
use Rattle.pf_script.proofs.Seats.{seats_after, seat_is_left, among_on, among_back}
use Rattle.pf_script.proofs.Under.{flush_did}

-- a move on a sheet on which the session rests
module _ (done : Bool) (to : Name) (nonce : List ℕ) (base : Sheet) (mid : SessionState) (between after : HostState) (rests : RestsOn base mid) (on : MovesAs done to nonce base mid between after) where
  pub seals_moved : (first second : List ℕ) → nonce ≡ first ++ second → SealsMoved (seat_on base mid) to (first ∷ second ∷ []) on.next
  seals_moved first second drawn = record {
    first = first;
    second = second;
    words_are = refl;
    next = subst (λ (n : List ℕ). IsNextSheet base to n (now base mid.tree) [] [] on.next) drawn
        (subst (λ (d : List ℕ). IsNextSheet base to nonce (now base mid.tree) d [] on.next) rests.clean (next_of base mid.tree to nonce [] on.next on.is_next));
  }

  -- the session under its new name
  pub renamed_seat : (new : SessionState) → new ≡ renamed to nonce mid → renamed_own (seat_on base mid) to on.next ≡ seat_on on.next new
  renamed_seat new same =
      subst (λ (s : SessionState). renamed_own (seat_on base mid) to on.next ≡ seat_on on.next s) (sym same)
      (own_same on.next mid.key mid.key to to (now base mid.tree) (now on.next mid.tree) mid.tree.dirty mid.tree.dirty mid.changed mid.changed mid.drawn mid.drawn mid.broken mid.broken refl refl
      (rests.stands.now_is ∙ sym on.same_content ∙ sym on.on_next.stands.now_is) refl refl refl refl)

  pub moved_kept : (new : SessionState) → new ≡ renamed to nonce mid → IsKeptOn on.next new
  moved_kept new same = subst (λ (s : SessionState). IsKeptOn on.next s) (sym same) (record { backed = on.on_next.stands.backed; rests = λ _. on.on_next })

module _ (key : List ℕ) (old : SessionState) (seated : IsSeated key old) (whole : old.broken ≡ false) where
  -- what comes before the move itself
  pub data FirstLeft (mid : SessionState) (start between : HostState) (words : List (List ℕ)) : Type 0 where
    no_flush : old.changed ≡ false → mid ≡ old → between ≡ start → words ≡ [] → FirstLeft mid start between words
    one_flush : old.changed ≡ true → SealsWith old words (λ base next. StandsOn next mid × Replaces true old.key old.name base next start between × StandsNext old.key old.name base next start between) → {nonce : List ℕ} {tree : TreeState}
        → mid ≡ record old { nonce = nonce; drawn = None; tree = tree; changed = false } → mid.tree.dirty ≡ [] → Aside old.name start between → ReadsAsImage between → FirstLeft mid start between words

  pub record FirstIn (mid : SessionState) (nonce : List ℕ) (start between : HostState) (random random' : WordsState) : Type 0 where
    pub these : List Answer
    pub words : List (List ℕ)
    pub words_mid : WordsState
    pub drawn : IsDrawn nonce words_mid random'
    pub told : Both start.given between.given (IsMore these)
    pub taken : Both random.left words_mid.left (AreTaken words)
    pub on_host : between.faults ≡ start.faults
    pub on_words : words_mid.faults ≡ random.faults
    pub left : FirstLeft mid start between words

  pub first_in : (mid : SessionState) (nonce : List ℕ) (start between : HostState) (random random' : WordsState) → FlushesFirst old mid nonce start between random random' → FirstIn mid nonce start between random random'
  first_in mid nonce start between random random' (as_it_is calm same stays drawn) = record {
    these = [];
    words = [];
    words_mid = random;
    drawn = drawn;
    told = told_none start between (ap (λ (h : HostState). h.given) stays);
    taken = none_taken random;
    on_host = ap (λ (h : HostState). h.faults) stays;
    on_words = refl;
    left = no_flush calm same stays refl;
  }
  first_in mid nonce start between random random' (flushed sealed keys words_mid changed came drawn goes aside reads) = by_end (seal_ends old seated.of_script mid start between random words_mid (Ok tt) sealed keys came goes)
    where
      by_end : FlushEnds (Ok tt) old mid start between random words_mid → FirstIn mid nonce start between random random'
      by_end (not_begun words fewer seen same stays said) = absurd (cc)
      by_end (not_ended blame these words counted seen blames seals key_is name_is broken said) = absurd (cc)
      by_end (was_ended these words counted seen swapped seals same dirty said) = record {
        these = these;
        words = words;
        words_mid = words_mid;
        drawn = drawn;
        told = seen.told;
        taken = seen.taken;
        on_host = seen.on_host;
        on_words = seen.on_words;
        left = one_flush changed (λ base linked backed. let on = seals base linked backed in (on.0, on.1, (on.2.0, on.2.1, on.2.2))) same dirty aside reads;
      }

  -- on a base that the file stands for
  module _ (book : Book) (seats : List Seal) (m : Honest) (agrees : Agrees book seats m.now) (image : IsImage m.now (reading m.now)) (base : Sheet) (entry : Entry) (was : book old.name ≡ Some entry) (there : Contains seats (seat_of old.key old.name base))
      (kept : IsKeptOn base old) (stood : Stood old.key old.name base m.now) where
    abbrev own : OwnSeat
    own = seat_on base old

    pub record FirstKnown (mid : SessionState) (words : List (List ℕ)) (t : Honest) : Type 0 where
      pub sheets : List Sheet
      pub base_now : Sheet
      pub first : FlushedToMove own words sheets (seat_on base_now mid)
      pub left : List Seal
      pub did : DidAll book seats (flushes own sheets) left m t
      pub spares : SparesSeats (flushes own sheets) seats left
      pub only : (n : Name) → Among (flushes own sheets) n → n ≡ old.name
      pub entry_now : Entry
      pub in_book : booked_all (flushes own sheets) book old.name ≡ Some entry_now
      pub there_now : Contains left (seat_of old.key old.name base_now)
      pub stood_now : Stood old.key old.name base_now t.now
      pub rests : RestsOn base_now mid
      pub key_is : mid.key ≡ old.key
      pub name_is : mid.name ≡ old.name
      pub whole_mid : mid.broken ≡ false
      pub calm : mid.changed ≡ false
      pub image_now : IsImage t.now (reading t.now)

    one_name : (next : Sheet) (n : Name) → Among (flush_act old next true ∷ []) n → n ≡ old.name
    one_name next n (inl is) = is
    one_name next n (inr none) = absurd none

    pub first_known : (mid : SessionState) (words : List (List ℕ)) (start between : HostState) → start.honest ≡ Some m → FirstLeft mid start between words → (t : Honest) × (between.honest ≡ Some t) × FirstKnown mid words t
    first_known mid words start between is_m (no_flush calm same stays none) = (
      m,
      ap (λ (h : HostState). h.honest) stays ∙ is_m,
      record {
        sheets = [];
        base_now = base;
        first = subst (λ (w : List (List ℕ)). FlushedToMove own w [] (seat_on base mid)) (sym none) (subst (λ (s : SessionState). FlushedToMove own [] [] (seat_on base s)) (sym same) (as_it_was calm));
        left = seats;
        did = (unchanged_now m, λ s has. has);
        spares = λ s has apart. has;
        only = λ n none. absurd none;
        entry_now = entry;
        in_book = was;
        there_now = there;
        stood_now = stood;
        rests = subst (λ (s : SessionState). RestsOn base s) (sym same) (kept.rests calm);
        key_is = ap (λ (s : SessionState). s.key) same;
        name_is = ap (λ (s : SessionState). s.name) same;
        whole_mid = ap (λ (s : SessionState). s.broken) same ∙ whole;
        calm = ap (λ (s : SessionState). s.changed) same ∙ calm;
        image_now = image;
      },
    )
    first_known mid words start between is_m (one_flush changed seals same dirty aside reads) =
        let t = on_to (Ran (LeavesApart old.name) (KeepsApart old.name)) start.honest between.honest m is_m aside in
        let next = seals base stood.as_sheet.stands.linked kept.backed in
        let ran = at_both (Where (Stood old.key old.name base) (Ran (AsEither old.key old.name base next.0) (StoodIf true old.key old.name next.0))) start.honest between.honest m t.0 is_m t.1 next.2.1 stood in
        let entry_is = (agrees.stand (seat_of old.key old.name base) entry there was).entry_is in
        let now_entry = sealed_entry old.key next.0.content (Some base.content) true in (
          t.0,
          t.1,
          record {
            sheets = next.0 ∷ [];
            base_now = next.0;
            first = subst (λ (x : OwnSeat). FlushedToMove own words (next.0 ∷ []) x) (resealed_own base old mid words next.0 next.1 next.2.0 same dirty) (was_changed words next.0 changed next.1);
            left = seats_after (Flush (seat_of old.key old.name next.0)) true seats;
            did = flush_did book seats true old.key old.name base next.0 m t.0 entry seated.of_script.is_target t.2 (read_image between.honest t.0 t.1 reads) was there (record { path_is = next.1.next.path_is; sealed = λ stood. ran });
            spares = one_spares seats (Flush (seat_of old.key old.name next.0)) true;
            only = one_name next.0;
            entry_now = now_entry;
            in_book = ap (λ (o : Option Entry). flushed_book (seat_of old.key old.name next.0) true o book old.name) (was ∙ ap (λ (e : Entry). Some e) entry_is) ∙ set_at-same old.name (Some now_entry) book;
            there_now = seat_is_left (Flush (seat_of old.key old.name next.0)) seats;
            stood_now = ran.ends;
            rests = record { stands = next.2.0; clean = dirty };
            key_is = ap (λ (s : SessionState). s.key) same;
            name_is = ap (λ (s : SessionState). s.name) same;
            whole_mid = ap (λ (s : SessionState). s.broken) same ∙ whole;
            calm = ap (λ (s : SessionState). s.changed) same;
            image_now = read_image between.honest t.0 t.1 reads;
          },
        )

    -- the move after that, on the sheet that the file then stands for
    module _ (to : Name) (of_to : IsTarget to) (done : Bool) (mid new : SessionState) (words : List (List ℕ)) (t b : Honest) (known : FirstKnown mid words t) (nonce : List ℕ) (between after : HostState) (is_t : between.honest ≡ Some t) (is_b : after.honest ≡ Some b)
        (absent : t.now to ≡ None) (carries : Carries done to nonce mid between after) (well : IsImage b.now (reading b.now)) where
      abbrev on : MovesAs done to nonce known.base_now mid between after
      on = carries.each known.base_now known.stood_now.as_sheet.stands.linked known.rests

      abbrev act : Act
      act = record { deed = Move old.name (seat_of old.key to on.next); done = done }

      abbrev left_now : List Seal
      left_now = seats_after (Move old.name (seat_of old.key to on.next)) done known.left

      moved_ran : Where (Stood old.key old.name known.base_now) (Ran (λ disk. MovedAs old.key old.name known.base_now to on.next) (MovedIf done old.key old.name to on.next)) t b
      moved_ran stood =
          subst (λ (k : List ℕ). Ran (λ disk. MovedAs k old.name known.base_now to on.next) (MovedIf done k old.name to on.next) t b) known.key_is
          (subst (λ (n : Name). Ran (λ disk. MovedAs mid.key n known.base_now to on.next) (MovedIf done mid.key n to on.next) t b) known.name_is
          (at_both (Where (λ disk. Stood mid.key mid.name known.base_now disk × (disk to ≡ None)) (Ran (λ disk. MovedAs mid.key mid.name known.base_now to on.next) (MovedIf done mid.key mid.name to on.next))) between.honest after.honest t b is_t is_b on.moved (
            subst (λ (k : List ℕ). Stood k mid.name known.base_now t.now) (sym known.key_is) (subst (λ (n : Name). Stood old.key n known.base_now t.now) (sym known.name_is) stood),
            absent,
          )))

      others : Ran (LeavesApartBoth old.name to) (KeepsApartBoth old.name to) t b
      others = subst (λ (n : Name). Ran (LeavesApartBoth n to) (KeepsApartBoth n to) t b) known.name_is (at_both (Ran (LeavesApartBoth mid.name to) (KeepsApartBoth mid.name to)) between.honest after.honest t b is_t is_b carries.aside)

      pub did_move : DidAll book seats (flushes own known.sheets ++ act ∷ []) left_now m b
      did_move =
          did_on book seats known.left left_now (flushes own known.sheets) (act ∷ []) m t b known.did
          (one_act (booked_all (flushes own known.sheets) book) known.left act.deed done t b
          (record {
            targets = (of_to, seated.of_script.is_target);
            others = record {
              leaves = leaves_more others.leaves (λ image leaves other far. leaves other (record { of_old = far.1; of_new = far.0 }));
              ends = λ other far. others.ends other (record { of_old = far.1; of_new = far.0 });
            };
            reads = well;
          })
          (subst (λ (o : Option Entry). Owes known.left act.deed done o t b) (sym known.in_book)
          (absent, (known.base_now, known.there_now, record { path_is = on.is_next.path_is; content_is = on.same_content; sealed = moved_ran }))))

      pub spares_move : SparesSeats (flushes own known.sheets ++ act ∷ []) seats left_now
      spares_move seat has apart =
          one_spares known.left act.deed done seat (known.spares seat has (λ among. apart (among_back (flushes own known.sheets) (act ∷ []) seat.name (inl among)))) (λ among. apart (among_back (flushes own known.sheets) (act ∷ []) seat.name (inr among)))

      pub only_move : (n : Name) → Among (flushes own known.sheets ++ act ∷ []) n → (n ≡ to) ⊎ (n ≡ old.name)
      only_move n among = by_case (among_on (flushes own known.sheets) (act ∷ []) n among)
        where
          by_case : Among (flushes own known.sheets) n ⊎ Among (act ∷ []) n → (n ≡ to) ⊎ (n ≡ old.name)
          by_case (inl is) = inr (known.only n is)
          by_case (inr (inl is)) = is
          by_case (inr (inr none)) = absurd none
