-- The line `close`, from the contract of a closing.
use Rattle.std.proofs.Common.{◌≡◌, ◌⊎◌, inl, inr, Bool, true, false, List, [], ◌∷◌, ℕ, refl, sym, ◌∙◌, ap, subst, Some, None, Result, Ok, Err}
use Rattle.std.proofs.lemmas.List.{append-nil}
use Rattle.node_tree.specs.Sheet.{Sheet}
use Rattle.pf_io.specs.Disk.{Name}
use Rattle.pf_io.specs.Host.{Answer, HostState, Both, OnDisk, ReadsAsImage}
use Rattle.pf_io.specs.Words.{WordsState}
use Rattle.pf_io.proofs.Telling.{told_none}
use Rattle.pf_session.specs.Aside.{Aside}
use Rattle.pf_session.specs.Asking.{IsTaken as AreTaken}
use Rattle.pf_session.specs.Backing.{StandsOn}
use Rattle.pf_session.specs.Ending.{CloseGoes, let_go, flushed_last}
use Rattle.pf_session.specs.State.{SessionState}
use Rattle.pf_session.specs.declared.fault.FlushFault.{FlushFault}
use Rattle.pf_script.specs.BookSeats.{Covers, CoversNone, KeepsUnder}
use Rattle.pf_script.specs.Desk.{IsSeated, IsLike, no_file, seat_on}
use Rattle.pf_script.specs.DeskSteps.{MaySeal, SomeSeatTurn, SeatTurns, LeavesSeat, to_close, SeatGoes}
use Rattle.pf_script.specs.Rules.{NoneRefuses, rules}
use Rattle.pf_script.specs.Script.{OwnSeat, Seat, Empty, Own}
use Rattle.pf_script.specs.SeatReplies.{flush_reply}
use Rattle.pf_script.specs.SeatSteps.{Seals}
use Rattle.pf_script.specs.Turns.{Blame, ByHost, ByDamage, SeatTurn, accepted, host_failed, was_damaged, words_failed, let_go as lets_go, flushed_last as flushes_last, not_sealed, of_close, no_last_flush, on_carried, BlamesFlush, TookItsName, Caused}
use Rattle.pf_script.specs.declared.line.ScriptLine.TheVariants as lines
use Rattle.pf_script.specs.declared.reply.Reply.{Reply}
use Rattle.pf_script.specs.declared.reply.Reply.TheVariants as replies
use Rattle.pf_script.proofs.CallKeeping.{close_keeps}
use Rattle.pf_script.proofs.FlushLine.{flush_act, like_short}
use Rattle.pf_script.proofs.Flushed.{HasSwapped, SealsOwn, TooFewToFlush, FlushCase, lacked, failed, done, flush_case, host_blamed, fault_of}
use Rattle.pf_script.proofs.Liking.{like_some}
use Rattle.pf_script.proofs.Refusing.{at_last, not_empty, none_taken}
use Rattle.pf_script.proofs.SeatCalls.{seen_by, SheetTurns, whole_turns, goes_out, host_reply, words_reply, false_true}
use Rattle.pf_script.proofs.Showing.{shows_some}

-- the reply to a closing; what was not flushed is lost where the session was broken
abbrev pub close_result : Bool → Result (Unit {0}) FlushFault → Reply
close_result lost (Ok ok) = replies.Closed lost
close_result lost (Err fault) = flush_reply fault

-- no rule refuses the closing of a seat that has a file
pub none_to_close : (key : List ℕ) (k : ℕ) (own : OwnSeat) → NoneRefuses (rules key false (Own own) (lines.Close k) [])
none_to_close key k own = ((λ other refuses. not_empty (Own own) own refl refuses.1), tt)

module _ (key : List ℕ) (k : ℕ) (old : SessionState) where
  -- no rule refuses on a seat that is like the session
  passes_like : (seat : Seat) → IsLike seat (Some old) → NoneRefuses (rules key false seat (lines.Close k) [])
  passes_like seat like = let on = like_some seat old like in subst (λ (s : Seat). NoneRefuses (rules key false s (lines.Close k) [])) (sym on.seat_is) (none_to_close key k on.own)

  -- where nothing was to seal, no version took the name
  idle_caused : (old.changed ≡ false) ⊎ (old.broken ≡ true) → (seat : Seat) → IsLike seat (Some old) → Caused key false seat (lines.Close k) [] (replies.Closed old.broken)
  idle_caused why seat like =
      let on = like_some seat old like in
      (passes_like seat like, subst (λ (s : Seat). TookItsName s []) (sym on.seat_is) (λ whole was_changed. absurd (none_to_seal why (sym on.like.broken_is ∙ whole) (sym (on.like.changed_is (sym on.like.broken_is ∙ whole)) ∙ was_changed))))
    where
      none_to_seal : (old.changed ≡ false) ⊎ (old.broken ≡ true) → old.broken ≡ false → old.changed ≡ true → ⊥
      none_to_seal (inl clean) whole was_changed = false_true old.changed was_changed clean
      none_to_seal (inr broken) whole was_changed = false_true old.broken broken whole

  -- a version that was sealed has taken it
  done_caused : (lost : Bool) (these : List Answer) → HasSwapped old.name these → (seat : Seat) → IsLike seat (Some old) → Caused key false seat (lines.Close k) these (replies.Closed lost)
  done_caused lost these swapped seat like =
      let on = like_some seat old like in
      (passes_like seat like, subst (λ (s : Seat). TookItsName s these) (sym on.seat_is) (λ whole was_changed. subst (λ (n : Name). HasSwapped n these) (sym on.like.name_is) swapped))

  failed_caused : (these : List Answer) (blame : Blame) → BlamesFlush old.name these blame → (seat : Seat) → IsLike seat (Some old) → Caused key false seat (lines.Close k) these (flush_reply (fault_of blame))
  failed_caused these ByHost blames seat like = passes_like seat like
  failed_caused these (ByDamage damage) blames seat like = (passes_like seat like, like_short seat old these damage like blames)

  closed_on : (sealed : List Sheet) (seat : Seat) (own : OwnSeat) → seat ≡ Own own → own.broken ≡ old.broken → (own.changed ≡ false) ⊎ (own.broken ≡ true)
      → SeatTurn (on_carried key sealed) key false seat (lines.Close k) (seen_by [] [] false false) (replies.Closed old.broken) [] Empty
  closed_on sealed seat own is same because =
      subst (λ (b : Bool). SeatTurn (on_carried key sealed) key false seat (lines.Close k) (seen_by [] [] false false) (replies.Closed b) [] Empty) same
      (subst (λ (x : Seat). SeatTurn (on_carried key sealed) key false x (lines.Close k) (seen_by [] [] false false) (replies.Closed own.broken) [] Empty) (sym is)
      (accepted (none_to_close key k own) (record { host = refl; random = refl }) (lets_go k own because refl)))

  -- a session that is not flushed
  idle_turns : (b : Bool) → old.broken ≡ b → (old.changed ≡ false) ⊎ (old.broken ≡ true) → SeatTurns key false (lines.Close k) (seen_by [] [] false false) (replies.Closed old.broken) (Some old) None []
  idle_turns true is why = λ sealed seat shows.
      let shown = shows_some sealed seat old shows in
      at_last [] (inl refl) (λ unforged. (Empty, closed_on sealed seat shown.shown shown.seat_is shown.broken_is (inr (shown.broken_is ∙ is)), no_file refl refl))
  idle_turns false is (inl clean) =
      whole_turns key false (lines.Close k) (seen_by [] [] false false) (replies.Closed old.broken) old None [] is
      (λ sealed base among linked kept. at_last [] (inl refl) (λ unforged. (Empty, closed_on sealed (Own (seat_on base old)) (seat_on base old) refl refl (inl clean), no_file refl refl)))
  idle_turns false is (inr broken) = absurd (false_true old.broken broken is)

  module _ (whole : old.broken ≡ false) (was_changed : old.changed ≡ true) where
    lacked_turns : (words : List (List ℕ)) → TooFewToFlush old words → SheetTurns key false (lines.Close k) (seen_by [] words false true) replies.WordsFault old None []
    lacked_turns words fewer sealed base among linked kept =
        at_last [] (inl refl) (λ unforged. (Empty, words_failed (none_to_close key k (seat_on base old)) (record { host = refl; random = refl }) (no_last_flush k (seat_on base old) was_changed whole fewer) refl, no_file refl refl))

    failed_turn : (sealed : List Sheet) (base next : Sheet) (these : List Answer) (words : List (List ℕ)) (blame : Blame) → Seals (seat_on base old) words next → BlamesFlush old.name these blame
        → SeatTurn (on_carried key sealed) key false (Own (seat_on base old)) (lines.Close k) (seen_by these words (host_blamed blame) false) (flush_reply (fault_of blame)) (flush_act old next false ∷ []) Empty
    failed_turn sealed base next these words ByHost seals blames =
        host_failed (none_to_close key k (seat_on base old)) (record { host = refl; random = refl }) (not_sealed (seat_on base old) (lines.Close k) next ByHost Empty seals blames (of_close k was_changed whole)) refl
    failed_turn sealed base next these words (ByDamage damage) seals blames =
        was_damaged damage (none_to_close key k (seat_on base old)) (record { host = refl; random = refl }) (not_sealed (seat_on base old) (lines.Close k) next (ByDamage damage) Empty seals blames (of_close k was_changed whole)) refl

    -- it may have sealed the sheet
    may_seal : (sealed : List Sheet) (base next : Sheet) (these : List Answer) (words : List (List ℕ)) (of_host is_done : Bool) → Seals (seat_on base old) words next
        → MaySeal (SomeSeatTurn key sealed false (Own (seat_on base old)) (lines.Close k)) (seen_by these words of_host false) (flush_act old next is_done ∷ [])
    may_seal sealed base next these words of_host is_done seals = record {
      front = words;
      back = [];
      failed = flush_act old next false ∷ [];
      in_order = sym (append-nil words);
      goes = (Empty, failed_turn sealed base next these words ByHost seals tt);
      sheets = refl;
    }

    failed_turns : (these : List Answer) (words : List (List ℕ)) (blame : Blame) → SealsOwn old words (λ next. Unit {0}) → BlamesFlush old.name these blame
        → SheetTurns key false (lines.Close k) (seen_by these words (host_blamed blame) false) (flush_reply (fault_of blame)) old None these
    failed_turns these words blame seals blames sealed base among linked kept =
        let next = seals base linked kept.backed in
        at_last (flush_act old next.0 false ∷ []) (inr (may_seal sealed base next.0 these words (host_blamed blame) false next.1)) (λ unforged. (Empty, failed_turn sealed base next.0 these words blame next.1 blames, no_file refl refl))

    done_turns : (new : SessionState) (these : List Answer) (words : List (List ℕ)) → SealsOwn old words (λ next. StandsOn next new) → SheetTurns key false (lines.Close k) (seen_by these words false false) (replies.Closed false) old None these
    done_turns new these words seals sealed base among linked kept =
        let next = seals base linked kept.backed in
        let own = seat_on base old in
        at_last (flush_act old next.0 true ∷ []) (inr (may_seal sealed base next.0 these words false true next.1)) (λ unforged. (Empty, accepted (none_to_close key k own) (record { host = refl; random = refl }) (flushes_last k own next.0 was_changed whole next.1), no_file refl refl))

  module _ (before after : HostState) (random random' : WordsState) (aside : Aside old.name before after) (books : OnDisk before after (KeepsUnder (Covers old) CoversNone (λ name. name ≡ old.name))) where
    failed_leaves : (blame : Blame) → LeavesSeat (lines.Close k) (flush_reply (fault_of blame)) (Some old) None random random'
    failed_leaves ByHost = refl
    failed_leaves (ByDamage damage) = refl

    by_case : (result : Result (Unit {0}) FlushFault) (mid : SessionState) → old.broken ≡ false → old.changed ≡ true → FlushCase result old mid before after random random'
        → SeatGoes key false (lines.Close k) (Ok (close_result false result)) (Some old) None before after random random'
    by_case result mid whole was_changed (lacked words fewer seen same stays said) =
        subst (λ (r : Result (Unit {0}) FlushFault). SeatGoes key false (lines.Close k) (Ok (close_result false r)) (Some old) None before after random random') (sym said)
        (goes_out key false (lines.Close k) replies.WordsFault old before after random random' aside (λ none. absurd none, tt) [] words false true seen refl refl
        (whole_turns key false (lines.Close k) (seen_by [] words false true) replies.WordsFault old None [] whole (lacked_turns whole was_changed words fewer)) passes_like refl books)
    by_case result mid whole was_changed (failed blame these words seen blames seals key_is name_is broken said) =
        subst (λ (r : Result (Unit {0}) FlushFault). SeatGoes key false (lines.Close k) (Ok (close_result false r)) (Some old) None before after random random') (sym said)
        (goes_out key false (lines.Close k) (flush_reply (fault_of blame)) old before after random random' aside (λ none. absurd none, tt) these words (host_blamed blame) false seen (host_reply blame) (words_reply blame)
        (whole_turns key false (lines.Close k) (seen_by these words (host_blamed blame) false) (flush_reply (fault_of blame)) old None these whole (failed_turns whole was_changed these words blame seals blames)) (failed_caused these blame blames) (failed_leaves blame) books)
    by_case result mid whole was_changed (done these words seen swapped seals same dirty said) =
        subst (λ (r : Result (Unit {0}) FlushFault). SeatGoes key false (lines.Close k) (Ok (close_result false r)) (Some old) None before after random random') (sym said)
        (goes_out key false (lines.Close k) (replies.Closed false) old before after random random' aside (λ none. absurd none, tt) these words false false seen refl refl
        (whole_turns key false (lines.Close k) (seen_by these words false false) (replies.Closed false) old None these whole (done_turns whole was_changed mid these words seals)) (done_caused false these swapped)
        (subst (λ (b : Bool). LeavesSeat (lines.Close k) (replies.Closed b) (Some old) None random random') whole (to_close k old)) books)

pub close_goes : (key : List ℕ) (k : ℕ) (old : SessionState) (result : Result (Unit {0}) FlushFault) (before after : HostState) (random random' : WordsState) → IsSeated key old
    → CloseGoes result old before after random random' → Aside old.name before after → ReadsAsImage after → SeatGoes key false (lines.Close k) (Ok (close_result old.broken result)) (Some old) None before after random random'
close_goes key k old result before after random random' seated goes aside reads = by_end goes
  where
    books : OnDisk before after (KeepsUnder (Covers old) CoversNone (λ name. name ≡ old.name))
    books = close_keeps old seated.of_script result before after random random' goes aside reads

    by_end : CloseGoes result old before after random random' → SeatGoes key false (lines.Close k) (Ok (close_result old.broken result)) (Some old) None before after random random'
    by_end (let_go why stays same said) =
        subst (λ (r : Result (Unit {0}) FlushFault). SeatGoes key false (lines.Close k) (Ok (close_result old.broken r)) (Some old) None before after random random') (sym said)
        (goes_out key false (lines.Close k) (replies.Closed old.broken) old before after random random' aside (λ none. absurd none, tt) [] [] false false
        (record {
          told = told_none before after (ap (λ (h : HostState). h.given) stays);
          taken = subst (λ (w : WordsState). Both random.left w.left (AreTaken [])) (sym same) (none_taken random);
          on_host = ap (λ (h : HostState). h.faults) stays;
          on_words = ap (λ (w : WordsState). w.faults) same;
        }) refl refl (idle_turns key k old old.broken refl why) (idle_caused key k old why) (to_close k old) books)
    by_end (flushed_last mid was_changed whole flushes) =
        subst (λ (b : Bool). SeatGoes key false (lines.Close k) (Ok (close_result b result)) (Some old) None before after random random') (sym whole)
        (by_case key k old before after random random' aside books result mid whole was_changed (flush_case old seated.of_script mid before after random random' result flushes))
