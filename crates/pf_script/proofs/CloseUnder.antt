-- The line `close` under a book and over files, from the contract of a closing.
use Rattle.std.proofs.Common.{◌≡◌, ◌⊎◌, inl, inr, Bool, true, false, List, [], ◌∷◌, ℕ, refl, sym, ◌∙◌, ap, subst, Some, None, Result}
use Rattle.node_tree.specs.Sheet.{Sheet}
use Rattle.pf_io.specs.Disk.{reading}
use Rattle.pf_io.specs.Host.{Answer, HostState, Both, OnDisk, ReadsAsImage}
use Rattle.pf_io.specs.Moments.{Honest, Ran, Where}
use Rattle.pf_io.specs.Words.{WordsState}
use Rattle.pf_io.proofs.Telling.{told_none}
use Rattle.pf_session.specs.Asking.{IsTaken as AreTaken}
use Rattle.pf_session.specs.Aside.{Aside, LeavesApart, KeepsApart}
use Rattle.pf_session.specs.Ending.{CloseGoes, let_go, flushed_last}
use Rattle.pf_session.specs.Flushing.{UndamagedFlush}
use Rattle.pf_session.specs.Reopening.{AsEither, Stood}
use Rattle.pf_session.specs.Sealing.{StoodIf}
use Rattle.pf_session.specs.State.{SessionState}
use Rattle.pf_session.specs.declared.fault.FlushFault.{FlushFault}
use Rattle.pf_script.specs.BookActs.{Flush}
use Rattle.pf_script.specs.BookDebts.{DidAll, seat_of}
use Rattle.pf_script.specs.BookSeats.{Covers, CoversNone, KeepsUnder}
use Rattle.pf_script.specs.BookTurns.{no_file, SeatUnder, SeatAgrees, MadeBy}
use Rattle.pf_script.specs.FileTurns.{stands_on, SeatFiles, no_file as over_none}
use Rattle.pf_script.specs.Desk.{IsSeated, seat_on}
use Rattle.pf_script.specs.Script.{OwnSeat, Seat, Empty, Own}
use Rattle.pf_script.specs.SeatReplies.{flush_reply}
use Rattle.pf_script.specs.SeatSteps.{Seals as SealsOwn}
use Rattle.pf_script.specs.Turns.{Seen, Standing, SeatTurn, Blame, ByHost, ByDamage, BlamesFlush, accepted, host_failed, was_damaged, words_failed, not_sealed, of_close, no_last_flush, let_go as lets_go, flushed_last as flushes_last}
use Rattle.pf_script.specs.declared.line.ScriptLine.TheVariants as lines
use Rattle.pf_script.specs.declared.reply.Reply.{Reply}
use Rattle.pf_script.specs.declared.reply.Reply.TheVariants as replies
use Rattle.pf_script.proofs.ActKeeping.{one_spares}
use Rattle.pf_script.proofs.CallKeeping.{at_both, both_with, read_image, same_disk, close_keeps}
use Rattle.pf_script.proofs.CloseLine.{close_result, none_to_close}
use Rattle.pf_script.proofs.FlushLine.{flush_act}
use Rattle.pf_script.proofs.FlushUnder.{seen_in, failed_over, lacked_over, flush_left}
use Rattle.pf_script.proofs.Flushed.{FlushEnds, not_begun, not_ended, was_ended, flush_ends, host_blamed, fault_of}
use Rattle.pf_script.proofs.MadeActs.{none_is, one_is}
use Rattle.pf_script.proofs.OverFiles.{over_on_disk}
use Rattle.pf_script.proofs.OverGiven.{over_idle}
use Rattle.pf_script.proofs.Refusing.{none_taken}
use Rattle.pf_script.proofs.SeatCalls.{seen_by, false_true}
use Rattle.pf_script.proofs.Seats.{seats_after}
use Rattle.pf_script.proofs.Under.{looks_like, looks_over, IsAnswered, blame_answered, idle_answered, KnownUnder, on_disk, none_concerned, one_concerned, flush_did}

-- a turn of a closing that failed in its flush
failed_turn : (standing : Standing) (key : List ℕ) (k : ℕ) (own : OwnSeat) (next : Sheet) (these : List Answer) (words : List (List ℕ)) (blame : Blame) → own.changed ≡ true → own.broken ≡ false → SealsOwn own words next → BlamesFlush own.name these blame
    → SeatTurn standing key false (Own own) (lines.Close k) (seen_by these words (host_blamed blame) false) (flush_reply (fault_of blame)) (record { deed = Flush (seat_of own.key own.name next); done = false } ∷ []) Empty
failed_turn standing key k own next these words ByHost was_changed whole seals blames = host_failed (none_to_close key k own) (record { host = refl; random = refl }) (not_sealed own (lines.Close k) next ByHost Empty seals blames (of_close k was_changed whole)) refl
failed_turn standing key k own next these words (ByDamage damage) was_changed whole seals blames =
    was_damaged damage (none_to_close key k own) (record { host = refl; random = refl }) (not_sealed own (lines.Close k) next (ByDamage damage) Empty seals blames (of_close k was_changed whole)) refl

module _ (key : List ℕ) (k : ℕ) (old : SessionState) (seated : IsSeated key old) (before after : HostState) (random random' : WordsState)
    (keeps : OnDisk before after (KeepsUnder (Covers old) CoversNone (λ name. name ≡ old.name))) (aside : Aside old.name before after) (reads : ReadsAsImage after) where
  -- a session that is flushed
  module _ (whole : old.broken ≡ false) (was_changed : old.changed ≡ true) (mid : SessionState) where
    abbrev line_under : (seen : Seen) (reply : Reply) → IsAnswered reply → ((a b : Honest) → before.honest ≡ Some a → after.honest ≡ Some b → Ran (LeavesApart old.name) (KeepsApart old.name) a b → KnownUnder key false (lines.Close k) seen reply old whole None a b)
        → OnDisk before after (SeatUnder key false (lines.Close k) seen reply (Some old) None)
    line_under seen reply answered known = on_disk key false (lines.Close k) seen reply old whole None before after answered (λ seat deed is. is) seated.of_script.is_target (λ n none. absurd none) keeps aside known

    by_end : (result : Result (Unit {0}) FlushFault) → UndamagedFlush result old before → FlushEnds result old mid before after random random' → SeatAgrees key false (lines.Close k) (close_result false result) (Some old) None before after random random'
    by_end result undamaged (not_begun words fewer seen same stays said) =
        subst (λ (r : Result (Unit {0}) FlushFault). SeatAgrees key false (lines.Close k) (close_result false r) (Some old) None before after random random') (sym said)
        (record {
          seen = seen_by [] words false true;
          was_seen = seen_in [] words false true before after random random' seen;
          wordless = λ change. absurd change;
          under = line_under (seen_by [] words false true) replies.WordsFault tt
              (λ a b is is2 ran book seats agrees base on. record {
                acts = [];
                left = seats;
                after = Empty;
                did = (same_disk before after a b is is2 stays, λ s has. has);
                shows = no_file refl refl;
                spares = λ s has apart. has;
                concerned = none_concerned false (lines.Close k) (Some old);
                made = none_is (MadeBy (lines.Close k) (Own (seat_on base old)));
                turn = λ _. words_failed (none_to_close key k (seat_on base old)) (record { host = refl; random = refl }) (no_last_flush k (seat_on base old) was_changed whole fewer) refl;
                idle = tt;
              });
          over = lacked_over key (lines.Close k) words replies.WordsFault old whole None before after aside;
        })
    by_end result undamaged (not_ended blame these words counted seen blames seals key_is name_is broken said) =
        subst (λ (r : Result (Unit {0}) FlushFault). SeatAgrees key false (lines.Close k) (close_result false r) (Some old) None before after random random') (sym said)
        (record {
          seen = seen_by these words (host_blamed blame) false;
          was_seen = seen_in these words (host_blamed blame) false before after random random' seen;
          wordless = λ change. absurd change;
          under = line_under (seen_by these words (host_blamed blame) false) (flush_reply (fault_of blame)) (blame_answered blame)
              (λ a b is is2 ran book seats agrees base on.
              let next = seals base on.stood.as_sheet.stands.linked on.kept.backed in record {
                acts = flush_act old next.0 false ∷ [];
                left = seats_after (Flush (seat_of old.key old.name next.0)) false seats;
                after = Empty;
                did = flush_did book seats false old.key old.name base next.0 a b on.entry seated.of_script.is_target ran (read_image after.honest b is2 reads) on.was on.seated
                    (record { path_is = next.1.next.path_is; sealed = at_both (Where (Stood old.key old.name base) (Ran (AsEither old.key old.name base next.0) (StoodIf false old.key old.name next.0))) before.honest after.honest a b is is2 next.2 });
                shows = no_file refl refl;
                spares = one_spares seats (Flush (seat_of old.key old.name next.0)) false;
                concerned = one_concerned false (lines.Close k) old false next.0;
                made = one_is (MadeBy (lines.Close k) (Own (seat_on base old))) (flush_act old next.0 false) refl;
                turn = λ _. failed_turn (stands_on key (reading a.now)) key k (seat_on base old) next.0 these words blame was_changed whole next.1 blames;
                idle = idle_answered (flush_reply (fault_of blame)) (blame_answered blame) (flush_act old next.0 false ∷ []);
              });
          over = failed_over key (lines.Close k) these words blame (flush_reply (fault_of blame)) old seated.of_script whole None result before after undamaged said aside;
        })
    by_end result undamaged (was_ended these words counted seen swapped seals same dirty said) =
        subst (λ (r : Result (Unit {0}) FlushFault). SeatAgrees key false (lines.Close k) (close_result false r) (Some old) None before after random random') (sym said)
        (record {
          seen = seen_by these words false false;
          was_seen = seen_in these words false false before after random random' seen;
          wordless = λ change. absurd change;
          under = line_under (seen_by these words false false) (replies.Closed false) tt
              (λ a b is is2 ran book seats agrees base on.
              let next = seals base on.stood.as_sheet.stands.linked on.kept.backed in
              let own = seat_on base old in
              let left = seats_after (Flush (seat_of old.key old.name next.0)) true seats in
              let did : DidAll book seats (flush_act old next.0 true ∷ []) left a b =
              flush_did book seats true old.key old.name base next.0 a b on.entry seated.of_script.is_target ran (read_image after.honest b is2 reads) on.was on.seated
              (record { path_is = next.1.next.path_is; sealed = at_both (Where (Stood old.key old.name base) (Ran (AsEither old.key old.name base next.0) (StoodIf true old.key old.name next.0))) before.honest after.honest a b is is2 next.2.1 }) in
              record {
                acts = flush_act old next.0 true ∷ [];
                left = left;
                after = Empty;
                did = did;
                shows = no_file refl refl;
                spares = one_spares seats (Flush (seat_of old.key old.name next.0)) true;
                concerned = one_concerned false (lines.Close k) old true next.0;
                made = one_is (MadeBy (lines.Close k) (Own own)) (flush_act old next.0 true) refl;
                turn = λ _. accepted (none_to_close key k own) (record { host = refl; random = refl }) (flushes_last k own next.0 was_changed whole next.1);
                idle = tt;
              });
          over = over_on_disk (Ran (LeavesApart old.name) (KeepsApart old.name)) key false (lines.Close k) (seen_by these words false false) (replies.Closed false) old whole None before after aside
              (λ a b is is2 ran calm base on.
              let next = seals base on.reopens.stands.linked on.kept.backed in
              let own = seat_on base old in record {
                acts = flush_act old next.0 true ∷ [];
                after = Empty;
                over = record {
                  turn = accepted (none_to_close key k own) (record { host = refl; random = refl }) (flushes_last k own next.0 was_changed whole next.1);
                  files = (flush_left old base next.0 before after a b is is2 next.2.2 ran on.reopens).files;
                };
                shows = over_none refl refl;
              });
        })

  -- one that is not
  idle_turn : (standing : Standing) (seat : Seat) (own : OwnSeat) → seat ≡ Own own → own.broken ≡ old.broken → (own.changed ≡ false) ⊎ (own.broken ≡ true)
      → SeatTurn standing key false seat (lines.Close k) (seen_by [] [] false false) (replies.Closed old.broken) [] Empty
  idle_turn standing seat own is same because =
      subst (λ (b : Bool). SeatTurn standing key false seat (lines.Close k) (seen_by [] [] false false) (replies.Closed b) [] Empty) same
      (subst (λ (x : Seat). SeatTurn standing key false x (lines.Close k) (seen_by [] [] false false) (replies.Closed own.broken) [] Empty) (sym is)
      (accepted (none_to_close key k own) (record { host = refl; random = refl }) (lets_go k own because refl)))

  let_under : (b : Bool) → old.broken ≡ b → (old.changed ≡ false) ⊎ (old.broken ≡ true) → after ≡ before → OnDisk before after (SeatUnder key false (lines.Close k) (seen_by [] [] false false) (replies.Closed old.broken) (Some old) None)
  let_under true is why stays =
      both_with (Ran (LeavesApart old.name) (KeepsApart old.name)) (SeatUnder key false (lines.Close k) (seen_by [] [] false false) (replies.Closed old.broken) (Some old) None) before.honest after.honest aside
      (λ a b is_a is_b ran book seats seat agrees was_image shows.
      let looks = looks_like book seats seat (Some old) shows in record {
        acts = [];
        left = seats;
        after = Empty;
        did = (same_disk before after a b is_a is_b stays, λ s has. has);
        shows = no_file refl refl;
        spares = λ s has apart. has;
        concerned = none_concerned false (lines.Close k) (Some old);
        made = none_is (MadeBy (lines.Close k) seat);
        turn = λ _. idle_turn (stands_on key (reading a.now)) seat looks.shown looks.seat_is looks.broken_is (inr (looks.broken_is ∙ is));
        idle = tt;
      })
  let_under false is (inl clean) stays =
      on_disk key false (lines.Close k) (seen_by [] [] false false) (replies.Closed old.broken) old is None before after tt (λ seat deed is. is) seated.of_script.is_target (λ n none. absurd none) keeps aside
      (λ a b is_a is_b ran book seats agrees base on. record {
        acts = [];
        left = seats;
        after = Empty;
        did = (same_disk before after a b is_a is_b stays, λ s has. has);
        shows = no_file refl refl;
        spares = λ s has apart. has;
        concerned = none_concerned false (lines.Close k) (Some old);
        made = none_is (MadeBy (lines.Close k) (Own (seat_on base old)));
        turn = λ _. idle_turn (stands_on key (reading a.now)) (Own (seat_on base old)) (seat_on base old) refl refl (inl clean);
        idle = tt;
      })
  let_under false is (inr broken) stays = absurd (false_true old.broken broken is)

  -- over files
  let_over : (b : Bool) → old.broken ≡ b → (old.changed ≡ false) ⊎ (old.broken ≡ true) → after ≡ before → OnDisk before after (SeatFiles key false (lines.Close k) (seen_by [] [] false false) (replies.Closed old.broken) (Some old) None)
  let_over true is why stays =
      both_with (Ran (LeavesApart old.name) (KeepsApart old.name)) (SeatFiles key false (lines.Close k) (seen_by [] [] false false) (replies.Closed old.broken) (Some old) None) before.honest after.honest aside
      (λ a b is_a is_b ran seat calm shows opened.
      let looks = looks_over (reading a.now) seat (Some old) shows in record {
        acts = [];
        after = Empty;
        over = over_idle key false seat (lines.Close k) [] (replies.Closed old.broken) Empty a b (same_disk before after a b is_a is_b stays)
            (idle_turn (stands_on key (reading a.now)) seat looks.shown looks.seat_is looks.broken_is (inr (looks.broken_is ∙ is)));
        shows = over_none refl refl;
      })
  let_over false is (inl clean) stays =
      over_on_disk (Ran (LeavesApart old.name) (KeepsApart old.name)) key false (lines.Close k) (seen_by [] [] false false) (replies.Closed old.broken) old is None before after aside
      (λ a b is_a is_b ran calm base on. record {
        acts = [];
        after = Empty;
        over = over_idle key false (Own (seat_on base old)) (lines.Close k) [] (replies.Closed old.broken) Empty a b (same_disk before after a b is_a is_b stays)
            (idle_turn (stands_on key (reading a.now)) (Own (seat_on base old)) (seat_on base old) refl refl (inl clean));
        shows = over_none refl refl;
      })
  let_over false is (inr broken) stays = absurd (false_true old.broken broken is)

  by_close : (result : Result (Unit {0}) FlushFault) → UndamagedFlush result old before → CloseGoes result old before after random random' → SeatAgrees key false (lines.Close k) (close_result old.broken result) (Some old) None before after random random'
  by_close result undamaged (let_go why stays same said) =
      subst (λ (r : Result (Unit {0}) FlushFault). SeatAgrees key false (lines.Close k) (close_result old.broken r) (Some old) None before after random random') (sym said)
      (record {
        seen = seen_by [] [] false false;
        was_seen = record {
          answers = told_none before after (ap (λ (h : HostState). h.given) stays);
          words = subst (λ (w : WordsState). Both random.left w.left (AreTaken [])) (sym same) (none_taken random);
          of_host = ap (λ (h : HostState). h.faults) stays;
          of_words = ap (λ (w : WordsState). w.faults) same;
        };
        wordless = λ change. absurd change;
        under = let_under old.broken refl why stays;
        over = let_over old.broken refl why stays;
      })
  by_close result undamaged (flushed_last mid was_changed whole flushes) =
      subst (λ (b : Bool). SeatAgrees key false (lines.Close k) (close_result b result) (Some old) None before after random random') (sym whole)
      (by_end whole was_changed mid result undamaged (flush_ends old seated.of_script mid before after random random' result flushes))

pub close_under : (key : List ℕ) (k : ℕ) (old : SessionState) (result : Result (Unit {0}) FlushFault) (before after : HostState) (random random' : WordsState) → IsSeated key old
    → CloseGoes result old before after random random' → UndamagedFlush result old before → Aside old.name before after → ReadsAsImage after → SeatAgrees key false (lines.Close k) (close_result old.broken result) (Some old) None before after random random'
close_under key k old result before after random random' seated goes undamaged aside reads =
    by_close key k old seated before after random random' (close_keeps old seated.of_script result before after random random' goes aside reads) aside reads result undamaged goes
