-- The line `move` under a book: how it ends.
use Rattle.std.proofs.Common.{◌≡◌, ◌≢◌, ◌⊎◌, inl, inr, Bool, true, false, List, [], ◌∷◌, ◌++◌, ℕ, refl, sym, ◌∙◌, ap, subst, Option, Some, None, Result, Err}
use Rattle.std.specs.Prelude.{Contains}
use Rattle.node_tree.specs.Sheet.{Sheet}
use Rattle.pf_io.specs.Disk.{Name, Disk, File, IsImage, reading, read_of}
use Rattle.pf_io.specs.Host.{Answer, LengthWas, HostState, Both, IsMore, OnDisk, ReadsAsImage}
use Rattle.pf_io.specs.Moments.{Honest, Ran, Where}
use Rattle.pf_io.specs.Names.{IsTarget, recovery_of}
use Rattle.pf_io.specs.Words.{WordsState}
use Rattle.pf_io.specs.declared.faults.Memory.{Memory}
use Rattle.pf_io.proofs.Telling.{told_none, told_on, both_same, both_weaker}
use Rattle.pf_session.specs.Aside.{Apart, Aside, LeavesApart, KeepsApart, LeavesApartBoth, KeepsApartBoth, AsideBoth}
use Rattle.pf_session.specs.Creating.{LooksUp}
use Rattle.pf_session.specs.Faults.{move_of_flush}
use Rattle.pf_session.specs.Reopening.{AsEither, ReopensAs, Stood}
use Rattle.pf_session.specs.Sealing.{StoodIf}
use Rattle.pf_session.specs.Asking.{IsTaken as AreTaken}
use Rattle.pf_session.specs.Moving.{MoveGoes, misnamed, no_memory, look_up_failed, was_there, no_words, not_flushed, not_moved, moved, IsFree, FlushFails, FlushesFirst, Moves, UndamagedMove, IsKeptOn, renamed}
use Rattle.pf_session.specs.State.{SessionState}
use Rattle.pf_session.specs.declared.fault.FlushFault.{FlushFault}
use Rattle.pf_session.specs.declared.fault.MoveFault.{MoveFault}
use Rattle.pf_script.specs.Book.{Book, Entry, Seal, Agrees}
use Rattle.pf_script.specs.BookActs.{Opening, Creation, Flush, Move, Act}
use Rattle.pf_script.specs.BookDebts.{Unchanged, DidAll, seat_of}
use Rattle.pf_script.specs.BookTurns.{SeenIn, of_book, other_file, SeatUnder, SeatAgrees, SeatBooked, MadeBy}
use Rattle.pf_script.specs.Desk.{IsSeated, seat_on}
use Rattle.pf_script.specs.DeskSteps.{CountsFault, Concerns}
use Rattle.pf_script.specs.FileTurns.{stands_on, answers_of, seen_over, SeatFiles}
use Rattle.pf_script.specs.Rules.{IsFirst, NoneRefuses, rules}
use Rattle.pf_script.specs.Script.{OwnSeat, Seat, Own}
use Rattle.pf_script.specs.SeatReplies.{flush_reply, move_reply}
use Rattle.pf_script.specs.SeatSteps.{broken_seat, renamed as renamed_own}
use Rattle.pf_script.specs.Turns.{Seen, Failed, Standing, SeatTurn, Blame, ByHost, ByDamage, BlamesFlush, Fails, flushes, moved as moved_line, not_moved as not_moved_line, refused, accepted, host_failed, was_damaged, words_failed, not_looked_up, not_flushed_to_move, no_move}
use Rattle.pf_script.specs.declared.line.ScriptLine.{ScriptLine}
use Rattle.pf_script.specs.declared.line.ScriptLine.TheVariants as lines
use Rattle.pf_script.specs.declared.reply.Reply.{Reply}
use Rattle.pf_script.specs.declared.reply.Reply.TheVariants as replies
use Rattle.pf_script.specs.declared.reply.Why.TheVariants as whys
use Rattle.pf_script.proofs.ActKeeping.{unchanged_now, one_spares}
use Rattle.pf_script.proofs.CallKeeping.{at_both, both_with, on_to, read_image}
use Rattle.pf_script.proofs.Composing.{did_on}
use Rattle.pf_script.proofs.Dealing.{DealsFreely, aside_deals, move_deals}
use Rattle.pf_script.proofs.Flushed.{FlushEnds, not_begun, not_ended, was_ended, seal_ends, host_blamed, fault_of}
use Rattle.pf_script.proofs.FlushLine.{flush_act}
use Rattle.pf_script.proofs.MadeActs.{EachIs, MayFlush, one_is, is_on, are_flushes}
use Rattle.pf_script.proofs.MoveLine.{move_rules, not_busy, move_passes, move_unasked, move_found, never_lacks, too_few_to_move, blamed_reply, short_more, taken_then, CarryBlamed, carry_blamed}
use Rattle.pf_script.proofs.MoveOver.{looked_answers, not_calm, first_over, moved_files, moved_shows}
use Rattle.pf_script.proofs.OverFiles.{reopens_stands, files_from, KnownOver, own_over, still_over}
use Rattle.pf_script.proofs.OverGiven.{same_over, same_files}
use Rattle.pf_script.proofs.Ruling.{never}
use Rattle.pf_script.proofs.Seats.{seats_after}
use Rattle.pf_script.proofs.MoveUnder.{FirstIn, first_in, FirstKnown, first_known, did_move, spares_move, only_move, seals_moved, renamed_seat, moved_kept}
use Rattle.pf_script.proofs.Refusing.{none_taken, first_then}
use Rattle.pf_script.proofs.SeatCalls.{told_absent, seen_by, false_true}
use Rattle.pf_script.proofs.Showing.{same_session}
use Rattle.pf_script.proofs.SparesAll.{others_kept, others_then}
use Rattle.pf_script.proofs.Under.{IsAnswered, KnownUnder, blame_answered, idle_answered, own_under, own_idle, one_concerned, flush_did, left_seat}

module _ (key : List ℕ) (k : ℕ) (to : Name) (old : SessionState) (seated : IsSeated key old) (whole : old.broken ≡ false) (new : SessionState) (before after : HostState) (random random' : WordsState) where
  abbrev line : ScriptLine
  line = lines.Move k to

  -- the line may flush its seat before it moves
  may_flush : MayFlush line
  may_flush seat (Opening seal) is = is
  may_flush seat (Creation seal) is = is
  may_flush seat (Flush seal) is = is
  may_flush seat (Move from seal) is = absurd is

  move_made : (own : OwnSeat) (sheets : List Sheet) (act : Act) → MadeBy line (Own own) act.deed → EachIs (MadeBy line (Own own)) (flushes own sheets ++ act ∷ [])
  move_made own sheets act is = is_on (MadeBy line (Own own)) (flushes own sheets) (act ∷ []) (λ one has. may_flush (Own own) one.deed (are_flushes own sheets one has)) (one_is (MadeBy line (Own own)) act is)

  -- the two names are concerned
  pub both_concerned : (n : Name) → (n ≡ to) ⊎ (n ≡ old.name) → Concerns false line (Some old) n
  both_concerned n (inl same) = inr (ap (λ (x : Name). Some x) (sym same), refl)
  both_concerned n (inr same) = inl same

  -- nothing was changed
  idle : (reply : Reply) (these : List Answer) (words : List (List ℕ)) (of_host of_words : Bool) → new ≡ old → OnDisk before after Unchanged → Both before.given after.given (IsMore these) → Both random.left random'.left (AreTaken words)
      → CountsFault of_host before.faults after.faults → CountsFault of_words random.faults random'.faults
      → ((standing : Standing) (base : Sheet) → SeatTurn standing key false (Own (seat_on base old)) line (seen_by these words of_host of_words) reply [] (Own (seat_on base old)))
      → ((base : Sheet) (a : Honest) → before.honest ≡ Some a → Failed (seen_by these words of_host of_words) false false
      → SeatTurn (stands_on key (reading a.now)) key false (Own (seat_on base old)) line (seen_over (reading a.now) line words) reply [] (Own (seat_on base old))) → SeatAgrees key false line reply (Some old) (Some new) before after random random'
  idle reply these words of_host of_words same only told taken on_host on_words turn over = record {
    seen = seen_by these words of_host of_words;
    was_seen = record { answers = told; words = taken; of_host = on_host; of_words = on_words };
    wordless = λ change. absurd change;
    under = both_weaker Unchanged (SeatUnder key false line (seen_by these words of_host of_words) reply (Some old) (Some new)) before.honest after.honest only
        (λ a b only_ab. own_idle key false line (seen_by these words of_host of_words) reply old whole (Some new) (ap (λ (s : SessionState). Some s) same) a b only_ab (λ base. turn (stands_on key (reading a.now)) base));
    over = both_with Unchanged (SeatFiles key false line (seen_by these words of_host of_words) reply (Some old) (Some new)) before.honest after.honest only
        (λ a b is is2 only_ab.
        subst (λ (s : SessionState). SeatFiles key false line (seen_by these words of_host of_words) reply (Some old) (Some s) a b) (sym same)
        (own_over key false line (seen_by these words of_host of_words) reply old whole (Some old) a b
        (λ calm base on. still_over key false line (seen_by these words of_host of_words) reply old old a b only_ab base whole on refl refl whole on.kept (over base a is calm))));
  }

  stays_so : after ≡ before → OnDisk before after Unchanged
  stays_so stays = both_same Unchanged before.honest after.honest (ap (λ (h : HostState). h.honest) stays) (λ a. unchanged_now a)

  none_taken_now : random' ≡ random → Both random.left random'.left (AreTaken [])
  none_taken_now same = subst (λ (w : WordsState). Both random.left w.left (AreTaken [])) (sym same) (none_taken random)

  -- up to the want of words
  misnamed_under : ¬ (IsTarget to) → new ≡ old → after ≡ before → random' ≡ random → SeatAgrees key false line (replies.Refused whys.BadName) (Some old) (Some new) before after random random'
  misnamed_under bad same stays words =
      idle (replies.Refused whys.BadName) [] [] false false same (stays_so stays) (told_none before after (ap (λ (h : HostState). h.given) stays)) (none_taken_now words) (ap (λ (h : HostState). h.faults) stays) (ap (λ (w : WordsState). w.faults) words)
      (λ standing base. refused whys.BadName (first base []) (record { host = refl; random = refl }) refl refl refl refl)
      (λ base a is calm. refused whys.BadName (first base (answers_of (reading a.now) line)) (record { host = refl; random = refl }) refl refl refl refl)
    where
      first : (base : Sheet) (given : List Answer) → IsFirst (rules key false (Own (seat_on base old)) line given) whys.BadName
      first base given = let own = seat_on base old in first_then (move_rules key k to old seated whole given) whys.BadName (Own own) own refl whole (inr (not_busy key k to old seated whole, inl (refl, bad)))

  looks_under : (size : ℕ) → IsTarget to → LooksUp to (Some size) before after → new ≡ old → random' ≡ random → SeatAgrees key false line (replies.Refused whys.TargetExists) (Some old) (Some new) before after random random'
  looks_under size good looks same words =
      idle (replies.Refused whys.TargetExists) (LengthWas to (Some size) ∷ []) [] false false same looks.disk looks.asked.asked.told (none_taken_now words) looks.asked.asked.faults (ap (λ (w : WordsState). w.faults) words) there
      (λ base a is calm.
      let own = Own (seat_on base old) in
      let files = reading a.now in
      same_over key files false own line (LengthWas to (Some size) ∷ []) [] (replies.Refused whys.TargetExists) [] own (looked_answers k to (Some size) before after a is looks) (there (stands_on key files) base))
    where
      there : (standing : Standing) (base : Sheet) → SeatTurn standing key false (Own (seat_on base old)) line (seen_by (LengthWas to (Some size) ∷ []) [] false false) (replies.Refused whys.TargetExists) [] (Own (seat_on base old))
      there standing base =
          let own = seat_on base old in
          refused whys.TargetExists (move_found key k to old seated whole size good (Own own) own refl whole) (record { host = refl; random = refl }) refl refl refl refl

  -- the turn of a line that failed
  fault_turn : (standing : Standing) (own : OwnSeat) (these : List Answer) (words : List (List ℕ)) (blame : Blame) (acts : List Act) (left : Seat) → NoneRefuses (rules key false (Own own) line these) → Fails key (seen_by these words (host_blamed blame) false) blame (Own own) line acts left
      → SeatTurn standing key false (Own own) line (seen_by these words (host_blamed blame) false) (flush_reply (fault_of blame)) acts left
  fault_turn standing own these words ByHost acts left none fails = host_failed none (record { host = refl; random = refl }) fails refl
  fault_turn standing own these words (ByDamage damage) acts left none fails = was_damaged damage none (record { host = refl; random = refl }) fails refl

  module _ (aside : AsideBoth old.name to before after) (reads : ReadsAsImage after) where
    abbrev OnBoth : Honest → Honest → Type 0
    OnBoth = Ran (LeavesApartBoth old.name to) (KeepsApartBoth old.name to)

    on_move : (seen : Seen) (reply : Reply) → IsAnswered reply → ((a b : Honest) → before.honest ≡ Some a → after.honest ≡ Some b → OnBoth a b → DealsFreely false line old (Some new) a b)
        → ((a b : Honest) → before.honest ≡ Some a → after.honest ≡ Some b → OnBoth a b → KnownUnder key false line seen reply old whole (Some new) a b) → OnDisk before after (SeatUnder key false line seen reply (Some old) (Some new))
    on_move seen reply answered deals known =
        both_with OnBoth (SeatUnder key false line seen reply (Some old) (Some new)) before.honest after.honest aside (λ a b is is2 ran. own_under key false line seen reply old whole (Some new) a b answered (deals a b is is2 ran) (known a b is is2 ran))

    -- under a book that does not have the name: what was done to the two names
    ends_at : (new.broken ≡ true) ⊎ (new.name ≡ to) → (session : SessionState) → Some new ≡ Some session → session.broken ≡ false → session.name ≡ to
    ends_at (inl broken) session is well = absurd (false_true session.broken (ap (λ (s : SessionState). s.broken) (same_session new session is) ∙ broken) well)
    ends_at (inr named) session is well = ap (λ (s : SessionState). s.name) (same_session new session is) ∙ named

    moves_freely : (start : HostState) → IsFree to before start → (done : Bool) → (new.broken ≡ true) ⊎ (new.name ≡ to) → (a b : Honest) → before.honest ≡ Some a → after.honest ≡ Some b → OnBoth a b → DealsFreely false line old (Some new) a b
    moves_freely start free done ends a b is is2 ran =
        let m = on_to Unchanged before.honest start.honest a is free.looks.disk in
        move_deals k to done old (Some new) a b seated.of_script.is_target free.is_target (ends_at ends) ran (read_image after.honest b is2 reads)
        (sym (ap (λ (d : Disk). d to) m.2.ends) ∙ at_both (λ x y. y.now to ≡ None) before.honest start.honest a m.0 is m.1 free.absent)

    flushes_freely : (start : HostState) → IsFree to before start → Aside old.name start after → new.name ≡ old.name → (a b : Honest) → before.honest ≡ Some a → after.honest ≡ Some b → OnBoth a b → DealsFreely false line old (Some new) a b
    flushes_freely start free alone named a b is is2 ran =
        let m = on_to Unchanged before.honest start.honest a is free.looks.disk in
        aside_deals false line old (Some new) a b may_flush seated.of_script.is_target (λ n has. has ∙ named) false
        (others_then (Apart old.name) a m.0 b (others_kept (Apart old.name) a m.0 m.2) (at_both (Ran (LeavesApart old.name) (KeepsApart old.name)) start.honest after.honest m.0 b m.1 is2 alone)) (read_image after.honest b is2 reads)

    -- over files: from each sheet that the file stands for
    over_move : (seen : Seen) (reply : Reply) → ((a b : Honest) → before.honest ≡ Some a → after.honest ≡ Some b → KnownOver key false line seen reply old whole (Some new) a b) → OnDisk before after (SeatFiles key false line seen reply (Some old) (Some new))
    over_move seen reply known = both_with OnBoth (SeatFiles key false line seen reply (Some old) (Some new)) before.honest after.honest aside (λ a b is is2 ran. own_over key false line seen reply old whole (Some new) a b (known a b is is2))

    -- no node is damaged
    over_blamed : (blame : Blame) (these : List Answer) (words : List (List ℕ)) (reply : Reply) → UndamagedMove (Err (move_of_flush (fault_of blame))) old before
        → OnDisk before after (SeatFiles key false line (seen_by these words (host_blamed blame) false) reply (Some old) (Some new))
    over_blamed blame these words reply undamaged =
        over_move (seen_by these words (host_blamed blame) false) reply
        (λ a b is is2 calm base on.
        absurd (not_calm blame these words old before a is base on.kept (reopens_stands old.key base (reading a.now old.name) (reading a.now (recovery_of old.name)) on.reopens) undamaged calm))

    -- reads before the acts
    did_later : (book : Book) (seats left : List Seal) (acts : List Act) (a m b : Honest) → Unchanged a m → DidAll book seats acts left m b → DidAll book seats acts left a b
    did_later book seats left acts a m b only did = did_on book seats seats left [] acts a m b (only, λ s has. has) did

    -- it was not flushed
    unflushed : (start : HostState) (fault : FlushFault) → IsFree to before start → (fails : FlushFails fault old new start after random random') → FlushEnds (Err fault) old new start after random fails.between → UndamagedMove (Err (move_of_flush fault)) old before
        → SeatBooked key false line (move_reply (Err (move_of_flush fault))) (Some old) (Some new) before after random random'
    unflushed start fault free fails (not_begun words fewer seen same stays said) undamaged = absurd (never_lacks fault fails.sealed fails.keys old new start after fails.goes said)
    unflushed start fault free fails (was_ended these words counted seen swapped seals same dirty said) undamaged = absurd (cc)
    unflushed start fault free fails (not_ended blame these words counted seen blames seals key_is name_is broken said) undamaged =
        let first = fails.drawn.first in
        let second = fails.drawn.second in
        let all = words ++ first ∷ second ∷ [] in
        let given = LengthWas to None ∷ these in
        let fault_is : fault ≡ fault_of blame = cc in
        subst (λ (f : FlushFault). SeatBooked key false line (move_reply (Err (move_of_flush f))) (Some old) (Some new) before after random random') (sym fault_is)
        (subst (λ (r : Result Reply Memory). SeatBooked key false line r (Some old) (Some new) before after random random') (blamed_reply blame)
        (record {
          seen = seen_by given all (host_blamed blame) false;
          was_seen = record {
            answers = told_on (LengthWas to None ∷ []) these before start after free.looks.asked.asked.told seen.told;
            words = taken_then words (first ∷ second ∷ []) random fails.between random' seen.taken fails.drawn.took.told;
            of_host = subst (λ n. CountsFault (host_blamed blame) n after.faults) free.looks.asked.asked.faults seen.on_host;
            of_words = fails.drawn.took.calm ∙ seen.on_words;
          };
          wordless = λ change. absurd change;
          under = on_move (seen_by given all (host_blamed blame) false) (flush_reply (fault_of blame)) (blame_answered blame) (flushes_freely start free fails.aside name_is)
              (λ a b is_a is_b ran book seats agrees base on.
              let m = on_to Unchanged before.honest start.honest a is_a free.looks.disk in
              let next = seals base on.stood.as_sheet.stands.linked on.kept.backed in
              let own = seat_on base old in
              let acts : List Act = flush_act old next.0 false ∷ [] in record {
                acts = acts;
                left = seats_after (Flush (seat_of old.key old.name next.0)) false seats;
                after = Own (broken_seat own);
                did = did_later book seats (seats_after (Flush (seat_of old.key old.name next.0)) false seats) acts a m.0 b m.2
                    (flush_did book seats false old.key old.name base next.0 m.0 b on.entry seated.of_script.is_target (at_both (Ran (LeavesApart old.name) (KeepsApart old.name)) start.honest after.honest m.0 b m.1 is_b fails.aside)
                    (read_image after.honest b is_b reads) on.was on.seated
                    (record { path_is = next.1.next.path_is; sealed = at_both (Where (Stood old.key old.name base) (Ran (AsEither old.key old.name base next.0) (StoodIf false old.key old.name next.0))) start.honest after.honest m.0 b m.1 is_b next.2 }));
                shows = other_file (broken_seat own) new (inl broken) (sym key_is) (sym name_is) (sym broken) refl refl;
                spares = one_spares seats (Flush (seat_of old.key old.name next.0)) false;
                concerned = one_concerned false line old false next.0;
                made = one_is (MadeBy line (Own own)) (flush_act old next.0 false) refl;
                idle = idle_answered (flush_reply (fault_of blame)) (blame_answered blame) acts;
                turn = λ _. fault_turn _ own given all blame acts (Own (broken_seat own)) (move_passes key k to old seated whole free.is_target base these)
                    (not_flushed_to_move k to own words next.0 first second blame (told_absent to these) fails.is_changed next.1 refl (short_more (LengthWas to None ∷ []) these old.name blame blames));
              });
          over = over_blamed blame given all (flush_reply (fault_of blame)) (subst (λ (f : FlushFault). UndamagedMove (Err (move_of_flush f)) old before) fault_is undamaged);
        }))

    -- once the name is free, and what had to be flushed is
    module _ (start between : HostState) (mid : SessionState) (nonce : List ℕ) (free : IsFree to before start) (first : FlushesFirst old mid nonce start between random random') where
      f : FirstIn key old seated whole mid nonce start between random random'
      f = first_in key old seated whole mid nonce start between random random' first

      abbrev all_words : List (List ℕ)
      all_words = f.words ++ f.drawn.first ∷ f.drawn.second ∷ []

      abbrev all_given : List Answer → List Answer
      all_given more = LengthWas to None ∷ (f.these ++ more)

      was_seen : (more : List Answer) (of_host : Bool) → Both between.given after.given (IsMore more) → CountsFault of_host between.faults after.faults → SeenIn (seen_by (all_given more) all_words of_host false) before after random random'
      was_seen more of_host told counts = record {
        answers = told_on (LengthWas to None ∷ []) (f.these ++ more) before start after free.looks.asked.asked.told (told_on f.these more start between after f.told told);
        words = taken_then f.words (f.drawn.first ∷ f.drawn.second ∷ []) random f.words_mid random' f.taken f.drawn.took.told;
        of_host = subst (λ n. CountsFault of_host n after.faults) (f.on_host ∙ free.looks.asked.asked.faults) counts;
        of_words = f.drawn.took.calm ∙ f.on_words;
      }

      -- on files that stand for the base
      module _ (a b : Honest) (is_a : before.honest ≡ Some a) (is_b : after.honest ≡ Some b) (base : Sheet) (reopens : ReopensAs old.key base (reading a.now old.name) (reading a.now (recovery_of old.name))) where
        looked_at : (m : Honest) × (start.honest ≡ Some m) × Unchanged a m
        looked_at = on_to Unchanged before.honest start.honest a is_a free.looks.disk

        -- the old name is there, and the new one is not
        apart : old.name ≢ to
        apart same =
            let m = looked_at in
            never old.key base (reading a.now old.name) (reading a.now (recovery_of old.name))
            (ap (λ (o : Option File). read_of o) (ap a.now same ∙ sym (ap (λ (d : Disk). d to) m.2.ends) ∙ at_both (λ x y. y.now to ≡ None) before.honest start.honest a m.0 is_a m.1 free.absent)) reopens

        absent_at : (t : Honest) → between.honest ≡ Some t → mid.name ≡ old.name → (done : Bool) → Moves done to nonce mid between after → t.now to ≡ None
        absent_at t is_t name_is done moves = at_both (λ x y. x.now to ≡ None) between.honest after.honest t b is_t is_b (moves.absent (λ same. apart (sym name_is ∙ same)))

      -- under a book that knows the name
      module _ (a b : Honest) (is_a : before.honest ≡ Some a) (is_b : after.honest ≡ Some b) (book : Book) (seats : List Seal) (agrees : Agrees book seats a.now) (image : IsImage a.now (reading a.now)) (base : Sheet) (entry : Entry) (was : book old.name ≡ Some entry)
          (there : Contains seats (seat_of old.key old.name base)) (kept : IsKeptOn base old) (stood : Stood old.key old.name base a.now) where
        m : (m : Honest) × (start.honest ≡ Some m) × Unchanged a m
        m = on_to Unchanged before.honest start.honest a is_a free.looks.disk

        agrees_m : Agrees book seats m.0.now
        agrees_m = subst (λ (d : Disk). Agrees book seats d) (sym m.2.ends) agrees

        image_m : IsImage m.0.now (reading m.0.now)
        image_m = subst (λ (d : Disk). IsImage d (reading d)) (sym m.2.ends) image

        stood_m : Stood old.key old.name base m.0.now
        stood_m = subst (λ (d : Disk). Stood old.key old.name base d) (sym m.2.ends) stood

        t : (t : Honest) × (between.honest ≡ Some t) × FirstKnown key old seated whole book seats m.0 agrees_m image_m base entry was there kept stood_m mid f.words t
        t = first_known key old seated whole book seats m.0 agrees_m image_m base entry was there kept stood_m mid f.words start between m.1 f.left

        absent_now : (done : Bool) → Moves done to nonce mid between after → t.0.now to ≡ None
        absent_now done moves = absent_at a b is_a is_b base stood.as_sheet t.0 t.1 t.2.name_is done moves

      -- it was not moved; no node was damaged
      uncarried : (fault : FlushFault) → CarryBlamed fault mid.name between after → Moves false to nonce mid between after → new ≡ record mid { broken = true } → UndamagedMove (Err (move_of_flush fault)) old before
          → SeatBooked key false line (move_reply (Err (move_of_flush fault))) (Some old) (Some new) before after random random'
      uncarried fault by moves same undamaged =
          subst (λ (x : FlushFault). SeatBooked key false line (move_reply (Err (move_of_flush x))) (Some old) (Some new) before after random random') (sym by.fault_is)
          (subst (λ (r : Result Reply Memory). SeatBooked key false line r (Some old) (Some new) before after random random') (blamed_reply by.blame)
          (record {
            seen = seen_by (all_given by.these) all_words (host_blamed by.blame) false;
            was_seen = was_seen by.these (host_blamed by.blame) by.told by.on_host;
            wordless = λ change. absurd change;
            under = on_move (seen_by (all_given by.these) all_words (host_blamed by.blame) false) (flush_reply (fault_of by.blame)) (blame_answered by.blame)
                (moves_freely start free false (inl (ap (λ (s : SessionState). s.broken) same)))
                (λ a b is_a is_b ran book seats agrees base on.
                let own = seat_on base old in
                let m = m a b is_a is_b book seats agrees on.image base on.entry on.was on.seated on.kept on.stood in
                let t = t a b is_a is_b book seats agrees on.image base on.entry on.was on.seated on.kept on.stood in
                let agrees_m = agrees_m a b is_a is_b book seats agrees on.image base on.entry on.was on.seated on.kept on.stood in
                let image_m = image_m a b is_a is_b book seats agrees on.image base on.entry on.was on.seated on.kept on.stood in
                let stood_m = stood_m a b is_a is_b book seats agrees on.image base on.entry on.was on.seated on.kept on.stood in
                let absent = absent_now a b is_a is_b book seats agrees on.image base on.entry on.was on.seated on.kept on.stood false moves in
                let well = read_image after.honest b is_b reads in
                let next = moves.carries.each t.2.base_now t.2.stood_now.as_sheet.stands.linked t.2.rests in
                let acts : List Act = flushes own t.2.sheets ++ record { deed = Move old.name (seat_of old.key to next.next); done = false } ∷ [] in
                let left = seats_after (Move old.name (seat_of old.key to next.next)) false t.2.left in record {
                  acts = acts;
                  left = left;
                  after = Own (broken_seat (seat_on t.2.base_now mid));
                  did = did_later book seats left acts a m.0 b m.2
                      (did_move key old seated whole book seats m.0 agrees_m image_m base on.entry on.was on.seated on.kept stood_m to free.is_target false mid new f.words t.0 b t.2 nonce between after t.1 is_b absent moves.carries well);
                  shows = other_file (broken_seat (seat_on t.2.base_now mid)) new (inl (ap (λ (s : SessionState). s.broken) same)) (sym (ap (λ (s : SessionState). s.key) same)) (sym (ap (λ (s : SessionState). s.name) same))
                      (sym (ap (λ (s : SessionState). s.broken) same)) refl refl;
                  spares = spares_move key old seated whole book seats m.0 agrees_m image_m base on.entry on.was on.seated on.kept stood_m to free.is_target false mid new f.words t.0 b t.2 nonce between after t.1 is_b absent moves.carries well;
                  concerned = λ n among.
                      both_concerned n (only_move key old seated whole book seats m.0 agrees_m image_m base on.entry on.was on.seated on.kept stood_m to free.is_target false mid new f.words t.0 b t.2 nonce between after t.1 is_b absent moves.carries well n among);
                  made = move_made own t.2.sheets (record { deed = Move old.name (seat_of old.key to next.next); done = false }) (refl, refl);
                  idle = idle_answered (flush_reply (fault_of by.blame)) (blame_answered by.blame) acts;
                  turn = λ _. fault_turn _ own (all_given by.these) all_words by.blame acts (Own (broken_seat (seat_on t.2.base_now mid))) (move_passes key k to old seated whole free.is_target base (f.these ++ by.these))
                      (not_moved_line k to own (seat_on t.2.base_now mid) f.words (f.drawn.first ∷ f.drawn.second ∷ []) t.2.sheets next.next by.blame (told_absent to (f.these ++ by.these)) t.2.first
                      (seals_moved false to nonce t.2.base_now mid between after t.2.rests next
                      f.drawn.first f.drawn.second f.drawn.is) refl
                      (short_more (LengthWas to None ∷ []) (f.these ++ by.these) old.name by.blame (short_more f.these by.these old.name by.blame (subst (λ (n : Name). BlamesFlush n by.these by.blame) t.2.name_is by.blames))));
                });
            over = over_blamed by.blame (all_given by.these) all_words (flush_reply (fault_of by.blame)) (subst (λ (f : FlushFault). UndamagedMove (Err (move_of_flush f)) old before) by.fault_is undamaged);
          }))

      -- it was moved
      carried : (more : List Answer) → Both between.given after.given (IsMore more) → after.faults ≡ between.faults → Moves true to nonce mid between after → new ≡ renamed to nonce mid
          → SeatAgrees key false line replies.Moved (Some old) (Some new) before after random random'
      carried more told calm moves same = record {
        seen = seen_by (all_given more) all_words false false;
        was_seen = was_seen more false told calm;
        wordless = λ change. absurd change;
        under = on_move (seen_by (all_given more) all_words false false) replies.Moved tt (moves_freely start free true (inr (ap (λ (s : SessionState). s.name) same)))
            (λ a b is_a is_b ran book seats agrees base on.
            let own = seat_on base old in
            let m = m a b is_a is_b book seats agrees on.image base on.entry on.was on.seated on.kept on.stood in
            let t = t a b is_a is_b book seats agrees on.image base on.entry on.was on.seated on.kept on.stood in
            let agrees_m = agrees_m a b is_a is_b book seats agrees on.image base on.entry on.was on.seated on.kept on.stood in
            let image_m = image_m a b is_a is_b book seats agrees on.image base on.entry on.was on.seated on.kept on.stood in
            let stood_m = stood_m a b is_a is_b book seats agrees on.image base on.entry on.was on.seated on.kept on.stood in
            let absent = absent_now a b is_a is_b book seats agrees on.image base on.entry on.was on.seated on.kept on.stood true moves in
            let well = read_image after.honest b is_b reads in
            let next = moves.carries.each t.2.base_now t.2.stood_now.as_sheet.stands.linked t.2.rests in
            let deed = Move old.name (seat_of old.key to next.next) in
            let acts : List Act = flushes own t.2.sheets ++ record { deed = deed; done = true } ∷ [] in
            let left = seats_after deed true t.2.left in
            let then = Own (renamed_own (seat_on t.2.base_now mid) to next.next) in
            let did : DidAll book seats acts left a b =
            did_later book seats left acts a m.0 b m.2
            (did_move key old seated whole book seats m.0 agrees_m image_m base on.entry on.was on.seated on.kept stood_m to free.is_target true mid new f.words t.0 b t.2 nonce between after t.1 is_b absent moves.carries well) in record {
              acts = acts;
              left = left;
              after = then;
              did = did;
              shows = of_book next.next new (ap (λ (s : SessionState). s.broken) same ∙ t.2.whole_mid)
                  (left_seat deed t.2.left new (ap (λ (s : SessionState). s.key) same ∙ t.2.key_is) (ap (λ (s : SessionState). s.name) same))
                  (moved_kept true to nonce t.2.base_now mid between after t.2.rests next new same)
                  (ap Own (renamed_seat true to nonce t.2.base_now mid between after t.2.rests next new same)) refl;
              spares = spares_move key old seated whole book seats m.0 agrees_m image_m base on.entry on.was on.seated on.kept stood_m to free.is_target true mid new f.words t.0 b t.2 nonce between after t.1 is_b absent moves.carries well;
              concerned = λ n among.
                  both_concerned n (only_move key old seated whole book seats m.0 agrees_m image_m base on.entry on.was on.seated on.kept stood_m to free.is_target true mid new f.words t.0 b t.2 nonce between after t.1 is_b absent moves.carries well n among);
              made = move_made own t.2.sheets (record { deed = deed; done = true }) (refl, refl);
              idle = tt;
              turn = λ _.
                  accepted (move_passes key k to old seated whole free.is_target base (f.these ++ more)) (record { host = refl; random = refl })
                  (moved_line k to own (seat_on t.2.base_now mid) f.words (f.drawn.first ∷ f.drawn.second ∷ []) t.2.sheets next.next (told_absent to (f.these ++ more)) t.2.first
                  (seals_moved true to nonce t.2.base_now mid between after t.2.rests next f.drawn.first f.drawn.second f.drawn.is) refl);
            });
        over = over_move (seen_by (all_given more) all_words false false) replies.Moved
            (λ a b is_a is_b calm_seen base on.
            let own = seat_on base old in
            let m = looked_at a b is_a is_b base on.reopens in
            let reopens_m = subst (λ (d : Disk). ReopensAs old.key base (reading d old.name) (reading d (recovery_of old.name))) (sym m.2.ends) on.reopens in
            let t = first_over key old seated whole base on.kept mid f.words start between m.0 m.1 reopens_m f.left in
            let absent = absent_at a b is_a is_b base on.reopens t.0 t.1 t.2.name_is true moves in
            let next = moves.carries.each t.2.base_now t.2.reopens.stands.linked t.2.rests in
            let acts : List Act = flushes own t.2.sheets ++ record { deed = Move old.name (seat_of old.key to next.next); done = true } ∷ [] in
            let then = Own (renamed_own (seat_on t.2.base_now mid) to next.next) in record {
              acts = acts;
              after = then;
              over = record {
                turn = same_over key (reading a.now) false (Own own) line (LengthWas to None ∷ []) all_words replies.Moved acts then (looked_answers k to None before start a is_a free.looks)
                    (accepted (move_passes key k to old seated whole free.is_target base []) (record { host = refl; random = refl })
                    (moved_line k to own (seat_on t.2.base_now mid) f.words (f.drawn.first ∷ f.drawn.second ∷ []) t.2.sheets next.next (told_absent to []) t.2.first
                    (seals_moved true to nonce t.2.base_now mid between after t.2.rests next f.drawn.first f.drawn.second f.drawn.is) refl));
                files = files_from acts (reading a.now) (reading m.0.now) (reading b.now) (same_files a m.0 m.2)
                    (moved_files key old seated whole base on.kept to mid new f.words m.0 t.0 b t.2 nonce between after t.1 is_b absent moves.carries same);
              };
              shows = moved_shows key old seated whole base on.kept to mid new f.words m.0 t.0 b t.2 nonce between after t.1 is_b absent moves.carries same;
            });
      }

    by_case : (result : Result (Unit {0}) MoveFault) → UndamagedMove result old before → MoveGoes result to old new before after random random' → SeatBooked key false line (move_reply result) (Some old) (Some new) before after random random'
    by_case result undamaged (misnamed bad same stays words said) = subst (λ (r : Result (Unit {0}) MoveFault). SeatBooked key false line (move_reply r) (Some old) (Some new) before after random random') (sym said) (misnamed_under bad same stays words)
    by_case result undamaged (no_memory good same stays words said) = subst (λ (r : Result (Unit {0}) MoveFault). SeatBooked key false line (move_reply r) (Some old) (Some new) before after random random') (sym said) tt
    by_case result undamaged (look_up_failed good fails same words said) =
        subst (λ (r : Result (Unit {0}) MoveFault). SeatBooked key false line (move_reply r) (Some old) (Some new) before after random random') (sym said)
        (idle replies.HostFault [] [] true false same fails.disk fails.asked.asked.told (none_taken_now words) fails.asked.asked.faults (ap (λ (w : WordsState). w.faults) words)
        (λ standing base. host_failed (move_unasked key k to old seated whole good base) (record { host = refl; random = refl }) (not_looked_up k to (seat_on base old) refl refl) refl) (λ base a is calm. absurd (false_true true refl calm.host)))
    by_case result undamaged (was_there size good looks same words said) = subst (λ (r : Result (Unit {0}) MoveFault). SeatBooked key false line (move_reply r) (Some old) (Some new) before after random random') (sym said) (looks_under size good looks same words)
    by_case result undamaged (no_words free fewer same said) =
        subst (λ (r : Result (Unit {0}) MoveFault). SeatBooked key false line (move_reply r) (Some old) (Some new) before after random random') (sym said)
        (idle replies.WordsFault (LengthWas to None ∷ []) fewer.words false true same free.looks.disk free.looks.asked.asked.told fewer.told free.looks.asked.asked.faults fewer.once
        (λ standing base. words_failed (move_passes key k to old seated whole free.is_target base []) (record { host = refl; random = refl }) (no_move k to (seat_on base old) (told_absent to []) (too_few_to_move base old fewer.words fewer.fewer)) refl) (λ base a is calm. absurd (false_true true refl calm.random)))
    by_case result undamaged (not_flushed start fault free fails said) =
        subst (λ (r : Result (Unit {0}) MoveFault). SeatBooked key false line (move_reply r) (Some old) (Some new) before after random random') (sym said)
        (unflushed start fault free fails (seal_ends old seated.of_script new start after random fails.between (Err fault) fails.sealed fails.keys fails.came fails.goes) (subst (λ (r : Result (Unit {0}) MoveFault). UndamagedMove r old before) said undamaged))
    by_case result undamaged (not_moved start between mid nonce fault free first carry moves same said) =
        subst (λ (r : Result (Unit {0}) MoveFault). SeatBooked key false line (move_reply r) (Some old) (Some new) before after random random') (sym said)
        (uncarried start between mid nonce free first fault (carry_blamed fault to nonce mid between after carry) moves same (subst (λ (r : Result (Unit {0}) MoveFault). UndamagedMove r old before) said undamaged))
    by_case result undamaged (moved start between mid nonce free first carry moves same said) =
        subst (λ (r : Result (Unit {0}) MoveFault). SeatBooked key false line (move_reply r) (Some old) (Some new) before after random random') (sym said)
        (carried start between mid nonce free first _ carry.asked.told carry.asked.faults moves same)

pub move_under : (key : List ℕ) (k : ℕ) (to : Name) (old new : SessionState) (result : Result (Unit {0}) MoveFault) (before after : HostState) (random random' : WordsState) → IsSeated key old → old.broken ≡ false
    → MoveGoes result to old new before after random random' → AsideBoth old.name to before after → UndamagedMove result old before → ReadsAsImage after → SeatBooked key false (lines.Move k to) (move_reply result) (Some old) (Some new) before after random random'
move_under key k to old new result before after random random' seated whole goes aside undamaged reads =
    by_case key k to old seated whole new before after random random' aside reads result undamaged goes
