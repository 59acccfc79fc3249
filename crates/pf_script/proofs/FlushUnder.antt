-- The line `flush` under a book and over files, from the contract of a flush.
use Rattle.std.proofs.Common.{◌≡◌, inl, Bool, true, false, List, [], ◌∷◌, ℕ, refl, sym, ◌∙◌, ap, subst, Option, Some, Result, Err}
use Rattle.node_tree.specs.Sheet.{Sheet, Stands}
use Rattle.pf_io.specs.Disk.{reading}
use Rattle.pf_io.specs.Host.{Answer, HostState, OnDisk, ReadsAsImage, contents}
use Rattle.pf_io.specs.Moments.{Honest, Ran, Ends, Where}
use Rattle.pf_io.specs.Names.{recovery_of}
use Rattle.pf_io.specs.Words.{WordsState}
use Rattle.pf_session.specs.Aside.{Aside, LeavesApart, KeepsApart}
use Rattle.pf_session.specs.Backing.{IsBacked}
use Rattle.pf_session.specs.Flushing.{FlushGoes, UndamagedFlush, IsUndamaged}
use Rattle.pf_session.specs.Reopening.{AsEither, ReopensAs, Stood, ReadsAs, HasSheet}
use Rattle.pf_session.specs.Sealing.{StoodIf, StandsNext}
use Rattle.pf_session.specs.State.{SessionState, file_of}
use Rattle.pf_session.specs.declared.fault.FlushFault.{FlushFault}
use Rattle.pf_script.specs.BookActs.{Flush}
use Rattle.pf_script.specs.BookDebts.{DidAll, seat_of}
use Rattle.pf_script.specs.BookSeats.{IsOfScript, Covers, KeepsUnder}
use Rattle.pf_script.specs.BookTurns.{ShowsUnder, of_book, other_file, SeatUnder, SeatAgrees, SeenIn, MadeBy}
use Rattle.pf_script.specs.FileTurns.{stands_on, FilesAfter, ShowsOver, SeatFiles}
use Rattle.pf_script.specs.Desk.{IsSeated, seat_on}
use Rattle.pf_script.specs.Script.{OwnSeat, Own}
use Rattle.pf_script.specs.SeatReplies.{flush_reply}
use Rattle.pf_script.specs.SeatSteps.{Seals as SealsOwn, resealed, broken_seat}
use Rattle.pf_script.specs.Turns.{Seen, Standing, SeatTurn, Blame, ByHost, ByDamage, accepted, host_failed, was_damaged, words_failed, not_sealed, of_flush, no_flush, flushed as flushed_line, BlamesFlush}
use Rattle.pf_script.specs.declared.line.ScriptLine.{ScriptLine}
use Rattle.pf_script.specs.declared.line.ScriptLine.TheVariants as lines
use Rattle.pf_script.specs.declared.reply.Reply.{Reply}
use Rattle.pf_script.specs.declared.reply.Reply.TheVariants as replies
use Rattle.pf_script.proofs.ActKeeping.{one_spares}
use Rattle.pf_script.proofs.CallKeeping.{at_both, read_image, same_disk, flush_keeps}
use Rattle.pf_script.proofs.FlushLine.{flush_result, flush_act, resealed_own}
use Rattle.pf_script.proofs.Flushed.{SeenOf, FlushEnds, not_begun, not_ended, was_ended, flush_ends, host_blamed, fault_of}
use Rattle.pf_script.proofs.MadeActs.{none_is, one_is}
use Rattle.pf_script.proofs.OverFiles.{reopens_reads, has_reopens, left_flush, files_one, shows_whole, file_stands, over_on_disk}
use Rattle.pf_script.proofs.OverGiven.{on_reading}
use Rattle.pf_script.proofs.Refusing.{none_then}
use Rattle.pf_script.proofs.SeatCalls.{seen_by, false_true}
use Rattle.pf_script.proofs.Seats.{seats_after}
use Rattle.pf_script.proofs.Under.{IsAnswered, blame_answered, idle_answered, KnownUnder, on_disk, none_concerned, one_concerned, flush_did, left_seat}

-- what was seen, whether the host tells it or not
pub seen_in : (these : List Answer) (words : List (List ℕ)) (of_host of_words : Bool) (before after : HostState) (random random' : WordsState) → SeenOf these words of_host of_words before after random random' → SeenIn (seen_by these words of_host of_words) before after random random'
seen_in these words of_host of_words before after random random' seen = record { answers = seen.told; words = seen.taken; of_host = seen.on_host; of_words = seen.on_words }

-- a flush of a file that stands meets no damage: one that failed is counted as a fault of the host
pub flush_counts : (old : SessionState) (blame : Blame) (result : Result (Unit {0}) FlushFault) (before : HostState) (a : Honest) → before.honest ≡ Some a → UndamagedFlush result old before → result ≡ Err (fault_of blame) → (base : Sheet) → IsBacked base old
    → Stands (contents (reading a.now (file_of old))) old.key base → host_blamed blame ≡ true
flush_counts old ByHost result before a is undamaged said base backed stands = refl
flush_counts old (ByDamage damage) result before a is undamaged said base backed stands =
    absurd
    (on_reading (λ files. (sheet : Sheet) → IsBacked sheet old → Stands (contents (files (file_of old))) old.key sheet → IsUndamaged (Err (fault_of (ByDamage damage)))) before.honest a is
    (subst (λ (r : Result (Unit {0}) FlushFault). UndamagedFlush r old before) said undamaged) base backed stands)

-- over files
pub failed_over : (key : List ℕ) (line : ScriptLine) (these : List Answer) (words : List (List ℕ)) (blame : Blame) (reply : Reply) (old : SessionState) (mine : IsOfScript old) (whole : old.broken ≡ false) (new : Option SessionState) (result : Result (Unit {0}) FlushFault) (before after : HostState)
    → UndamagedFlush result old before → result ≡ Err (fault_of blame) → Aside old.name before after → OnDisk before after (SeatFiles key false line (seen_by these words (host_blamed blame) false) reply (Some old) new)
failed_over key line these words blame reply old mine whole new result before after undamaged said aside =
    let seen = seen_by these words (host_blamed blame) false in
    over_on_disk (Ran (LeavesApart old.name) (KeepsApart old.name)) key false line seen reply old whole new before after aside
    (λ a b is is2 ran calm base on. absurd (false_true (host_blamed blame) (flush_counts old blame result before a is undamaged said base on.kept.backed (file_stands key false line seen reply old whole new a b mine base on)) calm.host))

pub lacked_over : (key : List ℕ) (line : ScriptLine) (words : List (List ℕ)) (reply : Reply) (old : SessionState) (whole : old.broken ≡ false) (new : Option SessionState) (before after : HostState) → Aside old.name before after
    → OnDisk before after (SeatFiles key false line (seen_by [] words false true) reply (Some old) new)
lacked_over key line words reply old whole new before after aside =
    over_on_disk (Ran (LeavesApart old.name) (KeepsApart old.name)) key false line (seen_by [] words false true) reply old whole new before after aside (λ a b is is2 ran calm base on. absurd (false_true true refl calm.random))

-- what a flush that was done leaves of files
pub record FlushLeft (old : SessionState) (next : Sheet) (a b : Honest) : Type 0 where
  pub reopens : ReopensAs old.key next (reading b.now old.name) (reading b.now (recovery_of old.name))
  pub files : FilesAfter (flush_act old next true ∷ []) (reading a.now) (reading b.now)

pub flush_left : (old : SessionState) (base next : Sheet) (before after : HostState) (a b : Honest) → before.honest ≡ Some a → after.honest ≡ Some b → StandsNext old.key old.name base next before after → Ran (LeavesApart old.name) (KeepsApart old.name) a b
    → ReopensAs old.key base (reading a.now old.name) (reading a.now (recovery_of old.name)) → FlushLeft old next a b
flush_left old base next before after a b is is2 stands ran was =
    let has : HasSheet old.key old.name next b.now =
    at_both (Where (ReadsAs old.key old.name base) (Ends (λ _. HasSheet old.key old.name next))) before.honest after.honest a b is is2 stands (reopens_reads old.key old.name base a.now was) in
    let reopens = has_reopens old.key old.name next b.now has in
    record { reopens = reopens; files = files_one (flush_act old next true) (reading a.now) (reading b.now) refl (left_flush old.key old.name next a b reopens ran) }

-- a turn of a flush that failed after its words
failed_turn : (standing : Standing) (key : List ℕ) (k : ℕ) (own : OwnSeat) (next : Sheet) (these : List Answer) (words : List (List ℕ)) (blame : Blame) → own.broken ≡ false → SealsOwn own words next → BlamesFlush own.name these blame
    → SeatTurn standing key false (Own own) (lines.Flush k) (seen_by these words (host_blamed blame) false) (flush_reply (fault_of blame)) (record { deed = Flush (seat_of own.key own.name next); done = false } ∷ []) (Own (broken_seat own))
failed_turn standing key k own next these words ByHost whole seals blames = host_failed (none_then [] (Own own) own refl whole tt) (record { host = refl; random = refl }) (not_sealed own (lines.Flush k) next ByHost (Own (broken_seat own)) seals blames (of_flush k)) refl
failed_turn standing key k own next these words (ByDamage damage) whole seals blames =
    was_damaged damage (none_then [] (Own own) own refl whole tt) (record { host = refl; random = refl }) (not_sealed own (lines.Flush k) next (ByDamage damage) (Own (broken_seat own)) seals blames (of_flush k)) refl

module _ (key : List ℕ) (k : ℕ) (old : SessionState) (seated : IsSeated key old) (whole : old.broken ≡ false) (new : SessionState) (before after : HostState) (random random' : WordsState)
    (keeps : OnDisk before after (KeepsUnder (Covers old) (Covers new) (λ name. name ≡ old.name))) (aside : Aside old.name before after) (reads : ReadsAsImage after) where
  abbrev line_under : (seen : Seen) (reply : Reply) → IsAnswered reply → new.name ≡ old.name → ((a b : Honest) → before.honest ≡ Some a → after.honest ≡ Some b → Ran (LeavesApart old.name) (KeepsApart old.name) a b → KnownUnder key false (lines.Flush k) seen reply old whole (Some new) a b)
      → OnDisk before after (SeatUnder key false (lines.Flush k) seen reply (Some old) (Some new))
  line_under seen reply answered named known = on_disk key false (lines.Flush k) seen reply old whole (Some new) before after answered (λ seat deed is. is) seated.of_script.is_target (λ n has. has ∙ named) keeps aside known

  by_end : (result : Result (Unit {0}) FlushFault) → UndamagedFlush result old before → FlushEnds result old new before after random random' → SeatAgrees key false (lines.Flush k) (flush_result result) (Some old) (Some new) before after random random'
  by_end result undamaged (not_begun words fewer seen same stays said) =
      subst (λ (r : Result (Unit {0}) FlushFault). SeatAgrees key false (lines.Flush k) (flush_result r) (Some old) (Some new) before after random random') (sym said)
      (record {
        seen = seen_by [] words false true;
        was_seen = seen_in [] words false true before after random random' seen;
        wordless = λ change. absurd change;
        under = line_under (seen_by [] words false true) replies.WordsFault tt (ap (λ (s : SessionState). s.name) same)
            (λ a b is is2 ran book seats agrees base on. record {
              acts = [];
              left = seats;
              after = Own (seat_on base old);
              did = (same_disk before after a b is is2 stays, λ s has. has);
              shows = subst (λ (s : SessionState). ShowsUnder book seats (Own (seat_on base old)) (Some s)) (sym same) (of_book base old whole on.seated on.kept refl refl);
              spares = λ s has apart. has;
              concerned = none_concerned false (lines.Flush k) (Some old);
              made = none_is (MadeBy (lines.Flush k) (Own (seat_on base old)));
              turn = λ _. words_failed (none_then [] (Own (seat_on base old)) (seat_on base old) refl whole tt) (record { host = refl; random = refl }) (no_flush k (seat_on base old) fewer) refl;
              idle = tt;
            });
        over = lacked_over key (lines.Flush k) words replies.WordsFault old whole (Some new) before after aside;
      })
  by_end result undamaged (not_ended blame these words counted seen blames seals key_is name_is broken said) =
      subst (λ (r : Result (Unit {0}) FlushFault). SeatAgrees key false (lines.Flush k) (flush_result r) (Some old) (Some new) before after random random') (sym said)
      (record {
        seen = seen_by these words (host_blamed blame) false;
        was_seen = seen_in these words (host_blamed blame) false before after random random' seen;
        wordless = λ change. absurd change;
        under = line_under (seen_by these words (host_blamed blame) false) (flush_reply (fault_of blame)) (blame_answered blame) name_is
            (λ a b is is2 ran book seats agrees base on.
            let next = seals base on.stood.as_sheet.stands.linked on.kept.backed in record {
              acts = flush_act old next.0 false ∷ [];
              left = seats_after (Flush (seat_of old.key old.name next.0)) false seats;
              after = Own (broken_seat (seat_on base old));
              did = flush_did book seats false old.key old.name base next.0 a b on.entry seated.of_script.is_target ran (read_image after.honest b is2 reads) on.was on.seated
                  (record { path_is = next.1.next.path_is; sealed = at_both (Where (Stood old.key old.name base) (Ran (AsEither old.key old.name base next.0) (StoodIf false old.key old.name next.0))) before.honest after.honest a b is is2 next.2 });
              shows = other_file (broken_seat (seat_on base old)) new (inl broken) (sym key_is) (sym name_is) (sym broken) refl refl;
              spares = one_spares seats (Flush (seat_of old.key old.name next.0)) false;
              concerned = one_concerned false (lines.Flush k) old false next.0;
              made = one_is (MadeBy (lines.Flush k) (Own (seat_on base old))) (flush_act old next.0 false) refl;
              turn = λ _. failed_turn (stands_on key (reading a.now)) key k (seat_on base old) next.0 these words blame whole next.1 blames;
              idle = idle_answered (flush_reply (fault_of blame)) (blame_answered blame) (flush_act old next.0 false ∷ []);
            });
        over = failed_over key (lines.Flush k) these words blame (flush_reply (fault_of blame)) old seated.of_script whole (Some new) result before after undamaged said aside;
      })
  by_end result undamaged (was_ended these words counted seen swapped seals same dirty said) =
      subst (λ (r : Result (Unit {0}) FlushFault). SeatAgrees key false (lines.Flush k) (flush_result r) (Some old) (Some new) before after random random') (sym said)
      (record {
        seen = seen_by these words false false;
        was_seen = seen_in these words false false before after random random' seen;
        wordless = λ change. absurd change;
        under = line_under (seen_by these words false false) replies.Flushed tt (ap (λ (s : SessionState). s.name) same)
            (λ a b is is2 ran book seats agrees base on.
            let next = seals base on.stood.as_sheet.stands.linked on.kept.backed in
            let own = seat_on base old in
            let left = seats_after (Flush (seat_of old.key old.name next.0)) true seats in
            let did : DidAll book seats (flush_act old next.0 true ∷ []) left a b =
            flush_did book seats true old.key old.name base next.0 a b on.entry seated.of_script.is_target ran (read_image after.honest b is2 reads) on.was on.seated
            (record { path_is = next.1.next.path_is; sealed = at_both (Where (Stood old.key old.name base) (Ran (AsEither old.key old.name base next.0) (StoodIf true old.key old.name next.0))) before.honest after.honest a b is is2 next.2.1 }) in
            record {
              acts = flush_act old next.0 true ∷ [];
              left = left;
              after = Own (resealed own next.0);
              did = did;
              shows = of_book next.0 new (ap (λ (s : SessionState). s.broken) same ∙ whole)
                  (left_seat (Flush (seat_of old.key old.name next.0)) seats new (ap (λ (s : SessionState). s.key) same) (ap (λ (s : SessionState). s.name) same))
                  (record { backed = next.2.0.backed; rests = λ _. record { stands = next.2.0; clean = dirty } }) (ap Own (resealed_own base old new words next.0 next.1 next.2.0 same dirty)) refl;
              spares = one_spares seats (Flush (seat_of old.key old.name next.0)) true;
              concerned = one_concerned false (lines.Flush k) old true next.0;
              made = one_is (MadeBy (lines.Flush k) (Own own)) (flush_act old next.0 true) refl;
              turn = λ _. accepted (none_then [] (Own own) own refl whole tt) (record { host = refl; random = refl }) (flushed_line k own next.0 next.1);
              idle = tt;
            });
        over = over_on_disk (Ran (LeavesApart old.name) (KeepsApart old.name)) key false (lines.Flush k) (seen_by these words false false) replies.Flushed old whole (Some new) before after aside
            (λ a b is is2 ran calm base on.
            let next = seals base on.reopens.stands.linked on.kept.backed in
            let own = seat_on base old in
            let left = flush_left old base next.0 before after a b is is2 next.2.2 ran on.reopens in record {
              acts = flush_act old next.0 true ∷ [];
              after = Own (resealed own next.0);
              over = record { turn = accepted (none_then [] (Own own) own refl whole tt) (record { host = refl; random = refl }) (flushed_line k own next.0 next.1); files = left.files };
              shows = subst (λ (x : OwnSeat). ShowsOver (reading b.now) (Own x) (Some new)) (sym (resealed_own base old new words next.0 next.1 next.2.0 same dirty))
                  (shows_whole (reading b.now) next.0 new old.key old.name (ap (λ (s : SessionState). s.key) same) (ap (λ (s : SessionState). s.name) same) (ap (λ (s : SessionState). s.broken) same ∙ whole) next.1.next.path_is left.reopens
                  (record { backed = next.2.0.backed; rests = λ _. record { stands = next.2.0; clean = dirty } }));
            });
      })

pub flush_under : (key : List ℕ) (k : ℕ) (old new : SessionState) (result : Result (Unit {0}) FlushFault) (before after : HostState) (random random' : WordsState) → IsSeated key old → old.broken ≡ false
    → FlushGoes result old new before after random random' → UndamagedFlush result old before → Aside old.name before after → ReadsAsImage after → SeatAgrees key false (lines.Flush k) (flush_result result) (Some old) (Some new) before after random random'
flush_under key k old new result before after random random' seated whole goes undamaged aside reads =
    by_end key k old seated whole new before after random random' (flush_keeps old seated.of_script result new before after random random' whole goes aside reads) aside reads result undamaged
    (flush_ends old seated.of_script new before after random random' result goes)
