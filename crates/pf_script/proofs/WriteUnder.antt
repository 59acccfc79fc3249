-- The lines `write` and `fill` under a book, from the contract of a write.
use Rattle.std.proofs.Common.{◌≡◌, ◌≢◌, Bool, true, false, List, [], ◌∷◌, ℕ, refl, sym, subst, Some, Result, Ok, Err, length}
use Rattle.node_tree.specs.Applying.{Write}
use Rattle.node_tree.specs.Backing.{now}
use Rattle.node_tree.specs.Sheet.{Sheet}
use Rattle.pf_io.specs.Disk.{reading}
use Rattle.pf_io.specs.Host.{Answer, HostState, OnDisk, ReadsAsImage}
use Rattle.pf_io.specs.Words.{WordsState}
use Rattle.pf_io.specs.declared.faults.Memory.{Memory}
use Rattle.pf_io.proofs.Telling.{both_same, told_none}
use Rattle.pf_session.specs.Aside.{Aside}
use Rattle.pf_session.specs.Changing.{refused, unchanged, changed, not_flushed, flushed_and_changed, WriteGoes, WriteRefused, stepped}
use Rattle.pf_session.specs.Faults.{write_of_flush, write_of_tree}
use Rattle.pf_session.specs.State.{SessionState}
use Rattle.pf_session.specs.declared.fault.Written.{Written}
use Rattle.pf_session.specs.declared.fault.WriteFault.{WriteFault}
use Rattle.pf_script.specs.BookDebts.{Unchanged}
use Rattle.pf_script.specs.BookSeats.{Covers, KeepsUnder}
use Rattle.pf_script.specs.BookTurns.{SeatUnder, SeatBooked}
use Rattle.pf_script.specs.Desk.{IsSeated, seat_on}
use Rattle.pf_script.specs.FileTurns.{stands_on, answers_of, SeatFiles}
use Rattle.pf_script.specs.Rules.{writing_rules}
use Rattle.pf_script.specs.Script.{Own}
use Rattle.pf_script.specs.SeatReplies.{write_reply}
use Rattle.pf_script.specs.SeatSteps.{nothing, at_place, none_left}
use Rattle.pf_script.specs.Turns.{Standing, SeatTurn, IsChangeReply, accepted, changed as changes, refused as refuses}
use Rattle.pf_script.specs.declared.line.ScriptLine.{ScriptLine}
use Rattle.pf_script.specs.declared.reply.Reply.{Reply}
use Rattle.pf_script.specs.declared.reply.Reply.TheVariants as replies
use Rattle.pf_script.proofs.ActKeeping.{unchanged_now}
use Rattle.pf_script.proofs.ChangeKeeping.{change_keeps}
use Rattle.pf_script.proofs.ChangeLeft.{ChangeIn, in_once, in_unflushed, in_after}
use Rattle.pf_script.proofs.ChangeLine.{outcome_reply}
use Rattle.pf_script.proofs.ChangeTold.{Outcome, outcome_of, flush_outcome, Grew}
use Rattle.pf_script.proofs.Flushed.{flush_ends, length_now}
use Rattle.pf_script.proofs.LineUnder.{line_under}
use Rattle.pf_script.proofs.MadeActs.{MayFlush}
use Rattle.pf_script.proofs.OfScript.{of_flushed, change_names}
use Rattle.pf_script.proofs.Refusing.{idle_seen, none_taken, first_then}
use Rattle.pf_script.proofs.OverFiles.{own_over, still_over}
use Rattle.pf_script.proofs.SeatCalls.{seen_by}
use Rattle.pf_script.proofs.Under.{own_idle}
use Rattle.pf_script.proofs.WriteLine.{IsWriteLine, plain, copies, write_asks, write_first, write_replies, written, stepped_reply, unflushed_reply, why_refused, passes}

-- nothing was done, on a seat whose content is known
pub idle_booked : (key : List ℕ) (line : ScriptLine) (reply : Reply) (old : SessionState) → old.broken ≡ false → (host : HostState) (words : WordsState)
    → ((standing : Standing) (base : Sheet) (given : List Answer) → SeatTurn standing key false (Own (seat_on base old)) line (seen_by given [] false false) reply [] (Own (seat_on base old))) → SeatBooked key false line (Ok reply) (Some old) (Some old) host host words words
idle_booked key line reply old whole host words turn = record {
  seen = idle_seen;
  was_seen = record { answers = told_none host host refl; words = none_taken words; of_host = refl; of_words = refl };
  wordless = λ change undrawn none. both_same Unchanged host.honest host.honest refl (λ a. unchanged_now a);
  under = both_same (SeatUnder key false line idle_seen reply (Some old) (Some old)) host.honest host.honest refl
      (λ a. own_idle key false line idle_seen reply old whole (Some old) refl a a (unchanged_now a) (λ base. turn (stands_on key (reading a.now)) base []));
  over = both_same (SeatFiles key false line idle_seen reply (Some old) (Some old)) host.honest host.honest refl
      (λ a. own_over key false line idle_seen reply old whole (Some old) a a
      (λ calm base on. still_over key false line idle_seen reply old old a a (unchanged_now a) base whole on refl refl whole on.kept (turn (stands_on key (reading a.now)) base (answers_of (reading a.now) line))));
}

-- as the call says
pub as_it_was : (key : List ℕ) (line : ScriptLine) (result : Result Reply Memory) (old new : SessionState) (before after : HostState) (random random' : WordsState) → new ≡ old → after ≡ before → random' ≡ random
    → SeatBooked key false line result (Some old) (Some old) before before random random → SeatBooked key false line result (Some old) (Some new) before after random random'
as_it_was key line result old new before after random random' same stays words booked =
    subst (λ (s : SessionState). SeatBooked key false line result (Some old) (Some s) before after random random') (sym same)
    (subst (λ (h : HostState). SeatBooked key false line result (Some old) (Some old) before h random random') (sym stays)
    (subst (λ (w : WordsState). SeatBooked key false line result (Some old) (Some old) before before random w) (sym words) booked))

-- the line may flush its seat
write_flushes : (at : ℕ) (bytes : List ℕ) (line : ScriptLine) (count : ℕ) → IsWriteLine at bytes line count → MayFlush line
write_flushes at bytes _ _ (plain k) seat deed is = is
write_flushes at bytes _ _ (copies k count byte same) seat deed is = is

module _ (key : List ℕ) (at : ℕ) (bytes : List ℕ) (line : ScriptLine) (count : ℕ) (is_line : IsWriteLine at bytes line count) (old : SessionState) (seated : IsSeated key old) (whole : old.broken ≡ false) where
  refused_under : (fault : WriteFault) (host : HostState) (words : WordsState) → WriteRefused at (length bytes) old.tree.size fault → SeatBooked key false line (write_reply count (Err fault)) (Some old) (Some old) host host words words
  refused_under fault host words why =
      let by = why_refused key at bytes line count is_line old seated whole fault why in
      subst (λ (r : Result Reply Memory). SeatBooked key false line r (Some old) (Some old) host host words words) (sym by.reply_is)
      (idle_booked key line (replies.Refused by.why) old whole host words
      (λ standing base given.
      refuses by.why
      (write_first at bytes line count is_line key (Own (seat_on base old)) given by.why (first_then (writing_rules (Own (seat_on base old)) at count) by.why (Own (seat_on base old)) (seat_on base old) refl whole (by.first (seat_on base old) (length_now base old.tree))))
      (record { host = refl; random = refl }) refl refl refl refl))

  module _ (free : (fault : WriteFault) → ¬ (WriteRefused at (length bytes) old.tree.size fault)) where
    empty_under : bytes ≡ [] → (host : HostState) (words : WordsState) → SeatBooked key false line (Ok (replies.Written count false)) (Some old) (Some old) host host words words
    empty_under none host words =
        idle_booked key line (replies.Written count false) old whole host words
        (λ standing base given.
        let own = seat_on base old in
        accepted (passes key at bytes line count is_line old seated whole free base given) (record { host = refl; random = refl })
        (changes own own line (replies.Written count false) [] [] (write_asks at bytes line count is_line (length (now base old.tree)) [] (nothing none refl)) (none_left own) (write_replies at bytes line count is_line [])))

    some_under : bytes ≢ [] → (new : SessionState) → new.name ≡ old.name → (before after : HostState) (random random' : WordsState) → OnDisk before after (KeepsUnder (Covers old) (Covers new) (λ name. name ≡ old.name)) → Aside old.name before after → ReadsAsImage after
        → (outcome : Outcome) → ChangeIn (Write at bytes) old new outcome before after random random' → SeatBooked key false line (outcome_reply (written count) outcome) (Some old) (Some new) before after random random'
    some_under some new named before after random random' keeps aside reads =
        line_under key line (write_flushes at bytes line count is_line) old new seated whole named before after random random' keeps aside reads (Write at bytes) (written count) (λ size. write_asks at bytes line count is_line size (Write at bytes ∷ []) (at_place some refl)) replied
        (passes key at bytes line count is_line old seated whole free) (λ flushed. tt)
      where
        replied : (flushed : Bool) (sheets : List Sheet) → Grew flushed [] sheets → IsChangeReply sheets line (replies.Written count flushed)
        replied false sheets grew = subst (λ (s : List Sheet). IsChangeReply s line (replies.Written count false)) (sym grew) (write_replies at bytes line count is_line [])
        replied true sheets grew = subst (λ (s : List Sheet). IsChangeReply s line (replies.Written count true)) (sym grew.1) (write_replies at bytes line count is_line (grew.0 ∷ []))

pub write_under : (key : List ℕ) (at : ℕ) (bytes : List ℕ) (line : ScriptLine) (count : ℕ) → IsWriteLine at bytes line count → (old new : SessionState) (result : Result Written WriteFault) (before after : HostState) (random random' : WordsState) → IsSeated key old
    → old.broken ≡ false → WriteGoes result at bytes old new before after random random' → Aside old.name before after → ReadsAsImage after → SeatBooked key false line (write_reply count result) (Some old) (Some new) before after random random'
write_under key at bytes line count is_line old new result before after random random' seated whole goes aside reads = by_case goes
  where
    keeps : OnDisk before after (KeepsUnder (Covers old) (Covers new) (λ name. name ≡ old.name))
    keeps = change_keeps old seated.of_script WriteFault (WriteRefused at (length bytes) old.tree.size) (bytes ≡ []) write_of_flush write_of_tree (Write at bytes) result new before after random random' whole goes aside reads

    named : new.name ≡ old.name
    named = (change_names old new WriteFault (WriteRefused at (length bytes) old.tree.size) (bytes ≡ []) write_of_flush write_of_tree (Write at bytes) result before after random random' goes).1

    as_result : (r : Result Written WriteFault) → result ≡ r → SeatBooked key false line (write_reply count r) (Some old) (Some new) before after random random' → SeatBooked key false line (write_reply count result) (Some old) (Some new) before after random random'
    as_result r said = subst (λ (x : Result Written WriteFault). SeatBooked key false line (write_reply count x) (Some old) (Some new) before after random random') (sym said)

    by_reply : (o r : Result Reply Memory) → o ≡ r → SeatBooked key false line o (Some old) (Some new) before after random random' → SeatBooked key false line r (Some old) (Some new) before after random random'
    by_reply o r same = subst (λ (x : Result Reply Memory). SeatBooked key false line x (Some old) (Some new) before after random random') same

    by_case : WriteGoes result at bytes old new before after random random' → SeatBooked key false line (write_reply count result) (Some old) (Some new) before after random random'
    by_case (refused fault why same stays words said) =
        as_result (Err fault) said (as_it_was key line (write_reply count (Err fault)) old new before after random random' same stays words (refused_under key at bytes line count is_line old seated whole fault before random why))
    by_case (unchanged free none same stays words said) =
        as_result (Ok (record { flushed_before = false })) said
        (as_it_was key line (Ok (replies.Written count false)) old new before after random random' same stays words (empty_under key at bytes line count is_line old seated whole free none before random))
    by_case (changed one free some roomy steps words said) =
        as_result (stepped write_of_tree false one) said
        (by_reply (outcome_reply (written count) (outcome_of false one)) (write_reply count (stepped write_of_tree false one)) (stepped_reply count false one)
        (some_under key at bytes line count is_line old seated whole free some new named before after random random' keeps aside reads (outcome_of false one) (in_once old (Write at bytes) before after random random' new one roomy steps words)))
    by_case (not_flushed fault free some first flush undamaged said) =
        as_result (Err (write_of_flush fault)) said
        (by_reply (outcome_reply (written count) (flush_outcome fault)) (write_reply count (Err (write_of_flush fault))) (unflushed_reply count fault)
        (some_under key at bytes line count is_line old seated whole free some new named before after random random' keeps aside reads (flush_outcome fault)
        (in_unflushed old (Write at bytes) before after random random' new fault first undamaged (flush_ends old seated.of_script new before after random random' (Err fault) flush))))
    by_case (flushed_and_changed mid between one free some first flush steps said) =
        as_result (stepped write_of_tree true one) said
        (by_reply (outcome_reply (written count) (outcome_of true one)) (write_reply count (stepped write_of_tree true one)) (stepped_reply count true one)
        (some_under key at bytes line count is_line old seated whole free some new named before after random random' keeps aside reads (outcome_of true one)
        (in_after old (Write at bytes) before after random random' mid new between one (of_flushed old mid seated.of_script (Ok tt) before between random random' flush) first
        (flush_ends old seated.of_script mid before between random random' (Ok tt) flush) steps)))
