-- The line `read` under a book and over files, from the contract of a read.
use Rattle.std.proofs.Common.{◌≡◌, Bool, true, false, List, [], ℕ, ◌-◌, ◌≤◌, refl, sym, ◌∙◌, ap, subst, Some, Result, Ok, Err, length, min}
use Rattle.std.specs.Prelude.{Contains, IfOk}
use Rattle.node_tree.specs.Fetching.{host_part}
use Rattle.node_tree.specs.Opened.{Given}
use Rattle.node_tree.specs.Reading.{Reads}
use Rattle.node_tree.specs.Sheet.{Sheet, Stands}
use Rattle.node_tree.specs.State.{readable}
use Rattle.node_tree.specs.declared.fault.TreeFault.{TreeFault}
use Rattle.node_tree.specs.declared.fault.TreeFault.TheVariants as trees
use Rattle.pf_io.specs.Counts.{HasCause}
use Rattle.pf_io.specs.Disk.{Name, reading}
use Rattle.pf_io.specs.Host.{Answer, HostState, contents}
use Rattle.pf_io.specs.Unchanged.{KeepsDisk}
use Rattle.pf_io.specs.Words.{WordsState}
use Rattle.pf_session.specs.Backing.{IsBacked}
use Rattle.pf_session.specs.Reading.{KeepsFields, ReadsStanding, StandingRead}
use Rattle.pf_session.specs.State.{SessionState, file_of}
use Rattle.pf_script.specs.BookDebts.{Unchanged, seat_of}
use Rattle.pf_script.specs.BookTurns.{of_book, SeatAgrees, SeatBooked, MadeBy}
use Rattle.pf_script.specs.Desk.{IsSeated, seat_on}
use Rattle.pf_script.specs.DeskSteps.{CountsFault}
use Rattle.pf_script.specs.FileTurns.{stands_on}
use Rattle.pf_script.specs.Script.{OwnSeat, Own}
use Rattle.pf_script.specs.SeatReplies.{read_reply}
use Rattle.pf_script.specs.Turns.{Standing, SeatTurn, accepted, host_failed, read, not_read, ByHost}
use Rattle.pf_script.specs.declared.line.ScriptLine.{ScriptLine}
use Rattle.pf_script.specs.declared.line.ScriptLine.TheVariants as lines
use Rattle.pf_script.specs.declared.reply.Reply.{Reply}
use Rattle.pf_script.specs.declared.reply.Reply.TheVariants as replies
use Rattle.pf_script.proofs.MadeActs.{none_is}
use Rattle.pf_script.proofs.OverFiles.{over_on_disk, file_stands, still_over}
use Rattle.pf_script.proofs.OverGiven.{on_reading}
use Rattle.pf_script.proofs.ReadKeeping.{stood_read}
use Rattle.pf_script.proofs.ReadLine.{read_passes, slice_is, same_seat, whole_new, kept_new, ends_count}
use Rattle.pf_script.proofs.Refusing.{none_taken}
use Rattle.pf_script.proofs.SeatCalls.{seen_by}
use Rattle.pf_script.proofs.Under.{IsAnswered, idle_answered, on_disk_reads, none_concerned}

module _ (key : List ℕ) (k at count : ℕ) (old : SessionState) (seated : IsSeated key old) (whole : old.broken ≡ false) (new : SessionState) (fields : KeepsFields old new) (result : Result ℕ TreeFault) (buffer : List ℕ)
    (room : length buffer ≡ min count (old.tree.size - at)) (before after : HostState) (reads : Reads result (file_of old) at buffer old.tree new.tree before after) (words : WordsState) (few : count ≤ 32768)
    (disk : KeepsDisk before after) where
  abbrev line : ScriptLine
  line = lines.Read k at count

  -- the seat stays, and the line has this turn on each sheet that the file stands for
  by_turn : (r : Result ℕ TreeFault) (of_host : Bool) (reply : Reply) → ReadsStanding r at buffer old new before → CountsFault of_host before.faults after.faults → IsAnswered reply
      → ((standing : Standing) (base : Sheet) (given : List Answer) → StandingRead r base at buffer old new → SeatTurn standing key false (Own (seat_on base old)) line (seen_by given [] of_host false) reply [] (Own (seat_on base old)))
      → SeatAgrees key false line reply (Some old) (Some new) before after words words
  by_turn r of_host reply standing counts answered turn = record {
    seen = seen_by reads.these [] of_host false;
    was_seen = record { answers = reads.answered.told; words = none_taken words; of_host = counts; of_words = refl };
    wordless = λ change. absurd change;
    under = on_disk_reads key false line (seen_by reads.these [] of_host false) reply old whole (Some new) before after answered (λ n has. has ∙ ap (λ (s : SessionState). s.name) fields) disk
        (λ a b is_a is_b only book seats agrees base on.
        let stands = stood_read old seated.of_script new r at buffer before a is_a standing base on.stood on.kept.backed in record {
          acts = [];
          left = seats;
          after = Own (seat_on base old);
          did = (only, λ s has. has);
          shows = of_book base new (whole_new key k at count old seated whole new fields result buffer room before after reads)
              (subst (λ (n : List ℕ). Contains seats (seat_of n new.name base)) (sym (ap (λ (s : SessionState). s.key) fields)) (subst (λ (n : Name). Contains seats (seat_of old.key n base)) (sym (ap (λ (s : SessionState). s.name) fields)) on.seated))
              (kept_new key k at count old seated whole new fields result buffer room before after reads few reads.these base on.kept stands.backed stands.same)
              (ap Own (same_seat key k at count old seated whole new fields result buffer room before after reads base stands.same)) refl;
          spares = λ s has apart. has;
          concerned = none_concerned false line (Some old);
          made = none_is (MadeBy line (Own (seat_on base old)));
          turn = λ _. turn (stands_on key (reading a.now)) base reads.these stands;
          idle = idle_answered reply answered [];
        });
    over = over_on_disk Unchanged key false line (seen_by reads.these [] of_host false) reply old whole (Some new) before after disk
        (λ a b is_a is_b only calm base on.
        let own = Own (seat_on base old) in
        let stands = on_reading (λ files. (sheet : Sheet) → Stands (contents (files (file_of old))) old.key sheet → IsBacked sheet old → StandingRead r sheet at buffer old new) before.honest a is_a standing base
        (file_stands key false line (seen_by reads.these [] of_host false) reply old whole (Some new) a b seated.of_script base on) on.kept.backed in
        let same = same_seat key k at count old seated whole new fields result buffer room before after reads base stands.same in
        still_over key false line (seen_by reads.these [] of_host false) reply old new a b only base whole on (ap (λ (s : SessionState). s.key) fields) (ap (λ (s : SessionState). s.name) fields)
        (whole_new key k at count old seated whole new fields result buffer room before after reads)
        (kept_new key k at count old seated whole new fields result buffer room before after reads few reads.these base on.kept stands.backed stands.same)
        (subst (λ (x : OwnSeat). SeatTurn (stands_on key (reading a.now)) key false own line (seen_by [] [] false false) reply [] (Own x)) same
        (subst (λ (h : Bool). SeatTurn (stands_on key (reading a.now)) key false own line (seen_by [] [] h false) reply [] own) calm.host (turn (stands_on key (reading a.now)) base [] stands))));
  }

  by_result : (r : Result ℕ TreeFault) → IfOk r (λ n. n ≡ readable old.tree at (length buffer)) → HasCause before.faults after.faults (host_part r) → ReadsStanding r at buffer old new before
      → SeatBooked key false line (read_reply buffer r) (Some old) (Some new) before after words words
  by_result (Ok n) counted cause standing =
      by_turn (Ok n) false (replies.Given buffer) standing cause.still tt
      (λ standing base given stands.
      let own = seat_on base old in
      subst (λ (b : List ℕ). SeatTurn standing key false (Own own) line (seen_by given [] false false) (replies.Given b) [] (Own own))
      (sym (slice_is key k at count old seated whole new fields result buffer room before after reads n counted base stands.slice))
      (accepted (read_passes key k at count own whole few) (record { host = refl; random = refl }) (read k at count own refl)))
  by_result (Err (trees.Damaged d)) counted cause standing = by_turn (Err (trees.Damaged d)) false (replies.DamagedNode d) standing cause.still tt (λ standing base given stands. absurd stands.undamaged)
  by_result (Err trees.Host) counted cause standing =
      by_turn (Err trees.Host) true replies.HostFault standing cause.once tt (λ standing base given stands. host_failed (read_passes key k at count (seat_on base old) whole few) (record { host = refl; random = refl }) (not_read k at count (seat_on base old) ByHost refl tt) refl)
  by_result (Err trees.Memory) counted cause standing = tt

pub read_under : (key : List ℕ) (k at count : ℕ) (old new : SessionState) (result : Result ℕ TreeFault) (buffer : List ℕ) (before after : HostState) (words : WordsState) → IsSeated key old → old.broken ≡ false → count ≤ 32768
    → length buffer ≡ min count (old.tree.size - at) → KeepsFields old new → Reads result (file_of old) at buffer old.tree new.tree before after → HasCause before.faults after.faults (host_part result)
    → ReadsStanding result at buffer old new before → KeepsDisk before after → SeatBooked key false (lines.Read k at count) (read_reply buffer result) (Some old) (Some new) before after words words
read_under key k at count old new result buffer before after words seated whole few room fields reads cause standing disk =
    by_result key k at count old seated whole new fields result buffer room before after reads words few disk result
    (ends_count result (Given (file_of old) reads.these) at buffer old.tree new.tree reads.ends) cause standing
