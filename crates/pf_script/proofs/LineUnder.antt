-- A line that is one change, under a book.
use Rattle.std.proofs.Common.{◌≡◌, inl, Bool, true, false, List, [], ◌∷◌, ℕ, refl, sym, ◌∙◌, subst, Option, Some, length}
use Rattle.std.proofs.lemmas.List.Elements.{Contains-push}
use Rattle.std.specs.Prelude.{Contains}
use Rattle.node_tree.specs.Applying.{Step}
use Rattle.node_tree.specs.Backing.{now}
use Rattle.node_tree.specs.Sheet.{Sheet}
use Rattle.pf_io.specs.Disk.{Name, IsImage, reading}
use Rattle.pf_io.specs.Host.{Answer, HostState, OnDisk, ReadsAsImage}
use Rattle.pf_io.specs.Moments.{Honest, Ran}
use Rattle.pf_io.specs.Words.{WordsState}
use Rattle.pf_session.specs.Aside.{Aside, LeavesApart, KeepsApart}
use Rattle.pf_session.specs.State.{SessionState}
use Rattle.pf_script.specs.Book.{Book, Seal, Agrees}
use Rattle.pf_script.specs.BookDebts.{seat_of}
use Rattle.pf_script.specs.BookSeats.{Covers, KeepsUnder}
use Rattle.pf_script.specs.BookTurns.{of_book, LineUnder, SeatBooked}
use Rattle.pf_script.specs.FileTurns.{stands_on}
use Rattle.pf_script.specs.Desk.{IsSeated, seat_on}
use Rattle.pf_script.specs.Rules.{NoneRefuses, rules}
use Rattle.pf_script.specs.Script.{Own}
use Rattle.pf_script.specs.SeatReplies.{flush_reply}
use Rattle.pf_script.specs.SeatSteps.{AsksFor}
use Rattle.pf_script.specs.Turns.{Seen, Standing, SeatTurn, IsChangeReply, accepted, changed, flushes}
use Rattle.pf_script.specs.declared.line.ScriptLine.{ScriptLine}
use Rattle.pf_script.specs.declared.reply.Reply.{Reply}
use Rattle.pf_script.specs.declared.reply.Reply.TheVariants as replies
use Rattle.pf_script.proofs.ActKeeping.{unchanged_now}
use Rattle.pf_script.proofs.CallKeeping.{read_image}
use Rattle.pf_script.proofs.ChangeLeft.{ChangeIn, wordless_keeps}
use Rattle.pf_script.proofs.ChangeLine.{outcome_reply, none_made}
use Rattle.pf_script.proofs.ChangeTold.{Outcome, Went, Broke, Lacked, Wanted, Grew}
use Rattle.pf_script.proofs.ChangeOver.{begins_over, change_over, ends_over, on_files}
use Rattle.pf_script.proofs.ChangeUnder.{Progress, Fell, change_known}
use Rattle.pf_script.proofs.Flushed.{host_blamed, fault_of}
use Rattle.pf_script.proofs.MadeActs.{MayFlush, are_flushes}
use Rattle.pf_script.proofs.OverGiven.{no_words_fault}
use Rattle.pf_script.proofs.SeatCalls.{seen_by}
use Rattle.pf_script.proofs.Under.{IsAnswered, idle_answered, blame_answered, OnBase, on_disk}

-- the seat of a session that was opened before the line, on the sheet that its file stands for
pub begins : (key : List ℕ) (line : ScriptLine) (seen : Seen) (reply : Reply) (old : SessionState) (whole : old.broken ≡ false) (new : Option SessionState) (a b : Honest) (book : Book) (seats : List Seal) (agrees : Agrees book seats a.now) (base : Sheet)
    (on : OnBase key false line seen reply old whole new a b book seats base) (mine : IsSeated key old) (standing : Standing)
    → Progress key (seat_on base old) line book seats a agrees on.image base mine.of_script.is_target standing a old [] [] [] base
begins key line seen reply old whole new a b book seats agrees base on mine standing = record {
  was = none_made (base ∷ []) base old (Contains-push [] base) on.stood.as_sheet.stands.linked on.kept whole;
  left = seats;
  did = (unchanged_now a, λ s has. has);
  spares = λ s has apart. has;
  only = λ n none. absurd none;
  entry = on.entry;
  in_book = on.was;
  seated = on.seated;
  stood = on.stood;
}

module _ (key : List ℕ) (line : ScriptLine) (may : MayFlush line) (old new : SessionState) (seated : IsSeated key old) where
  -- a line that ended with a fault
  pub fell_under : (seen : Seen) (reply : Reply) → IsAnswered reply → (these : List Answer) (words : List (List ℕ)) (of_host of_words : Bool) → seen ≡ seen_by these words of_host of_words → (a b : Honest) (book : Book) (seats : List Seal) (agrees : Agrees book seats a.now) (base : Sheet)
      (image : IsImage a.now (reading a.now)) → Fell key (seat_on base old) line book seats a agrees image base seated.of_script.is_target (stands_on key (reading a.now)) b new words of_host of_words reply
      → LineUnder key false line seen reply (Some old) (Some new) book seats (Own (seat_on base old)) a b
  fell_under seen reply answered these words of_host of_words is a b book seats agrees base image fell = record {
    acts = fell.acts;
    left = fell.left;
    after = fell.after;
    did = fell.did;
    shows = fell.shows;
    spares = fell.spares;
    concerned = λ n among. inl (fell.only n among);
    made = λ act has. may (Own (seat_on base old)) act.deed (fell.made act has);
    idle = idle_answered reply answered fell.acts;
    turn = λ _. subst (λ (s : Seen). SeatTurn (stands_on key (reading a.now)) key false (Own (seat_on base old)) line s reply fell.acts fell.after) (sym is) (fell.turn these);
  }

module _ (key : List ℕ) (line : ScriptLine) (may : MayFlush line) (old new : SessionState) (seated : IsSeated key old) (whole : old.broken ≡ false) (named : new.name ≡ old.name) (before after : HostState) (random random' : WordsState)
    (keeps : OnDisk before after (KeepsUnder (Covers old) (Covers new) (λ name. name ≡ old.name))) (aside : Aside old.name before after) (reads : ReadsAsImage after) where
  module _ (step : Step) (replied : Bool → Reply) (asks : (size : ℕ) → AsksFor line size (step ∷ []))
      (replies_to : (flushed : Bool) (sheets : List Sheet) → Grew flushed [] sheets → IsChangeReply sheets line (replied flushed)) (passes : (base : Sheet) (given : List Answer) → NoneRefuses (rules key false (Own (seat_on base old)) line given)) (answered : (flushed : Bool) → IsAnswered (replied flushed)) where
    pub line_under : (outcome : Outcome) → ChangeIn step old new outcome before after random random' → SeatBooked key false line (outcome_reply replied outcome) (Some old) (Some new) before after random random'
    line_under (Went flushed) is = record {
      seen = seen_by is.these is.words false false;
      was_seen = record { answers = is.told; words = is.taken; of_host = is.on_host; of_words = is.on_words };
      wordless = λ change undrawn none. wordless_keeps step old new before after is.words (Went flushed) undrawn none is.left;
      under = on_disk key false line (seen_by is.these is.words false false) (replied flushed) old whole (Some new) before after (answered flushed) may seated.of_script.is_target (λ n has. has ∙ named) keeps aside
          (λ a b is_a is_b ran book seats agrees base on.
          let own = seat_on base old in
          let standing = stands_on key (reading a.now) in
          let out = change_known key own line book seats a agrees on.image base seated.of_script.is_target standing a b old new [] [] is.words [] base step [] (asks (length (now base old.tree))) (passes base) seated.of_script
          (begins key line (seen_by is.these is.words false false) (replied flushed) old whole (Some new) a b book seats agrees base on seated standing) before after is_a is_b ran (read_image after.honest b is_b reads) (Went flushed) is.left in
          let then = out.progress_now in record {
            acts = flushes own out.sheets_now;
            left = then.left;
            after = Own (seat_on out.base_now new);
            did = then.did;
            shows = of_book out.base_now new then.was.whole
                (subst (λ (k : List ℕ). Contains then.left (seat_of k new.name out.base_now)) (sym then.was.key_is) (subst (λ (n : Name). Contains then.left (seat_of old.key n out.base_now)) (sym then.was.name_is) then.seated)) then.was.kept refl refl;
            spares = then.spares;
            concerned = λ n among. inl (then.only n among);
            made = λ act has. may (Own own) act.deed (are_flushes own out.sheets_now act has);
            idle = idle_answered (replied flushed) (answered flushed) (flushes own out.sheets_now);
            turn = λ _.
                accepted (passes base is.these) (record { host = refl; random = refl })
                (changed own (seat_on out.base_now new) line (replied flushed) (step ∷ []) out.sheets_now (asks (length (now base old.tree))) then.was.makes (replies_to flushed out.sheets_now out.grew));
          });
      over = on_files (Ran (LeavesApart old.name) (KeepsApart old.name)) key line (seen_by is.these is.words false false) (replied flushed) old whole new before after aside
          (λ a b is_a is_b ran calm base on.
          let own = seat_on base old in
          let out = change_over own (reading a.now) base key line a b old new [] [] is.words [] base step seated.of_script (begins_over key line (seen_by is.these is.words false false) (replied flushed) old whole new a b base on) before after is_a is_b ran
          (Went flushed) is.left in
          ends_over key line is.these (replied flushed) own base new a b (step ∷ []) is.words out.sheets_now out.base_now out.over_now (passes base) (asks (length (now base old.tree))) (replies_to flushed out.sheets_now out.grew));
    }
    line_under (Broke blame) is = record {
      seen = seen_by is.these is.words (host_blamed blame) false;
      was_seen = record { answers = is.told; words = is.taken; of_host = is.on_host; of_words = is.on_words };
      wordless = λ change undrawn none. wordless_keeps step old new before after is.words (Broke blame) undrawn none is.left;
      under = on_disk key false line (seen_by is.these is.words (host_blamed blame) false) (flush_reply (fault_of blame)) old whole (Some new) before after (blame_answered blame) may seated.of_script.is_target (λ n has. has ∙ named) keeps aside
          (λ a b is_a is_b ran book seats agrees base on.
          let standing = stands_on key (reading a.now) in
          fell_under key line may old new seated (seen_by is.these is.words (host_blamed blame) false) (flush_reply (fault_of blame)) (blame_answered blame) is.these is.words (host_blamed blame) false refl a b book seats agrees base on.image
          (change_known key (seat_on base old) line book seats a agrees on.image base seated.of_script.is_target standing a b old new [] [] is.words [] base step [] (asks (length (now base old.tree))) (passes base) seated.of_script
          (begins key line (seen_by is.these is.words (host_blamed blame) false) (flush_reply (fault_of blame)) old whole (Some new) a b book seats agrees base on seated standing) before after is_a is_b ran (read_image after.honest b is_b reads)
          (Broke blame) is.left));
      over = on_files (Ran (LeavesApart old.name) (KeepsApart old.name)) key line (seen_by is.these is.words (host_blamed blame) false) (flush_reply (fault_of blame)) old whole new before after aside
          (λ a b is_a is_b ran calm base on.
          absurd
          (change_over (seat_on base old) (reading a.now) base key line a b old new [] [] is.words [] base step seated.of_script
          (begins_over key line (seen_by is.these is.words (host_blamed blame) false) (flush_reply (fault_of blame)) old whole new a b base on) before after is_a is_b ran (Broke blame) is.left calm.host));
    }
    line_under Lacked is = record {
      seen = seen_by is.these is.words false true;
      was_seen = record { answers = is.told; words = is.taken; of_host = is.on_host; of_words = is.on_words };
      wordless = λ change undrawn none. wordless_keeps step old new before after is.words Lacked undrawn none is.left;
      under = on_disk key false line (seen_by is.these is.words false true) replies.WordsFault old whole (Some new) before after tt may seated.of_script.is_target (λ n has. has ∙ named) keeps aside
          (λ a b is_a is_b ran book seats agrees base on.
          let standing = stands_on key (reading a.now) in
          fell_under key line may old new seated (seen_by is.these is.words false true) replies.WordsFault tt is.these is.words false true refl a b book seats agrees base on.image
          (change_known key (seat_on base old) line book seats a agrees on.image base seated.of_script.is_target standing a b old new [] [] is.words [] base step [] (asks (length (now base old.tree))) (passes base) seated.of_script
          (begins key line (seen_by is.these is.words false true) replies.WordsFault old whole (Some new) a b book seats agrees base on seated standing) before after is_a is_b ran (read_image after.honest b is_b reads) Lacked is.left));
      over = on_files (Ran (LeavesApart old.name) (KeepsApart old.name)) key line (seen_by is.these is.words false true) replies.WordsFault old whole new before after aside (λ a b is_a is_b ran calm base on. absurd (no_words_fault calm));
    }
    line_under Wanted is = tt
