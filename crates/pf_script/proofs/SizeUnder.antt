-- The line `size` under a book, from the pieces that were set.
use Rattle.std.proofs.Common.{◌≡◌, ◌≢◌, ◌+◌, ◌≤◌, ◌^◌, inl, Bool, true, false, List, [], ◌∷◌, ◌++◌, ℕ, refl, sym, ◌∙◌, ap, subst, Some, None, Result, arith, length, append_assoc}
use Rattle.std.proofs.lemmas.List.{append-nil}
use Rattle.std.specs.Prelude.{Contains}
use Rattle.node_tree.specs.Applying.{Step, Size}
use Rattle.node_tree.specs.Sheet.{Sheet}
use Rattle.pf_io.specs.Disk.{Name, IsImage, reading}
use Rattle.pf_io.specs.Host.{Answer, HostState, Both, IsMore, OnDisk}
use Rattle.pf_io.specs.Moments.{Honest, Ran}
use Rattle.pf_io.specs.Names.{IsTarget}
use Rattle.pf_io.specs.Unchanged.{KeepsDisk}
use Rattle.pf_io.specs.Words.{WordsState}
use Rattle.pf_io.specs.declared.faults.Memory.{Memory}
use Rattle.pf_io.proofs.Telling.{both_same, both_then, both_weaker}
use Rattle.pf_session.specs.Asking.{IsTaken as AreTaken}
use Rattle.pf_session.specs.Aside.{LeavesApart, KeepsApart}
use Rattle.pf_session.specs.State.{SessionState}
use Rattle.pf_session.specs.declared.fault.SizeFault.{SizeFault}
use Rattle.pf_script.specs.Book.{Book, Seal, Agrees}
use Rattle.pf_script.specs.BookDebts.{Unchanged, seat_of}
use Rattle.pf_script.specs.BookSeats.{IsOfScript, Covers, KeepsUnder}
use Rattle.pf_script.specs.BookTurns.{of_book, SeatBooked}
use Rattle.pf_script.specs.FileTurns.{stands_on}
use Rattle.pf_script.specs.Desk.{IsSeated, seat_on}
use Rattle.pf_script.specs.DeskSteps.{CountsFault}
use Rattle.pf_script.specs.Rules.{NoneRefuses, rules}
use Rattle.pf_script.specs.Script.{OwnSeat, Own}
use Rattle.pf_script.specs.SeatReplies.{flush_reply, IsNextSize, SizesGo}
use Rattle.pf_script.specs.SeatSteps.{IsResize, same, piece}
use Rattle.pf_script.specs.Turns.{Seen, Standing, accepted, changed, to_size, flushes}
use Rattle.pf_script.specs.declared.line.ScriptLine.{ScriptLine}
use Rattle.pf_script.specs.declared.line.ScriptLine.TheVariants as lines
use Rattle.pf_script.specs.declared.reply.Reply.{Reply}
use Rattle.pf_script.specs.declared.reply.Reply.TheVariants as replies
use Rattle.pf_script.proofs.ActKeeping.{unchanged_now}
use Rattle.pf_script.proofs.Composing.{only_then}
use Rattle.pf_script.proofs.CallKeeping.{at_both, on_to, read_image}
use Rattle.pf_script.proofs.ChangeLine.{outcome_reply}
use Rattle.pf_script.proofs.ChangeLeft.{ChangeLeft, wordless_keeps, wordless_undrawn}
use Rattle.pf_script.proofs.ChangeTold.{Outcome, Went, Broke, Lacked, Wanted, host_in, words_in}
use Rattle.pf_script.proofs.ChangeOver.{begins_over, ends_over, on_files}
use Rattle.pf_script.proofs.ChangeUnder.{Progress, Fell, change_known}
use Rattle.pf_script.proofs.Flushed.{host_blamed, fault_of}
use Rattle.pf_script.proofs.LineUnder.{begins, fell_under}
use Rattle.pf_script.proofs.MadeActs.{are_flushes}
use Rattle.pf_script.proofs.OverGiven.{no_words_fault}
use Rattle.pf_script.proofs.SeatCalls.{seen_by}
use Rattle.pf_script.proofs.SizeKeeping.{size_keeps, sizes_name}
use Rattle.pf_script.proofs.SizeLeft.{SizeLeft, kept_size, one_change, one_piece, size_in}
use Rattle.pf_script.proofs.SizeLine.{line_passes, goes_on_now}
use Rattle.pf_script.proofs.SizeOver.{same_host, size_over}
use Rattle.pf_script.proofs.SizeSeen.{sized, size_result}
use Rattle.pf_script.proofs.SizeTold.{resize_steps, GoesOn, next_steps, last_step}
use Rattle.pf_script.proofs.Under.{blame_answered, OnBase, on_disk_by}

-- Without words no piece was flushed first, where no nonce was drawn: the disk stays.
no_front : (words more : List (List ℕ)) → words ++ more ≡ [] → words ≡ []
no_front [] more none = refl
no_front (word ∷ words) more none = absurd (cc)

no_back : (words more : List (List ℕ)) → words ++ more ≡ [] → more ≡ []
no_back [] more none = none
no_back (word ∷ words) more none = absurd (cc)

size_wordless : (size : ℕ) (old new : SessionState) (before after : HostState) (words : List (List ℕ)) (outcome : Outcome) → old.drawn ≡ None → words ≡ [] → SizeLeft size old new before after words outcome → KeepsDisk before after
size_wordless size old new before after _ _ undrawn none (kept_size _ _ _ _ size_is is stays) = both_same Unchanged before.honest after.honest (ap (λ (h : HostState). h.honest) stays) (λ a. unchanged_now a)
size_wordless size old new before after words outcome undrawn none (one_change _ _ _ _ n _ _ mine next other whole aside reads left) = wordless_keeps (Size n) old new before after words outcome undrawn none left
size_wordless size old new before after _ outcome undrawn none (one_piece _ mid _ _ between _ one more flushed _ mine far size_is aside reads left rest) =
    let step = Size (old.tree.size + 32768) in
    let front = no_front one more none in
    both_then Unchanged Unchanged Unchanged before.honest between.honest after.honest (wordless_keeps step old mid before between one (Went flushed) undrawn front left)
    (size_wordless size mid new between after more outcome (wordless_undrawn step old mid before between one (Went flushed) undrawn front left) (no_back one more none) rest) only_then

module _ (key : List ℕ) (k size : ℕ) (own : OwnSeat) (book : Book) (seats : List Seal) (a : Honest) (agrees : Agrees book seats a.now) (image : IsImage a.now (reading a.now)) (first : Sheet) (target : IsTarget own.name) (standing : Standing)
    (passes : (these : List Answer) → NoneRefuses (rules key false (Own own) (lines.Size k size) these)) (b : Honest) (new : SessionState) (all : List (List ℕ)) where
  abbrev At : Honest → SessionState → List Step → List (List ℕ) → List Sheet → Sheet → Type 0
  At m old made words sheets base = Progress key own (lines.Size k size) book seats a agrees image first target standing m old made words sheets base

  abbrev Ends : Bool → Bool → Reply → Type 0
  Ends of_host of_words reply = Fell key own (lines.Size k size) book seats a agrees image first target standing b new all of_host of_words reply

  -- all pieces were set
  pub record AllSet : Type 0 where
    pub made : List Step
    pub sheets : List Sheet
    pub base : Sheet
    pub progress : At b new made all sheets base
    pub asks : IsResize size (length own.content) made

  -- how the line ends
  abbrev pub SizeKnown : Outcome → Type 0
  SizeKnown (Went flushed) = AllSet
  SizeKnown (Broke blame) = Ends (host_blamed blame) false (flush_reply (fault_of blame))
  SizeKnown Lacked = Ends false true replies.WordsFault
  SizeKnown Wanted = Unit {0}

  module _ (old : SessionState) (before after : HostState) (m : Honest) (is_m : before.honest ≡ Some m) (is_b : after.honest ≡ Some b) (mine : IsOfScript old) (made : List Step) (words more : List (List ℕ)) (sheets : List Sheet) (base : Sheet)
      (progress : At m old made words sheets base) (on : GoesOn own size old made) (words_are : all ≡ words ++ more) (n : ℕ) (next : IsNextSize size old.tree.size n) (other : n ≢ old.tree.size) (others : Ran (LeavesApart old.name) (KeepsApart old.name) m b) (well : IsImage b.now (reading b.now)) where
    abbrev steps : (steps : List Step) × IsResize size (length own.content) (made ++ Size n ∷ steps)
    steps = next_steps own size old n next other made on

    one_known : (outcome : Outcome) → ((flushed : Bool) → outcome ≡ Went flushed → n ≡ size) → ChangeLeft (Size n) old new before after more outcome → SizeKnown outcome
    one_known (Went flushed) whole left =
        let out = change_known key own (lines.Size k size) book seats a agrees image first target standing m b old new made words more sheets base (Size n) steps.0 steps.1 passes mine progress before after is_m is_b others well (Went flushed) left in
        record {
          made = made ++ Size n ∷ [];
          sheets = out.sheets_now;
          base = out.base_now;
          progress = subst (λ (w : List (List ℕ)). At b new (made ++ Size n ∷ []) w out.sheets_now out.base_now) (sym words_are) out.progress_now;
          asks = last_step own size old n next other (whole flushed refl) made on;
        }
    one_known (Broke blame) whole left =
        subst (λ (w : List (List ℕ)). Fell key own (lines.Size k size) book seats a agrees image first target standing b new w (host_blamed blame) false (flush_reply (fault_of blame))) (sym words_are)
        (change_known key own (lines.Size k size) book seats a agrees image first target standing m b old new made words more sheets base (Size n) steps.0 steps.1 passes mine progress before after is_m is_b others well (Broke blame) left)
    one_known Lacked whole left =
        subst (λ (w : List (List ℕ)). Fell key own (lines.Size k size) book seats a agrees image first target standing b new w false true replies.WordsFault) (sym words_are)
        (change_known key own (lines.Size k size) book seats a agrees image first target standing m b old new made words more sheets base (Size n) steps.0 steps.1 passes mine progress before after is_m is_b others well Lacked left)
    one_known Wanted whole left = tt

  pub size_known : (old : SessionState) (before after : HostState) (more : List (List ℕ)) (outcome : Outcome) → SizeLeft size old new before after more outcome → (m : Honest) → before.honest ≡ Some m → after.honest ≡ Some b
      → (made : List Step) (words : List (List ℕ)) (sheets : List Sheet) (base : Sheet) → At m old made words sheets base → GoesOn own size old made → all ≡ words ++ more → SizeKnown outcome
  size_known old before after _ _ (kept_size _ _ _ _ size_is is stays) m is_m is_b made words sheets base progress on words_are = record {
    made = made;
    sheets = sheets;
    base = base;
    progress = subst (λ (w : List (List ℕ)). At b new made w sheets base) (sym (words_are ∙ append-nil words))
        (subst (λ (h : Honest). At h new made words sheets base) (sym (same_host b before after m is_m is_b stays)) (subst (λ (s : SessionState). At m s made words sheets base) (sym is) progress));
    asks = subst (λ (s : List Step). IsResize size (length own.content) s) (append-nil made) (on [] (same old.tree.size size_is));
  }
  size_known old before after more outcome (one_change _ _ _ _ n _ _ mine next other whole aside reads left) m is_m is_b made words sheets base progress on words_are =
      one_known old before after m is_m is_b mine made words more sheets base progress on words_are n next other (at_both (Ran (LeavesApart old.name) (KeepsApart old.name)) before.honest after.honest m b is_m is_b aside) (read_image after.honest b is_b reads) outcome whole left
  size_known old before after _ outcome (one_piece _ mid _ _ between _ one more flushed _ mine far size_is aside reads left rest) m is_m is_b made words sheets base progress on words_are =
      let t = on_to (Ran (LeavesApart old.name) (KeepsApart old.name)) before.honest between.honest m is_m aside in
      let steps = resize_steps size size (old.tree.size + 32768) (omega arith) in
      let out = change_known key own (lines.Size k size) book seats a agrees image first target standing m t.0 old mid made words one sheets base (Size (old.tree.size + 32768)) steps.0
      (on (Size (old.tree.size + 32768) ∷ steps.0) (piece old.tree.size steps.0 far steps.1)) passes mine progress before between is_m t.1 t.2 (read_image between.honest t.0 t.1 reads) (Went flushed) left in
      size_known mid between after more outcome rest t.0 t.1 is_b (made ++ Size (old.tree.size + 32768) ∷ []) (words ++ one) out.sheets_now out.base_now out.progress_now
      (λ left is_left.
      subst (λ (s : List Step). IsResize size (length own.content) s) (sym (append_assoc made (Size (old.tree.size + 32768) ∷ []) left))
      (on (Size (old.tree.size + 32768) ∷ left) (piece old.tree.size left far (subst (λ m. IsResize size m left) size_is is_left))))
      (words_are ∙ sym (append_assoc words one more))

module _ (key : List ℕ) (k size : ℕ) (small : size ≤ 2 ^ 32) (old new : SessionState) (seated : IsSeated key old) (whole : old.broken ≡ false) (named : new.name ≡ old.name) (before after : HostState) (random random' : WordsState)
    (keeps : OnDisk before after (KeepsUnder (Covers old) (Covers new) (λ name. name ≡ old.name))) where
  abbrev line : ScriptLine
  line = lines.Size k size

  module _ (these : List Answer) (words : List (List ℕ)) (outcome : Outcome) (left : SizeLeft size old new before after words outcome) where
    known : (seen : Seen) (reply : Reply) (a b : Honest) → before.honest ≡ Some a → after.honest ≡ Some b → (book : Book) (seats : List Seal) (agrees : Agrees book seats a.now) (base : Sheet) (on : OnBase key false line seen reply old whole (Some new) a b book seats base)
        → SizeKnown key k size (seat_on base old) book seats a agrees on.image base seated.of_script.is_target (stands_on key (reading a.now)) (line_passes key k size small old new whole base) b new words outcome
    known seen reply a b is_a is_b book seats agrees base on =
        size_known key k size (seat_on base old) book seats a agrees on.image base seated.of_script.is_target (stands_on key (reading a.now)) (line_passes key k size small old new whole base) b new words old before after words outcome left a is_a is_b
        [] [] [] base (begins key line seen reply old whole (Some new) a b book seats agrees base on seated (stands_on key (reading a.now))) (λ steps is. goes_on_now key k size small old new whole base steps is) refl

  -- what is known of any host
  abbrev Anything : Honest → Honest → Type 0
  Anything a b = Unit {0}

  anything : OnDisk before after Anything
  anything = both_weaker (KeepsUnder (Covers old) (Covers new) (λ name. name ≡ old.name)) Anything before.honest after.honest keeps (λ a b keeps. tt)

  by_outcome : (outcome : Outcome) (these : List Answer) (words : List (List ℕ)) → Both before.given after.given (IsMore these) → Both random.left random'.left (AreTaken words) → CountsFault (host_in outcome) before.faults after.faults
      → CountsFault (words_in outcome) random.faults random'.faults → SizeLeft size old new before after words outcome → SeatBooked key false line (outcome_reply (sized size) outcome) (Some old) (Some new) before after random random'
  by_outcome (Went flushed) these words told taken on_host on_words left = record {
    seen = seen_by these words false false;
    was_seen = record { answers = told; words = taken; of_host = on_host; of_words = on_words };
    wordless = λ change undrawn none. size_wordless size old new before after words (Went flushed) undrawn none left;
    under = on_disk_by Anything key false line (seen_by these words false false) (replies.Sized size) old whole (Some new) before after tt (λ seat deed is. is) seated.of_script.is_target (λ n has. has ∙ named) keeps anything
        (λ a b is_a is_b ran book seats agrees base on.
        let own = seat_on base old in
        let out = known these words (Went flushed) left (seen_by these words false false) (replies.Sized size) a b is_a is_b book seats agrees base on in
        let then = out.progress in record {
          acts = flushes own out.sheets;
          left = then.left;
          after = Own (seat_on out.base new);
          did = then.did;
          shows = of_book out.base new then.was.whole
              (subst (λ (k : List ℕ). Contains then.left (seat_of k new.name out.base)) (sym then.was.key_is) (subst (λ (n : Name). Contains then.left (seat_of old.key n out.base)) (sym then.was.name_is) then.seated)) then.was.kept refl refl;
          spares = then.spares;
          concerned = λ n among. inl (then.only n among);
          made = are_flushes own out.sheets;
          idle = tt;
          turn = λ _.
              accepted (line_passes key k size small old new whole base these) (record { host = refl; random = refl })
              (changed own (seat_on out.base new) line (replies.Sized size) out.made out.sheets out.asks then.was.makes (to_size k size));
        });
    over = on_files Anything key line (seen_by these words false false) (replies.Sized size) old whole new before after anything
        (λ a b is_a is_b ran calm base on.
        let out = size_over key k size (seat_on base old) (reading a.now) base b new words old before after words (Went flushed) left a is_a is_b [] [] [] base
        (begins_over key line (seen_by these words false false) (replies.Sized size) old whole new a b base on) (λ steps is. goes_on_now key k size small old new whole base steps is) refl in
        ends_over key line these (replies.Sized size) (seat_on base old) base new a b out.made words out.sheets out.base out.so_far (line_passes key k size small old new whole base) out.asks (to_size k size));
  }
  by_outcome (Broke blame) these words told taken on_host on_words left = record {
    seen = seen_by these words (host_blamed blame) false;
    was_seen = record { answers = told; words = taken; of_host = on_host; of_words = on_words };
    wordless = λ change undrawn none. size_wordless size old new before after words (Broke blame) undrawn none left;
    under = on_disk_by Anything key false line (seen_by these words (host_blamed blame) false) (flush_reply (fault_of blame)) old whole (Some new) before after (blame_answered blame) (λ seat deed is. is) seated.of_script.is_target (λ n has. has ∙ named) keeps anything
        (λ a b is_a is_b ran book seats agrees base on.
        fell_under key line (λ seat deed is. is) old new seated (seen_by these words (host_blamed blame) false) (flush_reply (fault_of blame)) (blame_answered blame) these words (host_blamed blame) false refl a b book seats agrees base on.image
        (known these words (Broke blame) left (seen_by these words (host_blamed blame) false) (flush_reply (fault_of blame)) a b is_a is_b book seats agrees base on));
    over = on_files Anything key line (seen_by these words (host_blamed blame) false) (flush_reply (fault_of blame)) old whole new before after anything
        (λ a b is_a is_b ran calm base on.
        absurd
        (size_over key k size (seat_on base old) (reading a.now) base b new words old before after words (Broke blame) left a is_a is_b [] [] [] base
        (begins_over key line (seen_by these words (host_blamed blame) false) (flush_reply (fault_of blame)) old whole new a b base on) (λ steps is. goes_on_now key k size small old new whole base steps is) refl calm.host));
  }
  by_outcome Lacked these words told taken on_host on_words left = record {
    seen = seen_by these words false true;
    was_seen = record { answers = told; words = taken; of_host = on_host; of_words = on_words };
    wordless = λ change undrawn none. size_wordless size old new before after words Lacked undrawn none left;
    under = on_disk_by Anything key false line (seen_by these words false true) replies.WordsFault old whole (Some new) before after tt (λ seat deed is. is) seated.of_script.is_target (λ n has. has ∙ named) keeps anything
        (λ a b is_a is_b ran book seats agrees base on.
        fell_under key line (λ seat deed is. is) old new seated (seen_by these words false true) replies.WordsFault tt these words false true refl a b book seats agrees base on.image
        (known these words Lacked left (seen_by these words false true) replies.WordsFault a b is_a is_b book seats agrees base on));
    over = on_files Anything key line (seen_by these words false true) replies.WordsFault old whole new before after anything (λ a b is_a is_b ran calm base on. absurd (no_words_fault calm));
  }
  by_outcome Wanted these words told taken on_host on_words left = tt

pub size_under : (key : List ℕ) (k size : ℕ) (old new : SessionState) (result : Result (Unit {0}) SizeFault) (before after : HostState) (random random' : WordsState) → size ≤ 2 ^ 32 → IsSeated key old → old.broken ≡ false
    → SizesGo result size old new before after random random' → SeatBooked key false (lines.Size k size) (size_result size result) (Some old) (Some new) before after random random'
size_under key k size old new result before after random random' small seated whole goes =
    let is = size_in key size small result old new before after random random' seated goes in
    subst (λ (r : Result Reply Memory). SeatBooked key false (lines.Size k size) r (Some old) (Some new) before after random random') is.reply_is
    (by_outcome key k size small old new seated whole (sizes_name result size seated.of_script goes) before after random random' (size_keeps result size seated.of_script goes) is.outcome is.these is.words is.told is.taken is.on_host is.on_words is.left)
