-- The lines `write` and `fill`, from the contract of a write.
use Rattle.std.proofs.Common.{◌≡◌, ◌≢◌, inl, inr, Bool, true, false, List, [], ◌∷◌, ◌++◌, ℕ, ◌+◌, ◌^◌, ◌<◌, ◌≤◌, max, refl, sym, ◌∙◌, ap, subst, Some, Result, Ok, Err, length, replicate, arith}
use Rattle.std.proofs.lemmas.List.{length-replicate}
use Rattle.node_tree.specs.Applying.{Write}
use Rattle.node_tree.specs.Backing.{now}
use Rattle.node_tree.specs.Sheet.{Sheet}
use Rattle.node_tree.specs.declared.fault.TreeFault.{TreeFault}
use Rattle.node_tree.specs.declared.fault.TreeFault.TheVariants as trees
use Rattle.pf_io.specs.Host.{Answer, HostState, OnDisk, ReadsAsImage}
use Rattle.pf_io.specs.Words.{WordsState}
use Rattle.pf_io.specs.declared.faults.Memory.{Memory}
use Rattle.pf_io.proofs.Telling.{told_none, both_same}
use Rattle.pf_session.specs.Aside.{Aside}
use Rattle.pf_session.specs.Changing.{refused, unchanged, changed, not_flushed, flushed_and_changed, WriteRefused, WriteGoes, stepped, StepState}
use Rattle.pf_session.specs.Faults.{write_of_flush, write_of_tree}
use Rattle.pf_session.specs.State.{SessionState}
use Rattle.pf_session.proofs.Created.{aside_none}
use Rattle.pf_session.specs.declared.fault.FlushFault.{FlushFault}
use Rattle.pf_session.specs.declared.fault.FlushFault.TheVariants as faults
use Rattle.pf_session.specs.declared.fault.WriteFault.{WriteFault}
use Rattle.pf_session.specs.declared.fault.WriteFault.TheVariants as writes
use Rattle.pf_session.specs.declared.fault.Written.{Written}
use Rattle.pf_script.specs.BookSeats.{Covers, KeepsUnder}
use Rattle.pf_script.specs.Desk.{IsSeated, seat_on, IsLikeOwn}
use Rattle.pf_script.specs.DeskSteps.{IsChange, TakesNone, FlushesUnder, Admits, IsAcceptance, SeatGoes, to_write as accepts_write, to_fill as accepts_fill}
use Rattle.pf_script.specs.Rules.{IsFirst, NoneRefuses, rules, seated_rules, writing_rules}
use Rattle.pf_script.specs.Script.{OwnSeat, Seat, Own}
use Rattle.pf_script.specs.SeatReplies.{write_reply}
use Rattle.pf_script.specs.SeatSteps.{IsWrite, nothing, at_place, AsksFor}
use Rattle.pf_script.specs.Turns.{IsChangeReply, to_write, to_fill, some_sheet}
use Rattle.pf_script.specs.declared.line.ScriptLine.{ScriptLine}
use Rattle.pf_script.specs.declared.line.ScriptLine.TheVariants as lines
use Rattle.pf_script.specs.declared.reply.Reply.{Reply}
use Rattle.pf_script.specs.declared.reply.Reply.TheVariants as replies
use Rattle.pf_script.specs.declared.reply.Why.{Why}
use Rattle.pf_script.specs.declared.reply.Why.TheVariants as whys
use Rattle.pf_script.proofs.ChangeKeeping.{change_keeps}
use Rattle.pf_script.proofs.ChangeLine.{outcome_reply, change_seated, none_made, line_goes}
use Rattle.pf_script.proofs.ChangeTold.{Grew, Outcome, Wanted, outcome_of, flush_outcome, ChangeSeen, seen_once, seen_unflushed, seen_after}
use Rattle.pf_script.proofs.FewAsked.{none_taken_at}
use Rattle.pf_script.proofs.Flushed.{flush_case, flushed_size, length_now}
use Rattle.pf_script.proofs.Liking.{like_some}
use Rattle.pf_script.proofs.OfScript.{of_flushed}
use Rattle.pf_script.proofs.Refusing.{refused_goes, first_then, none_then, at_last, none_taken, same_keeps}
use Rattle.pf_script.proofs.SeatCalls.{seen_by, whole_turns, goes_on}
use Rattle.pf_script.proofs.StepTurns.{all_made}
use Rattle.pf_script.proofs.WantFlushes.{Any, flushed_under, change_flushes}

-- a line that writes these bytes; so many are printed
pub data IsWriteLine (at : ℕ) (bytes : List ℕ) : ScriptLine → ℕ → Type 0 where
  plain : (k : ℕ) → IsWriteLine at bytes (lines.Write k at bytes) (length bytes)
  copies : (k count byte : ℕ) → bytes ≡ replicate count byte → IsWriteLine at bytes (lines.Fill k at count byte) count

module _ (at : ℕ) (bytes : List ℕ) where
  pub write_asks : (line : ScriptLine) (count : ℕ) → IsWriteLine at bytes line count → (size : ℕ) (steps : List _) → IsWrite at bytes steps → AsksFor line size steps
  write_asks _ _ (plain k) size steps is = is
  write_asks _ _ (copies k count byte same) size steps is = subst (λ (b : List ℕ). IsWrite at b steps) same is

  pub write_count : (line : ScriptLine) (count : ℕ) → IsWriteLine at bytes line count → count ≡ length bytes
  write_count _ _ (plain k) = refl
  write_count _ _ (copies k count byte same) = sym (ap length same ∙ length-replicate count byte)

  pub write_replies : (line : ScriptLine) (count : ℕ) → IsWriteLine at bytes line count → (sheets : List Sheet) → IsChangeReply sheets line (replies.Written count (some_sheet sheets))
  write_replies _ _ (plain k) sheets = to_write k at bytes
  write_replies _ _ (copies k count byte same) sheets = to_fill k at count byte

  pub write_accepts : (line : ScriptLine) (count : ℕ) → IsWriteLine at bytes line count → (flushed : Bool) (old new : SessionState) → new.broken ≡ false → new.tree.size ≡ max old.tree.size (at + length bytes) → IsAcceptance (Some old) line (replies.Written count flushed) (Some new)
  write_accepts _ _ (plain k) flushed old new whole size_is = accepts_write k at bytes flushed old new whole size_is
  write_accepts _ _ (copies k count byte same) flushed old new whole size_is =
      accepts_fill k at count byte flushed old new whole (size_is ∙ ap (λ n. max old.tree.size (at + n)) (ap length same ∙ length-replicate count byte))

  pub write_first : (line : ScriptLine) (count : ℕ) → IsWriteLine at bytes line count → (key : List ℕ) (seat : Seat) (given : List Answer) (why : Why) → IsFirst (seated_rules seat ++ writing_rules seat at count) why → IsFirst (rules key false seat line given) why
  write_first _ _ (plain k) key seat given why first = first
  write_first _ _ (copies k count byte same) key seat given why first = first

  pub write_passes : (line : ScriptLine) (count : ℕ) → IsWriteLine at bytes line count → (key : List ℕ) (taken : Bool) (seat : Seat) (given : List Answer) → NoneRefuses (seated_rules seat ++ writing_rules seat at count) → NoneRefuses (rules key taken seat line given)
  write_passes _ _ (plain k) key taken seat given passes = passes
  write_passes _ _ (copies k count byte same) key taken seat given passes = passes

  pub write_takes : (line : ScriptLine) (count : ℕ) → IsWriteLine at bytes line count → ¬ (TakesNone line)
  write_takes _ _ (plain k) none = none
  write_takes _ _ (copies k count byte same) none = none

  pub write_changes : (line : ScriptLine) (count : ℕ) → IsWriteLine at bytes line count → IsChange line
  write_changes _ _ (plain k) = tt
  write_changes _ _ (copies k count byte same) = tt

-- the reply to a change by its outcome
abbrev pub written : ℕ → Bool → Reply
written count flushed = replies.Written count flushed

pub stepped_reply : (count : ℕ) (flushed : Bool) (one : Result (Unit {0}) TreeFault) → outcome_reply (written count) (outcome_of flushed one) ≡ write_reply count (stepped write_of_tree flushed one)
stepped_reply count flushed (Ok done) = refl
stepped_reply count flushed (Err (trees.Damaged damage)) = refl
stepped_reply count flushed (Err trees.Host) = refl
stepped_reply count flushed (Err trees.Memory) = refl

pub unflushed_reply : (count : ℕ) (fault : FlushFault) → outcome_reply (written count) (flush_outcome fault) ≡ write_reply count (Err (write_of_flush fault))
unflushed_reply count faults.Words = refl
unflushed_reply count (faults.Damaged damage) = refl
unflushed_reply count faults.Host = refl

never_wanted : (fault : FlushFault) → flush_outcome fault ≡ Wanted → ⊥
never_wanted faults.Words is = absurd (cc)
never_wanted (faults.Damaged damage) is = absurd (cc)
never_wanted faults.Host is = absurd (cc)

no_flush_wants : (count : ℕ) (fault : FlushFault) → Err (record {}) ≡ write_reply count (Err (write_of_flush fault)) → ⊥
no_flush_wants count faults.Words is = absurd (cc)
no_flush_wants count (faults.Damaged damage) is = absurd (cc)
no_flush_wants count faults.Host is = absurd (cc)

pub wanted_breaks : (flushed : Bool) (one : Result (Unit {0}) TreeFault) (old new : SessionState) → StepState one old new → outcome_of flushed one ≡ Wanted → new.broken ≡ true
wanted_breaks flushed (Ok done) old new state is = absurd (cc)
wanted_breaks flushed (Err fault) old new state is = ap (λ (s : SessionState). s.broken) state

-- nothing was done
pub nothing_goes : (key : List ℕ) (line : ScriptLine) (result : Result Reply Memory) (old new : SessionState) (before after : HostState) (random random' : WordsState) → new ≡ old → after ≡ before → random' ≡ random
    → SeatGoes key false line result (Some old) (Some old) before before random random → SeatGoes key false line result (Some old) (Some new) before after random random'
nothing_goes key line result old new before after random random' same stays words goes =
    subst (λ (s : SessionState). SeatGoes key false line result (Some old) (Some s) before after random random') (sym same)
    (subst (λ (h : HostState). SeatGoes key false line result (Some old) (Some old) before h random random') (sym stays)
    (subst (λ (w : WordsState). SeatGoes key false line result (Some old) (Some old) before before random w) (sym words) goes))

module _ (key : List ℕ) (at : ℕ) (bytes : List ℕ) (line : ScriptLine) (count : ℕ) (is_line : IsWriteLine at bytes line count) (old : SessionState) (seated : IsSeated key old) (whole : old.broken ≡ false) where
  count_is : count ≡ length bytes
  count_is = write_count at bytes line count is_line

  -- a rule refuses
  rule_goes : (why : Why) (host : HostState) (words : WordsState) → ((own : OwnSeat) → length own.content ≡ old.tree.size → IsFirst (writing_rules (Own own) at count) why) → SeatGoes key false line (Ok (replies.Refused why)) (Some old) (Some old) host host words words
  rule_goes why host words first =
      refused_goes key false line why (Some old) host words
      (λ seat like.
      let like_old = like_some seat old like in
      let own = like_old.own in
      subst (λ (x : Seat). IsFirst (rules key false x line []) why) (sym like_old.seat_is)
      (write_first at bytes line count is_line key (Own own) [] why (first_then (writing_rules (Own own) at count) why (Own own) own refl (like_old.like.broken_is ∙ whole) (first own (like_old.like.as_large whole))))) seated

  -- which rule it is that refuses
  pub record RefusedBy (fault : WriteFault) : Type 0 where
    pub why : Why
    pub reply_is : write_reply count (Err fault) ≡ Ok (replies.Refused why)
    pub first : (own : OwnSeat) → length own.content ≡ old.tree.size → IsFirst (writing_rules (Own own) at count) why

  pub why_refused : (fault : WriteFault) → WriteRefused at (length bytes) old.tree.size fault → RefusedBy fault
  why_refused writes.TooLong why = record { why = whys.TooLong; reply_is = refl; first = λ own size_is. inl (refl, subst (λ n. 32768 < n) (sym count_is) why) }
  why_refused writes.TooLarge why = record {
    why = whys.TooLarge;
    reply_is = refl;
    first = λ own size_is. inr ((λ other refuses. omega (arith, refuses.1, why.0, count_is)), inl (refl, omega (arith, why.1, count_is)));
  }
  why_refused (writes.PastEnd said) why = record {
    why = whys.PastEnd said;
    reply_is = refl;
    first = λ own size_is.
        inr (
          (λ other refuses. omega (arith, refuses.1, why.0, count_is)),
          inr (
            (λ other refuses. omega (arith, refuses.1, why.1, count_is)),
            inl (said, why.3 ∙ sym size_is, subst (λ n. n < at) (sym why.3) why.2, refl),
          ),
        );
  }
  why_refused writes.Words why = absurd why
  why_refused (writes.Damaged damage) why = absurd why
  why_refused writes.Host why = absurd why
  why_refused writes.Memory why = absurd why

  refused_by : (fault : WriteFault) (host : HostState) (words : WordsState) → WriteRefused at (length bytes) old.tree.size fault → SeatGoes key false line (write_reply count (Err fault)) (Some old) (Some old) host host words words
  refused_by fault host words why =
      let by = why_refused fault why in
      subst (λ (r : Result Reply Memory). SeatGoes key false line r (Some old) (Some old) host host words words) (sym by.reply_is) (rule_goes by.why host words by.first)

  -- no rule refuses
  module _ (free : (fault : WriteFault) → ¬ (WriteRefused at (length bytes) old.tree.size fault)) where
    passes_own : (any_key : List ℕ) (taken : Bool) (own : OwnSeat) → own.broken ≡ false → length own.content ≡ old.tree.size → (given : List Answer) → NoneRefuses (rules any_key taken (Own own) line given)
    passes_own any_key taken own own_whole as_large given =
        write_passes at bytes line count is_line any_key taken (Own own) given
        (none_then (writing_rules (Own own) at count) (Own own) own refl own_whole ((λ why refuses. not_long refuses.1), ((λ why refuses. not_large refuses.1), ((λ why refuses. not_past why refuses), tt))))
      where
        not_long : ¬ (32768 < count)
        not_long long = free writes.TooLong (subst (λ n. 32768 < n) count_is long)

        few : length bytes ≤ 32768
        few = omega (arith, not_long, count_is)

        not_large : ¬ (2 ^ 32 < at + count)
        not_large large = free writes.TooLarge (few, omega (arith, large, count_is))

        small : at + length bytes ≤ 2 ^ 32
        small = omega (arith, not_large, count_is)

        not_past : (why : Why) → ¬ ((size : ℕ) × (size ≡ length own.content) × (size < at) × (why ≡ whys.PastEnd size))
        not_past why past = free (writes.PastEnd old.tree.size) (few, small, subst (λ n. n < at) (past.1 ∙ as_large) past.2, refl)

    like_passes : (own : OwnSeat) → IsLikeOwn own old → (given : List Answer) → NoneRefuses (rules key false (Own own) line given)
    like_passes own like = passes_own key false own (like.broken_is ∙ whole) (like.as_large whole)

    pub passes : (base : Sheet) (given : List Answer) → NoneRefuses (rules key false (Own (seat_on base old)) line given)
    passes base = passes_own key false (seat_on base old) whole (length_now base old.tree)

    admits : Admits line old
    admits = record {
      whole = whole;
      none = λ any_key taken seat like.
          let at = like_some seat old like in
          subst (λ (s : Seat). NoneRefuses (rules any_key taken s line [])) (sym at.seat_is) (passes_own any_key taken at.own (at.like.broken_is ∙ whole) (at.like.as_large whole) []);
    }

    -- an empty write is inside of the content
    nothing_size : bytes ≡ [] → old.tree.size ≡ max old.tree.size (at + length bytes)
    nothing_size none = omega (arith, inside, empty)
      where
        empty : length bytes ≡ 0
        empty = ap length none

        not_large : ¬ (2 ^ 32 < at + length bytes)
        not_large large = free writes.TooLarge (omega (arith, empty), large)

        inside : ¬ (old.tree.size < at)
        inside past = free (writes.PastEnd old.tree.size) (omega (arith, empty), omega (arith, not_large), past, refl)

    -- an empty write
    empty_goes : bytes ≡ [] → (host : HostState) (words : WordsState) → SeatGoes key false line (Ok (replies.Written count false)) (Some old) (Some old) host host words words
    empty_goes none host words =
        goes_on key false line (replies.Written count false) old host host words words (aside_none old.name host) (none_taken_at line (Some old) host words) [] [] false false
        (record { told = told_none host host refl; taken = none_taken words; on_host = refl; on_words = refl }) refl refl old
        (whole_turns key false line (seen_by [] [] false false) (replies.Written count false) old (Some old) [] whole
        (λ sealed base among linked kept.
        at_last [] (inl refl) (λ unforged. all_made key sealed (seat_on base old) line [] old [] [] [] base (none_made sealed base old among linked kept whole)
        (write_asks at bytes line count is_line (length (now base old.tree)) [] (nothing none refl)) (replies.Written count false) (write_replies at bytes line count is_line []) (passes base))))
        (admits.none key false) (write_accepts at bytes line count is_line false old old whole (nothing_size none))
        (both_same (KeepsUnder (Covers old) (Covers old) (λ name. name ≡ old.name)) host.honest host.honest refl (same_keeps (Covers old) (λ name. name ≡ old.name))) seated refl

    -- a write of some bytes
    some_goes : bytes ≢ [] → (new : SessionState) (before after : HostState) (random random' : WordsState) → Aside old.name before after → OnDisk before after (KeepsUnder (Covers old) (Covers new) (λ name. name ≡ old.name)) → IsSeated key new → new.name ≡ old.name
        → (outcome : Outcome) → ChangeSeen (Write at bytes) old new outcome before after random random' → (outcome ≡ Wanted → (new.broken ≡ true) × OnDisk before after (FlushesUnder line old)) → SeatGoes key false line (outcome_reply (written count) outcome) (Some old) (Some new) before after random random'
    some_goes some new before after random random' aside books seated_new name_is =
        line_goes key line old new whole (Write at bytes) (written count) (λ size. write_asks at bytes line count is_line size (Write at bytes ∷ []) (at_place some refl)) replied like_passes before after random random' aside books seated_new (seated_new.key_is ∙ sym seated.key_is) name_is
        (write_takes at bytes line count is_line) (write_changes at bytes line count is_line) admits (λ flushed. (refl, refl)) (λ flushed seat given passed. passed) (λ flushed whole_new size_is. write_accepts at bytes line count is_line flushed old new whole_new size_is)
      where
        replied : (flushed : Bool) (sheets : List Sheet) → Grew flushed [] sheets → IsChangeReply sheets line (replies.Written count flushed)
        replied false sheets grew = subst (λ (s : List Sheet). IsChangeReply s line (replies.Written count false)) (sym grew) (write_replies at bytes line count is_line [])
        replied true sheets grew = subst (λ (s : List Sheet). IsChangeReply s line (replies.Written count true)) (sym grew.1) (write_replies at bytes line count is_line (grew.0 ∷ []))

pub write_goes : (key : List ℕ) (at : ℕ) (bytes : List ℕ) (line : ScriptLine) (count : ℕ) → IsWriteLine at bytes line count → (old new : SessionState) (result : Result Written WriteFault) (before after : HostState) (random random' : WordsState) → IsSeated key old
    → old.broken ≡ false → WriteGoes result at bytes old new before after random random' → Aside old.name before after → ReadsAsImage after → SeatGoes key false line (write_reply count result) (Some old) (Some new) before after random random'
write_goes key at bytes line count is_line old new result before after random random' seated whole goes aside reads = by_case goes
  where
    books : OnDisk before after (KeepsUnder (Covers old) (Covers new) (λ name. name ≡ old.name))
    books = change_keeps old seated.of_script WriteFault (WriteRefused at (length bytes) old.tree.size) (bytes ≡ []) write_of_flush write_of_tree (Write at bytes) result new before after random random' whole goes aside reads

    -- where memory was wanting
    flushes : (outcome : Outcome) → outcome_reply (written count) outcome ≡ write_reply count result → outcome ≡ Wanted → OnDisk before after (FlushesUnder line old)
    flushes outcome replied wants =
        flushed_under line Any old new before after
        (change_flushes line Any old seated.of_script WriteFault (WriteRefused at (length bytes) old.tree.size) (bytes ≡ []) write_of_flush write_of_tree (Write at bytes) result new before after random random' (λ content. tt) (λ content long. tt) whole
        (λ fault is. no_flush_wants count fault (sym (ap (outcome_reply (written count)) wants) ∙ replied ∙ ap (write_reply count) is)) goes aside reads)

    seated_new : IsSeated key new × (new.name ≡ old.name)
    seated_new = change_seated key old seated whole WriteFault (WriteRefused at (length bytes) old.tree.size) (bytes ≡ []) write_of_flush write_of_tree (Write at bytes) result new before after random random' goes

    as_result : (r : Result Written WriteFault) → result ≡ r → SeatGoes key false line (write_reply count r) (Some old) (Some new) before after random random' → SeatGoes key false line (write_reply count result) (Some old) (Some new) before after random random'
    as_result r said = subst (λ (x : Result Written WriteFault). SeatGoes key false line (write_reply count x) (Some old) (Some new) before after random random') (sym said)

    by_reply : (o r : Result Reply Memory) → o ≡ r → SeatGoes key false line o (Some old) (Some new) before after random random' → SeatGoes key false line r (Some old) (Some new) before after random random'
    by_reply o r same = subst (λ (x : Result Reply Memory). SeatGoes key false line x (Some old) (Some new) before after random random') same

    by_case : WriteGoes result at bytes old new before after random random' → SeatGoes key false line (write_reply count result) (Some old) (Some new) before after random random'
    by_case (refused fault why same stays words said) =
        as_result (Err fault) said (nothing_goes key line (write_reply count (Err fault)) old new before after random random' same stays words (refused_by key at bytes line count is_line old seated whole fault before random why))
    by_case (unchanged free none same stays words said) =
        as_result (Ok (record { flushed_before = false })) said
        (nothing_goes key line (Ok (replies.Written count false)) old new before after random random' same stays words (empty_goes key at bytes line count is_line old seated whole free none before random))
    by_case (changed one free some roomy steps words said) =
        as_result (stepped write_of_tree false one) said
        (by_reply (outcome_reply (written count) (outcome_of false one)) (write_reply count (stepped write_of_tree false one)) (stepped_reply count false one)
        (some_goes key at bytes line count is_line old seated whole free some new before after random random' aside books seated_new.0 seated_new.1 (outcome_of false one)
        (seen_once old seated.of_script (Write at bytes) before after random random' new one roomy steps words)
        (λ wants. (wanted_breaks false one old new steps.state wants, flushes (outcome_of false one) (stepped_reply count false one ∙ ap (write_reply count) (sym said)) wants))))
    by_case (not_flushed fault free some first flush undamaged said) =
        as_result (Err (write_of_flush fault)) said
        (by_reply (outcome_reply (written count) (flush_outcome fault)) (write_reply count (Err (write_of_flush fault))) (unflushed_reply count fault)
        (some_goes key at bytes line count is_line old seated whole free some new before after random random' aside books seated_new.0 seated_new.1 (flush_outcome fault)
        (seen_unflushed old seated.of_script (Write at bytes) before after random random' new fault first (flush_case old seated.of_script new before after random random' (Err fault) flush)) (λ is. absurd (never_wanted fault is))))
    by_case (flushed_and_changed mid between one free some first flush steps said) =
        as_result (stepped write_of_tree true one) said
        (by_reply (outcome_reply (written count) (outcome_of true one)) (write_reply count (stepped write_of_tree true one)) (stepped_reply count true one)
        (some_goes key at bytes line count is_line old seated whole free some new before after random random' aside books seated_new.0 seated_new.1 (outcome_of true one)
        (seen_after old seated.of_script (Write at bytes) before after random random' mid new between one (of_flushed old mid seated.of_script (Ok tt) before between random random' flush) (flushed_size old mid before between random random' flush) first
        (flush_case old seated.of_script mid before between random random' (Ok tt) flush) steps)
        (λ wants. (wanted_breaks true one mid new steps.state wants, flushes (outcome_of true one) (stepped_reply count true one ∙ ap (write_reply count) (sym said)) wants))))
