-- A line on a seat that is one change of its session.
use Rattle.std.proofs.Common.{◌≡◌, ◌⊎◌, inl, inr, Bool, true, false, List, [], ◌∷◌, ◌++◌, ℕ, refl, sym, ◌∙◌, ap, subst, Some, Result, Ok, Err, length}
use Rattle.std.specs.Prelude.{Contains}
use Rattle.std.proofs.lemmas.List.{append-nil}
use Rattle.node_layout.specs.declared.damage.Damage.{Damage}
use Rattle.node_tree.specs.Applying.{Step, size_after}
use Rattle.node_tree.specs.Sheet.{Sheet, IsLinked}
use Rattle.node_tree.specs.declared.fault.TreeFault.{TreeFault}
use Rattle.pf_io.specs.Disk.{Name}
use Rattle.pf_io.specs.Host.{Answer, HostState, OnDisk}
use Rattle.pf_io.specs.Words.{WordsState}
use Rattle.pf_io.specs.declared.faults.Memory.{Memory}
use Rattle.pf_io.proofs.Telling.{told_weaker}
use Rattle.pf_session.specs.Moving.{IsKeptOn}
use Rattle.pf_session.specs.Changing.{ChangeGoes, refused, unchanged, changed, not_flushed, flushed_and_changed, StepState}
use Rattle.pf_session.specs.Aside.{Aside}
use Rattle.pf_session.specs.State.{SessionState}
use Rattle.pf_session.specs.declared.fault.FlushFault.{FlushFault}
use Rattle.pf_session.specs.declared.fault.Written.{Written}
use Rattle.pf_script.specs.BookSeats.{Covers, KeepsUnder}
use Rattle.pf_script.specs.Desk.{IsSeated, seat_on, IsLikeOwn}
use Rattle.pf_script.specs.DeskSteps.{in_the_end, CountsFault, SeatAsks, SeatCaused, IsChange, WantsEarly, TakesNone, FlushesUnder, Admits, LeftAtFault, LeftAtDamage, LeftAtWords, SeatGoes, is_host_fault, is_words_fault, LeavesSeat}
use Rattle.pf_script.specs.Rules.{NoneRefuses, rules}
use Rattle.pf_script.specs.Script.{OwnSeat, Seat, Own}
use Rattle.pf_script.specs.SeatReplies.{flush_reply}
use Rattle.pf_script.specs.SeatSteps.{AsksFor, none_left}
use Rattle.pf_script.specs.Turns.{Blame, ByHost, ByDamage, IsChangeReply, flushes, IsShort, IsClosed, FetchDamage, DamageComes, Caused}
use Rattle.pf_script.specs.declared.line.ScriptLine.{ScriptLine}
use Rattle.pf_script.specs.declared.line.ScriptLine.TheVariants as lines
use Rattle.pf_script.specs.declared.reply.Reply.{Reply}
use Rattle.pf_script.specs.declared.reply.Reply.TheVariants as replies
use Rattle.pf_script.proofs.ChangeEnds.{change_ends}
use Rattle.pf_script.proofs.ChangeTold.{Grew, Outcome, Went, Broke, Lacked, Wanted, ChangeTold, OutcomeCame, ChangeSeen}
use Rattle.pf_script.proofs.FewAsked.{TakesFew, change_takes}
use Rattle.pf_script.proofs.Flushed.{FlushCase, lacked, failed, done, flush_case, host_blamed, fault_of}
use Rattle.pf_script.proofs.Liking.{like_on, like_some}
use Rattle.pf_script.proofs.OfScript.{of_changed}
use Rattle.pf_script.proofs.SeatCalls.{seen_by, SheetTurns, whole_turns, host_reply, words_reply, false_true, goes_told, goes_wanting}
use Rattle.pf_script.proofs.Showing.{shows_broken}
use Rattle.pf_script.proofs.StepTurns.{Made, LineEnds, all_made}
use Rattle.pf_script.proofs.WantFlushes.{flushes_of}

-- the reply by the outcome
abbrev pub outcome_reply : (Bool → Reply) → Outcome → Result Reply Memory
outcome_reply reply (Went flushed) = Ok (reply flushed)
outcome_reply reply (Broke blame) = Ok (flush_reply (fault_of blame))
outcome_reply reply Lacked = Ok replies.WordsFault
outcome_reply reply Wanted = Err (record {})

-- the session after a change
pub record After (old new : SessionState) : Type 0 where
  pub key_is : new.key ≡ old.key
  pub name_is : new.name ≡ old.name
  pub clean : new.broken ≡ false → new.changed ≡ false → new.tree.dirty ≡ []

module _ (key : List ℕ) (old : SessionState) (seated : IsSeated key old) (whole : old.broken ≡ false) where
  same_after : (new : SessionState) → new ≡ old → After old new
  same_after new same = record {
    key_is = ap (λ (s : SessionState). s.key) same;
    name_is = ap (λ (s : SessionState). s.name) same;
    clean = λ also unchanged. ap (λ (s : SessionState). s.tree.dirty) same ∙ seated.clean whole (sym (ap (λ (s : SessionState). s.changed) same) ∙ unchanged);
  }

  step_after : (mid new : SessionState) (one : Result (Unit {0}) TreeFault) → mid.key ≡ old.key → mid.name ≡ old.name → StepState one mid new → After old new
  step_after mid new (Ok ok) key_is name_is state = record {
    key_is = ap (λ (s : SessionState). s.key) state ∙ key_is;
    name_is = ap (λ (s : SessionState). s.name) state ∙ name_is;
    clean = λ also unchanged. absurd (false_true new.changed (ap (λ (s : SessionState). s.changed) state) unchanged);
  }
  step_after mid new (Err fault) key_is name_is state = record {
    key_is = ap (λ (s : SessionState). s.key) state ∙ key_is;
    name_is = ap (λ (s : SessionState). s.name) state ∙ name_is;
    clean = λ also unchanged. absurd (false_true new.broken (ap (λ (s : SessionState). s.broken) state) also);
  }

  flush_after : (new : SessionState) (result : Result (Unit {0}) FlushFault) (before after : HostState) (random random' : WordsState) → FlushCase result old new before after random random' → After old new
  flush_after new result before after random random' (lacked words fewer seen same stays said) = same_after new same
  flush_after new result before after random random' (failed blame these words seen blames seals key_is name_is broken said) =
      record { key_is = key_is; name_is = name_is; clean = λ also unchanged. absurd (false_true new.broken broken also) }
  flush_after new result before after random random' (done these words seen swapped seals same dirty said) =
      record { key_is = ap (λ (s : SessionState). s.key) same; name_is = ap (λ (s : SessionState). s.name) same; clean = λ also unchanged. dirty }

  change_after : (E : Type 0) (Refused : E → Type 0) (IsNone : Type 0) (of_flush : FlushFault → E) (of_tree : TreeFault → E) (step : Step) (result : Result Written E) (new : SessionState) (before after : HostState) (random random' : WordsState)
      → ChangeGoes E Refused IsNone of_flush of_tree step result old new before after random random' → After old new
  change_after E Refused IsNone of_flush of_tree step result new before after random random' (refused fault why same stays words said) = same_after new same
  change_after E Refused IsNone of_flush of_tree step result new before after random random' (unchanged free none same stays words said) = same_after new same
  change_after E Refused IsNone of_flush of_tree step result new before after random random' (changed one free some roomy steps words said) = step_after old new one refl refl steps.state
  change_after E Refused IsNone of_flush of_tree step result new before after random random' (not_flushed fault free some first flush undamaged said) =
      flush_after new (Err fault) before after random random' (flush_case old seated.of_script new before after random random' (Err fault) flush)
  change_after E Refused IsNone of_flush of_tree step result new before after random random' (flushed_and_changed mid between one free some first flush steps said) =
      let flushed = flush_after mid (Ok tt) before between random random' (flush_case old seated.of_script mid before between random random' (Ok tt) flush) in
      step_after mid new one flushed.key_is flushed.name_is steps.state

  pub change_seated : (E : Type 0) (Refused : E → Type 0) (IsNone : Type 0) (of_flush : FlushFault → E) (of_tree : TreeFault → E) (step : Step) (result : Result Written E) (new : SessionState) (before after : HostState) (random random' : WordsState)
      → ChangeGoes E Refused IsNone of_flush of_tree step result old new before after random random' → IsSeated key new × (new.name ≡ old.name)
  change_seated E Refused IsNone of_flush of_tree step result new before after random random' goes =
      let is = change_after E Refused IsNone of_flush of_tree step result new before after random random' goes in (
        record {
          of_script = of_changed old new seated.of_script E Refused IsNone of_flush of_tree step result before after random random' goes;
          key_is = is.key_is ∙ seated.key_is;
          clean = is.clean;
        },
        is.name_is,
      )

-- the first step of a line
pub none_made : (sealed : List Sheet) (base : Sheet) (old : SessionState) → Contains sealed base → IsLinked base → IsKeptOn base old → old.broken ≡ false → Made sealed (seat_on base old) old [] [] [] base
none_made sealed base old among linked kept whole = record {
  makes = none_left (seat_on base old);
  among = subst (λ (l : List Sheet). Contains l base) (sym (append-nil sealed)) among;
  linked = linked;
  kept = kept;
  whole = whole;
  key_is = refl;
  name_is = refl;
}

-- the damages that a change may meet
change_damage : (key : List ℕ) (seat : Seat) (line : ScriptLine) (given : List Answer) (damage : Damage) → IsChange line → FetchDamage seat given damage → DamageComes key seat line given damage
change_damage key seat lines.Blank given damage changes comes = absurd changes
change_damage key seat (lines.Create k name) given damage changes comes = absurd changes
change_damage key seat (lines.Open k name) given damage changes comes = absurd changes
change_damage key seat (lines.View k path) given damage changes comes = absurd changes
change_damage key seat (lines.Read k at count) given damage changes comes = absurd changes
change_damage key seat (lines.Write k at bytes) given damage changes comes = comes
change_damage key seat (lines.Fill k at count byte) given damage changes comes = comes
change_damage key seat (lines.Size k size) given damage changes comes = comes
change_damage key seat (lines.Flush k) given damage changes comes = absurd changes
change_damage key seat (lines.Move k name) given damage changes comes = absurd changes
change_damage key seat (lines.Draw k) given damage changes comes = absurd changes
change_damage key seat (lines.Close k) given damage changes comes = absurd changes

-- a change may want memory behind its calls
never_early : (line : ScriptLine) → IsChange line → WantsEarly line → ⊥
never_early lines.Blank changes early = changes
never_early (lines.Create k name) changes early = changes
never_early (lines.Open k name) changes early = changes
never_early (lines.View k path) changes early = changes
never_early (lines.Read k at count) changes early = changes
never_early (lines.Write k at bytes) changes early = early
never_early (lines.Fill k at count byte) changes early = early
never_early (lines.Size k size) changes early = early
never_early (lines.Flush k) changes early = changes
never_early (lines.Move k name) changes early = changes
never_early (lines.Draw k) changes early = changes
never_early (lines.Close k) changes early = changes

-- what a change that failed leaves in its seat
module _ (old new : SessionState) (random random' : WordsState) where
  fault_leaves : (line : ScriptLine) → IsChange line → new.broken ≡ true → LeftAtFault line (Some old) (Some new) random random' × LeftAtDamage line (Some old) (Some new) random random'
  fault_leaves lines.Blank changes broken = absurd changes
  fault_leaves (lines.Create k name) changes broken = absurd changes
  fault_leaves (lines.Open k name) changes broken = absurd changes
  fault_leaves (lines.View k path) changes broken = absurd changes
  fault_leaves (lines.Read k at count) changes broken = absurd changes
  fault_leaves (lines.Write k at bytes) changes broken = (broken, broken)
  fault_leaves (lines.Fill k at count byte) changes broken = (broken, broken)
  fault_leaves (lines.Size k size) changes broken = (broken, broken)
  fault_leaves (lines.Flush k) changes broken = absurd changes
  fault_leaves (lines.Move k name) changes broken = absurd changes
  fault_leaves (lines.Draw k) changes broken = absurd changes
  fault_leaves (lines.Close k) changes broken = absurd changes

  pub broken_leaves : (line : ScriptLine) → IsChange line → (blame : Blame) → new.broken ≡ true → LeavesSeat line (flush_reply (fault_of blame)) (Some old) (Some new) random random'
  broken_leaves line changes ByHost broken = (fault_leaves line changes broken).0
  broken_leaves line changes (ByDamage damage) broken = (fault_leaves line changes broken).1

  -- where a random word was wanting
  lacked_leaves : (line : ScriptLine) → IsChange line → new ≡ old → LeftAtWords line (Some old) (Some new)
  lacked_leaves lines.Blank changes same = absurd changes
  lacked_leaves (lines.Create k name) changes same = absurd changes
  lacked_leaves (lines.Open k name) changes same = absurd changes
  lacked_leaves (lines.View k path) changes same = absurd changes
  lacked_leaves (lines.Read k at count) changes same = absurd changes
  lacked_leaves (lines.Write k at bytes) changes same = ap (λ (s : SessionState). Some s) same
  lacked_leaves (lines.Fill k at count byte) changes same = ap (λ (s : SessionState). Some s) same
  lacked_leaves (lines.Size k size) changes same = inl (ap (λ (s : SessionState). Some s) same)
  lacked_leaves (lines.Flush k) changes same = absurd changes
  lacked_leaves (lines.Move k name) changes same = absurd changes
  lacked_leaves (lines.Draw k) changes same = absurd changes
  lacked_leaves (lines.Close k) changes same = absurd changes

-- The cause of a reply to a line of changes, where no rule refuses on a seat that is like the session.
module _ (key : List ℕ) (line : ScriptLine) (old : SessionState) (passes : (own : OwnSeat) → IsLikeOwn own old → (given : List Answer) → NoneRefuses (rules key false (Own own) line given)) (before after : HostState) where
  -- a reply that needs nothing more
  pub passed_cause : (reply : Reply) → ((seat : Seat) (given : List Answer) → NoneRefuses (rules key false seat line given) → Caused key false seat line given reply) → (outcome : Outcome) → OutcomeCame old.name outcome before after
      → SeatCaused key false line reply (Some old) before after
  passed_cause reply so outcome came = record {
    given = came.these;
    told = came.told;
    caused = λ seat like.
        let at = like_some seat old like in
        subst (λ (s : Seat). Caused key false s line came.these reply) (sym at.seat_is) (so (Own at.own) came.these (passes at.own at.like came.these));
  }

  -- a fault of the host, or a damage
  pub broken_cause : IsChange line → (blame : Blame) → OutcomeCame old.name (Broke blame) before after → SeatCaused key false line (flush_reply (fault_of blame)) (Some old) before after
  broken_cause changes ByHost came = passed_cause replies.HostFault (λ seat given free. free) (Broke ByHost) came
  broken_cause changes (ByDamage damage) came = record {
    given = came.these;
    told = came.told;
    caused = λ seat like.
        let at = like_some seat old like in
        subst (λ (s : Seat). Caused key false s line came.these (replies.DamagedNode damage)) (sym at.seat_is) (
          passes at.own at.like came.these,
          change_damage key (Own at.own) line came.these damage changes (subst (λ (n : Name). IsShort n came.these damage ⊎ IsClosed n came.these damage) (sym at.like.name_is) came.comes),
        );
  }

-- A line that is one change. `replied` is the reply to it, by whether it was flushed before.
module _ (key : List ℕ) (line : ScriptLine) (old new : SessionState) (whole : old.broken ≡ false) (step : Step) (replied : Bool → Reply) (asks : (size : ℕ) → AsksFor line size (step ∷ []))
    (replies_to : (flushed : Bool) (sheets : List Sheet) → Grew flushed [] sheets → IsChangeReply sheets line (replied flushed)) (passes : (own : OwnSeat) → IsLikeOwn own old → (given : List Answer) → NoneRefuses (rules key false (Own own) line given)) where
  module _ (given : List Answer) (words : List (List ℕ)) where
    split : given ≡ [] ++ given ++ []
    split = sym (append-nil given)

    in_order : words ≡ [] ++ words ++ []
    in_order = sym (append-nil words)

    went_turns : (flushed : Bool) → ChangeTold step old new given words (Went flushed) → SheetTurns key false line (seen_by given words false false) (replied flushed) old (Some new) given
    went_turns flushed told sealed base among linked kept =
        let own = seat_on base old in
        change_ends key sealed own line given words false false [] given [] split (LineEnds key sealed own line given words false false (replied flushed) new) old [] [] [] base (none_made sealed base old among linked kept whole) step [] (asks (length own.content)) new words [] in_order
        (Went flushed)
        (record {
          went = λ f is sheets' base' grew made.
              in_the_end (flushes own sheets')
              (λ unforged. all_made key sealed own line given new (step ∷ []) words sheets' base' made (asks (length own.content)) (replied flushed)
              (replies_to flushed sheets' (subst (λ (b : Bool). Grew b [] sheets') (sym (same_flag flushed f is)) grew)) (passes own (like_on base old)));
          broke = λ blame is acts ends. absurd (cc);
          lack = λ is acts ends. absurd (cc);
          memory = λ is. absurd (cc);
          passes = passes own (like_on base old);
        }) told
      where
        same_flag : (f g : Bool) → Went f ≡ Went g → f ≡ g
        same_flag f g is = cc

    broke_turns : (blame : Blame) → ChangeTold step old new given words (Broke blame) → SheetTurns key false line (seen_by given words (host_blamed blame) false) (flush_reply (fault_of blame)) old (Some new) given
    broke_turns blame told sealed base among linked kept =
        let own = seat_on base old in
        change_ends key sealed own line given words (host_blamed blame) false [] given [] split (LineEnds key sealed own line given words (host_blamed blame) false (flush_reply (fault_of blame)) new) old [] [] [] base
        (none_made sealed base old among linked kept whole) step [] (asks (length own.content)) new words [] in_order (Broke blame)
        (record {
          went = λ f is sheets' base' grew made. absurd (cc);
          broke = λ other is acts ends.
              subst (λ (b : Blame). LineEnds key sealed own line given words (host_blamed b) false (flush_reply (fault_of b)) new acts) (sym (same_blame blame other is)) ends;
          lack = λ is acts ends. absurd (cc);
          memory = λ is. absurd (cc);
          passes = passes own (like_on base old);
        }) told
      where
        same_blame : (b other : Blame) → Broke b ≡ Broke other → b ≡ other
        same_blame b other is = cc

    lacked_turns : ChangeTold step old new given words Lacked → SheetTurns key false line (seen_by given words false true) replies.WordsFault old (Some new) given
    lacked_turns told sealed base among linked kept =
        let own = seat_on base old in
        change_ends key sealed own line given words false true [] given [] split (LineEnds key sealed own line given words false true replies.WordsFault new) old [] [] [] base (none_made sealed base old among linked kept whole) step [] (asks (length own.content)) new words [] in_order
        Lacked
        (record {
          went = λ f is sheets' base' grew made. absurd (cc);
          broke = λ blame is acts ends. absurd (cc);
          lack = λ is acts ends. ends;
          memory = λ is. absurd (cc);
          passes = passes own (like_on base old);
        }) told

  module _ (before after : HostState) (random random' : WordsState) (aside : Aside old.name before after) (books : OnDisk before after (KeepsUnder (Covers old) (Covers new) (λ name. name ≡ old.name))) (seated : IsSeated key new) (key_is : new.key ≡ old.key) (name_is : new.name ≡ old.name)
      (takes : ¬ (TakesNone line)) (changes : IsChange line) (admits : Admits line old) (calm : (flushed : Bool) → (is_host_fault (replied flushed) ≡ false) × (is_words_fault (replied flushed) ≡ false))
      (so : (flushed : Bool) (seat : Seat) (given : List Answer) → NoneRefuses (rules key false seat line given) → Caused key false seat line given (replied flushed))
      (accepts : (flushed : Bool) → new.broken ≡ false → new.tree.size ≡ size_after step old.tree.size → LeavesSeat line (replied flushed) (Some old) (Some new) random random') where
    takes_few : TakesFew line (Some old) before after random random'
    takes_few = change_takes line changes (Some old) before after random random'

    pub line_goes : (outcome : Outcome) → ChangeSeen step old new outcome before after random random' → (outcome ≡ Wanted → (new.broken ≡ true) × OnDisk before after (FlushesUnder line old)) → SeatGoes key false line (outcome_reply replied outcome) (Some old) (Some new) before after random random'
    line_goes (Went flushed) seen breaks =
        goes_told key false line old before after random random' aside takes_few (replied flushed)
        (subst (λ b. CountsFault b before.faults after.faults) (sym (calm flushed).0) seen.on_host, subst (λ b. CountsFault b random.faults random'.faults) (sym (calm flushed).1) seen.on_words) new
        (told_weaker (λ given. ChangeTold step old new given seen.words (Went flushed)) (λ given. SeatAsks key false line (replied flushed) (Some old) (Some new) given before after random random') before after seen.told
        (λ given told. record {
          seen = seen_by given seen.words false false;
          was_seen = record { answers = refl; words = seen.taken; of_host = seen.on_host; of_words = seen.on_words };
          turns = whole_turns key false line (seen_by given seen.words false false) (replied flushed) old (Some new) given whole (went_turns given seen.words flushed told);
        })) (passed_cause key line old passes before after (replied flushed) (so flushed) (Went flushed) seen.came) (accepts flushed (seen.leaves.0 ∙ whole) seen.leaves.1) books seated name_is
    line_goes (Broke blame) seen breaks =
        goes_told key false line old before after random random' aside takes_few (flush_reply (fault_of blame))
        (subst (λ b. CountsFault b before.faults after.faults) (sym (host_reply blame)) seen.on_host, subst (λ b. CountsFault b random.faults random'.faults) (sym (words_reply blame)) seen.on_words) new
        (told_weaker (λ given. ChangeTold step old new given seen.words (Broke blame)) (λ given. SeatAsks key false line (flush_reply (fault_of blame)) (Some old) (Some new) given before after random random') before after seen.told
        (λ given told. record {
          seen = seen_by given seen.words (host_blamed blame) false;
          was_seen = record { answers = refl; words = seen.taken; of_host = seen.on_host; of_words = seen.on_words };
          turns = whole_turns key false line (seen_by given seen.words (host_blamed blame) false) (flush_reply (fault_of blame)) old (Some new) given whole (broke_turns given seen.words blame told);
        })) (broken_cause key line old passes before after changes blame seen.came) (broken_leaves old new random random' line changes blame seen.leaves) books seated name_is
    line_goes Lacked seen breaks =
        goes_told key false line old before after random random' aside takes_few replies.WordsFault (seen.on_host, seen.on_words) new
        (told_weaker (λ given. ChangeTold step old new given seen.words Lacked) (λ given. SeatAsks key false line replies.WordsFault (Some old) (Some new) given before after random random') before after seen.told
        (λ given told. record {
          seen = seen_by given seen.words false true;
          was_seen = record { answers = refl; words = seen.taken; of_host = seen.on_host; of_words = seen.on_words };
          turns = whole_turns key false line (seen_by given seen.words false true) replies.WordsFault old (Some new) given whole (lacked_turns given seen.words told);
        })) (passed_cause key line old passes before after replies.WordsFault (λ seat given free. free) Lacked seen.came) (lacked_leaves old new random random' line changes seen.leaves) books seated name_is
    line_goes Wanted seen breaks =
        goes_wanting key false line old before after random random' aside takes_few (record {}) new
        (record {
          takes = takes;
          early = λ first. absurd (never_early line changes first);
          shows = shows_broken key old new before after (λ given. ChangeTold step old new given seen.words Wanted) seen.told (breaks refl).0 key_is name_is;
          ends = inr (changes, (breaks refl).0, admits);
          flushes = λ session is. flushes_of line old session before after is (breaks refl).1;
        }) books seated name_is seen.on_host seen.on_words
