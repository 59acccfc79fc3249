-- The line `size`, from the contracts of the changes of size that it makes.
use Rattle.std.proofs.Common.{◌≡◌, ⊎_elim, inl, inr, Bool, true, false, List, [], ◌∷◌, ℕ, ◌^◌, ◌<◌, ◌≤◌, refl, sym, ◌∙◌, ap, subst, Some, Result, Ok, Err, length, arith}
use Rattle.node_tree.specs.Applying.{Step}
use Rattle.node_tree.specs.Backing.{now}
use Rattle.node_tree.specs.Sheet.{Sheet}
use Rattle.node_tree.specs.declared.fault.TreeFault.{TreeFault}
use Rattle.node_tree.specs.declared.fault.TreeFault.TheVariants as trees
use Rattle.pf_io.specs.Host.{Answer, HostState, OnDisk}
use Rattle.pf_io.specs.Words.{WordsState}
use Rattle.pf_io.specs.declared.faults.Memory.{Memory}
use Rattle.pf_io.proofs.Telling.{told_weaker}
use Rattle.pf_session.specs.Changing.{refused, unchanged, changed, not_flushed, flushed_and_changed, SizeGoes, stepped}
use Rattle.pf_session.specs.Faults.{size_of_flush, size_of_tree}
use Rattle.pf_session.specs.State.{SessionState}
use Rattle.pf_session.specs.declared.fault.FlushFault.{FlushFault}
use Rattle.pf_session.specs.declared.fault.FlushFault.TheVariants as faults
use Rattle.pf_session.specs.declared.fault.SizeFault.{SizeFault}
use Rattle.pf_session.specs.declared.fault.SizeFault.TheVariants as sizes
use Rattle.pf_session.specs.declared.fault.Written.{Written}
use Rattle.pf_script.specs.Desk.{IsSeated, seat_on, IsLikeOwn}
use Rattle.pf_script.specs.DeskSteps.{CountsFault, SeatAsks, FlushesUnder, Admits, SeatGoes, to_size}
use Rattle.pf_script.specs.Rules.{NoneRefuses, rules, refuses}
use Rattle.pf_script.specs.Script.{OwnSeat, Seat, Own}
use Rattle.pf_script.specs.SeatReplies.{flush_reply, size_reply, IsNoLimit, IsNextSize, SizesGo, set_last, set_failed, set_piece}
use Rattle.pf_script.specs.SeatSteps.{LARGEST, IsResize}
use Rattle.pf_script.specs.Turns.{Blame}
use Rattle.pf_script.specs.declared.line.ScriptLine.TheVariants as lines
use Rattle.pf_script.specs.declared.reply.Reply.{Reply}
use Rattle.pf_script.specs.declared.reply.Reply.TheVariants as replies
use Rattle.pf_script.specs.declared.reply.Why.TheVariants as whys
use Rattle.pf_script.proofs.ChangeLine.{outcome_reply, none_made, broken_leaves, passed_cause, broken_cause}
use Rattle.pf_script.proofs.ChangeTold.{Outcome, Went, Broke, Lacked, Wanted, host_in, words_in, OutcomeCame}
use Rattle.pf_script.proofs.Flushed.{host_blamed, fault_of, length_now}
use Rattle.pf_script.proofs.Liking.{like_some}
use Rattle.pf_script.proofs.Refusing.{none_then}
use Rattle.pf_script.proofs.SeatCalls.{seen_by, SheetTurns, whole_turns, host_reply, words_reply, goes_told, goes_wanting}
use Rattle.pf_script.proofs.Showing.{shows_broken}
use Rattle.pf_script.proofs.SizeSeen.{sized, size_result, never_refused, LeftBySize, SizeSeen, size_seen}
use Rattle.pf_script.proofs.SizeTold.{SizeTold, size_ends}
use Rattle.pf_script.proofs.StepTurns.{LineEnds}
use Rattle.pf_script.proofs.WantFlushes.{Any, flushed_under, flushes_of, size_flushes}

-- the fault of a change that no rule refused
tree_no_limit : (flushed : Bool) (fault : SizeFault) (one : Result (Unit {0}) TreeFault) → ◌≡◌ {A = Result Written SizeFault} (Err fault) (stepped size_of_tree flushed one) → IsNoLimit fault
tree_no_limit flushed fault (Ok done) said = absurd (cc)
tree_no_limit flushed fault (Err (trees.Damaged damage)) said = let is : sizes.Damaged damage ≡ fault = cc in subst IsNoLimit is tt
tree_no_limit flushed fault (Err trees.Host) said = let is : sizes.Host ≡ fault = cc in subst IsNoLimit is tt
tree_no_limit flushed fault (Err trees.Memory) said = let is : sizes.Memory ≡ fault = cc in subst IsNoLimit is tt

flush_no_limit : (fault : SizeFault) (of_flush : FlushFault) → ◌≡◌ {A = Result Written SizeFault} (Err fault) (Err (size_of_flush of_flush)) → IsNoLimit fault
flush_no_limit fault faults.Words said = let is : sizes.Words ≡ fault = cc in subst IsNoLimit is tt
flush_no_limit fault (faults.Damaged damage) said = let is : sizes.Damaged damage ≡ fault = cc in subst IsNoLimit is tt
flush_no_limit fault faults.Host said = let is : sizes.Host ≡ fault = cc in subst IsNoLimit is tt

set_no_limit : (size n : ℕ) (fault : SizeFault) (old new : SessionState) (before after : HostState) (random random' : WordsState) → size ≤ 2 ^ 32 → IsNextSize size old.tree.size n → SizeGoes (Err fault) n old new before after random random' → IsNoLimit fault
set_no_limit size n fault old new before after random random' small next (refused other why same stays words said) = absurd (never_refused size n old other small next why)
set_no_limit size n fault old new before after random random' small next (unchanged free none same stays words said) = absurd (cc)
set_no_limit size n fault old new before after random random' small next (changed one free some roomy steps words said) = tree_no_limit false fault one said
set_no_limit size n fault old new before after random random' small next (not_flushed of_flush free some first flush undamaged said) = flush_no_limit fault of_flush said
set_no_limit size n fault old new before after random random' small next (flushed_and_changed mid between one free some first flush steps said) = tree_no_limit true fault one said

pub no_limit : (size : ℕ) (fault : SizeFault) (result : Result (Unit {0}) SizeFault) (old new : SessionState) (before after : HostState) (random random' : WordsState) → size ≤ 2 ^ 32 → result ≡ Err fault → SizesGo result size old new before after random random' → IsNoLimit fault
no_limit size fault result _ _ _ _ _ _ small is (set_last written old new before after random random' few sets said) = absurd (cc)
no_limit size fault result _ _ _ _ _ _ small is (set_failed other n old new before after random random' next sets said) =
    let same : other ≡ fault = cc in
    subst IsNoLimit same (set_no_limit size n other old new before after random random' small next sets.goes)
no_limit size fault result _ _ _ _ _ _ small is (set_piece written old mid new before between after random random' random'' far sets rest) = no_limit size fault result mid new between after random' random'' small is rest

module _ (key : List ℕ) (k size : ℕ) (small : size ≤ 2 ^ 32) (old new : SessionState) (whole : old.broken ≡ false) where
  passes_own : (any_key : List ℕ) (taken : Bool) (own : OwnSeat) → own.broken ≡ false → (given : List Answer) → NoneRefuses (rules any_key taken (Own own) (lines.Size k size) given)
  passes_own any_key taken own own_whole given = none_then (refuses whys.TooLarge (LARGEST < size) ∷ []) (Own own) own refl own_whole ((λ why too_large. omega (arith, too_large.1, small)), tt)

  like_passes : (own : OwnSeat) → IsLikeOwn own old → (given : List Answer) → NoneRefuses (rules key false (Own own) (lines.Size k size) given)
  like_passes own like = passes_own key false own (like.broken_is ∙ whole)

  pub line_passes : (base : Sheet) (given : List Answer) → NoneRefuses (rules key false (Own (seat_on base old)) (lines.Size k size) given)
  line_passes base = passes_own key false (seat_on base old) whole

  admits : Admits (lines.Size k size) old
  admits = record {
    whole = whole;
    none = λ any_key taken seat like.
        let at = like_some seat old like in
        subst (λ (s : Seat). NoneRefuses (rules any_key taken s (lines.Size k size) [])) (sym at.seat_is) (passes_own any_key taken at.own (at.like.broken_is ∙ whole) []);
  }

  pub goes_on_now : (base : Sheet) (steps : List Step) → IsResize size old.tree.size steps → IsResize size (length (now base old.tree)) steps
  goes_on_now base steps is = subst (λ n. IsResize size n steps) (sym (length_now base old.tree)) is

  module _ (given : List Answer) (words : List (List ℕ)) where
    went_turns : (flushed : Bool) → SizeTold size old new given words (Went flushed) → SheetTurns key false (lines.Size k size) (seen_by given words false false) (replies.Sized size) old (Some new) given
    went_turns flushed told sealed base among linked kept =
        let own = seat_on base old in
        size_ends key sealed own k size given words false false (LineEnds key sealed own (lines.Size k size) given words false false (replies.Sized size) new) (line_passes base) new old given words (Went flushed) told
        (record { went = λ f is acts ends. ends; broke = λ blame is acts ends. absurd (cc); lack = λ is acts ends. absurd (cc); memory = λ is. absurd (cc) })
        [] [] [] base (none_made sealed base old among linked kept whole) (goes_on_now base) [] refl refl

    broke_turns : (blame : Blame) → SizeTold size old new given words (Broke blame) → SheetTurns key false (lines.Size k size) (seen_by given words (host_blamed blame) false) (flush_reply (fault_of blame)) old (Some new) given
    broke_turns blame told sealed base among linked kept =
        let own = seat_on base old in
        size_ends key sealed own k size given words (host_blamed blame) false (LineEnds key sealed own (lines.Size k size) given words (host_blamed blame) false (flush_reply (fault_of blame)) new) (line_passes base) new old given words (Broke blame) told
        (record {
          went = λ f is acts ends. absurd (cc);
          broke = λ other is acts ends.
              subst (λ (b : Blame). LineEnds key sealed own (lines.Size k size) given words (host_blamed b) false (flush_reply (fault_of b)) new acts) (sym (same_blame blame other is)) ends;
          lack = λ is acts ends. absurd (cc);
          memory = λ is. absurd (cc);
        })
        [] [] [] base (none_made sealed base old among linked kept whole) (goes_on_now base) [] refl refl
      where
        same_blame : (b other : Blame) → Broke b ≡ Broke other → b ≡ other
        same_blame b other is = cc

    lacked_turns : SizeTold size old new given words Lacked → SheetTurns key false (lines.Size k size) (seen_by given words false true) replies.WordsFault old (Some new) given
    lacked_turns told sealed base among linked kept =
        let own = seat_on base old in
        size_ends key sealed own k size given words false true (LineEnds key sealed own (lines.Size k size) given words false true replies.WordsFault new) (line_passes base) new old given words Lacked told
        (record { went = λ f is acts ends. absurd (cc); broke = λ blame is acts ends. absurd (cc); lack = λ is acts ends. ends; memory = λ is. absurd (cc) })
        [] [] [] base (none_made sealed base old among linked kept whole) (goes_on_now base) [] refl refl

  module _ (result : Result (Unit {0}) SizeFault) (before after : HostState) (random random' : WordsState) (seen : SizeSeen key size small result old new before after random random') (key_is : new.key ≡ old.key)
      (flushes : seen.outcome ≡ Wanted → OnDisk before after (FlushesUnder (lines.Size k size) old)) where
    came_as : (outcome : Outcome) → seen.outcome ≡ outcome → OutcomeCame old.name outcome before after
    came_as outcome is = subst (λ (o : Outcome). OutcomeCame old.name o before after) is seen.came

    left_as : (outcome : Outcome) → seen.outcome ≡ outcome → LeftBySize size old new outcome
    left_as outcome is = subst (λ (o : Outcome). LeftBySize size old new o) is seen.leaves

    by_outcome : (outcome : Outcome) → seen.outcome ≡ outcome → SeatGoes key false (lines.Size k size) (outcome_reply (sized size) outcome) (Some old) (Some new) before after random random'
    by_outcome (Went flushed) is =
        goes_told key false (lines.Size k size) old before after random random' seen.aside (λ none. absurd none, tt) (replies.Sized size)
        (subst (λ (o : Outcome). CountsFault (host_in o) before.faults after.faults) is seen.on_host, subst (λ (o : Outcome). CountsFault (words_in o) random.faults random'.faults) is seen.on_words) new
        (told_weaker (λ given. SizeTold size old new given seen.words seen.outcome) (λ given. SeatAsks key false (lines.Size k size) (replies.Sized size) (Some old) (Some new) given before after random random') before after seen.told
        (λ given told. record {
          seen = seen_by given seen.words false false;
          was_seen = record {
            answers = refl;
            words = seen.taken;
            of_host = subst (λ (o : Outcome). CountsFault (host_in o) before.faults after.faults) is seen.on_host;
            of_words = subst (λ (o : Outcome). CountsFault (words_in o) random.faults random'.faults) is seen.on_words;
          };
          turns = whole_turns key false (lines.Size k size) (seen_by given seen.words false false) (replies.Sized size) old (Some new) given whole
              (went_turns given seen.words flushed (subst (λ (o : Outcome). SizeTold size old new given seen.words o) is told));
        })) (passed_cause key (lines.Size k size) old like_passes before after (replies.Sized size) (λ seat given free. free) (Went flushed) (came_as (Went flushed) is)) (to_size k size old new (left_as (Went flushed) is).0 (left_as (Went flushed) is).1) seen.books seen.seated_new seen.name_is
    by_outcome (Broke blame) is =
        goes_told key false (lines.Size k size) old before after random random' seen.aside (λ none. absurd none, tt) (flush_reply (fault_of blame)) (
          subst (λ b. CountsFault b before.faults after.faults) (sym (host_reply blame)) (subst (λ (o : Outcome). CountsFault (host_in o) before.faults after.faults) is seen.on_host),
          subst (λ b. CountsFault b random.faults random'.faults) (sym (words_reply blame)) (subst (λ (o : Outcome). CountsFault (words_in o) random.faults random'.faults) is seen.on_words),
        ) new
        (told_weaker (λ given. SizeTold size old new given seen.words seen.outcome) (λ given. SeatAsks key false (lines.Size k size) (flush_reply (fault_of blame)) (Some old) (Some new) given before after random random') before after seen.told
        (λ given told. record {
          seen = seen_by given seen.words (host_blamed blame) false;
          was_seen = record {
            answers = refl;
            words = seen.taken;
            of_host = subst (λ (o : Outcome). CountsFault (host_in o) before.faults after.faults) is seen.on_host;
            of_words = subst (λ (o : Outcome). CountsFault (words_in o) random.faults random'.faults) is seen.on_words;
          };
          turns = whole_turns key false (lines.Size k size) (seen_by given seen.words (host_blamed blame) false) (flush_reply (fault_of blame)) old (Some new) given whole
              (broke_turns given seen.words blame (subst (λ (o : Outcome). SizeTold size old new given seen.words o) is told));
        })) (broken_cause key (lines.Size k size) old like_passes before after tt blame (came_as (Broke blame) is)) (broken_leaves old new random random' (lines.Size k size) tt blame (left_as (Broke blame) is)) seen.books seen.seated_new seen.name_is
    by_outcome Lacked is =
        goes_told key false (lines.Size k size) old before after random random' seen.aside (λ none. absurd none, tt) replies.WordsFault
        (subst (λ (o : Outcome). CountsFault (host_in o) before.faults after.faults) is seen.on_host, subst (λ (o : Outcome). CountsFault (words_in o) random.faults random'.faults) is seen.on_words) new
        (told_weaker (λ given. SizeTold size old new given seen.words seen.outcome) (λ given. SeatAsks key false (lines.Size k size) replies.WordsFault (Some old) (Some new) given before after random random') before after seen.told
        (λ given told. record {
          seen = seen_by given seen.words false true;
          was_seen = record {
            answers = refl;
            words = seen.taken;
            of_host = subst (λ (o : Outcome). CountsFault (host_in o) before.faults after.faults) is seen.on_host;
            of_words = subst (λ (o : Outcome). CountsFault (words_in o) random.faults random'.faults) is seen.on_words;
          };
          turns = whole_turns key false (lines.Size k size) (seen_by given seen.words false true) replies.WordsFault old (Some new) given whole
              (lacked_turns given seen.words (subst (λ (o : Outcome). SizeTold size old new given seen.words o) is told));
        })) (passed_cause key (lines.Size k size) old like_passes before after replies.WordsFault (λ seat given free. free) Lacked (came_as Lacked is)) (⊎_elim (λ same. inl (ap (λ (s : SessionState). Some s) same)) (λ grew. inr grew) (left_as Lacked is)) seen.books seen.seated_new seen.name_is
    by_outcome Wanted is =
        goes_wanting key false (lines.Size k size) old before after random random' seen.aside (λ none. absurd none, tt) (record {}) new
        (record {
          takes = λ none. none;
          early = λ none. absurd none;
          shows = shows_broken key old new before after (λ given. SizeTold size old new given seen.words seen.outcome) seen.told (seen.breaks is) key_is seen.name_is;
          ends = inr (tt, seen.breaks is, admits);
          flushes = λ session same. flushes_of (lines.Size k size) old session before after same (flushes is);
        }) seen.books seen.seated_new seen.name_is
        (subst (λ (o : Outcome). CountsFault (host_in o) before.faults after.faults) is seen.on_host) (subst (λ (o : Outcome). CountsFault (words_in o) random.faults random'.faults) is seen.on_words)

no_flush_wants : (fault : FlushFault) → ◌≡◌ {A = Result Reply Memory} (Err (record {})) (size_reply (size_of_flush fault)) → ⊥
no_flush_wants faults.Words is = absurd (cc)
no_flush_wants (faults.Damaged damage) is = absurd (cc)
no_flush_wants faults.Host is = absurd (cc)

pub size_goes : (key : List ℕ) (k size : ℕ) (old new : SessionState) (result : Result (Unit {0}) SizeFault) (before after : HostState) (random random' : WordsState) → size ≤ 2 ^ 32 → IsSeated key old → old.broken ≡ false
    → SizesGo result size old new before after random random' → SeatGoes key false (lines.Size k size) (size_result size result) (Some old) (Some new) before after random random'
size_goes key k size old new result before after random random' small seated whole goes =
    let seen = size_seen key size small result old new before after random random' seated goes in
    subst (λ (r : Result Reply Memory). SeatGoes key false (lines.Size k size) r (Some old) (Some new) before after random random') seen.reply_is
    (by_outcome key k size small old new whole result before after random random' seen (seen.seated_new.key_is ∙ sym seated.key_is)
    (λ wants.
    flushed_under (lines.Size k size) Any old new before after
    (size_flushes k size result (λ fault is. no_flush_wants fault (sym (ap (outcome_reply (sized size)) wants) ∙ seen.reply_is ∙ ap (size_result size) is)) seated.of_script goes)) seen.outcome refl)
