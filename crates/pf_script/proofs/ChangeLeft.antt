-- How a change of a session's content ended, with what it left on the disk.
use Rattle.std.proofs.Common.{◌≡◌, true, false, List, [], ◌++◌, ℕ, refl, sym, ◌∙◌, ap, subst, Option, None, Result, Ok, Err, length, arith}
use Rattle.node_tree.specs.Applying.{Step}
use Rattle.node_tree.specs.State.{TreeState}
use Rattle.node_tree.specs.declared.fault.TreeFault.{TreeFault}
use Rattle.pf_io.specs.Disk.{IsImage}
use Rattle.pf_io.specs.Host.{Answer, HostState, Both, IsMore}
use Rattle.pf_io.specs.Moments.{Ran}
use Rattle.pf_io.specs.Steps.{Stays}
use Rattle.pf_io.specs.Unchanged.{KeepsDisk}
use Rattle.pf_io.specs.Words.{WordsState}
use Rattle.pf_io.proofs.Telling.{both_same, told_on}
use Rattle.pf_session.specs.Asking.{IsTaken as AreTaken}
use Rattle.pf_session.specs.Backing.{StandsOn}
use Rattle.pf_session.specs.Changing.{StepState, IsFlushedFirst, IsRoomy, StepGoes}
use Rattle.pf_session.specs.Drawing.{nonce_words}
use Rattle.pf_session.specs.Flushing.{UndamagedFlush}
use Rattle.pf_session.specs.Sealing.{Replaces, StandsNext}
use Rattle.pf_session.specs.State.{SessionState}
use Rattle.pf_session.specs.declared.fault.FlushFault.{FlushFault}
use Rattle.pf_session.specs.declared.fault.FlushFault.TheVariants as faults
use Rattle.pf_script.specs.BookSeats.{IsOfScript}
use Rattle.pf_script.specs.DeskSteps.{CountsFault}
use Rattle.pf_script.specs.Turns.{Blame}
use Rattle.pf_script.proofs.ActKeeping.{unchanged_now}
use Rattle.pf_script.proofs.ChangeTold.{Outcome, Broke, Lacked, outcome_of, host_in, words_in, host_same, calm_words, flush_outcome, outcome_is, same_fault}
use Rattle.pf_script.proofs.Flushed.{SealsWith, AsManyAsFlush, TooFewToFlush, FlushEnds, not_begun, not_ended, was_ended, fault_of}
use Rattle.pf_script.proofs.Refusing.{none_taken}
use Rattle.pf_script.proofs.StepFacts.{host_of, counts_of}

pub data ChangeLeft (step : Step) (old new : SessionState) (before after : HostState) (words : List (List ℕ)) : Outcome → Type 0 where
  left_once : (one : Result (Unit {0}) TreeFault) → IsRoomy step old.tree → words ≡ [] → StepGoes one step old new before after → ChangeLeft step old new before after words (outcome_of false one)
  left_lacked : IsFlushedFirst step old.tree → TooFewToFlush old words → new ≡ old → after ≡ before → ChangeLeft step old new before after words Lacked
  left_unflushed : (blame : Blame) → AsManyAsFlush old words → IsFlushedFirst step old.tree → UndamagedFlush (Err (fault_of blame)) old before → SealsWith old words (λ base next. Replaces false old.key old.name base next before after)
      → new.key ≡ old.key → new.name ≡ old.name → new.broken ≡ true → ChangeLeft step old new before after words (Broke blame)
  left_after : (mid : SessionState) (between : HostState) (one : Result (Unit {0}) TreeFault) → IsOfScript mid → AsManyAsFlush old words → IsFlushedFirst step old.tree → SealsWith old words (λ base next. StandsOn next mid × Replaces true old.key old.name base next before between × StandsNext old.key old.name base next before between)
      → {nonce : List ℕ} {tree : TreeState} → mid ≡ record old { nonce = nonce; drawn = None; tree = tree; changed = false } → mid.tree.dirty ≡ [] → StepGoes one step mid new between after → ChangeLeft step old new before after words (outcome_of true one)

-- a session for which no nonce was drawn seals with words alone
no_flush : (old : SessionState) (words : List (List ℕ)) → old.drawn ≡ None → words ≡ [] → ¬ (AsManyAsFlush old words)
no_flush old words undrawn none counted =
    let zero = ap (λ (l : List (List ℕ)). length l) none in
    let two = ap (λ (o : Option (List ℕ)). nonce_words o) undrawn in
    omega (arith, zero, two, counted)

-- so a change without words leaves the disk
pub wordless_keeps : (step : Step) (old new : SessionState) (before after : HostState) (words : List (List ℕ)) (outcome : Outcome) → old.drawn ≡ None → words ≡ [] → ChangeLeft step old new before after words outcome → KeepsDisk before after
wordless_keeps step old new before after words _ undrawn none (left_once one roomy empty goes) = goes.disk
wordless_keeps step old new before after words _ undrawn none (left_lacked first fewer same stays) = both_same (Ran IsImage Stays) before.honest after.honest (ap (λ (h : HostState). h.honest) stays) (λ a. unchanged_now a)
wordless_keeps step old new before after words _ undrawn none (left_unflushed blame counted first undamaged seals key_is name_is broken) = absurd (no_flush old words undrawn none counted)
wordless_keeps step old new before after words _ undrawn none (left_after mid between one of_mid counted first seals same dirty goes) = absurd (no_flush old words undrawn none counted)

step_undrawn : (one : Result (Unit {0}) TreeFault) (old new : SessionState) → StepState one old new → new.drawn ≡ old.drawn
step_undrawn (Ok done) old new state = ap (λ (s : SessionState). s.drawn) state
step_undrawn (Err fault) old new state = ap (λ (s : SessionState). s.drawn) state

-- and draws no nonce
pub wordless_undrawn : (step : Step) (old new : SessionState) (before after : HostState) (words : List (List ℕ)) (outcome : Outcome) → old.drawn ≡ None → words ≡ [] → ChangeLeft step old new before after words outcome → new.drawn ≡ None
wordless_undrawn step old new before after words _ undrawn none (left_once one roomy empty goes) = step_undrawn one old new goes.state ∙ undrawn
wordless_undrawn step old new before after words _ undrawn none (left_lacked first fewer same stays) = ap (λ (s : SessionState). s.drawn) same ∙ undrawn
wordless_undrawn step old new before after words _ undrawn none (left_unflushed blame counted first undamaged seals key_is name_is broken) = absurd (no_flush old words undrawn none counted)
wordless_undrawn step old new before after words _ undrawn none (left_after mid between one of_mid counted first seals same dirty goes) = absurd (no_flush old words undrawn none counted)

-- what is seen of it
pub record ChangeIn (step : Step) (old new : SessionState) (outcome : Outcome) (before after : HostState) (random random' : WordsState) : Type 0 where
  pub these : List Answer
  pub words : List (List ℕ)
  pub told : Both before.given after.given (IsMore these)
  pub taken : Both random.left random'.left (AreTaken words)
  pub on_host : CountsFault (host_in outcome) before.faults after.faults
  pub on_words : CountsFault (words_in outcome) random.faults random'.faults
  pub left : ChangeLeft step old new before after words outcome

module _ (old : SessionState) (step : Step) (before after : HostState) (random random' : WordsState) where
  pub in_once : (new : SessionState) (one : Result (Unit {0}) TreeFault) → IsRoomy step old.tree → StepGoes one step old new before after → random' ≡ random → ChangeIn step old new (outcome_of false one) before after random random'
  in_once new one roomy goes same = record {
    these = goes.steps.these;
    words = [];
    told = goes.steps.answered.told;
    taken = subst (λ (w : WordsState). Both random.left w.left (AreTaken [])) (sym same) (none_taken random);
    on_host = subst (λ b. CountsFault b before.faults after.faults) (host_same false one) (counts_of one before.faults after.faults goes.cause);
    on_words = subst (λ b. CountsFault b random.faults random'.faults) (sym (calm_words false one)) (ap (λ (w : WordsState). w.faults) same);
    left = left_once one roomy refl goes;
  }

  pub in_unflushed : (new : SessionState) (fault : FlushFault) → IsFlushedFirst step old.tree → UndamagedFlush (Err fault) old before → FlushEnds (Err fault) old new before after random random' → ChangeIn step old new (flush_outcome fault) before after random random'
  in_unflushed new fault first undamaged (not_begun words fewer seen same stays said) =
      subst (λ (f : FlushFault). ChangeIn step old new (flush_outcome f) before after random random') (same_fault fault faults.Words said)
      (record { these = []; words = words; told = seen.told; taken = seen.taken; on_host = seen.on_host; on_words = seen.on_words; left = left_lacked first fewer same stays })
  in_unflushed new fault first undamaged (not_ended blame these words counted seen blames seals key_is name_is broken said) =
      subst (λ (f : FlushFault). ChangeIn step old new (flush_outcome f) before after random random') (same_fault fault (fault_of blame) said)
      (subst (λ (o : Outcome). ChangeIn step old new o before after random random') (sym (outcome_is blame))
      (record {
        these = these;
        words = words;
        told = seen.told;
        taken = seen.taken;
        on_host = seen.on_host;
        on_words = seen.on_words;
        left = left_unflushed blame counted first (subst (λ (f : FlushFault). UndamagedFlush (Err f) old before) (sym (same_fault fault (fault_of blame) said)) undamaged) seals key_is name_is broken;
      }))
  in_unflushed new fault first undamaged (was_ended these words counted seen swapped seals same dirty said) = absurd (cc)

  pub in_after : (mid new : SessionState) (between : HostState) (one : Result (Unit {0}) TreeFault) → IsOfScript mid → IsFlushedFirst step old.tree → FlushEnds (Ok tt) old mid before between random random' → StepGoes one step mid new between after
      → ChangeIn step old new (outcome_of true one) before after random random'
  in_after mid new between one of_mid first (not_begun words fewer seen same stays said) goes = absurd (cc)
  in_after mid new between one of_mid first (not_ended blame these words counted seen blames seals key_is name_is broken said) goes = absurd (cc)
  in_after mid new between one of_mid first (was_ended these words counted seen swapped seals same dirty said) goes = record {
    these = these ++ goes.steps.these;
    words = words;
    told = told_on these goes.steps.these before between after seen.told goes.steps.answered.told;
    taken = seen.taken;
    on_host = subst (λ b. CountsFault b before.faults after.faults) (host_same true one) (subst (λ n. CountsFault (host_of one) n after.faults) seen.on_host (counts_of one between.faults after.faults goes.cause));
    on_words = subst (λ b. CountsFault b random.faults random'.faults) (sym (calm_words true one)) seen.on_words;
    left = left_after mid between one of_mid counted first seals same dirty goes;
  }
