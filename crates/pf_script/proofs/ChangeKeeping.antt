-- What a change of a session's content keeps of a book, from its contract.
use Rattle.std.proofs.Common.{◌≡◌, true, false, refl, sym, ◌∙◌, ap, subst, Some, Result, Err}
use Rattle.pf_io.specs.Disk.{IsImage, reading}
use Rattle.pf_io.specs.Moments.{Honest, Ran, Where}
use Rattle.pf_io.specs.Steps.{Stays}
use Rattle.pf_io.specs.Host.{HostState, OnDisk, ReadsAsImage}
use Rattle.pf_io.specs.Words.{WordsState}
use Rattle.node_tree.specs.Applying.{Step, applied}
use Rattle.node_tree.specs.Backing.{now}
use Rattle.node_tree.specs.Sheet.{Sheet, IsLinked}
use Rattle.node_tree.specs.declared.fault.TreeFault.{TreeFault}
use Rattle.pf_session.specs.Aside.{Aside, LeavesApart, KeepsApart}
use Rattle.pf_session.specs.Backing.{IsBacked}
use Rattle.pf_session.specs.Changing.{ChangeGoes, refused, unchanged, changed, not_flushed, flushed_and_changed, StepGoes}
use Rattle.pf_session.specs.Reopening.{AsEither, Stood}
use Rattle.pf_session.specs.Sealing.{StoodIf}
use Rattle.pf_session.specs.State.{SessionState}
use Rattle.pf_session.specs.declared.fault.FlushFault.{FlushFault}
use Rattle.pf_session.specs.declared.fault.Written.{Written}
use Rattle.pf_script.specs.BookDebts.{Unchanged}
use Rattle.pf_script.specs.BookSeats.{IsOfScript, Covers, KeepsUnder}
use Rattle.pf_script.proofs.ActKeeping.{Idles, idle_keeps, SealsOn, SealsOnce, seal_keeps}
use Rattle.pf_script.proofs.OfScript.{step_names}
use Rattle.pf_script.proofs.CallKeeping.{both_with, at_both, back_to, read_image, reads_after, step_kept, step_now, idle_same, flush_ended, ended_keeps, WasFlushed, was_flushed}

module _ (old : SessionState) (mine : IsOfScript old) where
  -- a step with no flush before it
  pub step_idles : (new : SessionState) (one : Result (Unit {0}) TreeFault) (step : Step) (before after : HostState) (a b : Honest) → before.honest ≡ Some a → after.honest ≡ Some b → old.broken ≡ false
      → StepGoes one step old new before after → Idles old new a b
  step_idles new one step before after a b is is2 whole goes = record {
    unchanged = at_both (Ran IsImage Stays) before.honest after.honest a b is is2 goes.disk;
    key_is = (step_names old new one goes.state).0;
    name_is = (step_names old new one goes.state).1;
    whole = λ _. whole;
    kept = λ base kept stood whole_new. step_kept old mine new one step before after goes a is base kept.backed stood whole_new;
  }

  -- a step after a flush
  module _ (mid new : SessionState) (one : Result (Unit {0}) TreeFault) (step : Step) (before between after : HostState) (was : WasFlushed old mine mid before between) (goes : StepGoes one step mid new between after) where
    mid_mine : IsOfScript mid
    mid_mine = subst (λ (s : SessionState). IsOfScript s) (sym was.state) (record { is_target = mine.is_target; path_is = mine.path_is; named = mine.named })

    seals_then : (a m b : Honest) → before.honest ≡ Some a → between.honest ≡ Some m → Unchanged m b → (base : Sheet) → IsLinked base → IsBacked base old → SealsOn true old new base a b
    seals_then a m b is is_mid only base linked backed =
        let seals = was.seals base linked backed in
        let ran = at_both (Where (Stood old.key old.name base) (Ran (AsEither old.key old.name base seals.next) (StoodIf true old.key old.name seals.next))) before.honest between.honest a m is is_mid (seals.named mine.named) in
        record {
          next = seals.next;
          path_is = seals.is_next.path_is ∙ mine.path_is;
          sealed = λ stood. reads_after (AsEither old.key old.name base seals.next) (StoodIf true old.key old.name seals.next) a m b (ran stood) only;
          on_next = λ _ whole stood.
              step_kept mid mid_mine new one step between after goes m is_mid seals.next (seals.on_next refl).backed
              (subst (λ (s : SessionState). Stood s.key s.name seals.next m.now) (sym was.state) (ran stood).ends) whole;
        }

    -- the content after both
    pub flushed_now : (a m b : Honest) → before.honest ≡ Some a → between.honest ≡ Some m → (base : Sheet) (linked : IsLinked base) (backed : IsBacked base old) → Stood old.key old.name base a.now → new.broken ≡ false
        → now (was.seals base linked backed).next new.tree ≡ applied step (now base old.tree)
    flushed_now a m b is is_mid base linked backed stood whole =
        let seals = was.seals base linked backed in
        let ran = at_both (Where (Stood old.key old.name base) (Ran (AsEither old.key old.name base seals.next) (StoodIf true old.key old.name seals.next))) before.honest between.honest a m is is_mid (seals.named mine.named) in
        let on = seals.on_next refl in
        step_now mid mid_mine new one step between after goes m is_mid seals.next on.backed (subst (λ (s : SessionState). Stood s.key s.name seals.next m.now) (sym was.state) (ran stood).ends) whole
        ∙ ap (applied step) (on.now_is ∙ seals.is_next.content_is)

    pub flushed_step : (a b : Honest) → before.honest ≡ Some a → after.honest ≡ Some b → old.broken ≡ false → Ran (LeavesApart old.name) (KeepsApart old.name) a b → IsImage b.now (reading b.now) → SealsOnce true old new a b
    flushed_step a b is is2 whole others reads =
        let m = back_to (Ran IsImage Stays) between.honest after.honest b is2 goes.disk in
        let same = step_names mid new one goes.state in
        record {
          others = others;
          reads = reads;
          whole = whole;
          key_is = same.0 ∙ ap (λ (s : SessionState). s.key) was.state;
          name_is = same.1 ∙ ap (λ (s : SessionState). s.name) was.state;
          fails = λ e. absurd (cc);
          seals = λ base linked backed. seals_then a m.0 b is m.1 m.2 base linked backed;
        }

    -- the sheet that it seals is the flush's
    pub flushed_next : (a b : Honest) (is : before.honest ≡ Some a) (is2 : after.honest ≡ Some b) (whole : old.broken ≡ false) (others : Ran (LeavesApart old.name) (KeepsApart old.name) a b) (reads : IsImage b.now (reading b.now))
        (base : Sheet) (linked : IsLinked base) (backed : IsBacked base old) → ((flushed_step a b is is2 whole others reads).seals base linked backed).next ≡ (was.seals base linked backed).next
    unfolding flushed_step seals_then
    flushed_next a b is is2 whole others reads base linked backed = refl

  pub change_keeps : (E : Type 0) (Refused : E → Type 0) (IsNone : Type 0) (of_flush : FlushFault → E) (of_tree : TreeFault → E) (step : Step) (result : Result Written E) (new : SessionState) (before after : HostState) (random random' : WordsState)
      → old.broken ≡ false → ChangeGoes E Refused IsNone of_flush of_tree step result old new before after random random' → Aside old.name before after → ReadsAsImage after
      → OnDisk before after (KeepsUnder (Covers old) (Covers new) (λ name. name ≡ old.name))
  change_keeps E Refused IsNone of_flush of_tree step result new before after random random' whole goes aside reads =
      both_with (Ran (LeavesApart old.name) (KeepsApart old.name)) (KeepsUnder (Covers old) (Covers new) (λ name. name ≡ old.name)) before.honest after.honest aside (λ a b is is2 ran. by_case a b is is2 ran goes)
    where
      by_case : (a b : Honest) → before.honest ≡ Some a → after.honest ≡ Some b → Ran (LeavesApart old.name) (KeepsApart old.name) a b
          → ChangeGoes E Refused IsNone of_flush of_tree step result old new before after random random' → KeepsUnder (Covers old) (Covers new) (λ name. name ≡ old.name) a b
      by_case a b is is2 ran (refused fault why same stays words said) = idle_keeps old new a b (λ name. name ≡ old.name) (idle_same old mine new before after a b is is2 whole same stays)
      by_case a b is is2 ran (unchanged free none same stays words said) = idle_keeps old new a b (λ name. name ≡ old.name) (idle_same old mine new before after a b is is2 whole same stays)
      by_case a b is is2 ran (changed one free some roomy steps words said) = idle_keeps old new a b (λ name. name ≡ old.name) (step_idles new one step before after a b is is2 whole steps)
      by_case a b is is2 ran (not_flushed fault free some first flush undamaged said) =
          ended_keeps old mine new a b (flush_ended old mine (Err fault) new before after random random' a b is is2 whole ran (read_image after.honest b is2 reads) flush)
      by_case a b is is2 ran (flushed_and_changed mid between one free some first flush steps said) =
          let was = was_flushed old mine mid before between random random' flush in
          seal_keeps true old new a b mine.is_target (flushed_step mid new one step before between after was steps a b is is2 whole ran (read_image after.honest b is2 reads))
