-- What is made or changed by a call is a session of a script, where it was one.
use Rattle.std.proofs.Common.{◌≡◌, false, List, ℕ, refl, sym, ◌∙◌, ap, subst, Result, Ok, Err, cond}
use Rattle.pf_io.specs.Disk.{Name}
use Rattle.pf_io.specs.Names.{IsTarget, side_of}
use Rattle.pf_io.specs.Host.{HostState}
use Rattle.pf_io.specs.Words.{WordsState}
use Rattle.pf_io.specs.declared.faults.WordsFault.{WordsFault}
use Rattle.node_tree.specs.Applying.{Step}
use Rattle.node_tree.specs.declared.fault.TreeFault.{TreeFault}
use Rattle.pf_session.specs.Changing.{ChangeGoes, refused, unchanged, changed, not_flushed, flushed_and_changed, StepState}
use Rattle.pf_session.specs.Creating.{AreNamed, fresh}
use Rattle.pf_session.specs.Drawing.{DrawGoes, drawn_before, drawn_now, not_drawn}
use Rattle.pf_session.specs.Flushing.{FlushGoes, no_words, had_words, SealGoes, node_short, call_failed, flushed}
use Rattle.pf_session.specs.Moving.{MoveGoes, misnamed, no_memory, look_up_failed, was_there, no_words as lacks_words, not_flushed as first_failed, not_moved, moved, FlushesFirst, as_it_is, flushed as first_flush}
use Rattle.pf_session.specs.Reading.{KeepsFields}
use Rattle.pf_session.specs.State.{SessionState, file_of}
use Rattle.pf_session.specs.declared.fault.FlushFault.{FlushFault}
use Rattle.pf_session.specs.declared.fault.MoveFault.{MoveFault}
use Rattle.pf_session.specs.declared.fault.Written.{Written}
use Rattle.pf_script.specs.BookSeats.{IsOfScript}

-- its file is at its name
pub file_named : (old : SessionState) → IsOfScript old → file_of old ≡ old.name
file_named old mine = ap (λ b. cond b (side_of old.name) old.name) mine.named

pub of_created : (key name nonce : List ℕ) → AreNamed name name → IsOfScript (fresh key name name nonce false)
of_created key name nonce good = record { is_target = good.is_target; path_is = refl; named = refl }

module _ (old new : SessionState) (mine : IsOfScript old) where
  of_same : new ≡ old → IsOfScript new
  of_same same = subst (λ (s : SessionState). IsOfScript s) (sym same) mine

  -- its name, path and place are as before
  of_fields : new.name ≡ old.name → new.path ≡ old.path → new.beside ≡ old.beside → IsOfScript new
  of_fields name path beside = record {
    is_target = subst IsTarget (sym name) mine.is_target;
    path_is = path ∙ mine.path_is ∙ sym name;
    named = beside ∙ mine.named;
  }

  pub of_read : KeepsFields old new → IsOfScript new
  of_read fields = of_fields (ap (λ (s : SessionState). s.name) fields) (ap (λ (s : SessionState). s.path) fields) (ap (λ (s : SessionState). s.beside) fields)

  pub of_drawn : (result : Result (List ℕ) WordsFault) (random random' : WordsState) → DrawGoes result old new random random' → IsOfScript new
  of_drawn result random random' (drawn_before nonce was same words said) = of_same same
  of_drawn result random random' (drawn_now nonce none words same said) =
      of_fields (ap (λ (s : SessionState). s.name) same) (ap (λ (s : SessionState). s.path) same) (ap (λ (s : SessionState). s.beside) same)
  of_drawn result random random' (not_drawn fault none fewer same said) = of_same same

  of_sealed : (result : Result (Unit {0}) FlushFault) (nonce : List ℕ) (keys : List (List ℕ)) (before after : HostState) → SealGoes result nonce keys old new before after → IsOfScript new
  of_sealed result nonce keys before after (node_short damage named short seals same said) =
      of_fields (ap (λ (s : SessionState). s.name) same) (ap (λ (s : SessionState). s.path) same) (ap (λ (s : SessionState). s.beside) same)
  of_sealed result nonce keys before after (call_failed stopped beside seals shape same said) =
      of_fields (ap (λ (s : SessionState). s.name) same) (ap (λ (s : SessionState). s.path) same) (ap (λ (s : SessionState). s.beside) same)
  of_sealed result nonce keys before after (flushed mid done beside settled seals same said) =
      of_fields (ap (λ (s : SessionState). s.name) same) (ap (λ (s : SessionState). s.path) same) (ap (λ (s : SessionState). s.beside) same)

  pub of_flushed : (result : Result (Unit {0}) FlushFault) (before after : HostState) (random random' : WordsState) → FlushGoes result old new before after random random' → IsOfScript new
  of_flushed result before after random random' (no_words lacked same stays said) = of_same same
  of_flushed result before after random random' (had_words nonce keys came goes) = of_sealed result nonce keys before after goes

  of_step : (one : Result (Unit {0}) TreeFault) → StepState one old new → IsOfScript new
  of_step (Ok done) same = of_fields (ap (λ (s : SessionState). s.name) same) (ap (λ (s : SessionState). s.path) same) (ap (λ (s : SessionState). s.beside) same)
  of_step (Err fault) same = of_fields (ap (λ (s : SessionState). s.name) same) (ap (λ (s : SessionState). s.path) same) (ap (λ (s : SessionState). s.beside) same)

-- a change keeps key and name
pub step_names : (old new : SessionState) (one : Result (Unit {0}) TreeFault) → StepState one old new → (new.key ≡ old.key) × (new.name ≡ old.name)
step_names old new (Ok done) same = (ap (λ (s : SessionState). s.key) same, ap (λ (s : SessionState). s.name) same)
step_names old new (Err fault) same = (ap (λ (s : SessionState). s.key) same, ap (λ (s : SessionState). s.name) same)

seal_names : (old new : SessionState) (result : Result (Unit {0}) FlushFault) (nonce : List ℕ) (keys : List (List ℕ)) (before after : HostState) → SealGoes result nonce keys old new before after → (new.key ≡ old.key) × (new.name ≡ old.name)
seal_names old new result nonce keys before after (node_short damage named short seals same said) = (ap (λ (s : SessionState). s.key) same, ap (λ (s : SessionState). s.name) same)
seal_names old new result nonce keys before after (call_failed stopped beside seals shape same said) = (ap (λ (s : SessionState). s.key) same, ap (λ (s : SessionState). s.name) same)
seal_names old new result nonce keys before after (flushed mid done beside settled seals same said) = (ap (λ (s : SessionState). s.key) same, ap (λ (s : SessionState). s.name) same)

pub flush_names : (old new : SessionState) (result : Result (Unit {0}) FlushFault) (before after : HostState) (random random' : WordsState) → FlushGoes result old new before after random random' → (new.key ≡ old.key) × (new.name ≡ old.name)
flush_names old new result before after random random' (no_words lacked same stays said) = (ap (λ (s : SessionState). s.key) same, ap (λ (s : SessionState). s.name) same)
flush_names old new result before after random random' (had_words nonce keys came goes) = seal_names old new result nonce keys before after goes

pub change_names : (old new : SessionState) (E : Type 0) (Refused : E → Type 0) (IsNone : Type 0) (of_flush : FlushFault → E) (of_tree : TreeFault → E) (step : Step) (result : Result Written E) (before after : HostState) (random random' : WordsState)
    → ChangeGoes E Refused IsNone of_flush of_tree step result old new before after random random' → (new.key ≡ old.key) × (new.name ≡ old.name)
change_names old new E Refused IsNone of_flush of_tree step result before after random random' (refused fault why same stays words said) = (ap (λ (s : SessionState). s.key) same, ap (λ (s : SessionState). s.name) same)
change_names old new E Refused IsNone of_flush of_tree step result before after random random' (unchanged free none same stays words said) = (ap (λ (s : SessionState). s.key) same, ap (λ (s : SessionState). s.name) same)
change_names old new E Refused IsNone of_flush of_tree step result before after random random' (changed one free some roomy steps words said) = step_names old new one steps.state
change_names old new E Refused IsNone of_flush of_tree step result before after random random' (not_flushed fault free some first flush undamaged said) = flush_names old new (Err fault) before after random random' flush
change_names old new E Refused IsNone of_flush of_tree step result before after random random' (flushed_and_changed mid between one free some first flush steps said) =
    let was = flush_names old mid (Ok tt) before between random random' flush in
    let is = step_names mid new one steps.state in
    (is.0 ∙ was.0, is.1 ∙ was.1)

pub of_changed : (old new : SessionState) → IsOfScript old → (E : Type 0) (Refused : E → Type 0) (IsNone : Type 0) (of_flush : FlushFault → E) (of_tree : TreeFault → E) (step : Step) (result : Result Written E) (before after : HostState) (random random' : WordsState)
    → ChangeGoes E Refused IsNone of_flush of_tree step result old new before after random random' → IsOfScript new
of_changed old new mine E Refused IsNone of_flush of_tree step result before after random random' (refused fault why same stays words said) = of_same old new mine same
of_changed old new mine E Refused IsNone of_flush of_tree step result before after random random' (unchanged free none same stays words said) = of_same old new mine same
of_changed old new mine E Refused IsNone of_flush of_tree step result before after random random' (changed one free some roomy steps words said) = of_step old new mine one steps.state
of_changed old new mine E Refused IsNone of_flush of_tree step result before after random random' (not_flushed fault free some first flush undamaged said) = of_flushed old new mine (Err fault) before after random random' flush
of_changed old new mine E Refused IsNone of_flush of_tree step result before after random random' (flushed_and_changed mid between one free some first flush steps said) =
    of_step mid new (of_flushed old mid mine (Ok tt) before between random random' flush) one steps.state

of_first : (old mid : SessionState) → IsOfScript old → (nonce : List ℕ) (before between : HostState) (random random' : WordsState) → FlushesFirst old mid nonce before between random random' → IsOfScript mid
of_first old mid mine nonce before between random random' (as_it_is calm same stays drawn) = of_same old mid mine same
of_first old mid mine nonce before between random random' (first_flush sealed keys words is_changed came drawn goes aside reads) = of_sealed old mid mine (Ok tt) sealed keys before between goes

pub of_moved : (old new : SessionState) → IsOfScript old → (result : Result (Unit {0}) MoveFault) (to : Name) (before after : HostState) (random random' : WordsState) → MoveGoes result to old new before after random random' → IsOfScript new
of_moved old new mine result to before after random random' (misnamed bad same stays words said) = of_same old new mine same
of_moved old new mine result to before after random random' (no_memory good same stays words said) = of_same old new mine same
of_moved old new mine result to before after random random' (look_up_failed good fails same words said) = of_same old new mine same
of_moved old new mine result to before after random random' (was_there size good looks same words said) = of_same old new mine same
of_moved old new mine result to before after random random' (lacks_words free fewer same said) = of_same old new mine same
of_moved old new mine result to before after random random' (first_failed start fault free fails said) = of_sealed old new mine (Err fault) fails.sealed fails.keys start after fails.goes
of_moved old new mine result to before after random random' (not_moved start between mid nonce fault free first carry moves same said) =
    of_fields mid new (of_first old mid mine nonce start between random random' first) (ap (λ (s : SessionState). s.name) same) (ap (λ (s : SessionState). s.path) same) (ap (λ (s : SessionState). s.beside) same)
of_moved old new mine result to before after random random' (moved start between mid nonce free first carry moves same said) =
    subst IsOfScript (sym same) (record { is_target = free.is_target; path_is = refl; named = (of_first old mid mine nonce start between random random' first).named })
