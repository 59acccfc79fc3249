-- What the calls of a session keep of a book, from their contracts.
use Rattle.std.proofs.Common.{◌≡◌, inl, Bool, true, false, List, [], ℕ, refl, sym, ◌∙◌, ap, subst, Option, Some, None, Result, Ok, Err}
use Rattle.std.specs.Prelude.{IfSome, option_map}
use Rattle.pf_io.specs.Disk.{Name, Disk, Image, IsImage, reading}
use Rattle.pf_io.specs.Moments.{Honest, Ran, Where}
use Rattle.pf_io.specs.Host.{HostState, Both, OnDisk, ReadsAsImage, contents}
use Rattle.pf_io.specs.Words.{WordsState}
use Rattle.node_tree.specs.Applying.{Step, applied}
use Rattle.node_tree.specs.Backing.{now}
use Rattle.node_tree.specs.Sheet.{Sheet, Stands}
use Rattle.node_tree.specs.State.{TreeState}
use Rattle.node_tree.specs.Stepping.{StandingStep}
use Rattle.node_tree.specs.declared.fault.TreeFault.{TreeFault}
use Rattle.pf_session.specs.Aside.{Aside, LeavesApart, KeepsApart}
use Rattle.pf_session.specs.Backing.{IsBacked}
use Rattle.pf_session.specs.Changing.{StepGoes, StepState}
use Rattle.pf_session.specs.Ending.{CloseGoes, let_go, flushed_last}
use Rattle.pf_session.specs.Flushing.{FlushGoes, no_words, had_words, SealGoes, node_short, call_failed, flushed, Seals, SealsEach}
use Rattle.pf_session.specs.Moving.{IsKeptOn}
use Rattle.pf_session.specs.Reopening.{AsEither, Stood}
use Rattle.pf_session.specs.Sealing.{StoodIf}
use Rattle.pf_session.specs.State.{SessionState, file_of}
use Rattle.pf_session.specs.declared.fault.FlushFault.{FlushFault}
use Rattle.pf_script.specs.BookDebts.{Unchanged}
use Rattle.pf_script.specs.BookSeats.{IsOfScript, Covers, CoversNone, KeepsUnder}
use Rattle.pf_script.proofs.During.{leaves_then}
use Rattle.pf_script.proofs.OfScript.{file_named}
use Rattle.pf_script.proofs.ActKeeping.{unchanged_now, Idles, idle_keeps, lets_go, SealsOn, SealsOnce, seal_keeps, letting_go}

pub both_with : {A : Type 0} (P Q : A → A → Type 0) (o p : Option A) → Both o p P → ((a b : A) → o ≡ Some a → p ≡ Some b → P a b → Q a b) → Both o p Q
both_with P Q (Some a) (Some b) holds go = go a b refl refl holds
both_with P Q None None holds go = tt
both_with P Q (Some a) None holds go = absurd holds
both_with P Q None (Some b) holds go = absurd holds

pub at_both : {A : Type 0} (P : A → A → Type 0) (o p : Option A) (a b : A) → o ≡ Some a → p ≡ Some b → Both o p P → P a b
at_both P o p a b is is2 holds = subst (λ q. Both (Some a) q P) is2 (subst (λ q. Both q p P) is holds)

-- what was told after was told before
pub back_to : {A : Type 0} (P : A → A → Type 0) (o p : Option A) (b : A) → p ≡ Some b → Both o p P → (m : A) × (o ≡ Some m) × P m b
back_to P (Some m) p b is holds = (m, refl, subst (λ q. Both (Some m) q P) is holds)
back_to P None p b is holds = absurd (subst (λ q. Both None q P) is holds)

-- what was told before is told after
pub on_to : {A : Type 0} (P : A → A → Type 0) (o p : Option A) (a : A) → o ≡ Some a → Both o p P → (m : A) × (p ≡ Some m) × P a m
on_to P o (Some m) a is holds = (m, refl, subst (λ q. Both q (Some m) P) is holds)
on_to P o None a is holds = absurd (subst (λ q. Both q None P) is holds)

pub read_image : (o : Option Honest) (b : Honest) → o ≡ Some b → IfSome o (λ host. IsImage host.now (reading host.now)) → IsImage b.now (reading b.now)
read_image o b is reads = subst (λ (q : Option Honest). IfSome q (λ host. IsImage host.now (reading host.now))) is reads

-- nothing was asked
pub same_disk : (before after : HostState) (a b : Honest) → before.honest ≡ Some a → after.honest ≡ Some b → after ≡ before → Unchanged a b
same_disk before after a b is is2 stays =
    let e : Some b ≡ Some a = sym is2 ∙ ap (λ (s : HostState). s.honest) stays ∙ is in
    let same : b ≡ a = cc in
    subst (λ (h : Honest). Unchanged a h) (sym same) (unchanged_now a)

-- reads after a run
pub reads_after : (P : Disk → Image → Type 0) (Q : Disk → Disk → Type 0) (a m b : Honest) → Ran P Q a m → Unchanged m b → Ran P Q a b
reads_after P Q a m b ran only = record {
  leaves = leaves_then ran.leaves only.leaves (λ image is. is) (λ image is. ran.leaves.each image (inl is));
  ends = subst (λ (d : Disk). Q a.now d) (sym only.ends) ran.ends;
}

module _ (old : SessionState) (mine : IsOfScript old) where
  -- a file that stands for a sheet, as it reads
  pub stands_there : (a : Honest) (base : Sheet) → Stood old.key old.name base a.now → Stands (contents (reading a.now (file_of old))) old.key base
  stands_there a base stood =
      subst (λ (n : Name). Stands (contents (reading a.now n)) old.key base) (sym (file_named old mine))
      (subst (λ (o : Option (List ℕ)). Stands (contents o) old.key base) (sym stood.as_sheet.whole) stood.as_sheet.stands)

  -- a step on the tree of a session whose file stands for the sheet on which it stands
  module _ (new : SessionState) (one : Result (Unit {0}) TreeFault) (step : Step) (before after : HostState) (goes : StepGoes one step old new before after) where
    step_stands : (a : Honest) → before.honest ≡ Some a → (base : Sheet) → Stood old.key old.name base a.now → IsBacked base old → StandingStep one step base old.tree new.tree
    step_stands a is base stood backed =
        subst (λ (o : Option Honest). IfSome (option_map (λ host. reading host.now) o) (λ files. (sheet : Sheet) → Stands (contents (files (file_of old))) old.key sheet → IsBacked sheet old → StandingStep one step sheet old.tree new.tree)) is
        goes.standing base (stands_there a base stood) backed

    by_result : (r : Result (Unit {0}) TreeFault) (base : Sheet) → StepState r old new → StandingStep r step base old.tree new.tree → IsBacked base old → new.broken ≡ false → IsKeptOn base new
    by_result (Ok done) base state standing backed whole = record {
      backed = record {
        path_is = ap (λ (s : SessionState). s.path) state ∙ backed.path_is;
        nonce_is = ap (λ (s : SessionState). s.nonce) state ∙ backed.nonce_is;
        backs = standing.backs;
      };
      rests = λ calm. let e : true ≡ false = sym (ap (λ (s : SessionState). s.changed) state) ∙ calm in absurd (cc);
    }
    by_result (Err fault) base state standing backed whole = let e : true ≡ false = sym (ap (λ (s : SessionState). s.broken) state) ∙ whole in absurd (cc)

    now_by : (r : Result (Unit {0}) TreeFault) (base : Sheet) → StepState r old new → StandingStep r step base old.tree new.tree → new.broken ≡ false → now base new.tree ≡ applied step (now base old.tree)
    now_by (Ok done) base state standing whole = standing.content_is
    now_by (Err fault) base state standing whole = let e : true ≡ false = sym (ap (λ (s : SessionState). s.broken) state) ∙ whole in absurd (cc)

    -- the content after the step
    pub step_now : (a : Honest) → before.honest ≡ Some a → (base : Sheet) → IsBacked base old → Stood old.key old.name base a.now → new.broken ≡ false → now base new.tree ≡ applied step (now base old.tree)
    step_now a is base backed stood whole = now_by one base goes.state (step_stands a is base stood backed) whole

    pub step_kept : (a : Honest) → before.honest ≡ Some a → (base : Sheet) → IsBacked base old → Stood old.key old.name base a.now → new.broken ≡ false → IsKeptOn base new
    step_kept a is base backed stood whole = by_result one base goes.state (step_stands a is base stood backed) backed whole

  -- nothing was changed, and the session is the same
  pub idle_reads : (new : SessionState) (a b : Honest) → old.broken ≡ false → new ≡ old → Unchanged a b → Idles old new a b
  idle_reads new a b whole same only = record {
    unchanged = only;
    key_is = ap (λ (s : SessionState). s.key) same;
    name_is = ap (λ (s : SessionState). s.name) same;
    whole = λ _. whole;
    kept = λ base kept stood _. subst (λ (s : SessionState). IsKeptOn base s) (sym same) kept;
  }

  -- nothing was asked
  pub idle_same : (new : SessionState) (before after : HostState) (a b : Honest) → before.honest ≡ Some a → after.honest ≡ Some b → old.broken ≡ false → new ≡ old → after ≡ before → Idles old new a b
  idle_same new before after a b is is2 whole same stays = idle_reads new a b whole same (same_disk before after a b is is2 stays)

  -- what a flush sealed
  seals_on : (done : Bool) (nonce : List ℕ) (keys : List (List ℕ)) (new : SessionState) (before after : HostState) (a b : Honest) → before.honest ≡ Some a → after.honest ≡ Some b → (done ≡ true → new.tree.dirty ≡ []) → (base : Sheet)
      → Seals done base nonce keys old new before after → SealsOn done old new base a b
  seals_on done nonce keys new before after a b is is2 clean base seals = record {
    next = seals.next;
    path_is = seals.is_next.path_is ∙ mine.path_is;
    sealed = at_both (Where (Stood old.key old.name base) (Ran (AsEither old.key old.name base seals.next) (StoodIf done old.key old.name seals.next))) before.honest after.honest a b is is2 (seals.named mine.named);
    on_next = λ is_done whole stood. let on = seals.on_next is_done in record { backed = on.backed; rests = λ calm. record { stands = on; clean = clean is_done } };
  }

  -- a flush that failed after its words
  failed_flush : (nonce : List ℕ) (keys : List (List ℕ)) (new : SessionState) (before after : HostState) (a b : Honest) → before.honest ≡ Some a → after.honest ≡ Some b → old.broken ≡ false
      → Ran (LeavesApart old.name) (KeepsApart old.name) a b → IsImage b.now (reading b.now) → SealsEach false nonce keys old new before after → {tree : TreeState} → new ≡ record old { tree = tree; broken = true } → SealsOnce false old new a b
  failed_flush nonce keys new before after a b is is2 whole others reads seals state = record {
    others = others;
    reads = reads;
    whole = whole;
    key_is = ap (λ (s : SessionState). s.key) state;
    name_is = ap (λ (s : SessionState). s.name) state;
    fails = λ _. ap (λ (s : SessionState). s.broken) state;
    seals = λ base linked backed. seals_on false nonce keys new before after a b is is2 (λ e. absurd (cc)) base (seals base linked backed);
  }

  -- how a flush ended: nothing was done, or it sealed or failed
  pub data FlushEnded (new : SessionState) (a b : Honest) : Type 0 where
    idled : Idles old new a b → FlushEnded new a b
    sealed : (done : Bool) → SealsOnce done old new a b → FlushEnded new a b

  pub seal_ended : (result : Result (Unit {0}) FlushFault) (nonce : List ℕ) (keys : List (List ℕ)) (new : SessionState) (before after : HostState) (a b : Honest) → before.honest ≡ Some a → after.honest ≡ Some b → old.broken ≡ false
      → Ran (LeavesApart old.name) (KeepsApart old.name) a b → IsImage b.now (reading b.now) → SealGoes result nonce keys old new before after → FlushEnded new a b
  seal_ended result nonce keys new before after a b is is2 whole others reads (node_short damage named short seals state said) = sealed false (failed_flush nonce keys new before after a b is is2 whole others reads seals state)
  seal_ended result nonce keys new before after a b is is2 whole others reads (call_failed stopped beside seals shape state said) = sealed false (failed_flush nonce keys new before after a b is is2 whole others reads seals state)
  seal_ended result nonce keys new before after a b is is2 whole others reads (flushed mid done beside settled seals state said) =
      sealed true (record {
        others = others;
        reads = reads;
        whole = whole;
        key_is = ap (λ (s : SessionState). s.key) state;
        name_is = ap (λ (s : SessionState). s.name) state;
        fails = λ e. absurd (cc);
        seals = λ base linked backed. seals_on true nonce keys new before after a b is is2 (λ _. settled.dirty) base (seals base linked backed);
      })

  pub flush_ended : (result : Result (Unit {0}) FlushFault) (new : SessionState) (before after : HostState) (random random' : WordsState) (a b : Honest) → before.honest ≡ Some a → after.honest ≡ Some b → old.broken ≡ false
      → Ran (LeavesApart old.name) (KeepsApart old.name) a b → IsImage b.now (reading b.now) → FlushGoes result old new before after random random' → FlushEnded new a b
  flush_ended result new before after random random' a b is is2 whole others reads (no_words lacked same stays said) = idled (idle_same new before after a b is is2 whole same stays)
  flush_ended result new before after random random' a b is is2 whole others reads (had_words nonce keys came goes) = seal_ended result nonce keys new before after a b is is2 whole others reads goes

  pub ended_keeps : (new : SessionState) (a b : Honest) → FlushEnded new a b → KeepsUnder (Covers old) (Covers new) (λ name. name ≡ old.name) a b
  ended_keeps new a b (idled idles) = idle_keeps old new a b (λ name. name ≡ old.name) idles
  ended_keeps new a b (sealed done once) = seal_keeps done old new a b mine.is_target once

  pub flush_keeps : (result : Result (Unit {0}) FlushFault) (new : SessionState) (before after : HostState) (random random' : WordsState) → old.broken ≡ false → FlushGoes result old new before after random random'
      → Aside old.name before after → ReadsAsImage after → OnDisk before after (KeepsUnder (Covers old) (Covers new) (λ name. name ≡ old.name))
  flush_keeps result new before after random random' whole goes aside reads =
      both_with (Ran (LeavesApart old.name) (KeepsApart old.name)) (KeepsUnder (Covers old) (Covers new) (λ name. name ≡ old.name)) before.honest after.honest aside
      (λ a b is is2 ran. ended_keeps new a b (flush_ended result new before after random random' a b is is2 whole ran (read_image after.honest b is2 reads) goes))

  -- the session that a closing leaves is none
  pub close_keeps : (result : Result (Unit {0}) FlushFault) (before after : HostState) (random random' : WordsState) → CloseGoes result old before after random random'
      → Aside old.name before after → ReadsAsImage after → OnDisk before after (KeepsUnder (Covers old) CoversNone (λ name. name ≡ old.name))
  close_keeps result before after random random' goes aside reads =
      both_with (Ran (LeavesApart old.name) (KeepsApart old.name)) (KeepsUnder (Covers old) CoversNone (λ name. name ≡ old.name)) before.honest after.honest aside (λ a b is is2 ran. by_case a b is is2 ran goes)
    where
      by_case : (a b : Honest) → before.honest ≡ Some a → after.honest ≡ Some b → Ran (LeavesApart old.name) (KeepsApart old.name) a b → CloseGoes result old before after random random'
          → KeepsUnder (Covers old) CoversNone (λ name. name ≡ old.name) a b
      by_case a b is is2 ran (let_go why stays same said) = lets_go (Covers old) a b (λ name. name ≡ old.name) (same_disk before after a b is is2 stays)
      by_case a b is is2 ran (flushed_last mid was_changed whole goes) =
          letting_go (Covers old) (Covers mid) a b (λ name. name ≡ old.name) (ended_keeps mid a b (flush_ended result mid before after random random' a b is is2 whole ran (read_image after.honest b is2 reads) goes))

  -- a flush that was done
  pub record WasFlushed (mid : SessionState) (before after : HostState) : Type 0 where
    pub nonce : List ℕ
    pub keys : List (List ℕ)
    pub seals : SealsEach true nonce keys old mid before after
    pub state : mid ≡ record old { nonce = nonce; drawn = None; tree = mid.tree; changed = false }

  pub was_sealed : (nonce : List ℕ) (keys : List (List ℕ)) (mid : SessionState) (before after : HostState) → SealGoes (Ok tt) nonce keys old mid before after → WasFlushed mid before after
  was_sealed nonce keys mid before after (node_short damage named short seals state said) = absurd (cc)
  was_sealed nonce keys mid before after (call_failed stopped beside seals shape state said) = absurd (cc)
  was_sealed nonce keys mid before after (flushed tree done beside settled seals state said) = record { nonce = nonce; keys = keys; seals = seals; state = state }

  pub was_flushed : (mid : SessionState) (before after : HostState) (random random' : WordsState) → FlushGoes (Ok tt) old mid before after random random' → WasFlushed mid before after
  was_flushed mid before after random random' (no_words lacked same stays said) = absurd (cc)
  was_flushed mid before after random random' (had_words nonce keys came goes) = was_sealed nonce keys mid before after goes
