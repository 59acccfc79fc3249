-- A change of a session's content over files, after some steps of its line, where no book speaks of them.
use Rattle.std.proofs.Common.{◌≡◌, Bool, true, false, List, [], ◌∷◌, ◌++◌, ℕ, refl, sym, ◌∙◌, ap, subst, Some, None, Result, Ok, Err, length}
use Rattle.std.proofs.lemmas.List.{append-nil}
use Rattle.std.proofs.lemmas.List.Elements.{Contains-push}
use Rattle.node_tree.specs.Applying.{Step}
use Rattle.node_tree.specs.Sheet.{Sheet, Stands}
use Rattle.node_tree.specs.State.{TreeState}
use Rattle.node_tree.specs.Stepping.{StandingStep}
use Rattle.node_tree.specs.declared.fault.TreeFault.{TreeFault}
use Rattle.node_tree.specs.declared.fault.TreeFault.TheVariants as trees
use Rattle.pf_io.specs.Disk.{Name, Disk, IsImage, Files, reading}
use Rattle.pf_io.specs.Host.{Answer, HostState, OnDisk, contents}
use Rattle.pf_io.specs.Moments.{Honest, Ran, Ends, Where}
use Rattle.pf_io.specs.Names.{recovery_of}
use Rattle.pf_io.specs.Steps.{Stays}
use Rattle.pf_session.specs.Aside.{LeavesApart, KeepsApart}
use Rattle.pf_session.specs.Backing.{IsBacked, StandsOn}
use Rattle.pf_session.specs.Changing.{IsFlushedFirst, IsRoomy, StepGoes}
use Rattle.pf_session.specs.Flushing.{IsUndamaged}
use Rattle.pf_session.specs.Reopening.{ReopensAs, ReadsAs, HasSheet}
use Rattle.pf_session.specs.Sealing.{Replaces, StandsNext}
use Rattle.pf_session.specs.State.{SessionState, file_of}
use Rattle.pf_script.specs.BookActs.{Act}
use Rattle.pf_script.specs.BookDebts.{Unchanged}
use Rattle.pf_script.specs.BookSeats.{IsOfScript}
use Rattle.pf_script.specs.Desk.{seat_on}
use Rattle.pf_script.specs.FileTurns.{answers_of, FilesAfter, LineOver, SeatFiles}
use Rattle.pf_script.specs.Rules.{NoneRefuses, rules}
use Rattle.pf_script.specs.Script.{OwnSeat, Own}
use Rattle.pf_script.specs.SeatSteps.{AsksFor, Seals}
use Rattle.pf_script.specs.Turns.{Seen, ByHost, ByDamage, IsChangeReply, accepted, changed, flushes}
use Rattle.pf_script.specs.declared.line.ScriptLine.{ScriptLine}
use Rattle.pf_script.specs.declared.reply.Reply.{Reply}
use Rattle.pf_script.proofs.CallKeeping.{at_both, back_to, both_with}
use Rattle.pf_script.proofs.ChangeLeft.{ChangeLeft, left_once, left_lacked, left_unflushed, left_after}
use Rattle.pf_script.proofs.ChangeLine.{none_made}
use Rattle.pf_script.proofs.ChangeTold.{Outcome, Went, Broke, Lacked, Wanted, outcome_of, Grew}
use Rattle.pf_script.proofs.Flushed.{SealsWith, host_blamed, fault_of}
use Rattle.pf_script.proofs.OfScript.{file_named}
use Rattle.pf_script.proofs.OverFiles.{OnFile, KnownOver, own_over, reopens_stands, reopens_reads, has_reopens, left_flush, files_flush, files_join, shows_whole}
use Rattle.pf_script.proofs.OverGiven.{on_reading}
use Rattle.pf_script.proofs.SeatCalls.{seen_by}
use Rattle.pf_script.proofs.StepFacts.{flushes_first, fits_at, stepped_is}
use Rattle.pf_script.proofs.StepTurns.{flushes_on, Made, made_more, made_after}

-- a file that reopens at the name of a session stands at the place where its calls look for it
pub stands_here : (session : SessionState) → IsOfScript session → (key : List ℕ) (name : Name) (base : Sheet) (disk : Disk) → session.key ≡ key → session.name ≡ name → ReopensAs key base (reading disk name) (reading disk (recovery_of name))
    → Stands (contents (reading disk (file_of session))) session.key base
stands_here session mine key name base disk key_is name_is reopens =
    subst (λ (k : List ℕ). Stands (contents (reading disk (file_of session))) k base) (sym key_is)
    (subst (λ (n : Name). Stands (contents (reading disk n)) key base) (sym (file_named session mine ∙ name_is)) (reopens_stands key base (reading disk name) (reading disk (recovery_of name)) reopens))

module _ (own : OwnSeat) (files : Files) (first : Sheet) where
  -- Some steps of the line were made: the files are as its flushes leave them, and that of the seat stands for the sheet on which the session stands.
  pub record StepsOver (m : Honest) (old : SessionState) (made : List Step) (words : List (List ℕ)) (sheets : List Sheet) (base : Sheet) : Type 0 where
    pub was : Made (first ∷ []) own old made words sheets base
    pub left : FilesAfter (flushes own sheets) files (reading m.now)
    pub path_is : base.path ≡ own.name
    pub reopens : ReopensAs own.key base (reading m.now own.name) (reading m.now (recovery_of own.name))

  module _ (key : List ℕ) (line : ScriptLine) (m b : Honest) (old new : SessionState) (made : List Step) (words more : List (List ℕ)) (sheets : List Sheet) (base : Sheet) (step : Step) (mine : IsOfScript old) (so_far : StepsOver m old made words sheets base)
      (before after : HostState) (is_m : before.honest ≡ Some m) (is_b : after.honest ≡ Some b) (others : Ran (LeavesApart old.name) (KeepsApart old.name) m b) where
    -- the line goes on
    pub record WentOver (flushed : Bool) : Type 0 where
      pub sheets_now : List Sheet
      pub base_now : Sheet
      pub grew : Grew flushed sheets sheets_now
      pub over_now : StepsOver b new (made ++ step ∷ []) (words ++ more) sheets_now base_now

    -- how the change ends; it meets no damage
    abbrev pub ChangedOver : Outcome → Type 0
    ChangedOver (Went flushed) = WentOver flushed
    ChangedOver (Broke blame) = host_blamed blame ≡ false → ⊥
    ChangedOver Lacked = Unit {0}
    ChangedOver Wanted = Unit {0}

    was : Made (first ∷ []) own old made words sheets base
    was = so_far.was

    -- a step over a host on which the session's file stands for its sheet
    stands_at : (session : SessionState) (start : HostState) (t : Honest) (sheet : Sheet) (one : Result (Unit {0}) TreeFault) → start.honest ≡ Some t → StepGoes one step session new start after → Stands (contents (reading t.now (file_of session))) session.key sheet → IsBacked sheet session
        → StandingStep one step sheet session.tree new.tree
    stands_at session start t sheet one is goes stands backed =
        on_reading (λ files. (s : Sheet) → Stands (contents (files (file_of session))) session.key s → IsBacked s session → StandingStep one step s session.tree new.tree) start.honest t is goes.standing sheet stands backed

    stands_old : Stands (contents (reading m.now (file_of old))) old.key base
    stands_old = stands_here old mine own.key own.name base m.now was.key_is was.name_is so_far.reopens

    -- a step at once
    module _ (roomy : IsRoomy step old.tree) (none : more ≡ []) where
      once : (one : Result (Unit {0}) TreeFault) → StepGoes one step old new before after → StandingStep one step base old.tree new.tree → Unchanged m b → ChangedOver (outcome_of false one)
      once (Ok ok) goes stands only =
          record {
            sheets_now = sheets;
            base_now = base;
            grew = refl;
            over_now = record {
              was = subst (λ (w : List (List ℕ)). Made (first ∷ []) own new (made ++ step ∷ []) w sheets base) (sym (ap (λ (w : List (List ℕ)). words ++ w) none ∙ append-nil words))
                  (made_more key (first ∷ []) own line [] old made words sheets base was step new (ap (λ (s : SessionState). s.changed) goes.state) (ap (λ (s : SessionState). s.key) goes.state) (ap (λ (s : SessionState). s.name) goes.state)
                  (ap (λ (s : SessionState). s.broken) goes.state ∙ was.whole) (fits_at base old step roomy)
                  (record { path_is = ap (λ (s : SessionState). s.path) goes.state ∙ was.kept.backed.path_is; nonce_is = ap (λ (s : SessionState). s.nonce) goes.state ∙ was.kept.backed.nonce_is; backs = stands.backs })
                  (stepped_is old mine new (Ok ok) step before after goes base goes.steps.mid goes.steps.rest goes.steps.ends stands.content_is goes.state));
              left = subst (λ (d : Disk). FilesAfter (flushes own sheets) files (reading d)) (sym only.ends) so_far.left;
              path_is = so_far.path_is;
              reopens = subst (λ (d : Disk). ReopensAs own.key base (reading d own.name) (reading d (recovery_of own.name))) (sym only.ends) so_far.reopens;
            };
          }
      once (Err (trees.Damaged damage)) goes stands only = absurd stands
      once (Err trees.Host) goes stands only = λ calm. absurd (cc)
      once (Err trees.Memory) goes stands only = tt

    -- a step after a flush
    module _ (mid : SessionState) (between : HostState) (of_mid : IsOfScript mid) (is_first : IsFlushedFirst step old.tree)
        (seals : SealsWith old more (λ base next. StandsOn next mid × Replaces true old.key old.name base next before between × StandsNext old.key old.name base next before between))
        {nonce : List ℕ} {tree : TreeState} (same : mid ≡ record old { nonce = nonce; drawn = None; tree = tree; changed = false }) (dirty : mid.tree.dirty ≡ []) (t : Honest) (is_t : between.honest ≡ Some t) (only_after : Unchanged t b) where
      abbrev next : Sheet
      next = (seals base was.linked was.kept.backed).0

      abbrev own_seals : Seals (seat_on base old) more next
      own_seals = (seals base was.linked was.kept.backed).1

      abbrev on_next : StandsOn next mid
      on_next = (seals base was.linked was.kept.backed).2.0

      reads_old : ReadsAs old.key old.name base m.now
      reads_old =
          subst (λ (k : List ℕ). ReadsAs k old.name base m.now) (sym was.key_is)
          (subst (λ (n : Name). ReadsAs own.key n base m.now) (sym was.name_is) (reopens_reads own.key own.name base m.now so_far.reopens))

      has_next : HasSheet own.key own.name next t.now
      has_next =
          subst (λ (k : List ℕ). HasSheet k own.name next t.now) was.key_is
          (subst (λ (n : Name). HasSheet old.key n next t.now) was.name_is
          (at_both (Where (ReadsAs old.key old.name base) (Ends (λ _. HasSheet old.key old.name next))) before.honest between.honest m t is_m is_t (seals base was.linked was.kept.backed).2.2 reads_old))

      reopens_next : ReopensAs own.key next (reading t.now own.name) (reading t.now (recovery_of own.name))
      reopens_next = has_reopens own.key own.name next t.now has_next

      reopens_now : ReopensAs own.key next (reading b.now own.name) (reading b.now (recovery_of own.name))
      reopens_now = subst (λ (d : Disk). ReopensAs own.key next (reading d own.name) (reading d (recovery_of own.name))) (sym only_after.ends) reopens_next

      left_now : FilesAfter (flushes own (sheets ++ next ∷ [])) files (reading b.now)
      left_now =
          subst (λ (l : List Act). FilesAfter l files (reading b.now)) (sym (flushes_on own sheets (next ∷ [])))
          (files_join (flushes own sheets) (flushes own (next ∷ [])) files (reading m.now) (reading b.now) so_far.left
          (files_flush own next (reading m.now) (reading b.now) (left_flush own.key own.name next m b reopens_now (subst (λ (n : Name). Ran (LeavesApart n) (KeepsApart n) m b) was.name_is others))))

      stands_mid : Stands (contents (reading t.now (file_of mid))) mid.key next
      stands_mid = stands_here mid of_mid own.key own.name next t.now (ap (λ (s : SessionState). s.key) same ∙ was.key_is) (ap (λ (s : SessionState). s.name) same ∙ was.name_is) reopens_next

      after_step : (one : Result (Unit {0}) TreeFault) → StepGoes one step mid new between after → StandingStep one step next mid.tree new.tree → ChangedOver (outcome_of true one)
      after_step (Ok ok) goes stands =
          record {
            sheets_now = sheets ++ next ∷ [];
            base_now = next;
            grew = (next, refl);
            over_now = record {
              was = made_after key (first ∷ []) own line [] old made words sheets base was step mid new more next (flushes_first base old step is_first) own_seals on_next same dirty
                  (ap (λ (s : SessionState). s.changed) goes.state) (ap (λ (s : SessionState). s.key) goes.state) (ap (λ (s : SessionState). s.name) goes.state)
                  (ap (λ (s : SessionState). s.broken) goes.state ∙ ap (λ (s : SessionState). s.broken) same ∙ was.whole)
                  (record { path_is = ap (λ (s : SessionState). s.path) goes.state ∙ on_next.backed.path_is; nonce_is = ap (λ (s : SessionState). s.nonce) goes.state ∙ on_next.backed.nonce_is; backs = stands.backs })
                  (stepped_is mid of_mid new (Ok ok) step between after goes next goes.steps.mid goes.steps.rest goes.steps.ends stands.content_is goes.state);
              left = left_now;
              path_is = own_seals.next.path_is ∙ was.name_is;
              reopens = reopens_now;
            };
          }
      after_step (Err (trees.Damaged damage)) goes stands = absurd stands
      after_step (Err trees.Host) goes stands = λ calm. absurd (cc)
      after_step (Err trees.Memory) goes stands = tt

    pub change_over : (outcome : Outcome) → ChangeLeft step old new before after more outcome → ChangedOver outcome
    change_over _ (left_once one roomy none goes) =
        once roomy none one goes (stands_at old before m base one is_m goes stands_old was.kept.backed) (at_both (Ran IsImage Stays) before.honest after.honest m b is_m is_b goes.disk)
    change_over _ (left_lacked is_first fewer same stays) = tt
    change_over _ (left_unflushed ByHost counted is_first undamaged seals key_is name_is broken) = λ calm. absurd (cc)
    change_over _ (left_unflushed (ByDamage damage) counted is_first undamaged seals key_is name_is broken) =
        absurd
        (on_reading (λ files. (sheet : Sheet) → IsBacked sheet old → Stands (contents (files (file_of old))) old.key sheet → IsUndamaged (Err (fault_of (ByDamage damage)))) before.honest m is_m undamaged base was.kept.backed stands_old)
    change_over _ (left_after mid between one of_mid counted is_first seals same dirty goes) =
        let t = back_to (Ran IsImage Stays) between.honest after.honest b is_b goes.disk in
        after_step mid between of_mid is_first seals same dirty t.0 t.1 t.2 one goes
        (stands_at mid between t.0 (next mid between of_mid is_first seals same dirty t.0 t.1 t.2) one t.1 goes (stands_mid mid between of_mid is_first seals same dirty t.0 t.1 t.2) (on_next mid between of_mid is_first seals same dirty t.0 t.1 t.2).backed)

module _ (key : List ℕ) (line : ScriptLine) (seen : Seen) (reply : Reply) (old : SessionState) (whole : old.broken ≡ false) (new : SessionState) (a b : Honest) (base : Sheet) where
  -- before the first step
  pub begins_over : OnFile key false line seen reply old whole (Some new) a b base → StepsOver (seat_on base old) (reading a.now) base a old [] [] [] base
  begins_over on = record {
    was = none_made (base ∷ []) base old (Contains-push [] base) on.reopens.stands.linked on.kept whole;
    left = λ name. refl;
    path_is = on.path_is;
    reopens = on.reopens;
  }

-- after the last one
pub ends_over : (key : List ℕ) (line : ScriptLine) (these : List Answer) (reply : Reply) (own : OwnSeat) (first : Sheet) (new : SessionState) (a b : Honest) (made : List Step) (words : List (List ℕ)) (sheets : List Sheet) (base : Sheet)
    → StepsOver own (reading a.now) first b new made words sheets base → ((given : List Answer) → NoneRefuses (rules key false (Own own) line given)) → AsksFor line (length own.content) made → IsChangeReply sheets line reply
    → LineOver key false line (seen_by these words false false) reply (Some new) (Own own) a b
ends_over key line these reply own first new a b made words sheets base so_far passes asks replies = record {
  acts = flushes own sheets;
  after = Own (seat_on base new);
  over = record {
    turn = accepted (passes (answers_of (reading a.now) line)) (record { host = refl; random = refl }) (changed own (seat_on base new) line reply made sheets asks so_far.was.makes replies);
    files = so_far.left;
  };
  shows = shows_whole (reading b.now) base new own.key own.name so_far.was.key_is so_far.was.name_is so_far.was.whole so_far.path_is so_far.reopens so_far.was.kept;
}

-- so of a call on a host
pub on_files : (P : Honest → Honest → Type 0) (key : List ℕ) (line : ScriptLine) (seen : Seen) (reply : Reply) (old : SessionState) (whole : old.broken ≡ false) (new : SessionState) (before after : HostState) → OnDisk before after P
    → ((a b : Honest) → before.honest ≡ Some a → after.honest ≡ Some b → P a b → KnownOver key false line seen reply old whole (Some new) a b) → OnDisk before after (SeatFiles key false line seen reply (Some old) (Some new))
on_files P key line seen reply old whole new before after holds known =
    both_with P (SeatFiles key false line seen reply (Some old) (Some new)) before.honest after.honest holds (λ a b is is2 p. own_over key false line seen reply old whole (Some new) a b (known a b is is2 p))
