-- The move to a name that was looked up.
use Rattle.std.proofs.Common.{◌≡◌, ◌≢◌, ℕ, Bool, true, false, List, [], ◌∷◌, refl, ap, ◌∙◌, sym, subst, Option, Some, None, Result, Ok, Err, IfSome}
use Rattle.std.specs.Prelude.{option_map}
use Rattle.std.specs.List.{AllByRecursion}
use Rattle.node_tree.specs.Sheet.{Sheet, Stands}
use Rattle.pf_io.specs.Answered.{IsAnswerOf}
use Rattle.pf_io.specs.Disk.{Name, Files, IsImage, reading}
use Rattle.pf_io.specs.Host.{LengthWas, HostState, Both, OnDisk, files_of, contents}
use Rattle.pf_io.specs.Moments.{Honest, Ran}
use Rattle.pf_io.specs.Names.{IsTarget}
use Rattle.pf_io.specs.Steps.{Stays}
use Rattle.pf_io.specs.Words.{WordsState}
use Rattle.pf_io.proofs.Telling.{both_then}
use Rattle.pf_session.specs.State.{SessionState}
use Rattle.pf_session.specs.Aside.{LeavesApart, KeepsApart, LeavesApartBoth, KeepsApartBoth, AsideBoth}
use Rattle.pf_session.specs.Creating.{LooksUp}
use Rattle.pf_session.specs.Faults.{move_of_flush}
use Rattle.pf_session.specs.Flushing.{IsUndamaged, host_part, words_part}
use Rattle.pf_session.specs.Moving.{IsGone, Carries, Moves, FlushesFirst, as_it_is, flushed, IsFree, CarryEnds, lacked_words, flush_failed, carry_failed, carried, MoveGoes, no_words, not_flushed, not_moved, moved, move_host_part, move_words_part, IsUndamagedMove, IsKeptOn, UndamagedCarry, UndamagedMove}
use Rattle.pf_session.specs.declared.fault.FlushFault.{FlushFault}
use Rattle.pf_session.specs.declared.fault.FlushFault.TheVariants as flushes
use Rattle.pf_session.specs.declared.fault.MoveFault.{MoveFault}
use Rattle.pf_session.proofs.Apartness.{apart_name}
use Rattle.pf_session.proofs.Created.{absent_file}
use Rattle.pf_io.proofs.Slices.{not_there}
use Rattle.pf_session.proofs.Moved.{is_sealed}
use Rattle.pf_session.proofs.Versions.{for_all}

-- the new name is absent

absent_from : (to : Name) (o q : Option Honest) → IfSome (option_map (λ (host : Honest). reading host.now) o) (λ files. AllByRecursion (IsAnswerOf files) (LengthWas to None ∷ [])) → Both o q (Ran IsImage Stays) → Both o q (λ a b. b.now to ≡ None)
absent_from to (Some a) (Some b) was run = absent_file (b.now to) (ap (λ d. reading d to) run.ends ∙ not_there (reading a.now to) was.0)
absent_from to None None was run = tt
absent_from to (Some a) None was run = absurd run
absent_from to None (Some b) was run = absurd run

pub is_free : (to : Name) (before start : HostState) → IsTarget to → LooksUp to None before start → IsFree to before start
is_free to before start target looks = record { is_target = target; looks = looks; absent = absent_from to before.honest start.honest looks.asked.answered.honest looks.disk }

-- what held in the end of some calls holds at the start of the next ones
then_at_start : (P : Honest → Type 0) (X : Honest → Honest → Type 0) (o p q : Option Honest) → Both o p (λ a b. P b) → Both p q X → Both p q (λ a b. P a)
then_at_start P X (Some a) (Some b) (Some c) was next = was
then_at_start P X None None None was next = tt
then_at_start P X o (Some b) None was next = absurd next
then_at_start P X o None (Some c) was next = absurd next
then_at_start P X None (Some b) (Some c) was next = absurd was
then_at_start P X (Some a) None None was next = absurd was

-- what holds at the end of the last calls holds at the end of all
since_before : (P : Honest → Type 0) (o p q : Option Honest) (X : Honest → Honest → Type 0) → Both o q X → Both p q (λ a b. P b) → Both o q (λ a b. P b)
since_before P (Some a) (Some b) (Some c) X all last = last
since_before P None p None X all last = tt
since_before P (Some a) None (Some c) X all last = absurd last
since_before P (Some a) p None X all last = absurd all
since_before P None p (Some c) X all last = absurd all

module _ (to : Name) (old : SessionState) (before start : HostState) (free : IsFree to before start) where
  still_absent : (mid : SessionState) (nonce : List ℕ) (between : HostState) (random random' : WordsState) → FlushesFirst old mid nonce start between random random' → mid.name ≢ to → OnDisk before between (λ a b. b.now to ≡ None)
  still_absent mid nonce between random random' (as_it_is calm same still drawn) ne = subst (λ (s : HostState). OnDisk before s (λ a b. b.now to ≡ None)) (sym still) free.absent
  still_absent mid nonce between random random' (flushed sealed keys words changed came drawn goes aside reads) ne =
      let name_is = (is_sealed old mid sealed keys start between goes).name_is in
      both_then (λ a b. b.now to ≡ None) (Ran (LeavesApart old.name) (KeepsApart old.name)) (λ a b. b.now to ≡ None) before.honest start.honest between.honest free.absent aside
      (λ a b c none run. run.ends to (apart_name to old.name free.is_target (λ same. ne (name_is ∙ sym same))) ∙ none)

  moves : (done : Bool) (mid : SessionState) (nonce : List ℕ) (between after : HostState) (random random' : WordsState) → FlushesFirst old mid nonce start between random random' → Carries done to nonce mid between after → Moves done to nonce mid between after
  moves done mid nonce between after random random' first carries = record {
    absent = λ ne.
        then_at_start (λ h. h.now to ≡ None) (Ran (LeavesApartBoth mid.name to) (KeepsApartBoth mid.name to)) before.honest between.honest after.honest (still_absent mid nonce between random random' first ne) carries.aside;
    carries = carries;
  }

  name_kept : (mid : SessionState) (nonce : List ℕ) (between : HostState) (random random' : WordsState) → FlushesFirst old mid nonce start between random random' → mid.name ≡ old.name
  name_kept mid nonce between random random' (as_it_is calm same still drawn) = ap (λ (s : SessionState). s.name) same
  name_kept mid nonce between random random' (flushed sealed keys words changed came drawn goes aside reads) = (is_sealed old mid sealed keys start between goes).name_is

  -- how it ends

  same_fault : (a b : FlushFault) → a ≡ b → let r : Result (Unit {0}) MoveFault = Err (move_of_flush a) in r ≡ Err (move_of_flush b)
  same_fault a b same = ap (λ (f : FlushFault). let r : Result (Unit {0}) MoveFault = Err (move_of_flush f) in r) same

  pub fails : (fault : FlushFault) (new : SessionState) (after : HostState) (random random' : WordsState) → CarryEnds (Err fault) to old new start after random random' → MoveGoes (Err (move_of_flush fault)) to old new before after random random'
  fails fault new after random random' (lacked_words lacks same still is) =
      let words : fault ≡ flushes.Words = cc in
      no_words (subst (λ (s : HostState). IsFree to before s) (sym still) free) lacks same (same_fault fault flushes.Words words)
  fails fault new after random random' (flush_failed other unsealed is) = let same : fault ≡ other = cc in not_flushed start other free unsealed (same_fault fault other same)
  fails fault new after random random' (carry_failed between mid nonce other first goes carries state is) =
      let same : fault ≡ other = cc in
      not_moved start between mid nonce other free first goes (moves false mid nonce between after random random' first carries) state (same_fault fault other same)
  fails fault new after random random' (carried between mid nonce first goes carries state is) = absurd (cc)

  pub succeeds : (last new : SessionState) (after : HostState) (random random' : WordsState) → CarryEnds (Ok tt) to old last start after random random' → new ≡ record last { name = to; path = to } → MoveGoes (Ok tt) to old new before after random random'
  succeeds last new after random random' (lacked_words lacks same still is) named = absurd (cc)
  succeeds last new after random random' (flush_failed other unsealed is) named = absurd (cc)
  succeeds last new after random random' (carry_failed between mid nonce other first goes carries state is) named = absurd (cc)
  succeeds last new after random random' (carried between mid nonce first goes carries state is) named =
      moved start between mid nonce free first goes (moves true mid nonce between after random random' first carries) (named ∙ ap (λ (s : SessionState). let t : SessionState = record s { name = to; path = to } in t) state) refl

  pub gone : (last : SessionState) (after : HostState) (random random' : WordsState) → CarryEnds (Ok tt) to old last start after random random' → AsideBoth old.name to before after → IsGone old.name before after
  gone last after random random' (lacked_words lacks same still is) aside = absurd (cc)
  gone last after random random' (flush_failed other unsealed is) aside = absurd (cc)
  gone last after random random' (carry_failed between mid nonce other first goes carries state is) aside = absurd (cc)
  gone last after random random' (carried between mid nonce first goes carries state is) aside =
      since_before (λ h. h.now old.name ≡ None) before.honest between.honest after.honest (Ran (LeavesApartBoth old.name to) (KeepsApartBoth old.name to)) aside
      (subst (λ (n : Name). IsGone n between after) (name_kept mid nonce between random random' first) (carries.gone refl))

  -- damages

  both_some : (P Q R : Files → Type 0) (o : Option Files) → IfSome o P → IfSome o Q → ((files : Files) → P files → Q files → R files) → IfSome o R
  both_some P Q R (Some files) one two go = go files one two
  both_some P Q R None one two go = tt

  undamaged_move : (fault : FlushFault) → IsUndamaged (Err fault) → IsUndamagedMove (Err (move_of_flush fault))
  undamaged_move flushes.Words is = tt
  undamaged_move (flushes.Damaged damage) is = is
  undamaged_move flushes.Host is = tt

  pub undamaged : (fault : FlushFault) → UndamagedCarry (Err fault) to old start → UndamagedMove (Err (move_of_flush fault)) old before
  undamaged fault carry =
      both_some (λ files. (sheet : Sheet) → IsKeptOn sheet old → Stands (contents (files old.name)) old.key sheet → files to ≡ None → IsUndamaged (Err fault)) (λ files. AllByRecursion (IsAnswerOf files) (LengthWas to None ∷ []))
      (λ files. (sheet : Sheet) → IsKeptOn sheet old → Stands (contents (files old.name)) old.key sheet → IsUndamagedMove (Err (move_of_flush fault))) (files_of before)
      (subst (λ (o : Option Files). IfSome o (λ files. (sheet : Sheet) → IsKeptOn sheet old → Stands (contents (files old.name)) old.key sheet → files to ≡ None → IsUndamaged (Err fault))) free.looks.asked.answered.files carry)
      free.looks.asked.answered.honest (λ files each was sheet kept stands. undamaged_move fault (each sheet kept stands (not_there (files to) was.0)))

pub none_damaged : (result : Result (Unit {0}) MoveFault) (old : SessionState) (before : HostState) → IsUndamagedMove result → UndamagedMove result old before
none_damaged result old before is = for_all _ (files_of before) (λ files sheet kept stands. is)

-- the causes

pub host_same : (fault : FlushFault) → move_host_part (Err (move_of_flush fault)) ≡ host_part (Err fault)
host_same flushes.Words = refl
host_same (flushes.Damaged damage) = refl
host_same flushes.Host = refl

pub words_same : (fault : FlushFault) → move_words_part (Err (move_of_flush fault)) ≡ words_part (Err fault)
words_same flushes.Words = refl
words_same (flushes.Damaged damage) = refl
words_same flushes.Host = refl
