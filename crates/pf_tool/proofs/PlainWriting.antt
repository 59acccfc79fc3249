-- The writing of a plain file by its side file, as events and what they leave.
use Rattle.std.proofs.Common.{◌≡◌, ◌≢◌, inl, inr, ⊎_elim, ℕ, zero, suc, ◌*◌, List, [], ◌∷◌, ◌++◌, length, map, fold, take, drop, refl, subst, ap, ◌∙◌, sym, arith, Option, Some, None, IfSome}
use Rattle.std.specs.Prelude.{Contains}
use Rattle.std.specs.List.{AllByRecursion}
use Rattle.std.proofs.lemmas.List.{append-nil}
use Rattle.std.proofs.lemmas.List.Elements.{Contains-append_right}
use Rattle.std.proofs.lemmas.List.Sums.{fold-append}
use Rattle.pf_io.specs.Counts.{counted}
use Rattle.pf_io.specs.Disk.{Name, File, Files, Disk, Image, IsImage}
use Rattle.pf_io.specs.Host.{Answer, LengthWas, Gave, Wrote, WasCut, Synced, Made, Swapped, Removed, HostState, Both, IsMore, OnDisk, files_of}
use Rattle.pf_io.specs.Answered.{IsAnswerOf}
use Rattle.pf_io.specs.Moments.{Honest, Ran}
use Rattle.pf_io.specs.Names.{side_of}
use Rattle.pf_io.specs.SideFile.{PIECE, pieces, wrote_pieces, side_steps, file_steps, counts_step, CountsSteps, Stepped, OthersLeft, IsReplaced, IsWhole, IsDone, IsTried, WroteFile, FailedFile}
use Rattle.pf_io.specs.Steps.{KeepsOthers, Stays}
use Rattle.pf_io.proofs.Answering.{all_append}
use Rattle.pf_io.proofs.Telling.{both_weaker}
use Rattle.pf_io.proofs.Unchanged.{kept_none}
use Rattle.pf_tool.specs.World.{World, with_host}
use Rattle.pf_tool.specs.Events.{Event, Answers, reads_after, writes_after}
use Rattle.pf_tool.specs.Endings.{Done, AtEnd, Failed, Starved, tried}
use Rattle.pf_tool.specs.Happened.{HostPassed, HostFailed, Passed}
use Rattle.pf_tool.specs.Outcomes.{Outcome, Falls}
use Rattle.pf_tool.specs.SideFiles.{IsMade, IsSwapped, SideLeaves, SideEnds, IsNewFile}
use Rattle.pf_tool.specs.PlainFiles.{written_events, WritesWhole, IsExactly, LeavesWhole}
use Rattle.pf_tool.specs.declared.fault.Fault.{Fault}
use Rattle.pf_tool.specs.declared.fault.Fault.TheVariants as faults
use Rattle.pf_tool.proofs.Asking.{asked_then, passed_asked}
use Rattle.pf_tool.proofs.Composing.{host_none, passed_none, failed_host}
use Rattle.pf_tool.proofs.Following.{all_split}
use Rattle.pf_tool.proofs.SideBehind.{not_side}
use Rattle.pf_tool.proofs.Stopping.{host_fails, starves}

-- A call that changes the disk: it is neither a question for a length nor a read. A swap gives the side file the output's name.
abbrev IsStep : Name → Answer → Type 0
IsStep output (LengthWas name length) = ⊥
IsStep output (Gave name place room bytes) = ⊥
IsStep output (Wrote name place bytes) = Unit {0}
IsStep output (WasCut name length) = Unit {0}
IsStep output (Synced name) = Unit {0}
IsStep output (Made name) = Unit {0}
IsStep output (Swapped from to) = (from ≡ side_of output) × (to ≡ output)
IsStep output (Removed name) = Unit {0}

wrote_steps : (output side : Name) (bytes : List ℕ) (count : ℕ) → AllByRecursion (IsStep output) (wrote_pieces side bytes count)
wrote_steps output side bytes zero = tt
wrote_steps output side bytes (suc count) =
    all_append (IsStep output) (wrote_pieces side bytes count) (Wrote side (count * PIECE) (take PIECE (drop (count * PIECE) bytes)) ∷ []) (wrote_steps output side bytes count) (tt, tt)

all_steps : (output : Name) (bytes : List ℕ) → AllByRecursion (IsStep output) (file_steps output (side_of output) bytes)
all_steps output bytes =
    let side = side_of output in
    all_append (IsStep output) (side_steps side bytes) (Swapped side output ∷ [])
    (tt, all_append (IsStep output) (wrote_pieces side bytes (pieces (length bytes))) (Synced side ∷ []) (wrote_steps output side bytes (pieces (length bytes))) (tt, tt)) ((refl, refl), tt)

step_answer : (output : Name) (files : Files) (a : Answer) → IsStep output a → IsAnswerOf files a
step_answer output files (LengthWas name length) step = absurd step
step_answer output files (Gave name place room bytes) step = absurd step
step_answer output files (Wrote name place bytes) step = tt
step_answer output files (WasCut name length) step = tt
step_answer output files (Synced name) step = tt
step_answer output files (Made name) step = tt
step_answer output files (Swapped from to) step = tt
step_answer output files (Removed name) step = tt

steps_answers : (output : Name) (files : Files) (these : List Answer) → AllByRecursion (IsStep output) these → AllByRecursion (IsAnswerOf files) these
steps_answers output files [] steps = tt
steps_answers output files (a ∷ these) steps = (step_answer output files a steps.0, steps_answers output files these steps.1)

steps_honest : (output : Name) (files : Option Files) (these : List Answer) → AllByRecursion (IsStep output) these → IfSome files (λ f. AllByRecursion (IsAnswerOf f) these)
steps_honest output (Some f) these steps = steps_answers output f these steps
steps_honest output None these steps = tt

steps_reads : (output : Name) (these : List Answer) (count : ℕ) → AllByRecursion (IsStep output) these → reads_after these count ≡ count
steps_reads output [] count steps = refl
steps_reads output (LengthWas name length ∷ these) count steps = absurd steps.0
steps_reads output (Gave name place room bytes ∷ these) count steps = absurd steps.0
steps_reads output (Wrote name place bytes ∷ these) count steps = steps_reads output these count steps.1
steps_reads output (WasCut name length ∷ these) count steps = steps_reads output these count steps.1
steps_reads output (Synced name ∷ these) count steps = steps_reads output these count steps.1
steps_reads output (Made name ∷ these) count steps = steps_reads output these count steps.1
steps_reads output (Swapped from to ∷ these) count steps = steps_reads output these count steps.1
steps_reads output (Removed name ∷ these) count steps = steps_reads output these count steps.1

steps_writes : (these : List Answer) (count : ℕ) → writes_after these count ≡ fold counts_step count these
steps_writes [] count = refl
steps_writes (LengthWas name length ∷ these) count = steps_writes these count
steps_writes (Gave name place room bytes ∷ these) count = steps_writes these count
steps_writes (Wrote name place bytes ∷ these) count = steps_writes these (counted count)
steps_writes (WasCut name length ∷ these) count = steps_writes these count
steps_writes (Synced name ∷ these) count = steps_writes these count
steps_writes (Made name ∷ these) count = steps_writes these count
steps_writes (Swapped from to ∷ these) count = steps_writes these count
steps_writes (Removed name ∷ these) count = steps_writes these count

steps_passed : (output : Name) (these : List Answer) (old new : HostState) → AllByRecursion (IsStep output) these → (these ≡ [] → new ≡ old) → Stepped these old new → new.faults ≡ old.faults → HostPassed these old new
steps_passed output these old new steps same stepped calm = record {
  told = stepped.told;
  calm = calm;
  reads = stepped.counts.reads ∙ sym (steps_reads output these old.reads steps);
  writes = stepped.counts.writes ∙ sym (steps_writes these old.writes);
  untouched = same;
  honest = steps_honest output (files_of old) these steps;
}

-- the host after the steps that were answered, before the one that failed
abbrev after : List Answer → HostState → HostState → HostState
after [] old new = old
after (a ∷ these) old new = record { faults = old.faults; reads = old.reads; writes = fold counts_step old.writes (a ∷ these); widest = old.widest; given = new.given; honest = old.honest }

answered_passed : (output : Name) (these : List Answer) (old new : HostState) → AllByRecursion (IsStep output) these → Both old.given new.given (IsMore these) → HostPassed these old (after these old new)
answered_passed output [] old new steps told = host_none old
answered_passed output (a ∷ these) old new steps told = record {
  told = told;
  calm = refl;
  reads = sym (steps_reads output (a ∷ these) old.reads steps);
  writes = sym (steps_writes (a ∷ these) old.writes);
  untouched = λ none. absurd (cc);
  honest = steps_honest output (files_of old) (a ∷ these) steps;
}

nothing_told : {A : Type 0} (o p : Option (List A)) → Both o p (IsMore []) → p ≡ o
nothing_told (Some a) (Some b) is = ap Some (is ∙ append-nil a)
nothing_told None None is = refl
nothing_told (Some a) None is = absurd is
nothing_told None (Some b) is = absurd is

told_after : (these : List Answer) (old new : HostState) → Both old.given new.given (IsMore these) → new.given ≡ (after these old new).given
told_after [] old new told = nothing_told old.given new.given told
told_after (a ∷ these) old new told = refl

faults_after : (these : List Answer) (old new : HostState) → (after these old new).faults ≡ old.faults
faults_after [] old new = refl
faults_after (a ∷ these) old new = refl

reads_then : (these : List Answer) (old new : HostState) → (after these old new).reads ≡ old.reads
reads_then [] old new = refl
reads_then (a ∷ these) old new = refl

writes_then : (these : List Answer) (old new : HostState) → (after these old new).writes ≡ fold counts_step old.writes these
writes_then [] old new = refl
writes_then (a ∷ these) old new = refl

last_failed : (output : Name) (answered : List Answer) (failed : Answer) (old new : HostState) → IsStep output failed → Both old.given new.given (IsMore answered) → new.faults ≡ counted old.faults
    → CountsSteps (answered ++ failed ∷ []) old new → HostFailed failed (after answered old new) new
last_failed output answered failed old new step told once counts = record {
  told = told_after answered old new told;
  once = subst (λ (n : ℕ). new.faults ≡ counted n) (sym (faults_after answered old new)) once;
  reads = counts.reads ∙ sym (reads_then answered old new) ∙ sym (steps_reads output (failed ∷ []) (after answered old new).reads (step, tt));
  writes = counts.writes ∙ fold-append counts_step old.writes answered (failed ∷ []) ∙ ap (λ (n : ℕ). fold counts_step n (failed ∷ [])) (sym (writes_then answered old new)) ∙ sym (steps_writes (failed ∷ []) (after answered old new).writes);
}

-- what is tried begins with the making of the side file
made_first : (output : Name) (bytes : List ℕ) (answered : List Answer) (failed : Answer) (left : List Answer) → file_steps output (side_of output) bytes ≡ answered ++ failed ∷ left → IsMade (map Answers answered ++ Answers failed ∷ []) output
made_first output bytes [] failed left are = let is : Made (side_of output) ≡ failed = cc in (0, omega arith, ap Answers (sym is))
made_first output bytes (a ∷ answered) failed left are = let is : Made (side_of output) ≡ a = cc in (0, omega arith, ap Answers (sym is))

-- a run of which more is said
pub ran_weaker : (P P2 : Disk → Image → Type 0) (Q Q2 : Disk → Disk → Type 0) (o p : Option Honest) → Both o p (Ran P Q) → ((d : Disk) (image : Image) → P d image → P2 d image) → ((d e : Disk) → Q d e → Q2 d e)
    → Both o p (Ran P2 Q2)
ran_weaker P P2 Q Q2 o p ran left ends =
    both_weaker (Ran P Q) (Ran P2 Q2) o p ran
    (λ a b run. record {
      leaves = record {
        later = run.leaves.later;
        each = λ image was. left a.now image (run.leaves.each image was);
        earlier = λ t image le was. ⊎_elim (λ before. inl before) (λ has. inr (left a.now image has)) (run.leaves.earlier t image le was);
      };
      ends = ends a.now b.now run.ends;
    })

module _ (output : Name) (bytes : List ℕ) where
  abbrev Side : Name
  Side = side_of output

  whole_swapped : IsSwapped (written_events output bytes) output
  whole_swapped =
      subst (λ (l : List Event). Contains l (Answers (Swapped Side output))) (sym (asked_then (side_steps Side bytes) (Swapped Side output ∷ [])))
      (Contains-append_right (map Answers (side_steps Side bytes)) (Answers (Swapped Side output) ∷ []) (Answers (Swapped Side output)) (0, omega arith, refl))

  whole_made : IsMade (written_events output bytes) output
  whole_made = (0, omega arith, refl)

  new_file : (tried : List Event) (d : Disk) (here : Option File) → IsWhole bytes here → IsNewFile (IsExactly bytes d tried) here
  new_file tried d here whole = record { file = whole.0; there = whole.1; settled = whole.3; is_new = ap Some whole.2 }

  replaced_left : (tried : List Event) (d : Disk) (image : Image) → IsMade tried output → IsSwapped tried output → IsReplaced output Side bytes d image → SideLeaves tried output (IsExactly bytes d tried) d image
  replaced_left tried d image made swapped was = record { here = ⊎_elim (λ before. inl before) (λ is. inr (swapped, is)) was.here; side = λ never. absurd (never made); others = was.others }

  beside_left : (tried : List Event) (d : Disk) (image : Image) → IsMade tried output → OthersLeft Side d image → SideLeaves tried output (IsExactly bytes d tried) d image
  beside_left tried d image made was = record { here = inl (was output (not_side output)); side = λ never. absurd (never made); others = λ other ne apart. was other apart }

  -- the file was written
  whole_left : (old new : HostState) → WroteFile output Side bytes old new → LeavesWhole output bytes (written_events output bytes) (AtEnd Done) old new
  whole_left old new wrote =
      let events = written_events output bytes in
      ran_weaker (IsReplaced output Side bytes) (λ disk image. SideLeaves events output (IsExactly bytes disk events) disk image) (IsDone output Side bytes) (λ before now. SideEnds events (AtEnd Done) output (IsExactly bytes before events) before now)
      old.honest new.honest wrote.disk (λ d image was. replaced_left events d image whole_made whole_swapped was)
      (λ d e ends. record {
        done = λ is. new_file events d (e output) ends.here;
        here = inr (whole_swapped, new_file events d (e output) ends.here);
        side = λ never. absurd (never whole_made);
        others = ends.others;
      })

  module _ (old new : HostState) (answered : List Answer) (failed : Answer) where
    abbrev Tried : List Event
    Tried = map Answers answered ++ Answers failed ∷ []

    -- a step before the swap failed
    stopped_beside : IsMade Tried output → OnDisk old new (Ran (OthersLeft Side) (KeepsOthers Side)) → LeavesWhole output bytes Tried (Failed (Answers failed)) old new
    stopped_beside made disk =
        ran_weaker (OthersLeft Side) (λ d image. SideLeaves Tried output (IsExactly bytes d Tried) d image) (KeepsOthers Side) (λ before now. SideEnds Tried (Failed (Answers failed)) output (IsExactly bytes before Tried) before now)
        old.honest new.honest disk (λ d image was. beside_left Tried d image made was)
        (λ d e kept. record {
          done = λ is. absurd (cc);
          here = inl (kept output (not_side output));
          side = λ never. absurd (never made);
          others = λ other ne apart. kept other apart;
        })

    -- the swap failed
    stopped_swapping : IsMade Tried output → IsSwapped Tried output → OnDisk old new (Ran (IsReplaced output Side bytes) (IsTried output Side bytes)) → LeavesWhole output bytes Tried (Failed (Answers failed)) old new
    stopped_swapping made swapped disk =
        ran_weaker (IsReplaced output Side bytes) (λ d image. SideLeaves Tried output (IsExactly bytes d Tried) d image) (IsTried output Side bytes) (λ before now. SideEnds Tried (Failed (Answers failed)) output (IsExactly bytes before Tried) before now)
        old.honest new.honest disk (λ d image was. replaced_left Tried d image made swapped was)
        (λ d e ends. record {
          done = λ is. absurd (cc);
          here = ⊎_elim (λ before. inl before) (λ whole. inr (swapped, new_file Tried d (e output) whole)) ends.here;
          side = λ never. absurd (never made);
          others = ends.others;
        })

  -- a step that failed
  failed_left : (old new : HostState) (answered : List Answer) (failed : Answer) → IsStep output failed → IsMade (map Answers answered ++ Answers failed ∷ []) output
      → (failed ≢ Swapped Side output → OnDisk old new (Ran (OthersLeft Side) (KeepsOthers Side))) → OnDisk old new (Ran (IsReplaced output Side bytes) (IsTried output Side bytes))
      → LeavesWhole output bytes (map Answers answered ++ Answers failed ∷ []) (Failed (Answers failed)) old new
  failed_left old new answered (LengthWas name length) step made before at_most = absurd step
  failed_left old new answered (Gave name place room given) step made before at_most = absurd step
  failed_left old new answered (Wrote name place written) step made before at_most = stopped_beside old new answered (Wrote name place written) made (before (λ is. absurd (cc)))
  failed_left old new answered (WasCut name length) step made before at_most = stopped_beside old new answered (WasCut name length) made (before (λ is. absurd (cc)))
  failed_left old new answered (Synced name) step made before at_most = stopped_beside old new answered (Synced name) made (before (λ is. absurd (cc)))
  failed_left old new answered (Made name) step made before at_most = stopped_beside old new answered (Made name) made (before (λ is. absurd (cc)))
  failed_left old new answered (Swapped from to) step made before at_most =
      let is : Swapped from to ≡ Swapped Side output = cc in
      let last : IsSwapped (map Answers answered ++ Answers (Swapped from to) ∷ []) output =
      Contains-append_right (map Answers answered) (Answers (Swapped from to) ∷ []) (Answers (Swapped Side output)) (0, omega arith, ap Answers is) in
      stopped_swapping old new answered (Swapped from to) made last at_most
  failed_left old new answered (Removed name) step made before at_most = stopped_beside old new answered (Removed name) made (before (λ is. absurd (cc)))

  -- all steps were answered
  pub wrote_whole : (world : World) (old new : HostState) → WroteFile output Side bytes old new → new.faults ≡ old.faults
      → Outcome (WritesWhole output bytes) (LeavesWhole output bytes) (AtEnd Done) (with_host world old) (with_host world new)
  wrote_whole world old new wrote calm =
      let these = file_steps output Side bytes in
      let events = written_events output bytes in
      let passed : HostPassed these old new = steps_passed output these old new (all_steps output bytes) (λ none. absurd (cc)) wrote.steps calm in
      record {
        events = events;
        stands = record { are = refl; done = refl };
        happened = passed_asked these world old new passed;
        leaves = whole_left old new wrote;
      }

  -- a step failed
  pub failed_whole : (world : World) (old new : HostState) (fault : Fault) → fault ≡ faults.Host → FailedFile output Side bytes old new → new.faults ≡ counted old.faults
      → Falls (WritesWhole output bytes) (LeavesWhole output bytes) fault (with_host world old) (with_host world new)
  failed_whole world old new fault is stopped once =
      let answered = stopped.answered in
      let failed = stopped.failed in
      let all = all_split (IsStep output) answered (failed ∷ stopped.left) (subst (λ (l : List Answer). AllByRecursion (IsStep output) l) stopped.steps.in_order (all_steps output bytes)) in
      let mid = after answered old new in
      let passed : HostPassed answered old mid = answered_passed output answered old new all.0 stopped.steps.told in
      let asked : Passed (map Answers answered) (with_host world old) (with_host world mid) =
      passed_asked answered world old mid passed in
      let order : map Answers answered ++ Answers failed ∷ map Answers stopped.left ≡ written_events output bytes = sym (asked_then answered (failed ∷ stopped.left)) ∙ ap (map Answers) (sym stopped.steps.in_order) in
      host_fails (WritesWhole output bytes) (LeavesWhole output bytes) (map Answers answered) (map Answers stopped.left) Done fault (with_host world old) (with_host world mid) (with_host world new) failed is
      (record { are = order; done = refl }) asked (failed_host failed world mid new (last_failed output answered failed old new all.1.0 stopped.steps.told once stopped.steps.counts))
      (failed_left old new answered failed all.1.0 (made_first output bytes answered failed stopped.left stopped.steps.in_order) stopped.before_the_swap stopped.at_most_swapped)

  -- there was no memory for the side file's name
  pub unnamed_whole : (world : World) (state : HostState) (fault : Fault) → fault ≡ faults.Memory → Falls (WritesWhole output bytes) (LeavesWhole output bytes) fault (with_host world state) (with_host world state)
  unnamed_whole world state fault is =
      starves (WritesWhole output bytes) (LeavesWhole output bytes) [] (drop 1 (written_events output bytes)) (Answers (Made Side)) Done fault (with_host world state) (with_host world state) is
      (record { are = refl; done = refl }) (passed_none (with_host world state))
      (ran_weaker IsImage (λ d image. SideLeaves [] output (IsExactly bytes d []) d image) Stays (λ before now. SideEnds [] Starved output (IsExactly bytes before []) before now) state.honest state.honest (kept_none state)
      (λ d image was. record { here = inl (was output); side = λ never. was Side; others = λ other ne apart. was other })
      (λ d e stays. record { done = λ is. absurd (cc); here = inl (ap (λ (x : Disk). x output) stays); side = λ never. ap (λ (x : Disk). x Side) stays; others = λ other ne apart. ap (λ (x : Disk). x other) stays }))
