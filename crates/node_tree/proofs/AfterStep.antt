-- What a step leaves, from the answers that came.
use Rattle.std.proofs.Common.{◌≡◌, inl, inr, ℕ, ◌+◌, ◌<◌, List, length, slice_index, refl, ap, ◌∙◌, sym, arith, subst, Option, Result, Ok, Err}
use Rattle.std.specs.Prelude.{Contains}
use Rattle.std.specs.List.{AllByRecursion}
use Rattle.std.proofs.lemmas.Option.{IfSome_then}
use Rattle.pf_io.specs.Host.{Name, Files, Answer, HostState, contents, files_of}
use Rattle.pf_io.specs.Answered.{IsAnswerOf}
use Rattle.node_layout.specs.Places.{data_place, node_count, parent_of}
use Rattle.node_tree.specs.Sheet.{Sheet, Stands, plain_in}
use Rattle.node_tree.specs.Opened.{AtNodes, Entry, Given, Opened, NothingHeld, BlockOf}
use Rattle.node_tree.specs.State.{TreeState, Held, root_in, plain_or}
use Rattle.node_tree.specs.Unforged.{GivenOf}
use Rattle.node_tree.specs.Fetching.{Fetched}
use Rattle.node_tree.specs.Backing.{Backs, plain_now, now}
use Rattle.node_tree.specs.Reading.{KeepsFields, IsOfFile}
use Rattle.node_tree.specs.Applying.{Step, applied, Touches}
use Rattle.node_tree.specs.Stepping.{KeepsLive, StepEnds, Steps, StepDamageComes, BacksWith, StepLeaves, BackedStep, StandingStep, StepsStanding, FileStep, HonestStep}
use Rattle.node_tree.specs.declared.fault.TreeFault.{TreeFault}
use Rattle.node_tree.specs.declared.fault.TreeFault.TheVariants as faults
use Rattle.node_tree.proofs.Lively.{touched_low, touched_live}
use Rattle.node_tree.proofs.SameBytes.{same_bytes}
use Rattle.node_tree.proofs.Unforging.{backs_still, now_still, held_other, foreign}
use Rattle.node_tree.proofs.Giving.{file_gives}
use Rattle.node_tree.proofs.Undamaged.{none_foreign}
use Rattle.node_tree.proofs.OfFile.{file_opened, file_fails}
use Rattle.node_tree.proofs.SteppedBacked.{stepped_stays}

-- only nodes that are neither live nor dirty changed: the tree stands as before
module _ (sheet : Sheet) (mid new : TreeState) (backs : Backs sheet mid) (keeps : KeepsLive mid new) where
  live_backs : Backs sheet (record mid { held = new.held })
  live_backs = record {
    root = backs.root;
    base = backs.base;
    clean = λ k low live clean. let n = backs.clean k low live clean in (n.0, n.1, λ plain there. n.2 plain (sym (keeps.same k (inl live)) ∙ there));
    dirty_held = λ k dirty. let h = backs.dirty_held k dirty in (h.0, keeps.same k (inr dirty) ∙ h.1);
    dirty_parents = backs.dirty_parents;
    entries = λ k node parent two live clean has dirty there. backs.entries k node parent two live clean has dirty (sym (keeps.same (parent_of k) (inr dirty)) ∙ there);
    padded = record {
      of_first = backs.padded.of_first;
      of_nodes = λ d r live behind lt. ap (λ (o : Option (List ℕ)). slice_index (plain_or o (plain_in sheet (data_place d))) r) (keeps.same (data_place d) (inl live)) ∙ backs.padded.of_nodes d r live behind lt;
    };
  }

  live_now : now sheet (record mid { held = new.held }) ≡ now sheet mid
  live_now =
      same_bytes mid.first (plain_now sheet (record mid { held = new.held })) (plain_now sheet mid) 0 mid.size
      (λ d meets. ap (λ (o : Option (List ℕ)). plain_or o (plain_in sheet (data_place d))) (keeps.same (data_place d) (inl (touched_live 0 (0 + mid.size) mid.size (data_place d) (omega arith) (d, meets, inl refl)))))

  live_with : (content : List ℕ) → now sheet mid ≡ content → BacksWith sheet new content
  live_with content same =
      let is = held_other mid new keeps.rest in
      record { backs = subst (λ (t : TreeState). Backs sheet t) is live_backs; content_is = ap (λ (t : TreeState). now sheet t) (sym is) ∙ live_now ∙ same }

module _ (step : Step) (given : AtNodes) (sheet : Sheet) (of_sheet : GivenOf sheet given) (old mid new : TreeState) (backs_old : Backs sheet old) (backs : Backs sheet mid) (same : now sheet mid ≡ now sheet old) where
  stays_mid : new ≡ mid → BacksWith sheet new (now sheet old)
  stays_mid is = record { backs = subst (λ (t : TreeState). Backs sheet t) (sym is) backs; content_is = ap (λ (t : TreeState). now sheet t) is ∙ same }

  ended : (result : Result (Unit {0}) TreeFault) → StepEnds result step given old mid new → StepLeaves result step sheet given old new
  ended (Ok value) ends = let b = stepped_stays step sheet mid new of_sheet.linked backs ends in record { backs = b.0; content_is = b.1 ∙ ap (applied step) same }
  ended (Err (faults.Damaged damage)) ends =
      let breaks = ends.0 in
      (stays_mid ends.1, foreign given sheet of_sheet old backs_old damage.node damage.kind (touched_low _ _ damage.node breaks.touched) breaks.live breaks.fails)
  ended (Err faults.Host) ends = stays_mid ends.1
  ended (Err faults.Memory) ends = live_with sheet mid new backs ends.1 (now sheet old) same

pub step_leaves : (result : Result (Unit {0}) TreeFault) (name : Name) (step : Step) (old new : TreeState) (before after : HostState) → (steps : Steps result name step old new before after) → (sheet : Sheet) → GivenOf sheet (Given name steps.these) → Backs sheet old
    → StepLeaves result step sheet (Given name steps.these) old new
step_leaves result name step old new before after steps sheet of_sheet backs =
    let given = Given name steps.these in
    let mid = steps.mid in
    let is = held_other old mid steps.rest in
    let fetched = subst (λ (t : TreeState). Fetched (Held old) (Held t) given (root_in old)) (sym is) steps.fetched in
    let stays = λ (k : ℕ) (plain : List ℕ) (dirty : Contains old.dirty k) (there : Held old k plain). fetched.kept k plain there in
    let backs_mid = subst (λ (t : TreeState). Backs sheet t) is (backs_still given sheet of_sheet old backs mid.held fetched.came stays) in
    let same = ap (λ (t : TreeState). now sheet t) (sym is) ∙ now_still given sheet of_sheet old backs mid.held fetched.came stays in
    ended step given sheet of_sheet old mid new backs backs_mid same result steps.ends

pub backed_step : (result : Result (Unit {0}) TreeFault) (name : Name) (step : Step) (old new : TreeState) (before after : HostState) → Steps result name step old new before after → BackedStep result name step old new before after
backed_step result name step old new before after steps = record { these = steps.these; answered = steps.answered; holds = step_leaves result name step old new before after steps }

pub step_damage : (result : Result (Unit {0}) TreeFault) (name : Name) (step : Step) (old new : TreeState) (before after : HostState) → Steps result name step old new before after → StepDamageComes result name step old before after
step_damage (Ok value) name step old new before after steps = tt
step_damage (Err (faults.Damaged damage)) name step old new before after steps = record { these = steps.these; answered = steps.answered; holds = steps.ends.0 }
step_damage (Err faults.Host) name step old new before after steps = tt
step_damage (Err faults.Memory) name step old new before after steps = tt

module _ (user : List ℕ) (files : Files) (name : Name) (sheet : Sheet) (these : List Answer) (user_length : length user ≡ 16) (all : AllByRecursion (IsAnswerOf files) these) (stands : Stands (contents (files name)) user sheet) where
  stood : (result : Result (Unit {0}) TreeFault) (step : Step) (old new : TreeState) → StepLeaves result step sheet (Given name these) old new → StandingStep result step sheet old new
  stood (Ok value) step old new leaves = leaves
  stood (Err (faults.Damaged damage)) step old new leaves = none_foreign user files name sheet these user_length all stands damage.node leaves.1
  stood (Err faults.Host) step old new leaves = leaves
  stood (Err faults.Memory) step old new leaves = leaves

pub standing_step : (result : Result (Unit {0}) TreeFault) (name : Name) (step : Step) (old new : TreeState) (before after : HostState) → Steps result name step old new before after → StepsStanding result name step old new before
standing_step result name step old new before after steps =
    IfSome_then (files_of before) steps.answered.honest (λ files all user sheet user_length stands backs.
    stood user files name sheet steps.these user_length all stands result step old new
    (step_leaves result name step old new before after steps sheet (file_gives user files name sheet steps.these user_length all stands).nodes backs))

module _ (name : Name) (these : List Answer) (files : Files) (of_files : AllByRecursion (IsAnswerOf files) these) (step : Step) (old mid new : TreeState) (of_file : IsOfFile (contents (files name)) old) (rest : KeepsFields old mid)
    (came : (k : ℕ) (plain : List ℕ) → Held mid k plain → Opened (Held old) (Given name these) (root_in old) k plain) where
  mid_of_file : IsOfFile (contents (files name)) mid
  mid_of_file = record {
    each = λ k plain there. subst (λ (root : Entry). Opened NothingHeld (BlockOf (contents (files name))) root k plain) (sym (ap (λ (t : TreeState). root_in t) rest)) (file_opened name these files of_files old of_file k plain (came k plain there));
  }

  new_of_file : new ≡ mid → IsOfFile (contents (files name)) new
  new_of_file is = subst (λ (t : TreeState). IsOfFile (contents (files name)) t) (sym is) mid_of_file

  of_step : (result : Result (Unit {0}) TreeFault) → StepEnds result step (Given name these) old mid new → FileStep result step (contents (files name)) old new
  of_step (Ok value) ends = λ k on live.
      let size : mid.size ≡ old.size = ap (λ (t : TreeState). t.size) rest in
      let there = ends.ready k (subst (λ (n : ℕ). Touches step n k) (sym size) on) (subst (λ (n : ℕ). k < node_count n) (sym size) live) in
      (there.0, file_opened name these files of_files old of_file k there.0 (came k there.0 there.1))
  of_step (Err (faults.Damaged damage)) ends =
      let breaks = ends.0 in (
        new_of_file ends.1,
        record {
          touched = breaks.touched;
          live = breaks.live;
          before = λ k on lt. let there = breaks.before k on lt in (there.0, file_opened name these files of_files old of_file k there.0 there.1);
          fails = file_fails name these files of_files old of_file damage.node damage.kind breaks.fails;
        },
      )
  of_step (Err faults.Host) ends = new_of_file ends.1
  of_step (Err faults.Memory) ends = tt

pub honest_step : (result : Result (Unit {0}) TreeFault) (name : Name) (step : Step) (old new : TreeState) (before after : HostState) → Steps result name step old new before after → HonestStep result name step old new before
honest_step result name step old new before after steps =
    IfSome_then (files_of before) steps.answered.honest (λ files of_files of_file. of_step name steps.these files of_files step old steps.mid new of_file steps.rest steps.fetched.came result steps.ends)
