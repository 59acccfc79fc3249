-- What a run leaves of an honest disk, by its status and by the host's count of faults.
use Rattle.std.proofs.Common.{◌≡◌, ◌⊎◌, inl, inr, ⊎_elim, ℕ, zero, suc, ◌+◌, ◌*◌, List, [], ◌∷◌, ◌++◌, length, map, take, drop, refl, subst, ap, ◌∙◌, sym, arith, append_assoc, Option, Some, None, Result, Ok, Err}
use Rattle.std.specs.Prelude.{Contains}
use Rattle.std.proofs.lemmas.List.{append-nil}
use Rattle.std.proofs.lemmas.List.Elements.{Contains-append_cases}
use Rattle.pf_io.specs.Disk.{Name, File, Disk, Image}
use Rattle.pf_io.specs.Host.{Answer, LengthWas, Gave, Wrote, WasCut, Synced, Made, Swapped, Removed, ReadsAsImage}
use Rattle.pf_io.specs.SideFile.{PIECE, pieces, wrote_pieces, side_steps}
use Rattle.pf_io.specs.Slices.{given_in_turn}
use Rattle.pf_io.specs.Names.{side_of}
use Rattle.pf_tool.specs.World.{World, with_log}
use Rattle.pf_tool.specs.Events.{Event, Answers, Draws, Puts}
use Rattle.pf_tool.specs.Endings.{Ending, Done, MayStarve, Stop, AtEnd, Failed, Starved, tried}
use Rattle.pf_tool.specs.Happened.{Happened}
use Rattle.pf_tool.specs.Outcomes.{IsAhead, StopsAt}
use Rattle.pf_tool.specs.Reports.{Reports}
use Rattle.pf_tool.specs.Requests.{Request, Decrypt, Encrypt, Session, Manifest, Sums, Measure}
use Rattle.pf_tool.specs.SideFiles.{IsSwapped, SideLeaves, SideEnds, IsNewFile, LeavesBySide}
use Rattle.template_text.specs.Rendering.{Values}
use Rattle.pf_tool.specs.InputFiles.{asked, InputReads, file_unnamed, file_absent, file_large, file_taken}
use Rattle.pf_tool.specs.Manifests as manifests
use Rattle.pf_tool.specs.Manifests.{WritesManifest, text_refused, text_written, ManifestLeads, template_unread, template_read, IsRendered}
use Rattle.pf_tool.specs.PlainFiles.{written_events}
use Rattle.std.specs.List.{AllByRecursion}
use Rattle.file_sums.specs.declared.fault.SumFault.TheVariants as sum_faults
use Rattle.manifest_model.specs.Listed.{Seen}
use Rattle.pf_tool.specs.ManifestFiles.{ManifestReads, manifest_unread, no_manifest, manifest_seen}
use Rattle.pf_tool.specs.Summing as sums
use Rattle.pf_tool.specs.Summing.{line_pieces, FilesLead, file_absent, files_summed, SumsLead, manifest_fails, manifest_there, IsSummed}
use Rattle.pf_tool.proofs.ScriptSpares.{script_spares}
use Rattle.pf_tool.proofs.ScriptKeeping.{script_keeps}
use Rattle.pf_tool.proofs.Asking.{asked_then}
use Rattle.pf_tool.proofs.EntryReading.{IsAsk, gives_asks, end_asks}
use Rattle.pf_tool.proofs.PlainWriting.{ran_weaker}
use Rattle.pf_tool.specs.Runs.{Runs, MayBeNew, OutputLeft, OutputEnds, LeavesOutput, OnDisks}
use Rattle.pf_tool.proofs.RunChoices.{sealing_disk}
use Rattle.pf_tool.proofs.RunStops.{host_counted, reports_done, done_at_zero}

-- a side file takes a name
abbrev IsSwap : Event → Type 0
IsSwap (Answers (Swapped from to)) = Unit {0}
IsSwap event = ⊥

abbrev HasSwap : List Event → Type 0
HasSwap [] = ⊥
HasSwap (x ∷ xs) = IsSwap x ⊎ HasSwap xs

abbrev NoSwap : List Event → Type 0
NoSwap [] = Unit {0}
NoSwap (x ∷ xs) = ¬ (IsSwap x) × NoSwap xs

-- at most the last one does
abbrev OnlyLast : List Event → Type 0
OnlyLast [] = Unit {0}
OnlyLast (x ∷ []) = Unit {0}
OnlyLast (x ∷ y ∷ ys) = ¬ (IsSwap x) × OnlyLast (y ∷ ys)

has_swap : (es : List Event) (from to : Name) → Contains es (Answers (Swapped from to)) → HasSwap es
has_swap [] from to (k, lt, is) = absurd (omega (arith, lt))
has_swap (x ∷ xs) from to (zero, lt, is) = inl (subst IsSwap (sym is) tt)
has_swap (x ∷ xs) from to (suc k, lt, is) = inr (has_swap xs from to (k, omega (arith, lt), is))

none_has : (es : List Event) → NoSwap es → HasSwap es → ⊥
none_has [] none has = has
none_has (x ∷ xs) none (inl is) = none.0 is
none_has (x ∷ xs) none (inr has) = none_has xs none.1 has

none_before : (es : List Event) (event : Event) (rest : List Event) → OnlyLast (es ++ event ∷ rest) → NoSwap es
none_before [] event rest only = tt
none_before (x ∷ []) event rest only = (only.0, tt)
none_before (x ∷ y ∷ ys) event rest only = (only.0, none_before (y ∷ ys) event rest only.1)

none_only : (es : List Event) → NoSwap es → OnlyLast es
none_only [] none = tt
none_only (x ∷ []) none = tt
none_only (x ∷ y ∷ ys) none = (none.0, none_only (y ∷ ys) none.1)

-- no side file takes a name, or the work is done, and it does so last
abbrev Swaps : List Event → Ending → Type 0
Swaps es ending = NoSwap es ⊎ ((ending ≡ Done) × OnlyLast es)

none_append : (xs ys : List Event) → NoSwap xs → NoSwap ys → NoSwap (xs ++ ys)
none_append [] ys first second = second
none_append (x ∷ xs) ys first second = (first.0, none_append xs ys first.1 second)

last_only : (xs : List Event) (event : Event) → NoSwap xs → OnlyLast (xs ++ event ∷ [])
last_only [] event none = tt
last_only (x ∷ []) event none = (none.0, tt)
last_only (x ∷ y ∷ xs) event none = (none.0, last_only (y ∷ xs) event none.1)

none_in_turn : (name : Name) (at : ℕ) (slices : List (List ℕ)) → NoSwap (asked (given_in_turn name at slices))
none_in_turn name at [] = tt
none_in_turn name at (slice ∷ slices) = (λ no. no, none_in_turn name (at + length slice) slices)

reading_none : (name : Name) (es : List Event) (r : Result (List ℕ) Ending) → InputReads name es r → NoSwap es
reading_none name es r (file_unnamed u is ends) = subst NoSwap (sym is) tt
reading_none name es r (file_absent named is ends) = subst NoSwap (sym is) (λ no. no, tt)
reading_none name es r (file_large whole last these named came few many is ends) = subst NoSwap (sym (is ∙ ap asked came.1.1)) (λ no. no, none_in_turn name 0 (whole ++ last ∷ []))
reading_none name es r (file_taken text these named taken few is ends) = subst NoSwap (sym (is ∙ ap asked taken.asked)) (λ no. no, none_in_turn name 0 (taken.whole ++ taken.last ∷ []))

wrote_none : (side : Name) (bytes : List ℕ) (count : ℕ) → NoSwap (asked (wrote_pieces side bytes count))
wrote_none side bytes zero = tt
wrote_none side bytes (suc count) =
    let piece = Wrote side (count * PIECE) (take PIECE (drop (count * PIECE) bytes)) in
    subst NoSwap (sym (asked_then (wrote_pieces side bytes count) (piece ∷ []))) (none_append (asked (wrote_pieces side bytes count)) (Answers piece ∷ []) (wrote_none side bytes count) (λ no. no, tt))

side_none : (side : Name) (bytes : List ℕ) → NoSwap (asked (side_steps side bytes))
side_none side bytes =
    let wrote = wrote_pieces side bytes (pieces (length bytes)) in
    (λ no. no, subst NoSwap (sym (asked_then wrote (Synced side ∷ []))) (none_append (asked wrote) (Answers (Synced side) ∷ []) (wrote_none side bytes (pieces (length bytes))) (λ no. no, tt)))

-- behind events without one, the side file takes its name last
written_last : (first : List Event) (output : Name) (text : List ℕ) → NoSwap first → OnlyLast (first ++ written_events output text)
written_last first output text none =
    let side = side_of output in
    let swap = Answers (Swapped side output) in
    subst OnlyLast (append_assoc first (asked (side_steps side text)) (swap ∷ []) ∙ ap (λ (l : List Event). first ++ l) (sym (asked_then (side_steps side text) (Swapped side output ∷ []))))
    (last_only (first ++ asked (side_steps side text)) swap (none_append first (asked (side_steps side text)) none (side_none side text)))

rest_swaps : (values : Values) (output : Name) (bytes : List ℕ) (first rest : List Event) (ending : Ending) → NoSwap first → WritesManifest values (Some output) bytes rest ending → Swaps (first ++ rest) ending
rest_swaps values output bytes first rest ending none (text_refused renders is) = inl (subst (λ (l : List Event). NoSwap (first ++ l)) (sym is) (none_append first [] none tt))
rest_swaps values output bytes first rest ending none (text_written text renders is ends) = inr (ends, subst (λ (l : List Event). OnlyLast (first ++ l)) (sym is) (written_last first output text none))

manifest_swaps : (values : Values) (template output : Name) (es : List Event) (ending : Ending) → ManifestLeads values template (Some output) es ending → Swaps es ending
manifest_swaps values template output es ending (manifests.output_unfit unfit is ends) = inl (subst NoSwap (sym is) tt)
manifest_swaps values template output es ending (template_unread fits reads) = inl (reading_none template es (Err ending) reads)
manifest_swaps values template output es ending (template_read bytes first rest fits reads writes is) =
    subst (λ (l : List Event). Swaps l ending) (sym is) (rest_swaps values output bytes first rest ending (reading_none template first (Ok bytes) reads) writes)

asks_none : (these : List Answer) → AllByRecursion IsAsk these → NoSwap (asked these)
asks_none [] asks = tt
asks_none (LengthWas name size ∷ these) asks = (λ no. no, asks_none these asks.1)
asks_none (Gave name place room bytes ∷ these) asks = (λ no. no, asks_none these asks.1)
asks_none (Wrote name place bytes ∷ these) asks = absurd asks.0
asks_none (WasCut name size ∷ these) asks = absurd asks.0
asks_none (Synced name ∷ these) asks = absurd asks.0
asks_none (Made name ∷ these) asks = absurd asks.0
asks_none (Swapped from to ∷ these) asks = absurd asks.0
asks_none (Removed name ∷ these) asks = absurd asks.0

puts_none : (these : List (List ℕ)) → NoSwap (map Puts these)
puts_none [] = tt
puts_none (piece ∷ these) = (λ no. no, puts_none these)

seen_none : (name : Name) (es : List Event) (r : Result Seen Ending) → ManifestReads name es r → NoSwap es
seen_none name es r (manifest_unread ending reads is) = reading_none name es (Err ending) reads
seen_none name es r (no_manifest text why reads refused is) = reading_none name es (Ok text) reads
seen_none name es r (manifest_seen text seen reads lists is) = reading_none name es (Ok text) reads

files_swaps : (output : Name) (seen : Seen) (first rest : List Event) (ending : Ending) → NoSwap first → FilesLead (Some output) seen rest ending → Swaps (first ++ rest) ending
files_swaps output seen first rest ending none (file_absent these n name ends is to) = inl (subst (λ (l : List Event). NoSwap (first ++ l)) (sym is) (none_append first (asked these) none (asks_none these (end_asks seen.lists.trusted these n name sum_faults.NotFound ends))))
files_swaps output seen first rest ending none (sums.file_large these n name ends is to) = inl (subst (λ (l : List Event). NoSwap (first ++ l)) (sym is) (none_append first (asked these) none (asks_none these (end_asks seen.lists.trusted these n name sum_faults.TooLarge ends))))
files_swaps output seen first rest ending none (files_summed these all behind gives writes is) =
    let lines = map Puts (line_pieces seen all) in
    let front = first ++ (asked these ++ lines) in
    let whole : first ++ rest ≡ front ++ written_events output writes.text =
    ap (λ (l : List Event). first ++ l) (is ∙ ap (λ (l : List Event). asked these ++ l) writes.are ∙ sym (append_assoc (asked these) lines (written_events output writes.text))) ∙ sym (append_assoc first (asked these ++ lines) (written_events output writes.text)) in
    inr (
      writes.done,
      subst OnlyLast (sym whole) (written_last front output writes.text (none_append first (asked these ++ lines) none (none_append (asked these) lines (asks_none these (gives_asks seen.lists.trusted these all gives)) (puts_none (line_pieces seen all))))),
    )

sums_swaps : (manifest output : Name) (es : List Event) (ending : Ending) → SumsLead manifest (Some output) es ending → Swaps es ending
sums_swaps manifest output es ending (sums.output_unfit unfit is ends) = inl (subst NoSwap (sym is) tt)
sums_swaps manifest output es ending (manifest_fails fits reads) = inl (seen_none manifest es (Err ending) reads)
sums_swaps manifest output es ending (manifest_there seen first rest fits reads leads is) =
    subst (λ (l : List Event). Swaps l ending) (sym is) (files_swaps output seen first rest ending (seen_none manifest first (Ok seen) reads) leads)

-- a command whose side file takes its name last
module _ (output : Name) (Leading : List Event → Ending → Type 0) (swaps : (es : List Event) (ending : Ending) → Leading es ending → Swaps es ending) where
  -- before the last event none does
  front_none : (es : List Event) (event : Event) (rest : List Event) (ending : Ending) → Leading (es ++ event ∷ rest) ending → NoSwap es
  front_none es event rest ending leads = none_before es event rest (⊎_elim (λ none. none_only (es ++ event ∷ rest) none) (λ both. both.1) (swaps (es ++ event ∷ rest) ending leads))

  not_in_front : (es : List Event) (event : Event) (rest : List Event) (ending : Ending) → Leading (es ++ event ∷ rest) ending → IsSwapped es output → ⊥
  not_in_front es event rest ending leads swapped = none_has es (front_none es event rest ending leads) (has_swap es (side_of output) output swapped)

  not_at_want : (es rest : List Event) (ending : Ending) → IsAhead rest ending → Leading (es ++ rest) ending → IsSwapped es output → ⊥
  not_at_want es [] ending ahead leads swapped =
      ⊎_elim (λ none. none_has es none (has_swap es (side_of output) output swapped)) (λ both. subst MayStarve both.0 ahead) (swaps es ending (subst (λ (l : List Event). Leading l ending) (append-nil es) leads))
  not_at_want es (event ∷ rest) ending ahead leads swapped = not_in_front es event rest ending leads swapped

  module _ (old new : World) (status : ℕ) where
    may_be_new : (es : List Event) (stop : Stop) → StopsAt Leading es stop → Happened es stop old (with_log new old.log) → Reports stop old.log new.log status → IsSwapped (tried es stop) output → MayBeNew old new status
    may_be_new es (AtEnd ending) stands happened reports swapped =
        inl (⊎_elim (λ none. absurd (none_has es none (has_swap es (side_of output) output swapped))) (λ both. reports_done ending old.log new.log status both.0 reports) (swaps es ending stands))
    may_be_new es (Failed (Answers answer)) stands happened reports swapped = inr (host_counted es old (with_log new old.log) (Failed (Answers answer)) happened refl)
    may_be_new es (Failed (Draws word)) stands happened reports swapped =
        absurd (⊎_elim (λ front. not_in_front es (Draws word) stands.0 stands.1 stands.2 front) (λ last. none_has (Draws word ∷ []) (λ no. no, tt) (has_swap (Draws word ∷ []) (side_of output) output last))
        (Contains-append_cases es (Draws word ∷ []) (Answers (Swapped (side_of output) output)) swapped))
    may_be_new es (Failed (Puts bytes)) stands happened reports swapped =
        absurd (⊎_elim (λ front. not_in_front es (Puts bytes) stands.0 stands.1 stands.2 front) (λ last. none_has (Puts bytes ∷ []) (λ no. no, tt) (has_swap (Puts bytes ∷ []) (side_of output) output last))
        (Contains-append_cases es (Puts bytes ∷ []) (Answers (Swapped (side_of output) output)) swapped))
    may_be_new es Starved stands happened reports swapped = absurd (not_at_want es stands.0 stands.1 stands.2 stands.3 swapped)

    module _ (es : List Event) (stop : Stop) (stands : StopsAt Leading es stop) (happened : Happened es stop old (with_log new old.log)) (reports : Reports stop old.log new.log status)
        (IsNew : Disk → List Event → Option (List ℕ) → Type 0) (IsVersion : Disk → Option (List ℕ) → Type 0) (version : (d : Disk) (file : Option (List ℕ)) → IsNew d (tried es stop) file → IsVersion d file) where
      abbrev Tried : List Event
      Tried = tried es stop

      may : IsSwapped Tried output → MayBeNew old new status
      may swapped = may_be_new es stop stands happened reports swapped

      new_version : (d : Disk) (file : Option File) → IsNewFile (IsNew d Tried) file → IsNewFile (IsVersion d) file
      new_version d file new_file = record { file = new_file.file; there = new_file.there; settled = new_file.settled; is_new = version d (Some new_file.file.bytes) new_file.is_new }

      left : (d : Disk) (image : Image) → SideLeaves Tried output (IsNew d Tried) d image → OutputLeft output IsVersion (MayBeNew old new status) d image
      left d image leaves = record { here = ⊎_elim (λ before. inl before) (λ both. inr (may both.0, version d (image output) both.1)) leaves.here; others = leaves.others }

      ends : (d e : Disk) → SideEnds Tried stop output (IsNew d Tried) d e → OutputEnds output IsVersion (MayBeNew old new status) (status ≡ 0) d e
      ends d e ended = record {
        done = λ zero_is. new_version d (e output) (ended.done (done_at_zero stop old.log new.log status reports zero_is));
        here = ⊎_elim (λ before. inl before) (λ both. inr (may both.0, new_version d (e output) both.1)) ended.here;
        others = ended.others;
      }

      pub side_disk : LeavesBySide output IsNew Tried stop old.host new.host → LeavesOutput output IsVersion old new status
      side_disk leaves =
          ran_weaker (λ disk image. SideLeaves Tried output (IsNew disk Tried) disk image) (OutputLeft output IsVersion (MayBeNew old new status))
          (λ before now. SideEnds Tried stop output (IsNew before Tried) before now) (OutputEnds output IsVersion (MayBeNew old new status) (status ≡ 0)) old.host.honest new.host.honest leaves left ends

pub run_disk : (request : Request) (old new : World) (status : ℕ) → ReadsAsImage old.host → Runs request old new status → OnDisks request old new status
run_disk (Decrypt key input) old new status image run = run.outcome.leaves
run_disk (Encrypt key input output) old new status image run = sealing_disk key input output old new status run.ended run.goes run.concludes
run_disk (Session key) old new status image run = record { books = script_keeps key old new status image run; spares = script_spares key old new status run }
run_disk (Manifest values template None) old new status image run = run.outcome.leaves
run_disk (Manifest values template (Some output)) old new status image run =
    side_disk output (ManifestLeads values template (Some output)) (manifest_swaps values template output) old new status run.outcome.events run.stop run.outcome.stands run.outcome.happened run.reports
    (λ disk _. IsRendered values template disk) (IsRendered values template) (λ d file rendered. rendered) run.outcome.leaves
run_disk (Sums manifest None) old new status image run = run.outcome.leaves
run_disk (Sums manifest (Some output)) old new status image run =
    side_disk output (SumsLead manifest (Some output)) (sums_swaps manifest output) old new status run.outcome.events run.stop run.outcome.stands run.outcome.happened run.reports
    (λ disk _. IsSummed manifest disk) (IsSummed manifest) (λ d file summed. summed) run.outcome.leaves.disk
run_disk (Measure layout) old new status image run = run.outcome.leaves
