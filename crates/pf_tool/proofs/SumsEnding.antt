-- `sums` from its parts: the reading of the manifest, the sums of its files, and what goes out.
use Rattle.std.proofs.Common.{◌≡◌, inl, inr, ⊎_elim, ℕ, zero, suc, ◌+◌, ◌<◌, List, [], ◌∷◌, ◌++◌, length, take, get_or, arith, map, refl, subst, ap, ◌∙◌, sym, append_assoc, Option, Some, None, IfSome, Result, Ok, Err}
use Rattle.std.specs.List.{AllByRecursion, slice_get}
use Rattle.file_sums.specs.Lines.{sum_line}
use Rattle.manifest_model.specs.Summed.{FitSums}
use Rattle.manifest_model.specs.declared.entries.Trusted.{Trusted}
use Rattle.std.proofs.lemmas.List.{append-nil}
use Rattle.std.proofs.lemmas.Option.{IfSome_then}
use Rattle.file_sums.specs.Collecting.{Gives, AreSumsIn}
use Rattle.file_sums.proofs.Collected.{gives_in}
use Rattle.manifest_model.specs.Listed.{Seen, ReadsAs}
use Rattle.manifest_model.specs.declared.fault.ManifestFault.{ManifestFault}
use Rattle.manifest_model.specs.declared.fault.ManifestFault.TheVariants as manifests
use Rattle.manifest_model.proofs.Deciding.{a_reading}
use Rattle.pf_io.specs.Disk.{Name, Files, Disk, reading}
use Rattle.pf_io.specs.Host.{Answer, HostState, KeepsFiles, OnHonest, files_of}
use Rattle.pf_io.specs.Answered.{IsAnswerOf}
use Rattle.pf_io.specs.Unchanged.{KeepsDisk}
use Rattle.pf_io.proofs.Unchanged.{kept_none, kept_then}
use Rattle.pf_tool.specs.World.{World}
use Rattle.pf_tool.specs.Events.{Event, Puts, answers_in}
use Rattle.pf_tool.specs.Endings.{Ending, Done, Refused, BadName, BadManifest, Stop, AtEnd, Starved, tried}
use Rattle.pf_tool.specs.Faults.{manifest_fault}
use Rattle.pf_tool.specs.Happened.{Passed}
use Rattle.pf_tool.specs.InputFiles.{asked, InputReads, InputLeads, InputRead}
use Rattle.pf_tool.specs.ManifestFiles.{manifest_unread, no_manifest, manifest_seen, ManifestFrom, ManifestRead, ManifestFails, fails_unread, fails_refused, fails_starved}
use Rattle.pf_tool.specs.Manifests.{FitsOutput}
use Rattle.pf_tool.specs.Outcomes.{IsAhead, StopsAt, Outcome, Falls, ComesOut}
use Rattle.pf_tool.specs.PlainFiles.{written_events, WritesWhole, IsExactly, LeavesWhole}
use Rattle.pf_tool.specs.Summing.{sum_lines, line_pieces, HasSums, file_events, WritesSums, FilesLead, files_summed, SumsLead, output_unfit, manifest_fails, manifest_there, LeavesText, LeavesSums, IsSummed, SumsLeave}
use Rattle.pf_tool.specs.TextOutput.{PutsText}
use Rattle.pf_tool.specs.declared.fault.Fault.{Fault}
use Rattle.pf_tool.specs.declared.fault.Fault.TheVariants as faults
use Rattle.pf_tool.specs.declared.why.Why.TheVariants as whys
use Rattle.pf_tool.proofs.Asking.{asked_answers}
use Rattle.pf_tool.proofs.Composing.{answers_then, passed_none, passed_reading}
use Rattle.file_sums.proofs.Existing.{gives_some}
use Rattle.pf_tool.proofs.EntryReading.{ahead_behind, sums_out, out_ahead, out_leads}
use Rattle.pf_tool.proofs.Following.{all_split}
use Rattle.pf_tool.proofs.ManifestFileLaws.{seen_from}
use Rattle.pf_tool.proofs.RenderLaws.{ReadAnswers, refusal_fault}
use Rattle.pf_tool.proofs.SideBehind.{kept_leaves, leaves_behind}
use Rattle.pf_tool.proofs.Stopping.{LeadsOn, outcome_then, refused, starves_at, falls_undone}

-- nothing is asked of an honest host's files
whatever : (o : Option Files) → IfSome o (λ files. Unit {0})
whatever (Some files) = tt
whatever None = tt

-- the reading of a manifest, from its steps
module _ (name : Name) (text : List ℕ) (old new : World) (read : InputRead name text old new) where
  pub manifest_came : (seen : Seen) → ReadAnswers text (Ok seen) → ManifestRead name seen old new
  manifest_came seen answers = record { events = read.events; reads = manifest_seen text seen read.reads (⊎_elim (λ same. absurd (cc)) (λ reads. reads) answers) refl; passed = read.passed }

  refuses : (why : ManifestFault) (fault : Fault) → fault ≡ faults.Refused (whys.BadManifest why) → (why ≡ manifests.Memory → ⊥) → ReadAnswers text (Err why) → ManifestFails name fault old new
  refuses why fault is other (inl want) = absurd (other (cc))
  refuses why fault is other (inr reads) = fails_refused text why read reads (refusal_fault (whys.BadManifest why) fault is)

  pub manifest_falls : (why : ManifestFault) (fault : Fault) → fault ≡ manifest_fault why → ReadAnswers text (Err why) → ManifestFails name fault old new
  manifest_falls manifests.Memory fault is answers = fails_starved text read is
  manifest_falls manifests.NotToml fault is answers = refuses manifests.NotToml fault is (λ same. absurd (cc)) answers
  manifest_falls (manifests.BadField key) fault is answers = refuses (manifests.BadField key) fault is (λ same. absurd (cc)) answers
  manifest_falls (manifests.BadUri uri) fault is answers = refuses (manifests.BadUri uri) fault is (λ same. absurd (cc)) answers
  manifest_falls (manifests.BadSum uri) fault is answers = refuses (manifests.BadSum uri) fault is (λ same. absurd (cc)) answers
  manifest_falls (manifests.TwoSums uri) fault is answers = refuses (manifests.TwoSums uri) fault is (λ same. absurd (cc)) answers
  manifest_falls (manifests.BadKey key) fault is answers = refuses (manifests.BadKey key) fault is (λ same. absurd (cc)) answers
  manifest_falls (manifests.BadPolicy policy) fault is answers = refuses (manifests.BadPolicy policy) fault is (λ same. absurd (cc)) answers

-- what goes out once all files are summed

module _ (seen : Seen) (sums : List (List ℕ)) where
  abbrev Lines : List Event
  Lines = map Puts (line_pieces seen sums)

  -- nothing was changed, and the work is not done
  kept_sums : (output : Option Name) (tried : List Event) (stop : Stop) (old new : HostState) → (stop ≡ AtEnd Done → ⊥) → KeepsDisk old new → LeavesSums output seen sums tried stop old new
  kept_sums None tried stop old new never kept = kept
  kept_sums (Some output) tried stop old new never kept = record {
    done = λ is. absurd (never is);
    disk = kept_leaves output (λ _ _ file. (text : List ℕ) × HasSums seen sums text × (file ≡ Some text)) tried stop old new never kept;
  }

  -- there was no memory for it
  pub out_starves : (output : Option Name) (fault : Fault) (old : World) → fault ≡ faults.Memory → Falls (WritesSums output seen sums) (LeavesSums output seen sums) fault old old
  out_starves output fault old is =
      starves_at (WritesSums output seen sums) (LeavesSums output seen sums) [] (sums_out output seen sums) Done fault old old is (out_ahead output seen sums) (record { text = []; are = refl; done = refl }) (passed_none old)
      (kept_sums output [] Starved old.host old.host (λ same. absurd (cc)) (kept_none old.host))

  -- the lines alone
  lines_alone : (es : List Event) (ending : Ending) → PutsText (sum_lines seen.lists.trusted sums) es ending → WritesSums None seen sums es ending
  lines_alone es ending puts = record { text = []; are = puts.are ∙ sym (append-nil Lines); done = puts.done }

  lines_outcome : (stop : Stop) (old new : World) → Outcome (PutsText (sum_lines seen.lists.trusted sums)) (λ _ _. KeepsDisk) stop old new → Outcome (WritesSums None seen sums) (LeavesSums None seen sums) stop old new
  lines_outcome stop old new o =
      outcome_then [] (PutsText (sum_lines seen.lists.trusted sums)) (WritesSums None seen sums) (λ _ _. KeepsDisk) (LeavesSums None seen sums) stop old old new o (passed_none old) refl lines_alone (λ kept. kept)

  pub lines_end : {T : Type 0} (r : Result T Fault) (old new : World) → ComesOut (PutsText (sum_lines seen.lists.trusted sums)) (λ _ _. KeepsDisk) r old new → ComesOut (WritesSums None seen sums) (LeavesSums None seen sums) r old new
  lines_end (Ok v) old new ends = lines_outcome (AtEnd Done) old new ends
  lines_end (Err fault) old new ends = record { stop = ends.stop; is_fault = ends.is_fault; outcome = lines_outcome ends.stop old new ends.outcome }

  module _ (output : Name) where
    -- the output failed in the lines
    lines_first : (es : List Event) (ending : Ending) → PutsText (sum_lines seen.lists.trusted sums) es ending → LeadsOn (WritesSums (Some output) seen sums) es ending
    lines_first es ending puts = inr (puts.done, (file_events (Some output) [], Done, record { text = []; are = ap (λ (l : List Event). l ++ written_events output []) puts.are; done = refl }))

    pub lines_fall : (fault : Fault) (old new : World) → Falls (PutsText (sum_lines seen.lists.trusted sums)) (λ _ _. KeepsDisk) fault old new → Falls (WritesSums (Some output) seen sums) (LeavesSums (Some output) seen sums) fault old new
    lines_fall fault old new falls =
        falls_undone [] (PutsText (sum_lines seen.lists.trusted sums)) (WritesSums (Some output) seen sums) (λ _ _. KeepsDisk) (LeavesSums (Some output) seen sums) fault old old new (passed_none old) refl lines_first
        (λ tried stop never kept. kept_sums (Some output) tried stop old.host new.host never kept) falls

    -- the file behind them
    module _ (text : List ℕ) (has : HasSums seen sums text) (old mid new : World) (puts : Outcome (PutsText (sum_lines seen.lists.trusted sums)) (λ _ _. KeepsDisk) (AtEnd Done) old mid) (files : KeepsFiles old.host mid.host) where
      file_behind : (es : List Event) (ending : Ending) → WritesWhole output text es ending → WritesSums (Some output) seen sums (Lines ++ es) ending
      file_behind es ending writes = record { text = text; are = ap (λ (l : List Event). Lines ++ l) writes.are; done = writes.done }

      lines_passed : Passed Lines old mid
      lines_passed = subst (λ (l : List Event). Passed l old mid) puts.stands.are puts.happened

      text_left : (es : List Event) (stop : Stop) → StopsAt (WritesWhole output text) es stop → LeavesWhole output text (tried es stop) stop mid.host new.host → LeavesText output seen sums (Lines ++ tried es stop) stop old.host new.host
      text_left es stop stands left = record {
        done = λ is. (text, has, ap (λ (l : List Event). Lines ++ l) (subst (λ (s : Stop). StopsAt (WritesWhole output text) es s → tried es s ≡ written_events output text) (sym is) (λ (w : WritesWhole output text es Done). w.are) stands));
        disk = leaves_behind Lines (tried es stop) stop output (λ f. Unit {0}) (IsExactly text) (λ _ _ file. (text : List ℕ) × HasSums seen sums text × (file ≡ Some text)) (λ d file known is. (text, has, is)) old.host mid.host new.host puts.leaves
            (whatever (files_of old.host)) left;
      }

      file_outcome : (stop : Stop) → Outcome (WritesWhole output text) (LeavesWhole output text) stop mid new → Outcome (WritesSums (Some output) seen sums) (LeavesSums (Some output) seen sums) stop old new
      file_outcome stop o =
          outcome_then Lines (WritesWhole output text) (WritesSums (Some output) seen sums) (LeavesWhole output text) (LeavesSums (Some output) seen sums) stop old mid new o lines_passed files file_behind (λ left. text_left o.events stop o.stands left)

      pub file_ends : {T : Type 0} (r : Result T Fault) → ComesOut (WritesWhole output text) (LeavesWhole output text) r mid new → ComesOut (WritesSums (Some output) seen sums) (LeavesSums (Some output) seen sums) r old new
      file_ends (Ok v) ends = file_outcome (AtEnd Done) ends
      file_ends (Err fault) ends = record { stop = ends.stop; is_fault = ends.is_fault; outcome = file_outcome ends.stop ends.outcome }

-- the whole command
module _ (manifest : Name) where
  -- nothing was changed, and the work is not done
  kept_command : (output : Option Name) (tried : List Event) (stop : Stop) (old new : HostState) → (stop ≡ AtEnd Done → ⊥) → KeepsDisk old new → SumsLeave manifest output tried stop old new
  kept_command None tried stop old new never kept = kept
  kept_command (Some output) tried stop old new never kept = record { done = λ is. absurd (never is); disk = kept_leaves output (λ disk _. IsSummed manifest disk) tried stop old new never kept }

  module _ (output : Option Name) where
    abbrev Leading : List Event → Ending → Type 0
    Leading events ending = SumsLead manifest output events ending

    abbrev Leaving : List Event → Stop → HostState → HostState → Type 0
    Leaving tried stop old new = SumsLeave manifest output tried stop old new

    -- OUT cannot be made
    pub unfit_ends : (old : World) → ¬ (FitsOutput output) → Falls (SumsLead manifest output) (SumsLeave manifest output) (faults.Refused whys.BadName) old old
    unfit_ends old unfit =
        refused Leading Leaving [] (Refused BadName) (faults.Refused whys.BadName) old old refl refl (output_unfit unfit refl refl) (passed_none old)
        (kept_command output [] (AtEnd (Refused BadName)) old.host old.host (λ same. absurd (cc)) (kept_none old.host))

    module _ (fits : FitsOutput output) where
      -- whatever a text is, the command goes on behind it, or ends with a refusal of the text
      read_ahead : (es : List Event) (text : List ℕ) → InputReads manifest es (Ok text) → (r : Result Seen ManifestFault) → ReadsAs text r → (rest : List Event) × (ending : Ending) × IsAhead rest ending × SumsLead manifest output (es ++ rest) ending
      read_ahead es text reads (Err why) refuses = ([], Refused (BadManifest why), tt, subst (λ (l : List Event). SumsLead manifest output l (Refused (BadManifest why))) (sym (append-nil es)) (manifest_fails fits (no_manifest text why reads refuses refl)))
      read_ahead es text reads (Ok seen) lists =
          let some = gives_some seen.lists.trusted in
          let rest = asked some.0 ++ sums_out output seen some.1 in
          (rest, Done, ahead_behind (asked some.0) (sums_out output seen some.1) Done (out_ahead output seen some.1) refl, manifest_there seen es rest fits (manifest_seen text seen reads lists refl) (out_leads output seen some.0 some.1 some.2) refl)

      text_ahead : (es : List Event) (text : List ℕ) → InputReads manifest es (Ok text) → (rest : List Event) × (ending : Ending) × IsAhead rest ending × SumsLead manifest output (es ++ rest) ending
      text_ahead es text reads = let read = a_reading text in read_ahead es text reads read.0 read.1

      input_leads : (es : List Event) (ending : Ending) → InputLeads manifest es ending → LeadsOn Leading es ending
      input_leads es ending (inl unread) = inl (manifest_fails fits (manifest_unread ending unread refl))
      input_leads es ending (inr read) = let on = text_ahead es read.0 read.1 in inr (read.2, (on.0, on.1, on.3))

      -- no manifest came
      pub unread_ends : (fault : Fault) (old new : World) → ManifestFails manifest fault old new → KeepsDisk old.host new.host → Falls (SumsLead manifest output) (SumsLeave manifest output) fault old new
      unread_ends fault old new (fails_unread falls) kept =
          falls_undone [] (InputLeads manifest) Leading (λ _ _. KeepsDisk) Leaving fault old old new (passed_none old) refl input_leads (λ tried stop never kept. kept_command output tried stop old.host new.host never kept) falls
      unread_ends fault old new (fails_refused text why read reads is_fault) kept = record {
        stop = AtEnd (Refused (BadManifest why));
        is_fault = is_fault;
        outcome = record {
          events = read.events;
          stands = manifest_fails fits (no_manifest text why read.reads reads refl);
          happened = read.passed;
          leaves = kept_command output read.events (AtEnd (Refused (BadManifest why))) old.host new.host (λ same. absurd (cc)) kept;
        };
      }
      unread_ends fault old new (fails_starved text read is) kept =
          let on = text_ahead read.events text read.reads in
          starves_at Leading Leaving read.events on.0 on.1 fault old new is on.2 on.3 read.passed (kept_command output read.events Starved old.host new.host (λ same. absurd (cc)) kept)

      module _ (seen : Seen) (old mid : World) (read : ManifestRead manifest seen old mid) (files : KeepsFiles old.host mid.host) (kept : KeepsDisk old.host mid.host) where
        files_lead : (es : List Event) (ending : Ending) → FilesLead output seen es ending → LeadsOn Leading (read.events ++ es) ending
        files_lead es ending leads = inl (manifest_there seen read.events es fits read.reads leads refl)

        -- its files were not summed
        pub files_fall : (fault : Fault) (new : World) → Falls (FilesLead output seen) (λ _ _. KeepsDisk) fault mid new → Falls (SumsLead manifest output) (SumsLeave manifest output) fault old new
        files_fall fault new falls =
            falls_undone read.events (FilesLead output seen) Leading (λ _ _. KeepsDisk) Leaving fault old mid new read.passed files files_lead
            (λ tried stop never next. kept_command output (read.events ++ tried) stop old.host new.host never (kept_then old.host mid.host new.host kept next)) falls

        module _ (sums : List (List ℕ)) (last new : World) (these : List Answer) (gives : Gives seen.lists.trusted these sums) (passed : Passed (asked these) mid last) (files_last : KeepsFiles mid.host last.host) (kept_last : KeepsDisk mid.host last.host) where
          abbrev Before : List Event
          Before = read.events ++ asked these

          before_passed : Passed Before old last
          before_passed = passed_reading read.events (asked these) old mid last read.passed files passed

          sums_lead : (es : List Event) (ending : Ending) → WritesSums output seen sums es ending → SumsLead manifest output (Before ++ es) ending
          sums_lead es ending writes = manifest_there seen read.events (asked these ++ es) fits read.reads (files_summed these sums es gives writes refl) (append_assoc read.events (asked these) es)

          -- the manifest and the sums are those of the files
          abbrev Known : Files → Type 0
          Known f = ManifestFrom f manifest (Ok seen) × AreSumsIn f seen.lists.trusted sums

          known : OnHonest old.host Known
          known = IfSome_then (files_of old.host) before_passed.host.honest (λ (f : Files) all.
              let parts = all_split (IsAnswerOf f) (answers_in read.events) these (subst (λ (l : List Answer). AllByRecursion (IsAnswerOf f) l) (answers_then read.events (asked these) ∙ ap (λ (l : List Answer). answers_in read.events ++ l) (asked_answers these)) all) in
              (seen_from f manifest read.events (Ok seen) read.reads parts.0, gives_in f seen.lists.trusted these sums gives parts.1))

          summed_there : (d : Disk) (file : Option (List ℕ)) → Known (reading d) → (text : List ℕ) × HasSums seen sums text × (file ≡ Some text) → IsSummed manifest d file
          summed_there d file same written = (seen, sums, written.0, same.0, same.1, written.1, written.2)

          sums_left : (to : Option Name) (tail : List Event) (stop : Stop) → LeavesSums to seen sums tail stop last.host new.host → SumsLeave manifest to (Before ++ tail) stop old.host new.host
          sums_left None tail stop left = kept_then old.host last.host new.host (kept_then old.host mid.host last.host kept kept_last) left
          sums_left (Some name) tail stop left = record {
            done = λ is.
                let wrote = left.done is in
                record {
                  seen = seen;
                  sums = sums;
                  text = wrote.0;
                  first = read.events;
                  these = these;
                  read = read.reads;
                  summed = gives;
                  has_sums = wrote.1;
                  all = ap (λ (l : List Event). Before ++ l) wrote.2 ∙ append_assoc read.events (asked these) (map Puts (line_pieces seen sums) ++ written_events name wrote.0);
                };
            disk = leaves_behind Before tail stop name Known (λ _ _ file. (text : List ℕ) × HasSums seen sums text × (file ≡ Some text)) (λ disk _. IsSummed manifest disk) summed_there old.host last.host new.host
                (kept_then old.host mid.host last.host kept kept_last) known left.disk;
          }

          sums_outcome : (stop : Stop) → Outcome (WritesSums output seen sums) (LeavesSums output seen sums) stop last new → Outcome (SumsLead manifest output) (SumsLeave manifest output) stop old new
          sums_outcome stop o =
              outcome_then Before (WritesSums output seen sums) Leading (LeavesSums output seen sums) Leaving stop old last new o before_passed (files_last ∙ files) sums_lead (λ left. sums_left output (tried o.events stop) stop left)

          -- all was summed, and it goes out
          pub sums_end : {T : Type 0} (r : Result T Fault) → ComesOut (WritesSums output seen sums) (LeavesSums output seen sums) r last new → ComesOut (SumsLead manifest output) (SumsLeave manifest output) r old new
          sums_end (Ok v) ends = sums_outcome (AtEnd Done) ends
          sums_end (Err fault) ends = record { stop = ends.stop; is_fault = ends.is_fault; outcome = sums_outcome ends.stop ends.outcome }

-- the lines of the sums, line by line

pub fit_length : (entries : List Trusted) (sums : List (List ℕ)) → FitSums entries sums → length sums ≡ length entries
fit_length [] [] fit = refl
fit_length [] (sum ∷ sums) fit = absurd fit
fit_length (entry ∷ entries) [] fit = absurd fit
fit_length (entry ∷ entries) (sum ∷ sums) fit = ap suc (fit_length entries sums fit.1)

line_behind : (entries : List Trusted) (sums : List (List ℕ)) (k : ℕ) (entry : Trusted) (none : List ℕ) → slice_get entries k ≡ Some entry → k < length sums → sum_lines (take (suc k) entries) (take (suc k) sums) ≡ sum_lines (take k entries) (take k sums) ++ sum_line (get_or sums k none) entry.uri
line_behind [] sums k entry none at lt = absurd (cc)
line_behind (e ∷ entries) [] k entry none at lt = absurd (omega (arith, lt))
line_behind (e ∷ entries) (sum ∷ sums) zero entry none at lt = let same : e ≡ entry = cc in append-nil (sum_line sum e.uri) ∙ ap (λ (t : Trusted). sum_line sum t.uri) same
line_behind (e ∷ entries) (sum ∷ sums) (suc k) entry none at lt =
    ap (λ (l : List ℕ). sum_line sum e.uri ++ l) (line_behind entries sums k entry none at (omega (arith, lt))) ∙ sym (append_assoc (sum_line sum e.uri) (sum_lines (take k entries) (take k sums)) (sum_line (get_or sums k none) entry.uri))

-- one line more
pub lines_more : (entries : List Trusted) (sums : List (List ℕ)) (k : ℕ) (entry : Trusted) (none lines : List ℕ) → slice_get entries k ≡ Some entry → k < length sums → lines ≡ sum_lines (take k entries) (take k sums)
    → lines ++ sum_line (get_or sums k none) entry.uri ≡ sum_lines (take (k + 1) entries) (take (k + 1) sums)
lines_more entries sums k entry none lines at lt so_far =
    let next : suc k ≡ k + 1 = omega arith in
    ap (λ (l : List ℕ). l ++ sum_line (get_or sums k none) entry.uri) so_far ∙ sym (line_behind entries sums k entry none at lt) ∙ ap (λ (n : ℕ). sum_lines (take n entries) (take n sums)) next
