-- A layout that is read and measured, part by part.
use Rattle.std.proofs.Common.{◌≡◌, ◌⊎◌, inl, inr, ℕ, List, [], ◌∷◌, ◌++◌, refl, sym, append_assoc, Result, Ok, Err}
use Rattle.std.proofs.lemmas.List.{append-nil}
use Rattle.enclave_measure.specs.declared.fault.LayoutFault.{LayoutFault}
use Rattle.enclave_measure.specs.declared.fault.LayoutFault.TheVariants as layouts
use Rattle.enclave_measure.specs.Pages.{Listed}
use Rattle.enclave_measure.specs.Layouts.{ReadsTo}
use Rattle.enclave_measure.specs.Measuring.{Whole}
use Rattle.enclave_measure.specs.Records.{measurement}
use Rattle.enclave_measure.proofs.Existing.{reads_there}
use Rattle.pf_io.specs.Disk.{Name}
use Rattle.pf_io.specs.Host.{HostState, KeepsFiles, files_of}
use Rattle.pf_io.specs.Streams.{SinkState}
use Rattle.pf_io.specs.Unchanged.{KeepsDisk}
use Rattle.pf_tool.specs.World.{World, with_host, with_out}
use Rattle.pf_tool.specs.Events.{Event, Puts}
use Rattle.pf_tool.specs.Endings.{Ending, Done, Refused, BadLayout, Stop, AtEnd, ending_line}
use Rattle.pf_tool.specs.Happened.{OutPassed, OutFailed, Passed}
use Rattle.pf_tool.specs.InputFiles.{asked, InputReads, InputLeads, InputRead}
use Rattle.pf_tool.specs.Faults.{fault_line, fault_status, layout_fault}
use Rattle.pf_tool.specs.Measuring.{sum_line, PagesLead, pages_measured, text_refused, text_listed, MeasureLeads, layout_unread, layout_read, LayoutRead, PagesMeasured}
use Rattle.pf_tool.specs.Outcomes.{IsAhead, Outcome, Falls}
use Rattle.pf_tool.specs.declared.fault.Fault.{Fault}
use Rattle.pf_tool.specs.declared.fault.Fault.TheVariants as faults
use Rattle.pf_tool.proofs.Asking.{passed_asked}
use Rattle.pf_tool.proofs.Composing.{none_honest, passed_none, passed_pieces, passed_then, passed_reading, failed_piece}
use Rattle.pf_tool.proofs.InputLaws.{input_falls}
use Rattle.pf_tool.proofs.PageReading.{gives_some}
use Rattle.pf_tool.proofs.Stopping.{GoesOn, falls_after, refused, starves_at, out_fails}

abbrev Kept : List Event → Stop → HostState → HostState → Type 0
Kept tried stop old new = KeepsDisk old new

-- an event at the end of events is ahead
ahead : (xs : List Event) (event : Event) (ending : Ending) → IsAhead (xs ++ event ∷ []) ending
ahead [] event ending = tt
ahead (x ∷ xs) event ending = tt

module _ (name : Name) where
  -- whatever a text is, the command goes on behind it, or ends with a refusal of the text
  text_ahead : (es : List Event) (text : List ℕ) → InputReads name es (Ok text) → (outcome : Result Listed LayoutFault) → ReadsTo text outcome → (rest : List Event) × (ending : Ending) × IsAhead rest ending × MeasureLeads name (es ++ rest) ending
  text_ahead es text reads (Ok layout) lists =
      let some = gives_some layout.pages in
      let sum = measurement layout some.1 in
      let rest : List Event = asked some.0 ++ Puts (sum_line sum) ∷ [] in
      (rest, Done, ahead (asked some.0) (Puts (sum_line sum)) Done, layout_read text es rest reads (text_listed layout lists (pages_measured some.0 sum (Whole some.1 some.2 refl) refl refl)) refl)
  text_ahead es text reads (Err fault) lists = ([], Refused (BadLayout fault), tt, layout_read text es [] reads (text_refused fault lists refl refl) refl)

  some_ahead : (es : List Event) (text : List ℕ) → InputReads name es (Ok text) → (rest : List Event) × (ending : Ending) × IsAhead rest ending × MeasureLeads name (es ++ rest) ending
  some_ahead es text reads = let there = reads_there text in text_ahead es text reads there.0 there.1

  goes : (es : List Event) (text : List ℕ) → InputReads name es (Ok text) → GoesOn (MeasureLeads name) es
  goes es text reads = let on = some_ahead es text reads in (on.0, on.1, on.3)

  pub input_not_read : (fault : Fault) (old new : World) → Falls (InputLeads name) (λ _ _. KeepsDisk) fault old new → Falls (MeasureLeads name) (λ _ _. KeepsDisk) fault old new
  input_not_read fault old new falls =
      input_falls [] name (MeasureLeads name) Kept fault old old new (passed_none old) refl (λ es ending reads. layout_unread reads) goes (λ tried stop kept. kept) falls

  module _ (text : List ℕ) (old new : World) (read : InputRead name text old new) (kept : KeepsDisk old.host new.host) where
    pub layout_came : (layout : Listed) → ReadsTo text (Ok layout) → LayoutRead name layout old new
    layout_came layout lists = record { text = text; events = read.events; reads = read.reads; lists = lists; passed = read.passed }

    -- the text is no layout
    no_layout : (fault : LayoutFault) → fault_line (layout_fault fault) ≡ ending_line (Refused (BadLayout fault)) → fault_status (layout_fault fault) ≡ 3 → (fault ≡ layouts.Memory → ⊥) → (fault ≡ layouts.Memory) ⊎ ReadsTo text (Err fault)
        → Falls (MeasureLeads name) (λ _ _. KeepsDisk) (layout_fault fault) old new
    no_layout fault says ends other (inl want) = absurd (other want)
    no_layout fault says ends other (inr lists) =
        refused (MeasureLeads name) Kept read.events (Refused (BadLayout fault)) (layout_fault fault) old new says ends
        (layout_read text read.events [] read.reads (text_refused fault lists refl refl) (sym (append-nil read.events))) read.passed kept

    pub layout_falls : (fault : LayoutFault) → (fault ≡ layouts.Memory) ⊎ ReadsTo text (Err fault) → Falls (MeasureLeads name) (λ _ _. KeepsDisk) (layout_fault fault) old new
    layout_falls (layouts.BadLine number) either = no_layout (layouts.BadLine number) refl refl (λ is. absurd (cc)) either
    layout_falls (layouts.BadSize number) either = no_layout (layouts.BadSize number) refl refl (λ is. absurd (cc)) either
    layout_falls (layouts.OutOfRange number) either = no_layout (layouts.OutOfRange number) refl refl (λ is. absurd (cc)) either
    layout_falls (layouts.Repeated number) either = no_layout (layouts.Repeated number) refl refl (λ is. absurd (cc)) either
    layout_falls layouts.Memory either =
        let on = some_ahead read.events text read.reads in
        starves_at (MeasureLeads name) Kept read.events on.0 on.1 faults.Memory old new refl on.2 on.3 read.passed kept

  -- behind a layout that was read
  module _ (layout : Listed) (old mid : World) (read : LayoutRead name layout old mid) (files : KeepsFiles old.host mid.host) where
    behind : (es : List Event) (ending : Ending) → PagesLead layout es ending → MeasureLeads name (read.events ++ es) ending
    behind es ending leads = layout_read read.text read.events es read.reads (text_listed layout read.lists leads) refl

    pub pages_fall : (fault : Fault) (new : World) → Falls (PagesLead layout) (λ _ _. KeepsDisk) fault mid new → KeepsDisk old.host new.host → Falls (MeasureLeads name) (λ _ _. KeepsDisk) fault old new
    pages_fall fault new falls kept = falls_after read.events (PagesLead layout) (MeasureLeads name) fault old mid new falls read.passed files kept behind

-- behind pages that were measured, with the output in the world
module _ (name : Name) (layout : Listed) (sum : List ℕ) (world : World) (s0 s1 s2 : HostState) (out : SinkState) where
  abbrev At : HostState → SinkState → World
  At s o = with_out (with_host world s) o

  module _ (read : LayoutRead name layout (At s0 out) (At s1 out)) (files : KeepsFiles s0 s1) (pages : PagesMeasured layout sum s1 s2) (kept : KeepsDisk s0 s2) where
    abbrev Before : List Event
    Before = read.events ++ asked pages.these

    before_passed : Passed Before (At s0 out) (At s2 out)
    before_passed = passed_reading read.events (asked pages.these) (At s0 out) (At s1 out) (At s2 out) read.passed files (passed_asked pages.these (with_out world out) s1 s2 pages.passed)

    all_lead : MeasureLeads name (Before ++ Puts (sum_line sum) ∷ []) Done
    all_lead =
        layout_read read.text read.events (asked pages.these ++ Puts (sum_line sum) ∷ []) read.reads (text_listed layout read.lists (pages_measured pages.these sum pages.measures refl refl)) (append_assoc read.events (asked pages.these) (Puts (sum_line sum) ∷ []))

    pub line_put : (after : SinkState) → OutPassed (sum_line sum ∷ []) out after → Outcome (MeasureLeads name) (λ _ _. KeepsDisk) (AtEnd Done) (At s0 out) (At s2 after)
    line_put after passed = record {
      events = Before ++ Puts (sum_line sum) ∷ [];
      stands = all_lead;
      happened = passed_then Before (Puts (sum_line sum) ∷ []) (At s0 out) (At s2 out) (At s2 after) before_passed (passed_pieces (Puts (sum_line sum) ∷ []) (with_host world s2) out after refl refl passed) (none_honest (files_of s0));
      leaves = kept;
    }

    pub line_failed : (after : SinkState) (fault : Fault) → fault ≡ faults.Stream → OutFailed (sum_line sum) out after → Falls (MeasureLeads name) (λ _ _. KeepsDisk) fault (At s0 out) (At s2 after)
    line_failed after fault is failed =
        out_fails (MeasureLeads name) Kept Before [] Done fault (At s0 out) (At s2 out) (At s2 after) (sum_line sum) is all_lead before_passed (failed_piece (sum_line sum) (with_host world s2) out after failed) kept
