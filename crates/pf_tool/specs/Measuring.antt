-- What `measure LAYOUT` comes to.
use Rattle.std.specs.Prelude.{◌≡◌, ℕ, List, [], ◌∷◌, ◌++◌, slice_get, Some, Ok, Err}
use Rattle.hex.specs.Hex.{encode_lower}
use Rattle.enclave_measure.specs.declared.fault.LayoutFault.{LayoutFault}
use Rattle.enclave_measure.specs.declared.fault.MeasureFault.TheVariants as measures
use Rattle.enclave_measure.specs.Pages.{Listed}
use Rattle.enclave_measure.specs.Layouts.{ReadsTo}
use Rattle.enclave_measure.specs.Measuring.{file_at, Measures, MeasuresFiles}
use Rattle.pf_io.specs.Disk.{Name, Files}
use Rattle.pf_io.specs.Host.{Answer, HostState, Both, IsMore}
use Rattle.pf_tool.specs.World.{World}
use Rattle.pf_tool.specs.Events.{Event, Puts}
use Rattle.pf_tool.specs.Endings.{Ending, Done, Refused, BadLayout, Absent, line}
use Rattle.pf_tool.specs.Happened.{HostPassed, Passed}
use Rattle.pf_tool.specs.InputFiles.{asked, InputReads, InputOver}
use Rattle.pf_tool.specs.declared.fault.Fault.{Fault}
use Rattle.pf_tool.specs.declared.fault.Fault.TheVariants as faults
use Rattle.pf_tool.specs.declared.why.Why.TheVariants as whys

-- 64 lower-case digits
abbrev pub sum_line : List ℕ → List ℕ
sum_line sum = line (encode_lower sum)

-- the name of the file of a page of the layout
abbrev pub IsPageFile : Listed → ℕ → Name → Type 0
IsPageFile layout page name = file_at (slice_get layout.pages page) ≡ Some name

-- What follows a layout: the answers that its measurement asks for, and the line; or the file of a page is absent.
pub data PagesLead (layout : Listed) (events : List Event) (ending : Ending) : Type 0 where
  page_absent : (these : List Answer) (page : ℕ) (name : Name) → Measures layout these (Err (measures.NotFound page)) → IsPageFile layout page name → events ≡ asked these → ending ≡ Refused (Absent name) → PagesLead layout events ending
  pages_measured : (these : List Answer) (sum : List ℕ) → Measures layout these (Ok sum) → events ≡ asked these ++ Puts (sum_line sum) ∷ [] → ending ≡ Done → PagesLead layout events ending

-- what follows the text of a layout
pub data TextLeads (text : List ℕ) (events : List Event) (ending : Ending) : Type 0 where
  text_refused : (fault : LayoutFault) → ReadsTo text (Err fault) → events ≡ [] → ending ≡ Refused (BadLayout fault) → TextLeads text events ending
  text_listed : (layout : Listed) → ReadsTo text (Ok layout) → PagesLead layout events ending → TextLeads text events ending

-- the whole command
pub data MeasureLeads (layout : Name) (events : List Event) (ending : Ending) : Type 0 where
  layout_unread : InputReads layout events (Err ending) → MeasureLeads layout events ending
  layout_read : (text : List ℕ) (front rest : List Event) → InputReads layout front (Ok text) → TextLeads text rest ending → events ≡ front ++ rest → MeasureLeads layout events ending

-- the line and the ending that files give
pub data MeasureOver (layout : Name) (files : Files) (pieces : List (List ℕ)) (ending : Ending) : Type 0 where
  over_unread : InputOver files layout (Err ending) → pieces ≡ [] → MeasureOver layout files pieces ending
  over_refused : (text : List ℕ) (fault : LayoutFault) → InputOver files layout (Ok text) → ReadsTo text (Err fault) → pieces ≡ [] → ending ≡ Refused (BadLayout fault) → MeasureOver layout files pieces ending
  over_absent : (text : List ℕ) (listed : Listed) (page : ℕ) (name : Name) → InputOver files layout (Ok text) → ReadsTo text (Ok listed) → MeasuresFiles files listed (Err (measures.NotFound page)) → IsPageFile listed page name → pieces ≡ []
      → ending ≡ Refused (Absent name) → MeasureOver layout files pieces ending
  over_measured : (text : List ℕ) (listed : Listed) (sum : List ℕ) → InputOver files layout (Ok text) → ReadsTo text (Ok listed) → MeasuresFiles files listed (Ok sum) → pieces ≡ sum_line sum ∷ [] → ending ≡ Done → MeasureOver layout files pieces ending

-- At status 0 the answers that were told are those of a text, which lists a layout, and those that its measurement asks for; and
-- the output took the line of the measurement.
pub record PutMeasurement (layout : Name) (these : List Answer) (old new : World) : Type 0 where
  pub text : List ℕ
  pub listed : Listed
  pub sum : List ℕ
  pub of_text : List Answer
  pub of_pages : List Answer
  pub all : these ≡ of_text ++ of_pages
  pub read : InputReads layout (asked of_text) (Ok text)
  pub lists : ReadsTo text (Ok listed)
  pub measured : Measures listed of_pages (Ok sum)
  pub put : Both old.out.bytes new.out.bytes (IsMore (sum_line sum))

-- a layout was read, and nothing else happened
pub record LayoutRead (name : Name) (layout : Listed) (old new : World) : Type 0 where
  pub text : List ℕ
  pub events : List Event
  pub reads : InputReads name events (Ok text)
  pub lists : ReadsTo text (Ok layout)
  pub passed : Passed events old new

-- its pages were measured
pub record PagesMeasured (layout : Listed) (sum : List ℕ) (old new : HostState) : Type 0 where
  pub these : List Answer
  pub measures : Measures layout these (Ok sum)
  pub passed : HostPassed these old new

-- the fault names the file of a page; or there was no room for the name
pub data NamesFile (layout : Listed) (page : ℕ) (fault : Fault) : Type 0 where
  file_named : (name : Name) → IsPageFile layout page name → fault ≡ faults.Refused (whys.Absent name) → NamesFile layout page fault
  no_room : fault ≡ faults.Memory → NamesFile layout page fault
