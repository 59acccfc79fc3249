-- What `manifest TEMPLATE [OUT]` comes to, with values of names.
use Rattle.std.specs.Prelude.{◌≡◌, ℕ, ◌≤◌, List, [], ◌++◌, length, map, Option, Some, None, Ok, Err}
use Rattle.template_text.specs.Rendering.{Values}
use Rattle.pf_io.specs.Disk.{Name, Disk, Files, reading}
use Rattle.pf_io.specs.Host.{HostState, Answer, Both, IsMore}
use Rattle.pf_io.specs.Names.{IsTarget, side_of}
use Rattle.pf_io.specs.SideFile.{file_steps}
use Rattle.pf_io.specs.Slices.{IsTaken}
use Rattle.pf_io.specs.Streams.{SinkState}
use Rattle.pf_io.specs.Unchanged.{KeepsDisk}
use Rattle.pf_tool.specs.Events.{Event, Puts}
use Rattle.pf_tool.specs.Endings.{Ending, Done, Refused, BadName, Stop}
use Rattle.pf_tool.specs.InputFiles.{MOST_INPUT, InputReads, InputOver}
use Rattle.pf_tool.specs.PlainFiles.{written_events, WritesWhole, LeavesWhole}
use Rattle.pf_tool.specs.Rendering.{Renders}
use Rattle.pf_tool.specs.SideFiles.{LeavesBySide}
use Rattle.pf_tool.specs.TextOutput.{pieces_of, PutsText}

-- a name for a file that is made, where one is given
abbrev pub FitsOutput : Option Name → Type 0
FitsOutput None = Unit {0}
FitsOutput (Some output) = IsTarget output

-- where a text goes: to the output in pieces, or to a file by its side file
abbrev pub out_events : Option Name → List ℕ → List Event
out_events None text = map Puts (pieces_of text)
out_events (Some output) text = written_events output text

-- the pieces that the output gets of it
abbrev pub out_pieces : Option Name → List ℕ → List (List ℕ)
out_pieces None text = pieces_of text
out_pieces (Some output) text = []

-- the text goes there
abbrev pub WritesText : Option Name → List ℕ → List Event → Ending → Type 0
WritesText None text events ending = PutsText text events ending
WritesText (Some output) text events ending = WritesWhole output text events ending

abbrev pub LeavesText : Option Name → List ℕ → List Event → Stop → HostState → HostState → Type 0
LeavesText None text tried stop old new = KeepsDisk old new
LeavesText (Some output) text tried stop old new = LeavesWhole output text tried stop old new

-- what follows the reading of the template: its text is refused, or goes out
pub data WritesManifest (values : Values) (output : Option Name) (bytes : List ℕ) (events : List Event) (ending : Ending) : Type 0 where
  text_refused : Renders values bytes (Err ending) → events ≡ [] → WritesManifest values output bytes events ending
  text_written : (text : List ℕ) → Renders values bytes (Ok text) → events ≡ out_events output text → ending ≡ Done → WritesManifest values output bytes events ending

-- the whole command
pub data ManifestLeads (values : Values) (template : Name) (output : Option Name) (events : List Event) (ending : Ending) : Type 0 where
  output_unfit : ¬ (FitsOutput output) → events ≡ [] → ending ≡ Refused BadName → ManifestLeads values template output events ending
  template_unread : FitsOutput output → InputReads template events (Err ending) → ManifestLeads values template output events ending
  template_read : (bytes : List ℕ) (first rest : List Event) → FitsOutput output → InputReads template first (Ok bytes) → WritesManifest values output bytes rest ending → events ≡ first ++ rest
      → ManifestLeads values template output events ending

-- the template is on the disk, and the file has the text that it is rendered to
abbrev pub IsRendered : Values → Name → Disk → Option (List ℕ) → Type 0
IsRendered values template disk file = (bytes text : List ℕ) × (reading disk template ≡ Some bytes) × Renders values bytes (Ok text) × (file ≡ Some text)

abbrev pub ManifestLeaves : Values → Name → Option Name → List Event → Stop → HostState → HostState → Type 0
ManifestLeaves values template None tried stop old new = KeepsDisk old new
ManifestLeaves values template (Some output) tried stop old new = LeavesBySide output (λ disk _. IsRendered values template disk) tried stop old new

-- the pieces for the output, and the ending, that files give
pub data ManifestOver (values : Values) (template : Name) (output : Option Name) (files : Files) (pieces : List (List ℕ)) (ending : Ending) : Type 0 where
  over_unfit : ¬ (FitsOutput output) → pieces ≡ [] → ending ≡ Refused BadName → ManifestOver values template output files pieces ending
  over_unread : FitsOutput output → InputOver files template (Err ending) → pieces ≡ [] → ManifestOver values template output files pieces ending
  over_refused : (bytes : List ℕ) → FitsOutput output → InputOver files template (Ok bytes) → Renders values bytes (Err ending) → pieces ≡ [] → ManifestOver values template output files pieces ending
  over_written : (bytes text : List ℕ) → FitsOutput output → InputOver files template (Ok bytes) → Renders values bytes (Ok text) → pieces ≡ out_pieces output text → ending ≡ Done
      → ManifestOver values template output files pieces ending

-- what is answered where a text goes out
abbrev pub out_answers : Option Name → List ℕ → List Answer
out_answers None text = []
out_answers (Some output) text = file_steps output (side_of output) text

-- what the output took of it
abbrev pub TookText : Option Name → List ℕ → SinkState → SinkState → Type 0
TookText None text old new = Both old.bytes new.bytes (IsMore text)
TookText (Some output) text old new = new ≡ old

-- At status 0 the answers have this: the template was taken, and it is rendered to a manifest, whose text went out whole.
pub record GaveRendered (values : Values) (template : Name) (output : Option Name) (these : List Answer) (old new : SinkState) : Type 0 where
  pub bytes : List ℕ
  pub text : List ℕ
  pub first : List Answer
  pub taken : IsTaken template first bytes
  pub small : length bytes ≤ MOST_INPUT
  pub rendered : Renders values bytes (Ok text)
  pub answered : these ≡ first ++ out_answers output text
  pub took : TookText output text old new
