-- A plain file that a command writes as a whole, by its side file: made, written in pieces, synced and swapped.
use Rattle.std.specs.Prelude.{◌≡◌, ℕ, List, Option, Some}
use Rattle.pf_io.specs.Disk.{Name, Disk}
use Rattle.pf_io.specs.Host.{HostState}
use Rattle.pf_io.specs.Names.{side_of}
use Rattle.pf_io.specs.SideFile.{file_steps}
use Rattle.pf_tool.specs.Events.{Event}
use Rattle.pf_tool.specs.Endings.{Ending, Done, Stop}
use Rattle.pf_tool.specs.InputFiles.{asked}
use Rattle.pf_tool.specs.SideFiles.{LeavesBySide}

-- what is asked of the host, in order
abbrev pub written_events : Name → List ℕ → List Event
written_events output bytes = asked (file_steps output (side_of output) bytes)

-- all of it is asked
pub record WritesWhole (output : Name) (bytes : List ℕ) (events : List Event) (ending : Ending) : Type 0 where
  pub are : events ≡ written_events output bytes
  pub done : ending ≡ Done

-- these bytes and no others
abbrev pub IsExactly : List ℕ → Disk → List Event → Option (List ℕ) → Type 0
IsExactly bytes disk tried file = file ≡ Some bytes

abbrev pub LeavesWhole : Name → List ℕ → List Event → Stop → HostState → HostState → Type 0
LeavesWhole output bytes tried stop old new = LeavesBySide output (IsExactly bytes) tried stop old new
