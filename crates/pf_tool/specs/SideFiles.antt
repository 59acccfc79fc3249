-- A new file that is made under a side name and then takes its own: what this leaves on an honest disk.
use Rattle.std.specs.Prelude.{◌≡◌, ◌≢◌, ◌⊎◌, ℕ, List, Contains, Option, Some}
use Rattle.pf_io.specs.Disk.{Name, File, Disk, Image, IsImageAt, IsSettledFile}
use Rattle.pf_io.specs.Host.{HostState, Made, Swapped, OnDisk}
use Rattle.pf_io.specs.Moments.{Ran}
use Rattle.pf_io.specs.Names.{side_of}
use Rattle.pf_tool.specs.Events.{Event, Answers}
use Rattle.pf_tool.specs.Endings.{Done, Stop, AtEnd}

-- the making of the side file is among these
abbrev pub IsMade : List Event → Name → Type 0
IsMade tried output = Contains tried (Answers (Made (side_of output)))

-- and so is its taking of the name
abbrev pub IsSwapped : List Event → Name → Type 0
IsSwapped tried output = Contains tried (Answers (Swapped (side_of output) output))

-- In an image: the name is as before, or new where the side file was to take it. The side name is as before where it was not to
-- be made. Every other name is as before.
pub record SideLeaves (tried : List Event) (output : Name) (IsNew : Option (List ℕ) → Type 0) (disk : Disk) (image : Image) : Type 0 where
  pub here : IsImageAt (disk output) (image output) ⊎ (IsSwapped tried output × IsNew (image output))
  pub side : ¬ (IsMade tried output) → IsImageAt (disk (side_of output)) (image (side_of output))
  pub others : (other : Name) → other ≢ output → other ≢ side_of output → IsImageAt (disk other) (image other)

-- a new file, with nothing pending at it
pub record IsNewFile (IsNew : Option (List ℕ) → Type 0) (here : Option File) : Type 0 where
  pub file : File
  pub there : here ≡ Some file
  pub settled : IsSettledFile file
  pub is_new : IsNew (Some file.bytes)

-- in the end: the same, and where the work is done the name is new
pub record SideEnds (tried : List Event) (stop : Stop) (output : Name) (IsNew : Option (List ℕ) → Type 0) (old new : Disk) : Type 0 where
  pub done : stop ≡ AtEnd Done → IsNewFile IsNew (new output)
  pub here : (new output ≡ old output) ⊎ (IsSwapped tried output × IsNewFile IsNew (new output))
  pub side : ¬ (IsMade tried output) → new (side_of output) ≡ old (side_of output)
  pub others : (other : Name) → other ≢ output → other ≢ side_of output → new other ≡ old other

-- at every moment of a run, and in the end; `IsNew` may speak of the disk before the run and of what was tried
abbrev pub LeavesBySide : Name → (Disk → List Event → Option (List ℕ) → Type 0) → List Event → Stop → HostState → HostState → Type 0
LeavesBySide output IsNew tried stop old new = OnDisk old new
    (Ran (λ disk image. SideLeaves tried output (IsNew disk tried) disk image) (λ before now. SideEnds tried stop output (IsNew before tried) before now))
