-- The names that a call of a session leaves alone.
use Rattle.std.specs.Prelude.{◌≡◌, ◌≢◌}
use Rattle.pf_io.specs.Disk.{Name, Disk, Image, IsImageAt}
use Rattle.pf_io.specs.Host.{HostState, OnDisk}
use Rattle.pf_io.specs.Moments.{Ran}
use Rattle.pf_io.specs.Names.{recovery_of, side_of, side_recovery_of}
use Rattle.pf_io.specs.Steps.{KeepsOthers}
pub use Rattle.pf_io.specs.SideFile.{OthersLeft as LeavesOthers}

-- another name than the name, its recovery file, its side file and the side file's recovery file
pub record Apart (name other : Name) : Type 0 where
  pub here : other ≢ name
  pub recovery : other ≢ recovery_of name
  pub side : other ≢ side_of name
  pub side_recovery : other ≢ side_recovery_of name

abbrev pub LeavesApart : Name → Disk → Image → Type 0
LeavesApart name disk image = (other : Name) → Apart name other → IsImageAt (disk other) (image other)

abbrev pub KeepsApart : Name → Disk → Disk → Type 0
KeepsApart name old new = (other : Name) → Apart name other → new other ≡ old other

-- Whatever stands at these names, every other name is as before at every moment and in the end.
abbrev pub Aside : Name → HostState → HostState → Type 0
Aside name before after = OnDisk before after (Ran (LeavesApart name) (KeepsApart name))

-- one name alone was changed
abbrev pub ChangesAlone : Name → HostState → HostState → Type 0
ChangesAlone name before after = OnDisk before after (Ran (LeavesOthers name) (KeepsOthers name))

-- two names alone were
abbrev pub LeavesAllBut : Name → Name → Disk → Image → Type 0
LeavesAllBut name second disk image = (other : Name) → other ≢ name → other ≢ second → IsImageAt (disk other) (image other)

abbrev pub KeepsAllBut : Name → Name → Disk → Disk → Type 0
KeepsAllBut name second old new = (other : Name) → other ≢ name → other ≢ second → new other ≡ old other

abbrev pub ChangesTwo : Name → Name → HostState → HostState → Type 0
ChangesTwo name second before after = OnDisk before after (Ran (LeavesAllBut name second) (KeepsAllBut name second))

-- a name and its recovery file are as before in an image
pub record LeavesNamed (name : Name) (disk : Disk) (image : Image) : Type 0 where
  pub here : IsImageAt (disk name) (image name)
  pub recovery : IsImageAt (disk (recovery_of name)) (image (recovery_of name))

-- another name than those of a move from one name to another
pub record ApartBoth (from to other : Name) : Type 0 where
  pub of_old : Apart from other
  pub of_new : Apart to other

abbrev pub LeavesApartBoth : Name → Name → Disk → Image → Type 0
LeavesApartBoth from to disk image = (other : Name) → ApartBoth from to other → IsImageAt (disk other) (image other)

abbrev pub KeepsApartBoth : Name → Name → Disk → Disk → Type 0
KeepsApartBoth from to old new = (other : Name) → ApartBoth from to other → new other ≡ old other

-- Whatever stands at these names, every other name is as before at every moment and in the end.
abbrev pub AsideBoth : Name → Name → HostState → HostState → Type 0
AsideBoth from to before after = OnDisk before after (Ran (LeavesApartBoth from to) (KeepsApartBoth from to))
