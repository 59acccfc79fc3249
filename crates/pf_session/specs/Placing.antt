-- A node 0 that is put under a name by way of the side file.
use Rattle.std.specs.Prelude.{◌≡◌, ◌≢◌, ◌⊎◌, ℕ, List, [], ◌∷◌, Some, Result, Ok, Err}
use Rattle.pf_io.specs.Disk.{Name, Disk, Image, IsImageAt, IsSettledAt}
use Rattle.pf_io.specs.Host.{Answer, Wrote, Synced, Made, Swapped, HostState, OnDisk}
use Rattle.pf_io.specs.Moments.{Ran}
use Rattle.pf_io.specs.Names.{recovery_of, side_of}
use Rattle.pf_io.specs.SideFile.{IsWhole}
use Rattle.pf_io.specs.SideSteps.{Beside}
use Rattle.pf_io.specs.Steps.{KeepsOthers}
use Rattle.pf_session.specs.Aside.{LeavesApart, KeepsApart}
use Rattle.pf_session.specs.Asking.{NoCall, Asked, Stopped}

-- The side file is made and gets node 0, and nothing is left pending at it.
abbrev pub make_steps : Name → List ℕ → List Answer
make_steps side node = Made side ∷ Wrote side 0 node ∷ Synced side ∷ []

-- Before, nothing is left pending at the recovery name; then the side file takes the name.
abbrev pub place_steps : Name → List ℕ → List Answer
place_steps name node = Synced (recovery_of name) ∷ Made (side_of name) ∷ Wrote (side_of name) 0 node ∷ Synced (side_of name) ∷ Swapped (side_of name) name ∷ []

-- the file is whole, or where its making failed any; no other name changed
abbrev pub MakeLeaves : {T E : Type 0} → Result T E → Name → List ℕ → Disk → Disk → Type 0
MakeLeaves (Ok done) side node old new = Beside side (λ was is. IsWhole node is) old new
MakeLeaves (Err fault) side node old new = KeepsOthers side old new

-- an image of the name is as before or has the node, and the names apart are as before
pub record PlaceImage (name : Name) (node : List ℕ) (disk : Disk) (image : Image) : Type 0 where
  pub here : IsImageAt (disk name) (image name) ⊎ (image name ≡ Some node)
  pub apart : LeavesApart name disk image

-- the name has the node, and nothing is pending at it
pub record IsPlaced (name : Name) (node : List ℕ) (disk : Disk) : Type 0 where
  pub file : IsWhole node (disk name)
  pub recovery : IsSettledAt (disk (recovery_of name))

-- a name is as before at every moment and in the end
abbrev pub NameStays : Name → HostState → HostState → Type 0
NameStays name before after = OnDisk before after (Ran (λ disk image. IsImageAt (disk name) (image name)) (λ old new. new name ≡ old name))

pub record PlaceDone (name : Name) (node : List ℕ) (old new : Disk) : Type 0 where
  pub placed : IsPlaced name node new
  pub apart : KeepsApart name old new

pub record PlaceTried (name : Name) (node : List ℕ) (old new : Disk) : Type 0 where
  pub placed : (new name ≡ old name) ⊎ IsPlaced name node new
  pub apart : KeepsApart name old new

-- all calls were answered
pub record Placed (name : Name) (node : List ℕ) (before after : HostState) : Type 0 where
  pub asked : Asked (place_steps name node) NoCall before after
  pub disk : OnDisk before after (Ran (PlaceImage name node) (PlaceDone name node))

-- one of them failed; before the last one the name stays
pub record PlaceStopped (name : Name) (node : List ℕ) (before after : HostState) : Type 0 where
  pub stopped : Stopped (place_steps name node) before after
  pub before_the_swap : stopped.failed ≢ Swapped (side_of name) name → NameStays name before after
  pub disk : OnDisk before after (Ran (PlaceImage name node) (PlaceTried name node))

abbrev pub PlaceGoes : {T E : Type 0} → Result T E → Name → List ℕ → HostState → HostState → Type 0
PlaceGoes (Ok done) name node before after = Placed name node before after
PlaceGoes (Err fault) name node before after = PlaceStopped name node before after
