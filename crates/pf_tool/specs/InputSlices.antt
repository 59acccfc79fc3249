-- The slices of an input, as they are added to its bytes.
use Rattle.std.specs.Prelude.{◌≡◌, ℕ, ◌≤◌, List, [], ◌∷◌, ◌++◌, length, Some}
use Rattle.pf_io.specs.Disk.{Name}
use Rattle.pf_io.specs.Host.{Answer, LengthWas, Gave, HostState}
use Rattle.pf_io.specs.Slices.{SLICE, IsTaken}
use Rattle.pf_tool.specs.Events.{Event, Answers}
use Rattle.pf_tool.specs.Endings.{Ending}
use Rattle.pf_tool.specs.Happened.{HostPassed, HostFailed}
use Rattle.pf_tool.specs.InputFiles.{MOST_INPUT, InputLeads}
use Rattle.pf_tool.specs.declared.fault.Fault.{Fault}
use Rattle.pf_tool.specs.declared.fault.Fault.TheVariants as faults

-- a slice of so many bytes came from where the bytes end, and was added behind them
pub record SliceAdded (name : Name) (count : ℕ) (bytes now : List ℕ) (old new : HostState) : Type 0 where
  pub slice : List ℕ
  pub added : now ≡ bytes ++ slice
  pub count_is : count ≡ length slice
  pub short : length slice ≤ SLICE
  pub passed : HostPassed (Gave name (length bytes) SLICE slice ∷ []) old new

-- no slice came: the call failed, or there was no room for one, and it was not made
pub data SliceFails (name : Name) (at : ℕ) (fault : Fault) (old new : HostState) : Type 0 where
  slice_failed : fault ≡ faults.Host → HostFailed (Gave name at SLICE []) old new → SliceFails name at fault old new
  slice_starved : fault ≡ faults.Memory → new ≡ old → SliceFails name at fault old new

-- what follows the length of the file
abbrev pub SlicesLead : Name → ℕ → List Event → Ending → Type 0
SlicesLead name size events ending = InputLeads name (Answers (LengthWas name (Some size)) ∷ events) ending

-- a file that is there was taken whole
pub record SlicesRead (name : Name) (text : List ℕ) (old new : HostState) : Type 0 where
  pub these : List Answer
  pub taken : (size : ℕ) → IsTaken name (LengthWas name (Some size) ∷ these) text
  pub small : length text ≤ MOST_INPUT
  pub passed : HostPassed these old new
