-- What writing a plain file by way of a side file asks of the host, and what it leaves.
use Rattle.std.specs.Prelude.{◌≡◌, ◌≢◌, ◌⊎◌, ℕ, zero, suc, ◌*◌, ◌≤◌, max, List, [], ◌∷◌, ◌++◌, length, fold, take, drop, Option, Some, None}
use Rattle.std.specs.Int.{div_ceil}
use Rattle.pf_io.specs.Counts.{counted}
use Rattle.pf_io.specs.Disk.{Name, File, Disk, Image, IsImageAt, IsSettledFile}
use Rattle.pf_io.specs.Moments.{Ran}
use Rattle.pf_io.specs.Steps.{KeepsOthers}
use Rattle.pf_io.specs.Host.{Answer, LengthWas, Gave, Wrote, WasCut, Synced, Made, Swapped, Removed, HostState, Both, IsMore, OnDisk}

-- the most bytes that one write has
abbrev pub PIECE : ℕ
PIECE = 32768

-- how many pieces so many bytes are: none where there are none, and the last one may be shorter
abbrev pub pieces : ℕ → ℕ
pieces length = div_ceil length PIECE

-- the writes of the first pieces of these bytes, in order, each at its place
abbrev pub wrote_pieces : Name → List ℕ → ℕ → List Answer
wrote_pieces side bytes zero = []
wrote_pieces side bytes (suc count) = wrote_pieces side bytes count ++ Wrote side (count * PIECE) (take PIECE (drop (count * PIECE) bytes)) ∷ []

-- what makes a whole side file
abbrev pub side_steps : Name → List ℕ → List Answer
side_steps side bytes = Made side ∷ wrote_pieces side bytes (pieces (length bytes)) ++ Synced side ∷ []

-- all steps: the side file is made, written and synced, and then it gets the name
abbrev pub file_steps : Name → Name → List ℕ → List Answer
file_steps name side bytes = side_steps side bytes ++ Swapped side name ∷ []

-- the count of writes after one more step
abbrev pub counts_step : ℕ → Answer → ℕ
counts_step writes (LengthWas name length) = writes
counts_step writes (Gave name place room bytes) = writes
counts_step writes (Wrote name place bytes) = counted writes
counts_step writes (WasCut name length) = writes
counts_step writes (Synced name) = writes
counts_step writes (Made name) = writes
counts_step writes (Swapped from to) = writes
counts_step writes (Removed name) = writes

-- Nothing is read, each write of these steps is counted, and none has more bytes than a piece.
pub record CountsSteps (steps : List Answer) (old new : HostState) : Type 0 where
  pub reads : new.reads ≡ old.reads
  pub writes : new.writes ≡ fold counts_step old.writes steps
  pub widest : new.widest ≤ max old.widest PIECE

-- All steps were answered, in order.
pub record Stepped (steps : List Answer) (old new : HostState) : Type 0 where
  pub told : Both old.given new.given (IsMore steps)
  pub counts : CountsSteps steps old new

-- One step failed: those before it were answered, and none after it was asked.
pub record StoppedAt (steps answered : List Answer) (failed : Answer) (left : List Answer) (old new : HostState) : Type 0 where
  pub in_order : steps ≡ answered ++ failed ∷ left
  pub told : Both old.given new.given (IsMore answered)
  pub counts : CountsSteps (answered ++ failed ∷ []) old new

-- every name but this one is as before
abbrev pub OthersLeft : Name → Disk → Image → Type 0
OthersLeft name old image = (other : Name) → other ≢ name → IsImageAt (old other) (image other)

-- The name is as before or has these bytes, and every name but the two is as before.
pub record IsReplaced (name side : Name) (bytes : List ℕ) (old : Disk) (image : Image) : Type 0 where
  pub here : IsImageAt (old name) (image name) ⊎ (image name ≡ Some bytes)
  pub others : (other : Name) → other ≢ name → other ≢ side → IsImageAt (old other) (image other)

-- a file of these bytes, at which nothing is pending
abbrev pub IsWhole : List ℕ → Option File → Type 0
IsWhole bytes o = (file : File) × (o ≡ Some file) × (file.bytes ≡ bytes) × IsSettledFile file

-- once it was done
pub record IsDone (name side : Name) (bytes : List ℕ) (old new : Disk) : Type 0 where
  pub here : IsWhole bytes (new name)
  pub gone : new side ≡ None
  pub others : (other : Name) → other ≢ name → other ≢ side → new other ≡ old other

-- once it was tried
pub record IsTried (name side : Name) (bytes : List ℕ) (old new : Disk) : Type 0 where
  pub here : (new name ≡ old name) ⊎ IsWhole bytes (new name)
  pub others : (other : Name) → other ≢ name → other ≢ side → new other ≡ old other

-- The name has a file of these bytes.
pub record WroteFile (name side : Name) (bytes : List ℕ) (old new : HostState) : Type 0 where
  pub steps : Stepped (file_steps name side bytes) old new
  pub disk : OnDisk old new (Ran (IsReplaced name side bytes) (IsDone name side bytes))

-- A step failed. Before the swap nothing but the side file was changed, and at the swap the name is as before or has the file.
pub record FailedFile (name side : Name) (bytes : List ℕ) (old new : HostState) : Type 0 where
  pub answered : List Answer
  pub failed : Answer
  pub left : List Answer
  pub steps : StoppedAt (file_steps name side bytes) answered failed left old new
  pub before_the_swap : failed ≢ Swapped side name → OnDisk old new (Ran (OthersLeft side) (KeepsOthers side))
  pub at_most_swapped : OnDisk old new (Ran (IsReplaced name side bytes) (IsTried name side bytes))
