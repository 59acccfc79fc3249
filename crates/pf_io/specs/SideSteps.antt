-- What each part of the writing of a side file leaves.
use Rattle.std.specs.Prelude.{◌≡◌, ℕ, List, length, Option, Some}
use Rattle.pf_io.specs.Disk.{Name, File, Disk}
use Rattle.pf_io.specs.Moments.{Ran}
use Rattle.pf_io.specs.Steps.{KeepsOthers, IsEmptyFile}
use Rattle.pf_io.specs.Host.{Answer, HostState, OnDisk}
use Rattle.pf_io.specs.SideFile.{Stepped, StoppedAt, OthersLeft, IsWhole, pieces, wrote_pieces, side_steps}

abbrev pub IsMade : Option File → Type 0
IsMade o = (file : File) × (o ≡ Some file) × IsEmptyFile file

abbrev pub IsWritten : List ℕ → Option File → Type 0
IsWritten bytes o = (file : File) × (o ≡ Some file) × (file.bytes ≡ bytes)

-- the file of one name went on so, and every other name is as before
pub record Beside (side : Name) (went : Option File → Option File → Type 0) (old new : Disk) : Type 0 where
  pub file : went (old side) (new side)
  pub others : KeepsOthers side old new

-- these steps were answered, and changed one name alone
pub record Advanced (side : Name) (steps : List Answer) (went : Option File → Option File → Type 0) (old new : HostState) : Type 0 where
  pub stepped : Stepped steps old new
  pub disk : OnDisk old new (Ran (OthersLeft side) (Beside side went))

-- one of these steps failed, and they changed one name alone
pub record Halted (side : Name) (steps : List Answer) (old new : HostState) : Type 0 where
  pub answered : List Answer
  pub failed : Answer
  pub left : List Answer
  pub stopped : StoppedAt steps answered failed left old new
  pub disk : OnDisk old new (Ran (OthersLeft side) (KeepsOthers side))

-- an empty file has the bytes
abbrev pub Fills : List ℕ → Option File → Option File → Type 0
Fills bytes old new = IsMade old → IsWritten bytes new

abbrev pub WritesPieces : Name → List ℕ → HostState → HostState → Type 0
WritesPieces side bytes old new = Advanced side (wrote_pieces side bytes (pieces (length bytes))) (Fills bytes) old new

abbrev pub FailedPieces : Name → List ℕ → HostState → HostState → Type 0
FailedPieces side bytes old new = Halted side (wrote_pieces side bytes (pieces (length bytes))) old new

abbrev pub WroteSide : Name → List ℕ → HostState → HostState → Type 0
WroteSide side bytes old new = Advanced side (side_steps side bytes) (λ was is. IsWhole bytes is) old new

abbrev pub FailedSide : Name → List ℕ → HostState → HostState → Type 0
FailedSide side bytes old new = Halted side (side_steps side bytes) old new
