-- How the opening of a trusted file ends.
use Rattle.std.specs.Prelude.{◌≡◌, ◌≢◌, ℕ, ◌-◌, ◌<◌, ◌≤◌, List, [], ◌∷◌, ◌++◌, length, Option, Some, None, Result, Ok, Err}
use Rattle.std.specs.List.{concat}
use Rattle.sha2.specs.Sha256.{sha256}
use Rattle.pf_io.specs.Host.{Name, Answer, LengthWas, HostState, OnHonest}
use Rattle.pf_io.specs.Answered.{Answered}
use Rattle.pf_io.specs.Slices.{MOST_BYTES, IsTaken, CameInTurn, IsTooLarge, IsStopped, CountsSlices}
use Rattle.trusted_chunks.specs.State.{FileState, Holds}
use Rattle.trusted_chunks.specs.declared.fault.TrustFault.{TrustFault}
use Rattle.trusted_chunks.specs.declared.fault.TrustFault.TheVariants as faults

-- a result, of which only a fault of the host counts as a fault
abbrev pub host_part : {T : Type 0} → Result T TrustFault → Result (Unit {0}) (Unit {0})
host_part (Ok value) = Ok tt
host_part (Err faults.NotFound) = Ok tt
host_part (Err faults.TooLarge) = Ok tt
host_part (Err (faults.WrongSum found)) = Ok tt
host_part (Err faults.Host) = Err tt
host_part (Err faults.Memory) = Ok tt

-- The file was taken whole, has the sum that was given, and is held; no chunk is kept yet.
pub record IsOpened (file : FileState) (name : Name) (sum : List ℕ) (these : List Answer) : Type 0 where
  pub bytes : List ℕ
  pub taken : IsTaken name these bytes
  pub not_large : length bytes ≤ MOST_BYTES
  pub sum_is : sha256 bytes ≡ sum
  pub holds : Holds file bytes
  pub name_is : file.name ≡ name
  pub none_kept : file.kept ≡ []

-- the file was taken whole and has another sum, which is told
pub record HasWrongSum (name : Name) (sum found : List ℕ) (these : List Answer) : Type 0 where
  pub bytes : List ℕ
  pub taken : IsTaken name these bytes
  pub not_large : length bytes ≤ MOST_BYTES
  pub found_is : found ≡ sha256 bytes
  pub other : found ≢ sum

-- want of memory came between two calls, or at a last slice
pub data IsStarved (name : Name) (these : List Answer) : Type 0 where
  between : IsStopped name these → IsStarved name these
  at_last : (whole : List (List ℕ)) (last : List ℕ) → CameInTurn name whole (last ∷ []) these → length (concat (whole ++ last ∷ [])) ≤ MOST_BYTES → IsStarved name these

abbrev pub OpenEnds : Result FileState TrustFault → Name → List ℕ → List Answer → Type 0
OpenEnds (Ok file) name sum these = IsOpened file name sum these
OpenEnds (Err faults.NotFound) name sum these = these ≡ LengthWas name None ∷ []
OpenEnds (Err faults.TooLarge) name sum these = IsTooLarge name these
OpenEnds (Err (faults.WrongSum found)) name sum these = HasWrongSum name sum found these
OpenEnds (Err faults.Host) name sum these = IsStopped name these
OpenEnds (Err faults.Memory) name sum these = IsStarved name these

-- how many slices were asked for: those that came, and at a fault of the host one more
abbrev pub slices_asked : {T : Type 0} → Result T TrustFault → List Answer → ℕ
slices_asked (Ok value) these = length these - 1
slices_asked (Err faults.NotFound) these = length these - 1
slices_asked (Err faults.TooLarge) these = length these - 1
slices_asked (Err (faults.WrongSum found)) these = length these - 1
slices_asked (Err faults.Host) these = length these
slices_asked (Err faults.Memory) these = length these - 1

-- Some answers came, and by them the opening ends.
pub record Opens (result : Result FileState TrustFault) (name : Name) (sum : List ℕ) (before after : HostState) : Type 0 where
  pub these : List Answer
  pub answered : Answered these before after
  pub counts : CountsSlices (slices_asked result these) before after
  pub ends : OpenEnds result name sum these

-- over the bytes of a file, or none where it is absent
abbrev pub OpensFile : Result FileState TrustFault → List ℕ → Option (List ℕ) → Type 0
OpensFile (Ok file) sum None = ⊥
OpensFile (Ok file) sum (Some bytes) = Holds file bytes × (sha256 bytes ≡ sum) × (length bytes ≤ MOST_BYTES)
OpensFile (Err faults.NotFound) sum there = there ≡ None
OpensFile (Err faults.TooLarge) sum None = ⊥
OpensFile (Err faults.TooLarge) sum (Some bytes) = MOST_BYTES < length bytes
OpensFile (Err (faults.WrongSum found)) sum None = ⊥
OpensFile (Err (faults.WrongSum found)) sum (Some bytes) = (found ≡ sha256 bytes) × (found ≢ sum) × (length bytes ≤ MOST_BYTES)
OpensFile (Err faults.Host) sum there = Unit {0}
OpensFile (Err faults.Memory) sum there = Unit {0}

-- over an honest host the bytes are those of its file
abbrev pub HonestOpen : Result FileState TrustFault → Name → List ℕ → HostState → Type 0
HonestOpen result name sum before = OnHonest before (λ files. OpensFile result sum (files name))
