-- How the summing of a file ends.
use Rattle.std.specs.Prelude.{◌≡◌, ℕ, ◌-◌, ◌<◌, ◌≤◌, List, [], ◌∷◌, length, Option, Some, None, Result, Ok, Err, ⊤}
use Rattle.sha2.specs.Sha256.{sha256}
use Rattle.pf_io.specs.Host.{Name, Answer, LengthWas, HostState, OnHonest}
use Rattle.pf_io.specs.Answered.{Answered}
use Rattle.pf_io.specs.Slices.{MOST_BYTES, IsTaken, IsTooLarge, IsStopped, ReadsSlices}
use Rattle.file_sums.specs.declared.fault.SumFault.{SumFault}
use Rattle.file_sums.specs.declared.fault.SumFault.TheVariants as faults

-- a result, of which only a fault of the host counts as a fault
abbrev pub host_part : {T : Type 0} → Result T SumFault → Result (Unit {0}) (Unit {0})
host_part (Ok value) = Ok tt
host_part (Err faults.NotFound) = Ok tt
host_part (Err faults.TooLarge) = Ok tt
host_part (Err faults.Host) = Err tt

-- the file was taken whole, has no more bytes than a file may have, and their SHA-256 is the sum
pub record IsSumOf (sum : List ℕ) (name : Name) (these : List Answer) : Type 0 where
  pub bytes : List ℕ
  pub taken : IsTaken name these bytes
  pub not_large : length bytes ≤ MOST_BYTES
  pub sum_is : sum ≡ sha256 bytes

-- how it ends, by the answers
abbrev pub SumEnds : Result (List ℕ) SumFault → Name → List Answer → Type 0
SumEnds (Ok sum) name these = IsSumOf sum name these
SumEnds (Err faults.NotFound) name these = these ≡ LengthWas name None ∷ []
SumEnds (Err faults.TooLarge) name these = IsTooLarge name these
SumEnds (Err faults.Host) name these = IsStopped name these

-- how many slices were asked for: those that came, and at a fault of the host one more
abbrev pub slices_asked : {T : Type 0} → Result T SumFault → List Answer → ℕ
slices_asked (Ok value) these = length these - 1
slices_asked (Err faults.NotFound) these = length these - 1
slices_asked (Err faults.TooLarge) these = length these - 1
slices_asked (Err faults.Host) these = length these

-- Some answers came, and by them the summing ends.
pub record IsSummed (result : Result (List ℕ) SumFault) (name : Name) (before after : HostState) : Type 0 where
  pub these : List Answer
  pub answered : Answered these before after
  pub counts : ReadsSlices (slices_asked result these) before after
  pub ends : SumEnds result name these

-- over the bytes of a file, or none where it is absent
abbrev pub SumsFile : Result (List ℕ) SumFault → Option (List ℕ) → Type 0
SumsFile (Ok sum) None = ⊥
SumsFile (Ok sum) (Some bytes) = (sum ≡ sha256 bytes) × (length bytes ≤ MOST_BYTES)
SumsFile (Err faults.NotFound) there = there ≡ None
SumsFile (Err faults.TooLarge) None = ⊥
SumsFile (Err faults.TooLarge) (Some bytes) = MOST_BYTES < length bytes
SumsFile (Err faults.Host) there = ⊤

-- over an honest host the bytes are those of its file
abbrev pub IsOfFile : Result (List ℕ) SumFault → Name → HostState → Type 0
IsOfFile result name before = OnHonest before (λ files. SumsFile result (files name))
