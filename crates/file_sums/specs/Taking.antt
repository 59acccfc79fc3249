-- What comes of taking a file's slices, once it is known to be there.
use Rattle.std.specs.Prelude.{◌≡◌, ℕ, ◌+◌, ◌<◌, ◌≤◌, List, [], ◌∷◌, ◌++◌, length, Result, Ok, Err}
use Rattle.std.specs.List.{concat}
use Rattle.sha2.specs.Sha256.{sha256}
use Rattle.sha2.specs.Hashers.{Holds256}
use Rattle.sha2.specs.declared.Sha256.{Sha256}
use Rattle.pf_io.specs.Host.{Name, HostState}
use Rattle.pf_io.specs.Answered.{Answered}
use Rattle.pf_io.specs.Slices.{SLICE, MOST_BYTES, given_in_turn, AreWhole, ReadsSlices, SliceCame, NoSliceCame}
use Rattle.file_sums.specs.declared.fault.SumFault.{SumFault}
use Rattle.file_sums.specs.declared.fault.SumFault.TheVariants as faults

abbrev pub NotLarge : List (List ℕ) → Type 0
NotLarge slices = length (concat slices) ≤ MOST_BYTES

-- how it ends, by the whole slices that came and the last one, where there is one
abbrev pub TakeEnds : Result (List ℕ) SumFault → List (List ℕ) → List (List ℕ) → Type 0
TakeEnds (Ok sum) whole more = (last : List ℕ) × (more ≡ last ∷ []) × (length last < SLICE) × NotLarge (whole ++ more) × (sum ≡ sha256 (concat (whole ++ more)))
TakeEnds (Err faults.NotFound) whole more = ⊥
TakeEnds (Err faults.TooLarge) whole more = (last : List ℕ) × (more ≡ last ∷ []) × NotLarge whole × (MOST_BYTES < length (concat (whole ++ more)))
TakeEnds (Err faults.Host) whole more = (more ≡ []) × NotLarge whole

-- at a fault of the host one slice more was asked for than came
abbrev pub not_come : Result (List ℕ) SumFault → ℕ
not_come (Ok sum) = 0
not_come (Err faults.NotFound) = 0
not_come (Err faults.TooLarge) = 0
not_come (Err faults.Host) = 1

pub record Takes (result : Result (List ℕ) SumFault) (name : Name) (before after : HostState) : Type 0 where
  pub whole : List (List ℕ)
  pub more : List (List ℕ)
  pub are_whole : AreWhole whole
  pub answered : Answered (given_in_turn name 0 (whole ++ more)) before after
  pub counts : ReadsSlices (length (whole ++ more) + not_come result) before after
  pub ends : TakeEnds result whole more

-- the hasher took the slice behind what it had taken
abbrev pub Hashes : Sha256 → List ℕ → Sha256 → Type 0
Hashes hasher slice hasher' = (taken : List ℕ) → Holds256 hasher taken → Holds256 hasher' (taken ++ slice)

-- a slice came and was hashed
pub record SliceTaken (name : Name) (at n : ℕ) (hasher hasher' : Sha256) (before after : HostState) : Type 0 where
  pub slice : List ℕ
  pub came : SliceCame name at slice before after
  pub length_is : n ≡ length slice
  pub within : at + length slice ≤ MOST_BYTES
  pub hashed : Hashes hasher slice hasher'

-- how the taking of one slice ends, with the hasher before and after it
abbrev pub SliceEnds : Result ℕ SumFault → Name → ℕ → Sha256 → Sha256 → HostState → HostState → Type 0
SliceEnds (Ok n) name at hasher hasher' before after = SliceTaken name at n hasher hasher' before after
SliceEnds (Err faults.NotFound) name at hasher hasher' before after = ⊥
SliceEnds (Err faults.TooLarge) name at hasher hasher' before after = (slice : List ℕ) × SliceCame name at slice before after × (MOST_BYTES < at + length slice)
SliceEnds (Err faults.Host) name at hasher hasher' before after = NoSliceCame 1 before after
