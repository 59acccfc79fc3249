-- What comes of taking a file's slices, once it is known to be there.
use Rattle.std.specs.Prelude.{◌≡◌, ℕ, ◌+◌, ◌<◌, ◌≤◌, List, [], ◌∷◌, ◌++◌, length, Result, Ok, Err}
use Rattle.std.specs.List.{concat}
use Rattle.sha2.specs.Sha256.{sha256}
use Rattle.sha2.specs.Hashers.{Holds256}
use Rattle.sha2.specs.declared.Sha256.{Sha256}
use Rattle.pf_io.specs.Host.{Name, HostState}
use Rattle.pf_io.specs.Answered.{Answered}
use Rattle.trusted_chunks.specs.Chunks.{CHUNK, sums_of}
use Rattle.pf_io.specs.Slices.{MOST_BYTES, given_in_turn, AreWhole, CountsSlices, SliceCame, NoSliceCame}
use Rattle.trusted_chunks.specs.declared.fault.TrustFault.{TrustFault}
use Rattle.trusted_chunks.specs.declared.fault.TrustFault.TheVariants as faults
use Rattle.trusted_chunks.specs.declared.slices.Taken.{Taken}

-- the sums are those of the bytes
pub record IsSummed (taken : Taken) (bytes : List ℕ) : Type 0 where
  pub len_is : taken.len ≡ length bytes
  pub not_large : length bytes ≤ MOST_BYTES
  pub hashes_are : taken.hashes.items ≡ sums_of bytes
  pub sum_is : taken.sum ≡ sha256 bytes

abbrev pub NotLarge : List (List ℕ) → Type 0
NotLarge slices = length (concat slices) ≤ MOST_BYTES

-- how it ends, by the whole slices that came and the last one, where there is one
abbrev pub TakeEnds : Result Taken TrustFault → List (List ℕ) → List (List ℕ) → Type 0
TakeEnds (Ok taken) whole more = (last : List ℕ) × (more ≡ last ∷ []) × (length last < CHUNK) × IsSummed taken (concat (whole ++ more))
TakeEnds (Err faults.NotFound) whole more = ⊥
TakeEnds (Err faults.TooLarge) whole more = (last : List ℕ) × (more ≡ last ∷ []) × NotLarge whole × (MOST_BYTES < length (concat (whole ++ more)))
TakeEnds (Err (faults.WrongSum found)) whole more = ⊥
TakeEnds (Err faults.Host) whole more = (more ≡ []) × NotLarge whole
TakeEnds (Err faults.Memory) whole more = (last : List ℕ) × (more ≡ last ∷ []) × NotLarge (whole ++ more)

-- at a fault of the host one slice more was asked for than came
abbrev pub not_come : Result Taken TrustFault → ℕ
not_come (Ok taken) = 0
not_come (Err faults.NotFound) = 0
not_come (Err faults.TooLarge) = 0
not_come (Err (faults.WrongSum found)) = 0
not_come (Err faults.Host) = 1
not_come (Err faults.Memory) = 0

pub record Takes (result : Result Taken TrustFault) (name : Name) (before after : HostState) : Type 0 where
  pub whole : List (List ℕ)
  pub more : List (List ℕ)
  pub are_whole : AreWhole whole
  pub answered : Answered (given_in_turn name 0 (whole ++ more)) before after
  pub counts : CountsSlices (length (whole ++ more) + not_come result) before after
  pub ends : TakeEnds result whole more

-- the hasher took the slice behind what it had taken
abbrev pub Hashes : Sha256 → List ℕ → Sha256 → Type 0
Hashes hasher slice hasher' = (taken : List ℕ) → Holds256 hasher taken → Holds256 hasher' (taken ++ slice)

-- a slice came and was added to the sums
pub record SliceTaken (name : Name) (at n : ℕ) (hashes hashes' : List (List ℕ)) (hasher hasher' : Sha256) (before after : HostState) : Type 0 where
  pub slice : List ℕ
  pub came : SliceCame name at slice before after
  pub length_is : n ≡ length slice
  pub within : at + length slice ≤ MOST_BYTES
  pub added : hashes' ≡ hashes ++ sums_of slice
  pub hashed : Hashes hasher slice hasher'

-- how the taking of one slice ends, with the sums so far before and after it
abbrev pub SliceEnds : Result ℕ TrustFault → Name → ℕ → List (List ℕ) → List (List ℕ) → Sha256 → Sha256 → HostState → HostState → Type 0
SliceEnds (Ok n) name at hashes hashes' hasher hasher' before after = SliceTaken name at n hashes hashes' hasher hasher' before after
SliceEnds (Err faults.NotFound) name at hashes hashes' hasher hasher' before after = ⊥
SliceEnds (Err faults.TooLarge) name at hashes hashes' hasher hasher' before after = (slice : List ℕ) × SliceCame name at slice before after × (MOST_BYTES < at + length slice)
SliceEnds (Err (faults.WrongSum found)) name at hashes hashes' hasher hasher' before after = ⊥
SliceEnds (Err faults.Host) name at hashes hashes' hasher hasher' before after = NoSliceCame 1 before after
SliceEnds (Err faults.Memory) name at hashes hashes' hasher hasher' before after = (slice : List ℕ) × SliceCame name at slice before after × (at + length slice ≤ MOST_BYTES)
