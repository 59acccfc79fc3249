-- The slices that a host gives of a file that is taken whole.
use Rattle.std.specs.Prelude.{◌≡◌, ℕ, ◌+◌, ◌^◌, ◌<◌, ◌≤◌, max, List, [], ◌∷◌, ◌++◌, length, Some}
use Rattle.std.specs.List.{concat, AllByRecursion}
use Rattle.pf_io.specs.Counts.{counted_times}
use Rattle.pf_io.specs.Disk.{Name}
use Rattle.pf_io.specs.Host.{Answer, LengthWas, Gave, HostState}
use Rattle.pf_io.specs.Answered.{Answered}

-- how many bytes a slice is asked to have
abbrev pub SLICE : ℕ
SLICE = 16384

-- the most bytes of a file that has a sum
abbrev pub MOST_BYTES : ℕ
MOST_BYTES = 2 ^ 32

-- a file was asked for slices in turn, the first at a place and each later one where the one before ended, with room for a whole one; these came
abbrev pub given_in_turn : Name → ℕ → List (List ℕ) → List Answer
given_in_turn name at [] = []
given_in_turn name at (slice ∷ slices) = Gave name at SLICE slice ∷ given_in_turn name (at + length slice) slices

abbrev pub AreWhole : List (List ℕ) → Type 0
AreWhole slices = AllByRecursion (λ slice. length slice ≡ SLICE) slices

-- What was taken of a file: it was there, and slices came in turn, up to the first that was no whole one.
pub record IsTaken (name : Name) (these : List Answer) (bytes : List ℕ) : Type 0 where
  pub size : ℕ
  pub whole : List (List ℕ)
  pub last : List ℕ
  pub are_whole : AreWhole whole
  pub ended : length last < SLICE
  pub asked : these ≡ LengthWas name (Some size) ∷ given_in_turn name 0 (whole ++ last ∷ [])
  pub bytes_are : bytes ≡ concat (whole ++ last ∷ [])

-- The file was there, and slices came in turn: whole ones and then these.
abbrev pub CameInTurn : Name → List (List ℕ) → List (List ℕ) → List Answer → Type 0
CameInTurn name whole more these = AreWhole whole × ((size : ℕ) × (these ≡ LengthWas name (Some size) ∷ given_in_turn name 0 (whole ++ more)))

-- slices came in turn, and with the last of them more bytes than a file may have
pub record IsTooLarge (name : Name) (these : List Answer) : Type 0 where
  pub whole : List (List ℕ)
  pub last : List ℕ
  pub came : CameInTurn name whole (last ∷ []) these
  pub not_before : length (concat whole) ≤ MOST_BYTES
  pub too_large : MOST_BYTES < length (concat (whole ++ last ∷ []))

-- nothing came, or whole slices of no more bytes than a file may have
pub data IsStopped (name : Name) (these : List Answer) : Type 0 where
  at_length : these ≡ [] → IsStopped name these
  at_slice : (whole : List (List ℕ)) → CameInTurn name whole [] these → length (concat whole) ≤ MOST_BYTES → IsStopped name these

-- the counts after n reads of a slice
pub record ReadsSlices (n : ℕ) (old new : HostState) : Type 0 where
  pub reads : new.reads ≡ counted_times n old.reads
  pub writes : new.writes ≡ old.writes
  pub widest : new.widest ≤ max old.widest SLICE

-- the counts after at most n reads of a slice
pub record CountsSlices (n : ℕ) (old new : HostState) : Type 0 where
  pub reads : new.reads ≤ old.reads + n
  pub writes : new.writes ≡ old.writes
  pub widest : new.widest ≤ max old.widest SLICE

-- a slice came of the file, from a place on
pub record SliceCame (name : Name) (at : ℕ) (slice : List ℕ) (before after : HostState) : Type 0 where
  pub short : length slice ≤ SLICE
  pub answered : Answered (Gave name at SLICE slice ∷ []) before after
  pub counts : ReadsSlices 1 before after

-- no slice came; n reads failed
pub record NoSliceCame (n : ℕ) (before after : HostState) : Type 0 where
  pub answered : Answered [] before after
  pub counts : ReadsSlices n before after
