-- What each call does to an honest disk, at Ok and at a fault.
use Rattle.std.specs.Prelude.{◌≡◌, ◌≢◌, ◌⊎◌, ℕ, zero, suc, ◌+◌, ◌-◌, ◌<◌, ◌≤◌, min, max, true, List, [], ◌∷◌, ◌++◌, length, take, drop, replicate, slice_get, Option, Some, None, Result, Ok, Err, MatchResult, OnOk}
use Rattle.pf_io.specs.Disk.{Name, File, Disk, IsSettledFile}

-- The bytes are put at a place; a gap before them reads as zeros. Writing none changes nothing.
abbrev pub overwrite : ℕ → List ℕ → List ℕ → List ℕ
overwrite at [] old = old
overwrite at (b ∷ bytes) old = take at old ++ replicate (at - length old) 0 ++ (b ∷ bytes) ++ drop (at + length (b ∷ bytes)) old

-- the end of a write of n bytes, or 0 where it writes none
abbrev pub reach : ℕ → ℕ → ℕ
reach at zero = 0
reach at (suc n) = at + suc n

-- a write of n bytes tore: any bytes in its range and in a gap before it, and any length between the old one and the one that the whole write makes
pub record Torn (at n : ℕ) (old new : List ℕ) : Type 0 where
  pub no_shorter : length old ≤ length new
  pub no_longer : length new ≤ max (length old) (reach at n)
  pub before : (i : ℕ) → i < at → i < length old → slice_get new i ≡ slice_get old i
  pub after : (i : ℕ) → at + n ≤ i → i < length old → slice_get new i ≡ slice_get old i

-- what a file reads after a write of n bytes that faulted: torn, with zeros in a gap
pub record CutShort (at n : ℕ) (old new : List ℕ) : Type 0 where
  pub torn : Torn at n old new
  pub gap : (i : ℕ) → length old ≤ i → i < at → i < length new → slice_get new i ≡ Some 0

-- After a write of n bytes, done or not, a crash may leave any bytes in its range too, and each length that the file has had.
pub record RisksWrite (at n : ℕ) (old new : File) : Type 0 where
  pub before : (i : ℕ) → old.keeps i ≡ true → i < at → new.keeps i ≡ true
  pub after : (i : ℕ) → old.keeps i ≡ true → at + n ≤ i → new.keeps i ≡ true
  pub no_shorter : old.shortest ≤ new.shortest
  pub no_longer : new.longest ≤ max old.longest (reach at n)

-- After a cut, done or not, a crash may leave any bytes from there on too, and each length that the file has had.
pub record RisksCut (len : ℕ) (old new : File) : Type 0 where
  pub front : (i : ℕ) → old.keeps i ≡ true → i < len → new.keeps i ≡ true
  pub no_shorter : min old.shortest len ≤ new.shortest
  pub no_longer : new.longest ≤ old.longest

-- a crash may leave no more than before
pub record RisksNoMore (old new : File) : Type 0 where
  pub keeps : (i : ℕ) → old.keeps i ≡ true → new.keeps i ≡ true
  pub no_shorter : old.shortest ≤ new.shortest
  pub no_longer : new.longest ≤ old.longest

pub record Writes {T E : Type 0} (at : ℕ) (bytes : List ℕ) (result : Result T E) (old new : File) : Type 0 where
  pub reads : MatchResult result (λ _. new.bytes ≡ overwrite at bytes old.bytes) (λ _. CutShort at (length bytes) old.bytes new.bytes)
  pub risks : RisksWrite at (length bytes) old new

-- a fault may have dropped some of the bytes from the end
pub record Cuts {T E : Type 0} (len : ℕ) (result : Result T E) (old new : File) : Type 0 where
  pub reads : MatchResult result (λ _. new.bytes ≡ take len old.bytes) (λ _. (l : ℕ) × (len ≤ l) × (new.bytes ≡ take l old.bytes))
  pub risks : RisksCut len old new

-- what was pending is settled, or may stay pending after a fault
pub record Syncs {T E : Type 0} (result : Result T E) (old new : File) : Type 0 where
  pub reads : new.bytes ≡ old.bytes
  pub risks : RisksNoMore old new
  pub settled : OnOk result (IsSettledFile new)

-- the step of a file that is there; an absent one stays absent
abbrev pub Follows : (File → File → Type 0) → Option File → Option File → Type 0
Follows step (Some old) (Some new) = step old new
Follows step None None = Unit {0}
Follows step (Some old) None = ⊥
Follows step None (Some new) = ⊥

-- every other name stays as it is
abbrev pub KeepsOthers : Name → Disk → Disk → Type 0
KeepsOthers name old new = (other : Name) → other ≢ name → new other ≡ old other

-- The file of a name goes on by the step, where there is one. No other name changes.
pub record Changes (name : Name) (step : File → File → Type 0) (old new : Disk) : Type 0 where
  pub there : Follows step (old name) (new name)
  pub others : KeepsOthers name old new

-- no bytes, now and after a crash
pub record IsEmptyFile (file : File) : Type 0 where
  pub bytes : file.bytes ≡ []
  pub no_longer : file.longest ≤ 0

-- the name is an empty file, whatever stood there
pub record Makes (name : Name) (old new : Disk) : Type 0 where
  pub there : (file : File) × (new name ≡ Some file) × IsEmptyFile file
  pub others : KeepsOthers name old new

-- the name is absent, whatever stood there
pub record Removes (name : Name) (old new : Disk) : Type 0 where
  pub gone : new name ≡ None
  pub others : KeepsOthers name old new

-- The file of `from`, as it stands and with what is pending at it, is that of `to`, whatever stood there, and `from` is absent. Where `from` was
-- absent, or the two names are one, nothing changes.
pub record Swaps (from to : Name) (old new : Disk) : Type 0 where
  pub one_name : from ≡ to → new ≡ old
  pub absent : old from ≡ None → new ≡ old
  pub moved : (file : File) → from ≢ to → old from ≡ Some file → new to ≡ Some file
  pub gone : from ≢ to → new from ≡ None
  pub others : (other : Name) → other ≢ from → other ≢ to → new other ≡ old other

-- the step, or at a fault the step or nothing
abbrev pub AtOnce : {T E : Type 0} → Result T E → (Disk → Disk → Type 0) → Disk → Disk → Type 0
AtOnce (Ok value) step old new = step old new
AtOnce (Err fault) step old new = step old new ⊎ (new ≡ old)

abbrev pub Stays : Disk → Disk → Type 0
Stays old new = new ≡ old
