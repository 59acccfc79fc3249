-- The disk of an honest host at each moment, and what a crash at any moment of some calls leaves.
use Rattle.std.specs.Prelude.{◌≡◌, ◌⊎◌, ℕ, ◌≤◌, List, [], ◌∷◌, ◌++◌, length, drop}
use Rattle.pf_io.specs.Disk.{Disk, Image, IsImage}

-- the disk now, and the disk before each call so far, the first of them first
pub record Honest : Type 0 where
  pub now : Disk
  pub past : List Disk

-- the present moment, as a number that never falls
abbrev pub moment : Honest → ℕ
moment host = length host.past

-- a crash now may leave this
abbrev pub LeftNow : Honest → Image → Type 0
LeftNow host image = IsImage host.now image

-- a crash of one of these disks may leave this
abbrev pub LeftByOne : List Disk → Image → Type 0
LeftByOne [] image = ⊥
LeftByOne (disk ∷ disks) image = IsImage disk image ⊎ LeftByOne disks image

-- A crash at some moment from t on may have left this. What a call in progress may leave is what the disk before it or the disk after it may leave.
abbrev pub LeftSince : Honest → ℕ → Image → Type 0
LeftSince host t image = LeftNow host image ⊎ LeftByOne (drop t host.past) image

-- One call later the disk before it is the last of the past. A call that did nothing need not be told.
abbrev pub Elapses : Honest → Honest → Type 0
Elapses old new = (new ≡ old) ⊎ (new.past ≡ old.past ++ old.now ∷ [])

-- a call that takes the disk on by the step
pub record Does (step : Disk → Disk → Type 0) (old new : Honest) : Type 0 where
  pub disk : step old.now new.now
  pub time : Elapses old new

-- A crash at any moment since old leaves an image that has P.
pub record LeavesOnly (P : Image → Type 0) (old new : Honest) : Type 0 where
  pub later : moment old ≤ moment new
  pub each : (image : Image) → LeftSince new (moment old) image → P image
  -- what a run that began earlier leaves
  pub earlier : (t : ℕ) (image : Image) → t ≤ moment old → LeftSince new t image → LeftSince old t image ⊎ P image

-- at any moment of the calls an image that has P of the disk before them
abbrev pub Leaves : (Disk → Image → Type 0) → Honest → Honest → Type 0
Leaves P old new = LeavesOnly (P old.now) old new

-- in the end a disk that has Q with the one before the calls
abbrev pub Ends : (Disk → Disk → Type 0) → Honest → Honest → Type 0
Ends Q old new = Q old.now new.now

-- R of the calls, where P holds of the disk before them
abbrev pub Where : (Disk → Type 0) → (Honest → Honest → Type 0) → Honest → Honest → Type 0
Where P R old new = P old.now → R old new

-- A run of calls: at any moment an image that has P of the disk before them, and in the end a disk that has Q with it.
pub record Ran (P : Disk → Image → Type 0) (Q : Disk → Disk → Type 0) (old new : Honest) : Type 0 where
  pub leaves : Leaves P old new
  pub ends : Ends Q old new
