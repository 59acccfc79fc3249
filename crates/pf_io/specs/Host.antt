-- What a host tells: its counts, its answers, and where it is honest its disk.
use Rattle.std.specs.Prelude.{◌≡◌, ℕ, ◌-◌, ◌≤◌, min, max, List, [], ◌∷◌, ◌++◌, length, take, drop, Option, Some, None, option_map, Result, Ok, Err, IfSome}
use Rattle.pf_io.specs.Counts.{counted}
use Rattle.pf_io.specs.Disk.{Disk, reading, IsImage}
use Rattle.pf_io.specs.Moments.{Honest}
pub use Rattle.pf_io.specs.Disk.{Name, Files}

-- one answer of a host, with the call that it answers
pub data Answer : Type 0 where
  LengthWas : (name : Name) → (length : Option ℕ) → Answer
  Gave : (name : Name) → (place room : ℕ) → (bytes : List ℕ) → Answer
  Wrote : (name : Name) → (place : ℕ) → (bytes : List ℕ) → Answer
  WasCut : (name : Name) → (length : ℕ) → Answer
  Synced : (name : Name) → Answer
  Made : (name : Name) → Answer
  Swapped : (from to : Name) → Answer
  Removed : (name : Name) → Answer

-- `reads` and `writes` count the calls of `read_at` and `write_at`, and `widest` is the greatest length of one of them so far. A host that tells
-- no answers has None for `given`, and one that isn't honest has None for `honest`.
pub record HostState : Type 0 where
  pub faults : ℕ
  pub reads : ℕ
  pub writes : ℕ
  pub widest : ℕ
  pub given : Option (List Answer)
  pub honest : Option Honest

-- what a read of each name gives, where the host is honest
abbrev pub files_of : HostState → Option Files
files_of state = option_map (λ host. reading host.now) state.honest

-- a call of n bytes that is counted as a read
pub record CountsRead (n : ℕ) (old new : HostState) : Type 0 where
  pub reads : new.reads ≡ counted old.reads
  pub writes : new.writes ≡ old.writes
  pub widest : new.widest ≡ max old.widest n

-- a call of n bytes that is counted as a write
pub record CountsWrite (n : ℕ) (old new : HostState) : Type 0 where
  pub reads : new.reads ≡ old.reads
  pub writes : new.writes ≡ counted old.writes
  pub widest : new.widest ≡ max old.widest n

-- a call that is counted as neither
pub record CountsNeither (old new : HostState) : Type 0 where
  pub reads : new.reads ≡ old.reads
  pub writes : new.writes ≡ old.writes
  pub widest : new.widest ≡ old.widest

-- P of what is told before and after; what is not told is never told
abbrev pub Both : {A : Type 0} → Option A → Option A → (A → A → Type 0) → Type 0
Both (Some before) (Some now) P = P before now
Both None None P = Unit {0}
Both (Some before) None P = ⊥
Both None (Some now) P = ⊥

-- these follow the ones before
abbrev pub IsMore : {A : Type 0} → List A → List A → List A → Type 0
IsMore these before now = now ≡ before ++ these

-- an answer is told, and a fault is none
abbrev pub Tells : {T E : Type 0} → Result T E → (T → Answer) → HostState → HostState → Type 0
Tells (Ok value) answer old new = Both old.given new.given (IsMore (answer value ∷ []))
Tells (Err fault) answer old new = new.given ≡ old.given

-- the answers since an earlier moment
abbrev pub since : List Answer → List Answer → List Answer
since before now = drop (length before) now

-- P of the answers of a call, or of several calls, where the host tells them
abbrev pub WhereTold : HostState → HostState → (List Answer → Type 0) → Type 0
WhereTold old new P = Both old.given new.given (λ before now. IsMore (since before now) before now × P (since before now))

-- P of the files of an honest host
abbrev pub OnHonest : HostState → (Files → Type 0) → Type 0
OnHonest state P = IfSome (files_of state) P

-- P of an honest host before and after
abbrev pub OnDisk : HostState → HostState → (Honest → Honest → Type 0) → Type 0
OnDisk old new P = Both old.honest new.honest P

-- P of the disk of an honest host
abbrev pub OnDiskNow : HostState → (Disk → Type 0) → Type 0
OnDiskNow state P = IfSome state.honest (λ host. P host.now)

-- the disk as it reads is one that a crash may leave
abbrev pub ReadsAsImage : HostState → Type 0
ReadsAsImage state = OnDiskNow state (λ disk. IsImage disk (reading disk))

-- the files stay as they are, also that they are told or not
abbrev pub KeepsFiles : HostState → HostState → Type 0
KeepsFiles old new = files_of new ≡ files_of old

-- what `len` answers
abbrev pub length_of : Option (List ℕ) → Option ℕ
length_of (Some bytes) = Some (length bytes)
length_of None = None

-- what `read_at` reads from
abbrev pub contents : Option (List ℕ) → List ℕ
contents (Some bytes) = bytes
contents None = []

-- n, and the first n bytes of the buffer, are what the bytes have from the place on, as far as buffer and bytes reach
pub record ReadsFrom (at n : ℕ) (buffer bytes : List ℕ) : Type 0 where
  pub count : n ≡ min (length buffer) (length bytes - at)
  pub filled : take n buffer ≡ take n (drop at bytes)

-- from n on the buffer is as before, and as long
pub record KeepsRest (n : ℕ) (old new : List ℕ) : Type 0 where
  pub within : n ≤ length old
  pub same_length : length new ≡ length old
  pub rest : drop n new ≡ drop n old
