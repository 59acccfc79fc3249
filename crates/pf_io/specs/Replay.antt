-- A host in memory: its events, and what they tell: the answers, and the disk at each moment.
use Rattle.std.specs.Prelude.{ℕ, zero, suc, ◌+◌, ◌-◌, min, max, Bool, true, false, cond, List, [], ◌∷◌, ◌++◌, map, length, take, drop, replicate, Option, Some, None, option_map, bytes_eq, slice_get, unwrap_or}
use Rattle.pf_io.specs.Disk.{Name, File, Disk}
use Rattle.pf_io.specs.Moments.{Honest}
use Rattle.pf_io.specs.Steps.{overwrite, reach}
use Rattle.pf_io.specs.Host.{Answer, LengthWas, Gave, Wrote, WasCut, Synced, Made, Swapped, Removed}

-- an answered call, or a file that was put, which is no call
pub data Event : Type 0 where
  Call : (answer : Answer) → Event
  Put : (name : Name) → (bytes : List ℕ) → Event

abbrev pub answers_of : List Event → List Answer
answers_of [] = []
answers_of (Call answer ∷ events) = answer ∷ answers_of events
answers_of (Put name bytes ∷ events) = answers_of events

-- A file: what a read gives, what it had at its last sync, and at which places a crash keeps the byte.
pub record Stored : Type 0 where
  pub bytes : List ℕ
  pub synced : List ℕ
  pub kept : List Bool

-- with the shortest and the longest length that it has had since that sync
pub record Traced : Type 0 where
  pub stored : Stored
  pub shortest : ℕ
  pub longest : ℕ

-- what stood at each name
abbrev pub Trace : Type 0
Trace = Name → Option Traced

-- n places from `at` on, and those of a gap before them, are not kept
abbrev pub unkept : ℕ → ℕ → List Bool → List Bool
unkept at zero kept = kept
unkept at (suc n) kept = take at kept ++ replicate (at + suc n - length (take at kept)) false ++ drop (at + suc n) kept

abbrev pub write_stored : ℕ → List ℕ → Stored → Stored
write_stored at bytes stored = record { bytes = overwrite at bytes stored.bytes; synced = stored.synced; kept = unkept at (length bytes) stored.kept }

abbrev pub cut_stored : ℕ → Stored → Stored
cut_stored len stored = record { bytes = take len stored.bytes; synced = stored.synced; kept = take len stored.kept }

abbrev pub settled_stored : List ℕ → Stored
settled_stored bytes = record { bytes = bytes; synced = bytes; kept = replicate (length bytes) true }

abbrev pub written : ℕ → List ℕ → Traced → Traced
written at bytes file = record { stored = write_stored at bytes file.stored; shortest = file.shortest; longest = max file.longest (reach at (length bytes)) }

abbrev pub shortened : ℕ → Traced → Traced
shortened len file = record { stored = cut_stored len file.stored; shortest = min file.shortest len; longest = file.longest }

-- a file at which nothing is pending
abbrev pub settled : List ℕ → Traced
settled bytes = record { stored = settled_stored bytes; shortest = length bytes; longest = length bytes }

-- a map with this at a name
abbrev pub set_at : {A : Type 0} → Name → A → (Name → A) → Name → A
set_at name value old other = cond (bytes_eq name other) value (old other)

-- what a swap moves: the file of the first name, where the two names differ
abbrev pub moved_by : {A : Type 0} → Name → Name → (Name → Option A) → Option A
moved_by from to files = cond (bytes_eq from to) None (files from)

abbrev pub swapped : Option Traced → Name → Name → Trace → Trace
swapped None from to trace = trace
swapped (Some file) from to trace = set_at from None (set_at to (Some file) trace)

abbrev pub answered : Answer → Trace → Trace
answered (LengthWas name length) trace = trace
answered (Gave name place room bytes) trace = trace
answered (Wrote name place bytes) trace = set_at name (option_map (written place bytes) (trace name)) trace
answered (WasCut name len) trace = set_at name (option_map (shortened len) (trace name)) trace
answered (Synced name) trace = set_at name (option_map (λ file. settled file.stored.bytes) (trace name)) trace
answered (Made name) trace = set_at name (Some (settled [])) trace
answered (Swapped from to) trace = swapped (moved_by from to trace) from to trace
answered (Removed name) trace = set_at name None trace

abbrev pub after : Event → Trace → Trace
after (Call answer) trace = answered answer trace
after (Put name bytes) trace = set_at name (Some (settled bytes)) trace

-- after all events, the first of them first
abbrev pub after_all : List Event → Trace → Trace
after_all [] trace = trace
after_all (event ∷ events) trace = after_all events (after event trace)

-- before each of them
abbrev pub before_each : List Event → Trace → List Trace
before_each [] trace = []
before_each (event ∷ events) trace = trace ∷ before_each events (after event trace)

-- no files
abbrev pub empty : Trace
empty name = None

abbrev pub file_of : Traced → File
file_of file = record { bytes = file.stored.bytes; keeps = λ i. unwrap_or (slice_get file.stored.kept i) false; shortest = file.shortest; longest = file.longest }

abbrev pub disk_of : Trace → Disk
disk_of trace name = option_map file_of (trace name)

abbrev pub honest_of : List Event → Honest
honest_of events = record { now = disk_of (after_all events empty); past = map disk_of (before_each events empty) }
