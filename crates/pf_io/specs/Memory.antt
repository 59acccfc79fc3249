-- A host in memory: its events, its counts, and the calls that are to fault.
use Rattle.std.specs.Prelude.{◌≡◌, ◌⊎◌, ℕ, ◌≤◌, min, List, [], ◌∷◌, ◌++◌, Contains, Option, Some, None, option_map, Result, OnErr, OnOk, IsErr, IsSomeAnd}
use Rattle.pf_io.specs.Counts.{counted}
use Rattle.pf_io.specs.Disk.{Name, Disk, IsSettledFile, File, reading, IsCrashOf}
use Rattle.pf_io.specs.Steps.{KeepsOthers}
use Rattle.pf_io.specs.Host.{HostState}
use Rattle.pf_io.specs.Replay.{Event, Put, answers_of, after_all, empty, disk_of, honest_of}
use Rattle.pf_io.specs.Storage.{events_of, stored_after, torn_bytes}
use Rattle.pf_io.specs.declared.tear.Tear.{Tear}
use Rattle.pf_io.specs.declared.memory.MemHost.{MemHost}

-- the events so far, the calls made so far, the numbers of the calls that are to fault, and how many calls found no memory
pub record MemState : Type 0 where
  pub faults : ℕ
  pub reads : ℕ
  pub writes : ℕ
  pub widest : ℕ
  pub events : List Event
  pub calls : ℕ
  pub failing : List ℕ
  pub stop : Option ℕ
  pub starved : ℕ

abbrev pub memory_of : MemHost → MemState
memory_of host = record {
  faults = host.faults;
  reads = host.reads;
  writes = host.writes;
  widest = host.widest;
  events = events_of host.told.items;
  calls = host.calls;
  failing = host.failing.items;
  stop = host.stop;
  starved = host.starved;
}

-- what it tells as a host: it is honest, and all is told from its events
abbrev pub host_of : MemState → HostState
host_of state = record {
  faults = state.faults;
  reads = state.reads;
  writes = state.writes;
  widest = state.widest;
  given = Some (answers_of state.events);
  honest = Some (honest_of state.events);
}

abbrev pub disk_now : MemState → Disk
disk_now state = disk_of (after_all state.events empty)

-- no call was made or is to fault, and nothing is counted
pub record IsUnused (state : MemState) : Type 0 where
  pub faults : state.faults ≡ 0
  pub reads : state.reads ≡ 0
  pub writes : state.writes ≡ 0
  pub widest : state.widest ≡ 0
  pub given : answers_of state.events ≡ []
  pub calls : state.calls ≡ 0
  pub failing : state.failing ≡ []
  pub stop : state.stop ≡ None
  pub starved : state.starved ≡ 0

-- The name has a file of these bytes, at which nothing is pending. No other name changes, and neither does any count.
pub record Puts (name : Name) (bytes : List ℕ) (old new : MemState) : Type 0 where
  pub there : (file : File) × (disk_now new name ≡ Some file) × (file.bytes ≡ bytes) × IsSettledFile file
  pub others : KeepsOthers name (disk_now old) (disk_now new)
  pub event : new.events ≡ old.events ++ Put name bytes ∷ []
  pub rest : record new { events = old.events } ≡ old

-- the call is to fault as well as those named before, and nothing else changes
pub record NamesCall (call : ℕ) (old new : MemState) : Type 0 where
  pub named : new.failing ≡ old.failing ++ call ∷ []
  pub rest : record new { failing = old.failing } ≡ old

-- the earlier of two stops
abbrev pub earlier : Option ℕ → ℕ → ℕ
earlier None call = call
earlier (Some stop) call = min stop call

-- the next call is one that is to fault
abbrev pub IsToFail : MemState → Type 0
IsToFail state = Contains state.failing state.calls ⊎ IsSomeAnd state.stop (λ stop. stop ≤ state.calls)

-- A call of the trait: it is counted, and so is its fault. It fails where it is to fail, and else only for want of memory, which alone is counted apart.
pub record IsCall {T E : Type 0} (result : Result T E) (old new : MemState) : Type 0 where
  pub calls : new.calls ≡ counted old.calls
  pub failing : new.failing ≡ old.failing
  pub stop : new.stop ≡ old.stop
  pub fails : IsToFail old → IsErr result × (new.starved ≡ old.starved)
  pub starves : OnErr result (IsToFail old ⊎ (new.starved ≡ counted old.starved))
  pub no_fault : OnOk result (new.starved ≡ old.starved)

-- One outcome of a crash: each name has its bytes as the tear says, which is an image of the old disk, and nothing is pending.
pub record IsAfterCrash (tear : Tear) (old new : MemState) : Type 0 where
  pub unused : IsUnused new
  pub torn : (name : Name) → reading (disk_now new) name ≡ option_map (torn_bytes tear) (stored_after old.events name)
  pub crash : IsCrashOf (disk_now old) (disk_now new)
