-- Files, readers, writers and the random device of the system.
use Rattle.std.specs.Prelude.{ℕ, List, Option, None}
use Rattle.pf_io.specs.Host.{HostState}
use Rattle.pf_io.specs.Streams.{SourceState, SinkState}
use Rattle.pf_io.specs.Words.{WordsState}

-- a reader as a source, with the bytes that it will give where they are known
pub record StdSourceState : Type 0 where
  pub faults : ℕ
  pub taken : ℕ
  pub remaining : Option (List ℕ)

abbrev pub source_of : StdSourceState → SourceState
source_of state = record { faults = state.faults; taken = state.taken; left = None }

-- a writer as a sink, with the bytes that the writer holds where they are known
pub record StdSinkState : Type 0 where
  pub faults : ℕ
  pub contents : Option (List ℕ)

abbrev pub sink_of : StdSinkState → SinkState
sink_of state = record { faults = state.faults; bytes = None }

-- real files: nothing is told of what they have
pub record DiskState : Type 0 where
  pub faults : ℕ
  pub reads : ℕ
  pub writes : ℕ
  pub widest : ℕ

abbrev pub host_of : DiskState → HostState
host_of state = record { faults = state.faults; reads = state.reads; writes = state.writes; widest = state.widest; given = None; honest = None }

-- the random device: nothing is told of its words
pub record DeviceState : Type 0 where
  pub faults : ℕ

abbrev pub device_words_of : DeviceState → WordsState
device_words_of state = record { faults = state.faults; left = None }
