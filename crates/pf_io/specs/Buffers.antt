-- Streams and words in memory.
use Rattle.std.specs.Prelude.{◌≡◌, ◌⊎◌, ◌↔◌, ℕ, List, Option, Some, Result, OnErr, OnOk, IsErr}
use Rattle.pf_io.specs.Counts.{counted}
use Rattle.pf_io.specs.Streams.{SourceState, SinkState}
use Rattle.pf_io.specs.Words.{WordsState}

-- a source in memory: the bytes left, the calls made so far, and the number of the call that is to fault
pub record MemSourceState : Type 0 where
  pub faults : ℕ
  pub taken : ℕ
  pub left : List ℕ
  pub calls : ℕ
  pub failing : Option ℕ

abbrev pub source_of : MemSourceState → SourceState
source_of state = record { faults = state.faults; taken = state.taken; left = Some state.left }

-- A read: it is counted, and so is its fault. It faults exactly where it is to fault.
pub record IsRead {T E : Type 0} (result : Result T E) (old new : MemSourceState) : Type 0 where
  pub calls : new.calls ≡ counted old.calls
  pub failing : new.failing ≡ old.failing
  pub fails : IsErr result ↔ (old.failing ≡ Some old.calls)

-- a sink in memory: the bytes that it has taken, and how many calls found no memory
pub record MemSinkState : Type 0 where
  pub faults : ℕ
  pub bytes : List ℕ
  pub calls : ℕ
  pub failing : Option ℕ
  pub starved : ℕ

abbrev pub sink_of : MemSinkState → SinkState
sink_of state = record { faults = state.faults; bytes = Some state.bytes }

-- A write: it is counted, and so is its fault. It faults where it is to fault, and else only for want of memory, which alone is counted apart. A fault takes nothing.
pub record IsWrite {T E : Type 0} (result : Result T E) (old new : MemSinkState) : Type 0 where
  pub calls : new.calls ≡ counted old.calls
  pub failing : new.failing ≡ old.failing
  pub fails : old.failing ≡ Some old.calls → IsErr result × (new.starved ≡ old.starved)
  pub starves : OnErr result ((old.failing ≡ Some old.calls) ⊎ (new.starved ≡ counted old.starved))
  pub no_fault : OnOk result (new.starved ≡ old.starved)
  pub nothing_taken : OnErr result (new.bytes ≡ old.bytes)

-- a list of words, from which the first is taken
pub record ListWordsState : Type 0 where
  pub faults : ℕ
  pub left : List (List ℕ)

abbrev pub words_of : ListWordsState → WordsState
words_of state = record { faults = state.faults; left = Some state.left }
