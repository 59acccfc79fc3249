-- Bytes that a sink took, in one write or in several.
use Rattle.std.specs.Prelude.{◌≡◌, List, ℕ, Result, Ok, Err}
use Rattle.pf_io.specs.Counts.{counted}
use Rattle.pf_io.specs.Host.{Both, IsMore}
use Rattle.pf_io.specs.Streams.{SinkState, TakesFront}

-- a sink took all of the bytes, and did not fail
pub record WroteAll (bytes : List ℕ) (old new : SinkState) : Type 0 where
  pub told : Both old.bytes new.bytes (IsMore bytes)
  pub calm : new.faults ≡ old.faults

-- it failed, and took a front of them
pub record SinkFailed (bytes : List ℕ) (old new : SinkState) : Type 0 where
  pub told : Both old.bytes new.bytes (TakesFront bytes)
  pub once : new.faults ≡ counted old.faults

-- bytes were written, or the sink failed in them
abbrev pub Written : {T E : Type 0} → Result T E → List ℕ → SinkState → SinkState → Type 0
Written (Ok value) bytes old new = WroteAll bytes old new
Written (Err fault) bytes old new = SinkFailed bytes old new
