-- What is said on the log, and the status.
use Rattle.std.specs.Prelude.{◌≡◌, ℕ, List}
use Rattle.pf_io.specs.Streams.{SinkState}
pub use Rattle.pf_io.specs.Writing.{WroteAll, SinkFailed, Written}
use Rattle.pf_tool.specs.Endings.{Done, Stop, AtEnd, stop_line, stop_status}

-- a line was written and the run has this status; or the log failed in the line
pub data Reported (text : List ℕ) (status : ℕ) (old new : SinkState) (result : ℕ) : Type 0 where
  line_written : result ≡ status → WroteAll text old new → Reported text status old new result
  log_failed : result ≡ 7 → SinkFailed text old new → Reported text status old new result

-- what is said at a stop; where the work is done it is nothing
abbrev pub Reports : Stop → SinkState → SinkState → ℕ → Type 0
Reports (AtEnd Done) old new result = (result ≡ 0) × (new ≡ old)
Reports stop old new result = Reported (stop_line stop) (stop_status stop) old new result
