-- Questions to a host, and what came.
use Rattle.std.specs.Prelude.{◌≡◌, List, []}
use Rattle.pf_io.specs.Answered.{Answered}
use Rattle.pf_io.specs.Host.{Answer, HostState}
use Rattle.pf_session.specs.Asking.{Failing, NoCall, Asked}

-- These answers came, to questions alone. Where a call failed, it is the one after them, and the last. Where none was made, nothing changed.
pub record OnlyAsked (these : List Answer) (failing : Failing) (old new : HostState) : Type 0 where
  pub answered : Answered these old new
  pub asked : Asked these failing old new
  pub untouched : these ≡ [] → failing ≡ NoCall → new ≡ old
