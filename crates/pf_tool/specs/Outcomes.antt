-- How a command, or a part of it, comes out.
use Rattle.std.specs.Prelude.{◌≡◌, ℕ, List, [], ◌∷◌, ◌++◌, Result, Ok, Err}
use Rattle.pf_io.specs.Host.{HostState}
use Rattle.pf_tool.specs.World.{World}
use Rattle.pf_tool.specs.Events.{Event}
use Rattle.pf_tool.specs.Endings.{Ending, Done, MayStarve, Stop, AtEnd, Failed, Starved, stop_line, stop_status, tried}
use Rattle.pf_tool.specs.Happened.{Happened}
use Rattle.pf_io.specs.Streams.{SinkState}
use Rattle.pf_tool.specs.Reports.{Reported}
use Rattle.pf_tool.specs.Faults.{fault_line, fault_status}
use Rattle.pf_tool.specs.declared.fault.Fault.{Fault}

-- an event is still to come, or an ending for which memory may be wanting
abbrev pub IsAhead : List Event → Ending → Type 0
IsAhead [] ending = MayStarve ending
IsAhead (event ∷ rest) ending = Unit {0}

-- Where a run may stop. `Leads events ending`: these are all events of a run with this ending. Where a call fails, or memory
-- is wanting, the events so far are a front of those of a run that comes to an ending, and the call is one that this run
-- makes next; where memory is wanting, an event comes next, or an ending that is found in a text. So nothing is done and then
-- refused, and no call is passed over.
abbrev pub StopsAt : (List Event → Ending → Type 0) → List Event → Stop → Type 0
StopsAt Leads events (AtEnd ending) = Leads events ending
StopsAt Leads events (Failed event) = (rest : List Event) × (ending : Ending) × Leads (events ++ event ∷ rest) ending
StopsAt Leads events Starved = (rest : List Event) × (ending : Ending) × IsAhead rest ending × Leads (events ++ rest) ending

-- `Leaves tried stop`: what is left on the host after what was tried.
pub record Outcome (Leads : List Event → Ending → Type 0) (Leaves : List Event → Stop → HostState → HostState → Type 0) (stop : Stop) (old new : World) : Type 0 where
  pub events : List Event
  pub stands : StopsAt Leads events stop
  pub happened : Happened events stop old new
  pub leaves : Leaves (tried events stop) stop old.host new.host

-- the fault says what is said at the stop
pub record IsFaultOf (stop : Stop) (fault : Fault) : Type 0 where
  pub says : fault_line fault ≡ stop_line stop
  pub ends : fault_status fault ≡ stop_status stop

-- a part of a command did not come to its end
pub record Falls (Leads : List Event → Ending → Type 0) (Leaves : List Event → Stop → HostState → HostState → Type 0) (fault : Fault) (old new : World) : Type 0 where
  pub stop : Stop
  pub is_fault : IsFaultOf stop fault
  pub outcome : Outcome Leads Leaves stop old new

-- a command is done, or did not come to its end
abbrev pub ComesOut : {T : Type 0} → (List Event → Ending → Type 0) → (List Event → Stop → HostState → HostState → Type 0) → Result T Fault → World → World → Type 0
ComesOut Leads Leaves (Ok value) old new = Outcome Leads Leaves (AtEnd Done) old new
ComesOut Leads Leaves (Err fault) old new = Falls Leads Leaves fault old new

-- what is said of how a command ended
abbrev pub Concludes : {T : Type 0} → Result T Fault → SinkState → SinkState → ℕ → Type 0
Concludes (Ok value) old new status = (status ≡ 0) × (new ≡ old)
Concludes (Err fault) old new status = Reported (fault_line fault) (fault_status fault) old new status

-- what is said of how a session ended: nothing where it has a status
abbrev pub SaysScript : Result ℕ Fault → SinkState → SinkState → ℕ → Type 0
SaysScript (Ok value) old new status = (status ≡ value) × (new ≡ old)
SaysScript (Err fault) old new status = Reported (fault_line fault) (fault_status fault) old new status
