use Rattle.std.proofs.Common.{◌≡◌, ◌-◌, false, Result}
use Rattle.pf_io.specs.Host.{HostState}
use Rattle.pf_io.specs.Words.{WordsState}
use Rattle.pf_session.specs.State.{SessionState}
use Rattle.pf_session.specs.declared.fault.SizeFault.{SizeFault}
use Rattle.pf_script.specs.SeatReplies.{SizesGo}
use Rattle.pf_script.proofs.changing.resize.Given as goal

-- what is left to be set is the rest of the whole
abbrev pub invariant-loop-session : goal.invariant-loop-session
invariant-loop-session g l =
    (l.session.broken ≡ false)
    × ((result : Result (Unit {0}) SizeFault) (new : SessionState) (after : HostState) (random : WordsState) → SizesGo result l.size l.session new (g.H.Host.state l.host) after (g.R.Words.state l.random) random
    → SizesGo result l.size l.initial.session new (g.H.Host.state l.initial.host) after (g.R.Words.state l.initial.random) random)

abbrev pub decreases-loop-session : goal.decreases-loop-session
decreases-loop-session g l = l.size - l.session.tree.size
