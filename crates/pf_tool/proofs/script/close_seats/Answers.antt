use Rattle.std.proofs.Common.{◌≡◌, ◌+◌, suc, ℕ, arith, refl, subst}
use Rattle.std.proofs.lemmas.Result.{err_from_is_err_and}
use Rattle.pf_tool.specs.World.{world_of}
use Rattle.pf_tool.specs.Replying.{first_of as first_status}
use Rattle.pf_tool.specs.Scripting.{at, none_closed, one_closed}
use Rattle.pf_tool.proofs.script.close_seats.Goals as goal

pub loop-seat-init : goal.loop-seat-init
loop-seat-init g c reader input log = none_closed 0 0 _ refl refl refl

pub returns-in_err-next : goal.returns-in_err-next
returns-in_err-next g c reader input log =
    let p = err_from_is_err_and c.from_residual.result c.from_residual.ensures.1 in
    let l = c.loop-seat in
    let mid = at l.desk reader (world_of (g.H.Host.state l.host) input (g.K.Sink.state l.out) log (g.R.Words.state l.random)) in
    rw p.1 (l.seat, l.status, mid, l.invariant reader input log, c.in_err-next.ensures reader input log)

pub loop-seat-preserved : goal.loop-seat-preserved
loop-seat-preserved g c reader input log =
    let l = c.loop-seat in
    let n = c.close_seat.new in
    let mid = at l.desk reader (world_of (g.H.Host.state l.host) input (g.K.Sink.state l.out) log (g.R.Words.state l.random)) in
    let now = at n.desk reader (world_of (g.H.Host.state n.host) input (g.K.Sink.state n.out) log (g.R.Words.state n.random)) in
    let goes = c.in_ok-next.ensures reader input log in
    let one : l.seat + 1 ≡ suc l.seat = omega arith in
    one_closed l.seat (l.seat + 1) l.status c.first_of-status.result goes.0 mid now (l.invariant reader input log) goes.1 goes.2 one (subst (λ (s : ℕ). c.first_of-status.result ≡ first_status l.status s) goes.3 c.first_of-status.ensures)
