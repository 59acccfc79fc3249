use Rattle.pf_script.specs.Words.{IsRest}
use Rattle.pf_script.proofs.Wording.{past_seat}
use Rattle.pf_script.proofs.fields.seat_and_name.Goals as goal

pub returns-in_err-seat : goal.returns-in_err-seat
returns-in_err-seat c = rw c.from_residual.ensures (λ seat rest name is is_name. c.in_err-seat.ensures seat rest is)

pub returns-in_err-name : goal.returns-in_err-name
returns-in_err-name c = rw c.from_residual-in_err-name.ensures (λ seat rest name is is_name. c.in_err-name.ensures name (past_seat (λ r. IsRest r name) c.args.fields.now c.in_ok-seat.seat seat c.in_ok-seat.rest.now rest c.in_ok-seat.ensures is is_name))
