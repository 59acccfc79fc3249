use Rattle.pf_io.specs.Numbers.{Spells}
use Rattle.pf_script.proofs.Wording.{past_seat}
use Rattle.pf_script.proofs.fields.read_size.Goals as goal

pub returns-in_err-seat : goal.returns-in_err-seat
returns-in_err-seat c = rw c.from_residual.ensures (λ line is. c.in_err-seat.ensures is.seat is.rest is.seat_is)

pub returns-in_err-size : goal.returns-in_err-size
returns-in_err-size c = rw c.from_residual-in_err-size.ensures (λ line is. cc ((c.in_err-size.ensures.number is.size).1 (past_seat (λ r. Spells r is.size) c.args.fields.now c.in_ok-seat.seat is.seat c.in_ok-seat.rest.now is.rest c.in_ok-seat.ensures is.seat_is is.size_is)))
