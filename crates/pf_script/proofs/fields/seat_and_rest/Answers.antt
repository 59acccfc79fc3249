use Rattle.pf_script.proofs.Wording.{no_seat, seat_in}
use Rattle.pf_script.proofs.fields.seat_and_rest.Goals as goal

pub returns-in_err-word : goal.returns-in_err-word
returns-in_err-word c = rw c.from_residual.ensures (λ seat rest is. no_seat c.args.fields.now seat rest c.in_err-word.ensures is)

pub returns-in_err-seat : goal.returns-in_err-seat
returns-in_err-seat c = rw c.from_residual-in_err-seat.ensures (λ seat rest is. c.in_err-seat.ensures seat (seat_in c.args.fields.now c.in_ok-word.word.now c.in_ok-word.rest.now seat rest c.in_ok-word.ensures.0 c.in_ok-word.ensures.1 is))
