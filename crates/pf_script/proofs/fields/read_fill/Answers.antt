use Rattle.pf_script.specs.Words.{IsByte}
use Rattle.pf_script.specs.ScriptLines.{AfterNumber}
use Rattle.pf_script.proofs.Wording.{past_seat, past_number}
use Rattle.pf_script.proofs.fields.read_fill.Goals as goal

pub returns-in_err-seat : goal.returns-in_err-seat
returns-in_err-seat c = rw c.from_residual.ensures (λ line is. c.in_err-seat.ensures is.seat is.behind_seat is.seat_is)

pub returns-in_err-at : goal.returns-in_err-at
returns-in_err-at c = rw c.from_residual-in_err-at.ensures (λ line is. c.in_err-at.ensures is.at is.behind_at (past_seat (λ r. AfterNumber r is.at is.behind_at) c.args.fields.now c.in_ok-seat.seat is.seat c.in_ok-seat.rest.now is.behind_seat c.in_ok-seat.ensures is.seat_is is.at_is))

pub returns-in_err-count : goal.returns-in_err-count
returns-in_err-count c = rw c.from_residual-in_err-count.ensures (λ line is. c.in_err-count.ensures is.count is.behind_count (past_number (λ r. AfterNumber r is.count is.behind_count) c.in_ok-seat.rest.now c.in_ok-at.at is.at c.in_ok-at.rest.now is.behind_at c.in_ok-at.ensures (past_seat (λ r. AfterNumber r is.at is.behind_at) c.args.fields.now c.in_ok-seat.seat is.seat c.in_ok-seat.rest.now is.behind_seat c.in_ok-seat.ensures is.seat_is is.at_is) is.count_is))

pub returns-in_err-byte : goal.returns-in_err-byte
returns-in_err-byte c = rw c.from_residual-in_err-byte.ensures (λ line is. c.in_err-byte.ensures is.byte (past_number (λ r. IsByte r is.byte) c.in_ok-at.rest.now c.in_ok-count.count is.count c.in_ok-count.rest.now is.behind_count c.in_ok-count.ensures (past_number (λ r. AfterNumber r is.count is.behind_count) c.in_ok-seat.rest.now c.in_ok-at.at is.at c.in_ok-at.rest.now is.behind_at c.in_ok-at.ensures (past_seat (λ r. AfterNumber r is.at is.behind_at) c.args.fields.now c.in_ok-seat.seat is.seat c.in_ok-seat.rest.now is.behind_seat c.in_ok-seat.ensures is.seat_is is.at_is) is.count_is) is.byte_is))
