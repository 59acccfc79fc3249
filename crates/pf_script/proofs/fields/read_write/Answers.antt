use Rattle.std.proofs.lemmas.Result.{err_from_is_err_and}
use Rattle.pf_script.specs.Words.{IsHex}
use Rattle.pf_script.specs.ScriptLines.{AfterNumber, HasBytes}
use Rattle.pf_script.proofs.Answering.{part_unread}
use Rattle.pf_script.proofs.Wording.{past_seat, past_number}
use Rattle.pf_script.proofs.fields.read_write.Goals as goal

pub returns-in_default : goal.returns-in_default
returns-in_default c = λ line is. c.in_default.ensures is.seat is.behind_seat is.seat_is

pub returns-in_default-number_and_rest : goal.returns-in_default-number_and_rest
returns-in_default-number_and_rest c = λ line is. c.in_default-number_and_rest.ensures is.at is.behind_at (past_seat (λ r. AfterNumber r is.at is.behind_at) c.args.fields.now c.in-Some.seat is.seat c.in-Some.rest.now is.behind_seat c.in-Some.ensures is.seat_is is.at_is)

pub returns-in_err-bytes : goal.returns-in_err-bytes
returns-in_err-bytes c =
    let p = err_from_is_err_and c.from_residual.result c.from_residual.ensures.1 in
    let unread = part_unread (IsHex c.in-Some-number_and_rest.rest.now) (HasBytes c.args.fields.now) c.in_err-bytes.field-0.0 (λ line is. (is.bytes, past_number (λ r. IsHex r is.bytes) c.in-Some.rest.now c.in-Some-number_and_rest.at is.at c.in-Some-number_and_rest.rest.now is.behind_at c.in-Some-number_and_rest.ensures (past_seat (λ r. AfterNumber r is.at is.behind_at) c.args.fields.now c.in-Some.seat is.seat c.in-Some.rest.now is.behind_seat c.in-Some.ensures is.seat_is is.at_is) is.bytes_are)) c.in_err-bytes.ensures in
    rw (p.1, p.2) unread
