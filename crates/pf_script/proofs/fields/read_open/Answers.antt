use Rattle.pf_script.proofs.fields.read_open.Goals as goal

pub returns-in_default : goal.returns-in_default
returns-in_default c = λ line is. c.in_default.ensures is.seat is.rest is.name is.seat_is is.name_is
