use Rattle.std.proofs.Common.{inr}
use Rattle.pf_script.proofs.LineSeats.{seat_below}
use Rattle.pf_tool.proofs.script_lines.answer_line.Goals as goal

pub step-requires : goal.step-requires
step-requires g c = seat_below c.args.bytes.now c.in-Ok.line c.in-Ok.ensures

pub returns-in-Ok : goal.returns-in-Ok
returns-in-Ok g c = inr (c.in-Ok.line, c.in-Ok.ensures, c.in-Err.ensures.goes)
