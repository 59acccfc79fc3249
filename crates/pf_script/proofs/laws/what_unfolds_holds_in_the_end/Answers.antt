use Rattle.pf_script.specs.DeskSteps.{SomeSeatTurn, SomeTurn}
use Rattle.pf_script.proofs.Unfolding.{holds_with_all, seat_holds, seat_steps, state_holds, state_steps}
use Rattle.pf_script.proofs.laws.what_unfolds_holds_in_the_end.Goals as goal

pub returns-clause-on_a_seat : goal.returns-clause-on_a_seat
returns-clause-on_a_seat c = λ key sealed taken seat line seen nothing unforged. seat_holds key sealed taken seat line seen unforged nothing

pub returns-clause-in_a_script : goal.returns-clause-in_a_script
returns-clause-in_a_script c = λ state line seen nothing unforged. state_holds state line seen unforged nothing

pub returns-clause-of_any_line_on_a_seat : goal.returns-clause-of_any_line_on_a_seat
returns-clause-of_any_line_on_a_seat c = λ key sealed taken seat line. holds_with_all key sealed (SomeSeatTurn key sealed taken seat line)

pub returns-clause-of_any_line : goal.returns-clause-of_any_line
returns-clause-of_any_line c = λ state line. holds_with_all state.key state.sealed (SomeTurn state line)

pub returns-clause-of_a_seat_step : goal.returns-clause-of_a_seat_step
returns-clause-of_a_seat_step c = λ key sealed taken seat new line seen reply unforged all. seat_steps key sealed taken seat line seen unforged all new reply

pub returns-clause-of_a_step : goal.returns-clause-of_a_step
returns-clause-of_a_step c = λ state new line seen reply unforged all. state_steps state line seen unforged all new reply
