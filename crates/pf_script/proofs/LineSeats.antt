-- The seats that lines name.
use Rattle.std.proofs.Common.{ℕ, ◌<◌, List, sym, subst, IfSome}
use Rattle.pf_script.specs.Script.{seat_of_line}
use Rattle.pf_script.specs.ScriptLines.{HasFields, IsForm, Blank, Worded, IsScriptLine}
use Rattle.pf_script.specs.Words.{SEATS}
use Rattle.pf_script.specs.declared.command.Command.{Command}
use Rattle.pf_script.specs.declared.command.Command.TheVariants as commands
use Rattle.pf_script.specs.declared.line.ScriptLine.{ScriptLine}

abbrev IsBelow : ScriptLine → Type 0
IsBelow line = IfSome (seat_of_line line) (λ seat. seat < SEATS)

fields_below : (command : Command) (fields : List ℕ) (line : ScriptLine) → HasFields command fields line → IsBelow line
fields_below commands.Create fields line has = subst IsBelow (sym has.line_is) has.seat_is.seat_is.below
fields_below commands.Open fields line has = subst IsBelow (sym has.line_is) has.seat_is.seat_is.below
fields_below commands.View fields line has = subst IsBelow (sym has.line_is) has.seat_is.seat_is.below
fields_below commands.Read fields line has = subst IsBelow (sym has.line_is) has.seat_is.seat_is.below
fields_below commands.Write fields line has = subst IsBelow (sym has.line_is) has.seat_is.seat_is.below
fields_below commands.Fill fields line has = subst IsBelow (sym has.line_is) has.seat_is.seat_is.below
fields_below commands.Size fields line has = subst IsBelow (sym has.line_is) has.seat_is.seat_is.below
fields_below commands.Flush fields line has = subst IsBelow (sym has.line_is) has.seat_is.below
fields_below commands.Move fields line has = subst IsBelow (sym has.line_is) has.seat_is.seat_is.below
fields_below commands.Draw fields line has = subst IsBelow (sym has.line_is) has.seat_is.below
fields_below commands.Close fields line has = subst IsBelow (sym has.line_is) has.seat_is.below

form_below : (text : List ℕ) (line : ScriptLine) → IsForm text line → IsBelow line
form_below text line (Blank is line_is) = subst IsBelow (sym line_is) tt
form_below text line (Worded command fields form has) = fields_below command fields line has

-- the seat that a line names is one of the eight
pub seat_below : (text : List ℕ) (line : ScriptLine) → IsScriptLine text line → IsBelow line
seat_below text line is = form_below text line is.form
