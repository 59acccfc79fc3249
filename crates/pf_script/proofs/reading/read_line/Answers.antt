use Rattle.pf_script.specs.ScriptLines.{IsBlank}
use Rattle.pf_script.proofs.Commands.{no_line, no_command, fields_read}
use Rattle.pf_script.proofs.reading.read_line.Goals as goal

pub returns-in_default : goal.returns-in_default
returns-in_default c =
    let worded : ¬ (IsBlank c.args.line.now) = λ blank. cc (c.if-is_blank.ensures.1 blank) in
    λ line is. no_line c.args.line.now line c.in_default.ensures worded is

pub returns-in_default-command_of : goal.returns-in_default-command_of
returns-in_default-command_of c =
    let worded : ¬ (IsBlank c.args.line.now) = λ blank. cc (c.if-is_blank.ensures.1 blank) in
    λ line is. no_command c.args.line.now c.in-Some.word.now c.in-Some.fields.now line c.in-Some.ensures.0 c.in-Some.ensures.1 worded c.in_default-command_of.ensures is

pub returns : goal.returns
returns c =
    let worded : ¬ (IsBlank c.args.line.now) = λ blank. cc (c.if-is_blank.ensures.1 blank) in
    fields_read c.args.line.now c.in-Some.word.now c.in-Some.fields.now c.in-Some-command_of.command c.read_fields.result c.if-line-gt-LONGEST_LINE.false c.in-Some.ensures.0 c.in-Some.ensures.1 worded c.in-Some-command_of.ensures c.read_fields.ensures
