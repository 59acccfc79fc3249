-- Bytes are one line at most.
use Rattle.std.proofs.Common.{◌≡◌, ◌∙◌, ℕ, List, sym, ap, subst}
use Rattle.pf_io.specs.Numbers.{Spells}
use Rattle.pf_script.specs.Words.{IsHex, IsByte, IsRest}
use Rattle.pf_script.specs.declared.command.Command.{Command}
use Rattle.pf_script.specs.declared.command.Command.TheVariants as commands
use Rattle.pf_script.specs.declared.line.ScriptLine.{ScriptLine}
use Rattle.pf_script.specs.declared.line.ScriptLine.TheVariants as lines
use Rattle.pf_script.specs.ScriptLines.{word_of, AfterNumber, HasSeat, HasName, HasSize, HasRange, HasBytes, HasCopies, HasFields, IsBlank, IsForm, Blank, Worded, IsScriptLine}
use Rattle.pf_script.proofs.Wording.{one_seat, one_number, one_hex, one_byte, one_name, one_after_seat, one_after_number, same_word, past_seat, past_number}
use Rattle.pf_script.proofs.Commands.{word_spaceless, one_command, not_blank}

seat_one : (make : ℕ → ScriptLine) (fields : List ℕ) (line other : ScriptLine) → HasSeat make fields line → HasSeat make fields other → line ≡ other
seat_one make fields line other is is' = is.line_is ∙ ap make (one_seat fields is.seat is'.seat is.seat_is is'.seat_is) ∙ sym is'.line_is

name_one : (make : ℕ → List ℕ → ScriptLine) (fields : List ℕ) (line other : ScriptLine) → HasName make fields line → HasName make fields other → line ≡ other
name_one make fields line other is is' =
    let both = one_after_seat fields is.seat is'.seat is.rest is'.rest is.seat_is is'.seat_is in
    let name : is.name ≡ is'.name = one_name is.rest is.name is'.name is.name_is (past_seat (λ r. IsRest r is'.name) fields is.seat is'.seat is.rest is'.rest is.seat_is is'.seat_is is'.name_is) in
    is.line_is ∙ ap (λ s. make s is.name) both.0 ∙ ap (make is'.seat) name ∙ sym is'.line_is

size_one : (fields : List ℕ) (line other : ScriptLine) → HasSize fields line → HasSize fields other → line ≡ other
size_one fields line other is is' =
    let both = one_after_seat fields is.seat is'.seat is.rest is'.rest is.seat_is is'.seat_is in
    let size : is.size ≡ is'.size = one_number is.rest is.size is'.size is.size_is (past_seat (λ r. Spells r is'.size) fields is.seat is'.seat is.rest is'.rest is.seat_is is'.seat_is is'.size_is) in
    is.line_is ∙ ap (λ s. lines.Size s is.size) both.0 ∙ ap (lines.Size is'.seat) size ∙ sym is'.line_is

range_one : (fields : List ℕ) (line other : ScriptLine) → HasRange fields line → HasRange fields other → line ≡ other
range_one fields line other is is' =
    let both = one_after_seat fields is.seat is'.seat is.behind_seat is'.behind_seat is.seat_is is'.seat_is in
    let at_is' : AfterNumber is.behind_seat is'.at is'.behind_at = past_seat (λ r. AfterNumber r is'.at is'.behind_at) fields is.seat is'.seat is.behind_seat is'.behind_seat is.seat_is is'.seat_is is'.at_is in
    let places = one_after_number is.behind_seat is.at is'.at is.behind_at is'.behind_at is.at_is at_is' in
    let count : is.count ≡ is'.count = one_number is.behind_at is.count is'.count is.count_is (past_number (λ r. Spells r is'.count) is.behind_seat is.at is'.at is.behind_at is'.behind_at is.at_is at_is' is'.count_is) in
    is.line_is ∙ ap (λ s. lines.Read s is.at is.count) both.0 ∙ ap (λ a. lines.Read is'.seat a is.count) places.0 ∙ ap (lines.Read is'.seat is'.at) count ∙ sym is'.line_is

bytes_one : (fields : List ℕ) (line other : ScriptLine) → HasBytes fields line → HasBytes fields other → line ≡ other
bytes_one fields line other is is' =
    let both = one_after_seat fields is.seat is'.seat is.behind_seat is'.behind_seat is.seat_is is'.seat_is in
    let at_is' : AfterNumber is.behind_seat is'.at is'.behind_at = past_seat (λ r. AfterNumber r is'.at is'.behind_at) fields is.seat is'.seat is.behind_seat is'.behind_seat is.seat_is is'.seat_is is'.at_is in
    let places = one_after_number is.behind_seat is.at is'.at is.behind_at is'.behind_at is.at_is at_is' in
    let bytes : is.bytes ≡ is'.bytes = one_hex is.behind_at is.bytes is'.bytes is.bytes_are (past_number (λ r. IsHex r is'.bytes) is.behind_seat is.at is'.at is.behind_at is'.behind_at is.at_is at_is' is'.bytes_are) in
    is.line_is ∙ ap (λ s. lines.Write s is.at is.bytes) both.0 ∙ ap (λ a. lines.Write is'.seat a is.bytes) places.0 ∙ ap (lines.Write is'.seat is'.at) bytes ∙ sym is'.line_is

copies_one : (fields : List ℕ) (line other : ScriptLine) → HasCopies fields line → HasCopies fields other → line ≡ other
copies_one fields line other is is' =
    let both = one_after_seat fields is.seat is'.seat is.behind_seat is'.behind_seat is.seat_is is'.seat_is in
    let at_is' : AfterNumber is.behind_seat is'.at is'.behind_at = past_seat (λ r. AfterNumber r is'.at is'.behind_at) fields is.seat is'.seat is.behind_seat is'.behind_seat is.seat_is is'.seat_is is'.at_is in
    let places = one_after_number is.behind_seat is.at is'.at is.behind_at is'.behind_at is.at_is at_is' in
    let count_is' : AfterNumber is.behind_at is'.count is'.behind_count = past_number (λ r. AfterNumber r is'.count is'.behind_count) is.behind_seat is.at is'.at is.behind_at is'.behind_at is.at_is at_is' is'.count_is in
    let counts = one_after_number is.behind_at is.count is'.count is.behind_count is'.behind_count is.count_is count_is' in
    let byte : is.byte ≡ is'.byte = one_byte is.behind_count is.byte is'.byte is.byte_is (past_number (λ r. IsByte r is'.byte) is.behind_at is.count is'.count is.behind_count is'.behind_count is.count_is count_is' is'.byte_is) in
    is.line_is ∙ ap (λ s. lines.Fill s is.at is.count is.byte) both.0 ∙ ap (λ a. lines.Fill is'.seat a is.count is.byte) places.0 ∙ ap (λ n. lines.Fill is'.seat is'.at n is.byte) counts.0 ∙ ap (lines.Fill is'.seat is'.at is'.count) byte ∙ sym is'.line_is

fields_one : (command : Command) (fields : List ℕ) (line other : ScriptLine) → HasFields command fields line → HasFields command fields other → line ≡ other
fields_one commands.Create = name_one lines.Create
fields_one commands.Open = name_one lines.Open
fields_one commands.View = name_one lines.View
fields_one commands.Read = range_one
fields_one commands.Write = bytes_one
fields_one commands.Fill = copies_one
fields_one commands.Size = size_one
fields_one commands.Flush = seat_one lines.Flush
fields_one commands.Move = name_one lines.Move
fields_one commands.Draw = seat_one lines.Draw
fields_one commands.Close = seat_one lines.Close

form_one : (text : List ℕ) (line other : ScriptLine) → IsForm text line → IsForm text other → line ≡ other
form_one text line other (Blank blank made) (Blank blank' made') = made ∙ sym made'
form_one text line other (Blank blank made) (Worded command fields form fits) = absurd (not_blank command fields (subst IsBlank form blank))
form_one text line other (Worded command fields form fits) (Blank blank made) = absurd (not_blank command fields (subst IsBlank form blank))
form_one text line other (Worded command fields form fits) (Worded command' fields' form' fits') =
    let both = same_word (word_of command) (word_of command') fields fields' (word_spaceless command) (word_spaceless command') (sym form ∙ form') in
    let same : command' ≡ command = one_command command' command (sym both.0) in
    fields_one command fields line other fits (subst (λ (o : Command). HasFields o fields other) same (subst (λ (f : List ℕ). HasFields command' f other) (sym both.1) fits'))

pub line_one : (text : List ℕ) (line other : ScriptLine) → IsScriptLine text line → IsScriptLine text other → line ≡ other
line_one text line other is is' = form_one text line other is.form is'.form
