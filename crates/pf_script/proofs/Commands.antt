-- The words that lines begin with.
use Rattle.std.proofs.Common.{◌≡◌, ◌≢◌, ◌∙◌, ◌==◌, ℕ, ◌≤◌, Bool, true, false, if◌then◌else◌, List, [], ◌∷◌, length, get_or, sym, ap, subst, refl, arith, Result, Ok, Err}
use Rattle.std.proofs.lemmas.List.Elements.{All-nil, All-cons}
use Rattle.pf_script.specs.declared.command.Command.{Command}
use Rattle.pf_script.specs.declared.command.Command.TheVariants as commands
use Rattle.pf_script.specs.declared.fault.LineFault.{LineFault}
use Rattle.pf_script.specs.declared.fault.LineFault.TheVariants as faults
use Rattle.pf_script.specs.declared.line.ScriptLine.{ScriptLine}
use Rattle.pf_script.specs.Words.{SPACE, spaced, HasNoSpace}
use Rattle.pf_script.specs.ScriptLines.{word_of, HasFields, IsBlank, Blank, Worded, LONGEST_LINE, IsScriptLine}
use Rattle.pf_script.specs.Reading.{Reads}
use Rattle.pf_script.proofs.Wording.{IsOther, same_word, no_second}

-- a test for a space that computes
abbrev passes : List ℕ → Bool
passes [] = true
passes (byte ∷ word) = if byte == SPACE then false else passes word

spaceless_step : (space : Bool) (byte : ℕ) (word : List ℕ) → (byte == SPACE) ≡ space → (if space then false else passes word) ≡ true → (passes word ≡ true → HasNoSpace word) → HasNoSpace (byte ∷ word)
spaceless_step true byte word is passed rest = absurd (cc passed)
spaceless_step false byte word is passed rest = All-cons IsOther byte word (λ same. let e : (SPACE == SPACE) ≡ false = subst (λ (b : ℕ). (b == SPACE) ≡ false) same is in cc e) (rest passed)

spaceless : (word : List ℕ) → passes word ≡ true → HasNoSpace word
spaceless [] passed = All-nil IsOther
spaceless (byte ∷ word) passed = spaceless_step (byte == SPACE) byte word refl passed (spaceless word)

-- no command's word has a space
pub word_spaceless : (command : Command) → HasNoSpace (word_of command)
word_spaceless commands.Create = spaceless (word_of commands.Create) refl
word_spaceless commands.Open = spaceless (word_of commands.Open) refl
word_spaceless commands.View = spaceless (word_of commands.View) refl
word_spaceless commands.Read = spaceless (word_of commands.Read) refl
word_spaceless commands.Write = spaceless (word_of commands.Write) refl
word_spaceless commands.Fill = spaceless (word_of commands.Fill) refl
word_spaceless commands.Size = spaceless (word_of commands.Size) refl
word_spaceless commands.Flush = spaceless (word_of commands.Flush) refl
word_spaceless commands.Move = spaceless (word_of commands.Move) refl
word_spaceless commands.Draw = spaceless (word_of commands.Draw) refl
word_spaceless commands.Close = spaceless (word_of commands.Close) refl

-- the command of a word, by its first two letters
abbrev command_by : ℕ → ℕ → Command
command_by first second =
    if first == 99 then (if second == 114 then commands.Create else commands.Close)
    else if first == 102 then (if second == 105 then commands.Fill else commands.Flush)
    else if first == 111 then commands.Open
    else if first == 118 then commands.View
    else if first == 114 then commands.Read
    else if first == 119 then commands.Write
    else if first == 115 then commands.Size
    else if first == 109 then commands.Move
    else commands.Draw

abbrev found : List ℕ → Command
found word = command_by (get_or word 0 0) (get_or word 1 0)

found_again : (command : Command) → found (word_of command) ≡ command
found_again commands.Create = refl
found_again commands.Open = refl
found_again commands.View = refl
found_again commands.Read = refl
found_again commands.Write = refl
found_again commands.Fill = refl
found_again commands.Size = refl
found_again commands.Flush = refl
found_again commands.Move = refl
found_again commands.Draw = refl
found_again commands.Close = refl

pub one_command : (command other : Command) → word_of command ≡ word_of other → command ≡ other
one_command command other same = sym (found_again command) ∙ ap found same ∙ found_again other

-- a line with a command is not blank
pub not_blank : (command : Command) (fields : List ℕ) → IsBlank (spaced (word_of command) fields) → ⊥
not_blank commands.Create fields is = omega (arith, is)
not_blank commands.Open fields is = omega (arith, is)
not_blank commands.View fields is = omega (arith, is)
not_blank commands.Read fields is = omega (arith, is)
not_blank commands.Write fields is = omega (arith, is)
not_blank commands.Fill fields is = omega (arith, is)
not_blank commands.Size fields is = omega (arith, is)
not_blank commands.Flush fields is = omega (arith, is)
not_blank commands.Move fields is = omega (arith, is)
not_blank commands.Draw fields is = omega (arith, is)
not_blank commands.Close fields is = omega (arith, is)

-- a line of one word is none
pub no_line : (text : List ℕ) (line : ScriptLine) → HasNoSpace text → ¬ (IsBlank text) → IsScriptLine text line → ⊥
no_line text line none worded is = elim is.form [
  | Blank blank made ↦ worded blank
  | Worded command fields form fits ↦ no_second text (word_of command) fields none form
]

-- and so is one of another word
pub no_command : (text word fields : List ℕ) (line : ScriptLine) → text ≡ spaced word fields → HasNoSpace word → ¬ (IsBlank text) → ((command : Command) → word ≢ word_of command) → IsScriptLine text line → ⊥
no_command text word fields line form none worded unknown is = elim is.form [
  | Blank blank made ↦ worded blank
  | Worded command others form' fits ↦ unknown command (same_word word (word_of command) fields others none (word_spaceless command) (sym form ∙ form')).0
]

-- a line is read as its fields are
pub fields_read : (text word fields : List ℕ) (command : Command) (r : Result ScriptLine LineFault) → length text ≤ LONGEST_LINE → text ≡ spaced word fields → HasNoSpace word → ¬ (IsBlank text) → word ≡ word_of command
    → Reads (HasFields command fields) r → Reads (IsScriptLine text) r
fields_read text word fields command (Ok line) few form none worded named is = record { not_long = few; form = Worded command fields (form ∙ ap (λ w. spaced w fields) named) is }
fields_read text word fields command (Err faults.Memory) few form none worded named free = tt
fields_read text word fields command (Err faults.BadLine) few form none worded named bad = λ line is. elim is.form [
  | Blank blank made ↦ worded blank
  | Worded other others form' fits ↦
      let both = same_word word (word_of other) fields others none (word_spaceless other) (sym form ∙ form') in
      let same : other ≡ command = one_command other command (sym both.0 ∙ named) in
      bad line (subst (λ (o : Command). HasFields o fields line) same (subst (λ (f : List ℕ). HasFields other f line) (sym both.1) fits))
]
