-- Which bytes are which line of a script.
use Rattle.std.specs.Prelude.{⊤, ◌≡◌, ℕ, ◌≤◌, List, [], ◌∷◌, length, codes}
use Rattle.pf_io.specs.Numbers.{Spells}
use Rattle.pf_script.specs.Words.{spaced, IsSeat, IsHex, IsByte, IsRest}
use Rattle.pf_script.specs.declared.command.Command.{Command}
use Rattle.pf_script.specs.declared.command.Command.TheVariants as commands
use Rattle.pf_script.specs.declared.line.ScriptLine.{ScriptLine}
use Rattle.pf_script.specs.declared.line.ScriptLine.TheVariants as lines

-- the word that a line begins with
abbrev pub word_of : Command → List ℕ
word_of commands.Create = codes "create"
word_of commands.Open = codes "open"
word_of commands.View = codes "view"
word_of commands.Read = codes "read"
word_of commands.Write = codes "write"
word_of commands.Fill = codes "fill"
word_of commands.Size = codes "size"
word_of commands.Flush = codes "flush"
word_of commands.Move = codes "move"
word_of commands.Draw = codes "draw"
word_of commands.Close = codes "close"

-- SEAT, one space, and the rest
pub record AfterSeat (fields : List ℕ) (seat : ℕ) (rest : List ℕ) : Type 0 where
  pub word : List ℕ
  pub form : fields ≡ spaced word rest
  pub seat_is : IsSeat word seat

-- a number, one space, and the rest
pub record AfterNumber (fields : List ℕ) (number : ℕ) (rest : List ℕ) : Type 0 where
  pub word : List ℕ
  pub form : fields ≡ spaced word rest
  pub number_is : Spells word number

-- SEAT
pub record HasSeat (make : ℕ → ScriptLine) (fields : List ℕ) (line : ScriptLine) : Type 0 where
  pub seat : ℕ
  pub seat_is : IsSeat fields seat
  pub line_is : line ≡ make seat

-- SEAT NAME
pub record HasName (make : ℕ → List ℕ → ScriptLine) (fields : List ℕ) (line : ScriptLine) : Type 0 where
  pub seat : ℕ
  pub rest : List ℕ
  pub name : List ℕ
  pub seat_is : AfterSeat fields seat rest
  pub name_is : IsRest rest name
  pub line_is : line ≡ make seat name

-- SEAT N
pub record HasSize (fields : List ℕ) (line : ScriptLine) : Type 0 where
  pub seat : ℕ
  pub rest : List ℕ
  pub size : ℕ
  pub seat_is : AfterSeat fields seat rest
  pub size_is : Spells rest size
  pub line_is : line ≡ lines.Size seat size

-- SEAT AT COUNT
pub record HasRange (fields : List ℕ) (line : ScriptLine) : Type 0 where
  pub seat : ℕ
  pub behind_seat : List ℕ
  pub at : ℕ
  pub behind_at : List ℕ
  pub count : ℕ
  pub seat_is : AfterSeat fields seat behind_seat
  pub at_is : AfterNumber behind_seat at behind_at
  pub count_is : Spells behind_at count
  pub line_is : line ≡ lines.Read seat at count

-- SEAT AT HEX
pub record HasBytes (fields : List ℕ) (line : ScriptLine) : Type 0 where
  pub seat : ℕ
  pub behind_seat : List ℕ
  pub at : ℕ
  pub behind_at : List ℕ
  pub bytes : List ℕ
  pub seat_is : AfterSeat fields seat behind_seat
  pub at_is : AfterNumber behind_seat at behind_at
  pub bytes_are : IsHex behind_at bytes
  pub line_is : line ≡ lines.Write seat at bytes

-- SEAT AT COUNT BYTE
pub record HasCopies (fields : List ℕ) (line : ScriptLine) : Type 0 where
  pub seat : ℕ
  pub behind_seat : List ℕ
  pub at : ℕ
  pub behind_at : List ℕ
  pub count : ℕ
  pub behind_count : List ℕ
  pub byte : ℕ
  pub seat_is : AfterSeat fields seat behind_seat
  pub at_is : AfterNumber behind_seat at behind_at
  pub count_is : AfterNumber behind_at count behind_count
  pub byte_is : IsByte behind_count byte
  pub line_is : line ≡ lines.Fill seat at count byte

-- what follows the word and one space
abbrev pub HasFields : Command → List ℕ → ScriptLine → Type 0
HasFields commands.Create = HasName lines.Create
HasFields commands.Open = HasName lines.Open
HasFields commands.View = HasName lines.View
HasFields commands.Read = HasRange
HasFields commands.Write = HasBytes
HasFields commands.Fill = HasCopies
HasFields commands.Size = HasSize
HasFields commands.Flush = HasSeat lines.Flush
HasFields commands.Move = HasName lines.Move
HasFields commands.Draw = HasSeat lines.Draw
HasFields commands.Close = HasSeat lines.Close

-- an empty line, or one that begins with `#`
abbrev pub IsBlank : List ℕ → Type 0
IsBlank [] = ⊤
IsBlank (byte ∷ text) = byte ≡ 35

-- a line is blank, or has a word and its fields
pub data IsForm (text : List ℕ) (line : ScriptLine) : Type 0 where
  Blank : IsBlank text → line ≡ lines.Blank → IsForm text line
  Worded : (command : Command) (fields : List ℕ) → text ≡ spaced (word_of command) fields → HasFields command fields line → IsForm text line

-- the most bytes that a line may have
abbrev pub LONGEST_LINE : ℕ
LONGEST_LINE = 131072

-- the bytes are this line
pub record IsScriptLine (text : List ℕ) (line : ScriptLine) : Type 0 where
  pub not_long : length text ≤ LONGEST_LINE
  pub form : IsForm text line
