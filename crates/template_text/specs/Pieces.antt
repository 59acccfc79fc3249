-- What the code's marks and pieces stand for.
use Rattle.std.specs.Prelude.{◌≡◌, ℕ, Bool, true, ◌<◌, ◌≤◌, List, ◌++◌, length, slice_index, Option}
use Rattle.template_text.specs.declared.marks.Mark.{Mark}
use Rattle.template_text.specs.declared.marks.Mark.TheVariants as marks
use Rattle.template_text.specs.declared.pieces.Piece.{Piece}
use Rattle.template_text.specs.declared.pieces.Piece.TheVariants as pieces
use Rattle.template_text.specs.declared.fault.RenderFault.{RenderFault}
use Rattle.template_text.specs.declared.fault.RenderFault.TheVariants as faults
use Rattle.template_text.specs.Parts.{Part, Copied, Value, Comment, Raw, Statement, Unclosed, NoneIn, opens, closes_value, closes_comment, closes_statement, ends_raw}
use Rattle.template_text.specs.Rendering.{LONGEST, Writes, Refuses}

-- whether a text begins with a mark
abbrev pub test_of : Mark → List ℕ → Bool
test_of marks.Opening = opens
test_of marks.ValueEnd = closes_value
test_of marks.CommentEnd = closes_comment
test_of marks.StatementEnd = closes_statement
test_of marks.Endraw = ends_raw

-- the text is cut where it first passes the test
pub record CutAtFirst (test : List ℕ → Bool) (text front rest : List ℕ) : Type 0 where
  pub whole : text ≡ front ++ rest
  pub none : NoneIn test front rest
  pub here : test rest ≡ true

-- a text that begins with two bytes of which the second is one of ASCII
pub record HasMark (text : List ℕ) : Type 0 where
  pub whole : 2 ≤ length text
  pub small : slice_index text 1 < 128

abbrev pub part_of : Piece → Part
part_of (pieces.Copied text) = Copied text.now
part_of (pieces.Value inside) = Value inside.now
part_of (pieces.Comment inside) = Comment inside.now
part_of (pieces.Raw opening content closing) = Raw opening.now content.now closing.now
part_of (pieces.Statement inside) = Statement inside.now
part_of (pieces.Unclosed text) = Unclosed text.now

-- what a part writes was added, within the limit
pub record Added (value : List ℕ → Option (List ℕ)) (part : Part) (old new : List ℕ) : Type 0 where
  pub added : List ℕ
  pub writes : Writes value part added
  pub after : new ≡ old ++ added
  pub within : length new ≤ LONGEST

-- why nothing more is written after a text
pub data Stops (value : List ℕ → Option (List ℕ)) (at : ℕ) (part : Part) (text : List ℕ) (fault : RenderFault) : Type 0 where
  NoMemory : fault ≡ faults.Memory → Stops value at part text fault
  IsRefused : Refuses value at part fault → Stops value at part text fault
  PassesLimit : (added : List ℕ) → Writes value part added → LONGEST < length (text ++ added) → fault ≡ faults.TooLong at → Stops value at part text fault
