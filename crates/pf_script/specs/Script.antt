-- The state of a script: its seats, and the sheets that were sealed so far.
use Rattle.std.specs.Prelude.{◌≡◌, ◌≢◌, ℕ, Bool, List, [], ◌∷◌, ◌++◌, get_or, set, Option, Some, None}
use Rattle.pf_io.specs.Disk.{Name}
use Rattle.node_tree.specs.Sheet.{Sheet}
use Rattle.pf_script.specs.BookActs.{Deed, Opening, Creation, Flush, Move, Act}
use Rattle.pf_script.specs.declared.line.ScriptLine.{ScriptLine}
use Rattle.pf_script.specs.declared.line.ScriptLine.TheVariants as lines

-- A seat with a protected file. `sheet` is the one that it stands on since its opening or its last sealing, and `content` is what the steps since then made of the sheet's.
pub record OwnSeat : Type 0 where
  pub key : List ℕ
  pub name : Name
  pub sheet : Sheet
  pub content : List ℕ
  pub dirty : List ℕ
  pub changed : Bool
  pub drawn : Option (List ℕ)
  pub broken : Bool

pub data Seat : Type 0 where
  Empty : Seat
  Own : (own : OwnSeat) → Seat

-- `sealed` has the sheets that were sealed under the key, before the script and in it, in order
pub record ScriptState : Type 0 where
  pub key : List ℕ
  pub seats : List Seat
  pub sealed : List Sheet

abbrev pub seat_at : ScriptState → ℕ → Seat
seat_at state k = get_or state.seats k Empty

-- a seat has this name
abbrev pub HasThisName : Name → Seat → Type 0
HasThisName name Empty = ⊥
HasThisName name (Own own) = own.name ≡ name

-- another seat than the k-th has exactly this name
abbrev pub IsTaken : ScriptState → ℕ → Name → Type 0
IsTaken state k name = (j : ℕ) × (j ≢ k) × HasThisName name (seat_at state j)

-- the sheets that some acts sealed, or were sealing
abbrev pub sheet_of : Deed → List Sheet
sheet_of (Opening seal) = []
sheet_of (Creation seal) = seal.sheet ∷ []
sheet_of (Flush seal) = seal.sheet ∷ []
sheet_of (Move from seal) = seal.sheet ∷ []

abbrev pub sheets_of : List Act → List Sheet
sheets_of [] = []
sheets_of (act ∷ acts) = sheet_of act.deed ++ sheets_of acts

-- the state with this seat, and with the sheets of some acts
abbrev pub state_with : ScriptState → ℕ → Seat → List Act → ScriptState
state_with state k seat acts = record { key = state.key; seats = set state.seats k seat; sealed = state.sealed ++ sheets_of acts }

-- the seat that a line names
abbrev pub seat_of_line : ScriptLine → Option ℕ
seat_of_line lines.Blank = None
seat_of_line (lines.Create seat name) = Some seat
seat_of_line (lines.Open seat name) = Some seat
seat_of_line (lines.View seat path) = Some seat
seat_of_line (lines.Read seat at count) = Some seat
seat_of_line (lines.Write seat at bytes) = Some seat
seat_of_line (lines.Fill seat at count byte) = Some seat
seat_of_line (lines.Size seat size) = Some seat
seat_of_line (lines.Flush seat) = Some seat
seat_of_line (lines.Move seat name) = Some seat
seat_of_line (lines.Draw seat) = Some seat
seat_of_line (lines.Close seat) = Some seat

-- the name that a line gives to its seat
abbrev pub name_of_line : ScriptLine → Option Name
name_of_line lines.Blank = None
name_of_line (lines.Create seat name) = Some name
name_of_line (lines.Open seat name) = Some name
name_of_line (lines.View seat path) = None
name_of_line (lines.Read seat at count) = None
name_of_line (lines.Write seat at bytes) = None
name_of_line (lines.Fill seat at count byte) = None
name_of_line (lines.Size seat size) = None
name_of_line (lines.Flush seat) = None
name_of_line (lines.Move seat name) = Some name
name_of_line (lines.Draw seat) = None
name_of_line (lines.Close seat) = None
