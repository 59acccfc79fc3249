-- A run of a script under a book, on an honest disk.
use Rattle.std.specs.Prelude.{◌≡◌, ◌⊎◌, ℕ, false, List, [], ◌∷◌, Contains, Some, IsSome}
use Rattle.pf_io.specs.Disk.{Name, reading}
use Rattle.pf_io.specs.Moments.{Honest, LeavesOnly, Ran}
use Rattle.pf_script.specs.Book.{Book, Seal, Agrees}
use Rattle.pf_script.specs.BookActs.{Act, booked_all, FitsDuring}
use Rattle.pf_script.specs.BookDebts.{seat_of, AreApart, LeavesOthers, KeepsOthers, DidAll}
use Rattle.pf_script.specs.BookTurns.{KnowsLine, OnItsSeat}
use Rattle.pf_script.specs.FileTurns.{stands_on}
use Rattle.pf_script.specs.Script.{OwnSeat, Own, ScriptState, HasThisName, seat_at, seat_of_line, name_of_line}
use Rattle.pf_script.specs.ScriptRuns.{Exchange}
use Rattle.pf_script.specs.Turns.{Turn}
use Rattle.pf_script.specs.declared.line.ScriptLine.{ScriptLine}

-- each seat has the name that it had, and the line's seat that or the one that the line gives
abbrev pub NamesStay : ScriptLine → ScriptState → ScriptState → Type 0
NamesStay line state after =
    (k : ℕ) (name : Name) → HasThisName name (seat_at after k) → HasThisName name (seat_at state k) ⊎ ((seat_of_line line ≡ Some k) × (name_of_line line ≡ Some name))

-- the seats that are whole and on names of the book are among these
abbrev pub AreSeated : Book → ScriptState → List Seal → Type 0
AreSeated book state seats = (k : ℕ) (own : OwnSeat) → seat_at state k ≡ Own own → own.broken ≡ false → IsSome (book own.name) → Contains seats (seat_of own.key own.name own.sheet)

-- An exchange did these acts, of its kind and its own seat, and each owes what it has to: at every moment an image is as the book says at some point of them, and each name that they leave alone is as before; in the end the book after them
-- agrees with the disk and the seats. Where the book tells what the line comes to, they are those of its turn, on the files as they read before it.
pub record ActsIn (exchange : Exchange) (book : Book) (state after : ScriptState) (acts : List Act) (left : List Seal) (old new : Honest) : Type 0 where
  pub seats : List Seal
  pub began : AreSeated book state seats
  pub agreed : Agrees book seats old.now
  pub did : DidAll book seats acts left old new
  pub leaves : LeavesOnly (FitsDuring book acts) old new
  pub spares : Ran (LeavesOthers (AreApart acts)) (KeepsOthers (AreApart acts)) old new
  pub agrees : Agrees (booked_all acts book) left new.now
  pub seated : AreSeated (booked_all acts book) after left
  pub on_seat : OnItsSeat exchange.line exchange.reply state after acts
  pub named : NamesStay exchange.line state after
  pub turn : KnowsLine book state exchange.line exchange.reply → Turn (stands_on state.key (reading old.now)) state exchange.line exchange.seen exchange.reply acts after

-- The exchanges come one after the other, each from the book, the state and the disk that the one before left. In the end they have E.
abbrev pub FollowsUnder : Book → ScriptState → List Exchange → Honest → (Book → ScriptState → Honest → Type 0) → Type 0
FollowsUnder book state [] disk E = E book state disk
FollowsUnder book state (exchange ∷ exchanges) disk E =
    (acts : List Act) × (left : List Seal) × (after : ScriptState) × (next : Honest) × ActsIn exchange book state after acts left disk next × FollowsUnder (booked_all acts book) after exchanges next E
