-- The sessions of a script under a book, and what a call on one of them keeps.
use Rattle.std.specs.Prelude.{◌≡◌, false, List, Contains, Some, Result, Ok, Err}
use Rattle.pf_io.specs.Disk.{Name, IsImage, reading}
use Rattle.pf_io.specs.Moments.{Honest}
use Rattle.pf_io.specs.Names.{IsTarget}
use Rattle.node_tree.specs.Sheet.{Sheet}
use Rattle.pf_session.specs.Moving.{IsKeptOn}
use Rattle.pf_session.specs.State.{SessionState}
use Rattle.pf_script.specs.Book.{Book, Entry, Seal, Agrees}
use Rattle.pf_script.specs.BookActs.{Act, Among, booked_all}
use Rattle.pf_script.specs.BookDebts.{DidAll, seat_of}

-- a session of a script: its file stands at its name, which is its path too
pub record IsOfScript (session : SessionState) : Type 0 where
  pub is_target : IsTarget session.name
  pub path_is : session.path ≡ session.name
  pub named : session.beside ≡ false

-- what holds of a book and of the seats on its names
abbrev pub Covering : Type 1
Covering = Book → List Seal → Type 0

-- where the book speaks of the name of a session that is not broken, one of the seats is on its name, under a sheet that backs it; one that is not changed rests on it
abbrev pub Covers : SessionState → Covering
Covers session book seats = (entry : Entry) → session.broken ≡ false → book session.name ≡ Some entry → (sheet : Sheet) × Contains seats (seat_of session.key session.name sheet) × IsKeptOn sheet session

-- so under this sheet
abbrev pub CoversOn : Sheet → SessionState → Covering
CoversOn sheet session book seats = (entry : Entry) → session.broken ≡ false → book session.name ≡ Some entry → Contains seats (seat_of session.key session.name sheet) × IsKeptOn sheet session

-- there is no session
abbrev pub CoversNone : Covering
CoversNone book seats = Unit {0}

-- there is the session that a call made, if it made one
abbrev pub CoversMade : {E : Type 0} → Result SessionState E → Covering
CoversMade (Ok session) = Covers session
CoversMade (Err fault) = CoversNone

-- so for each of some sessions
abbrev pub CoversEach : (SessionState → Type 0) → Covering
CoversEach Of book seats = (session : SessionState) → Of session → Covers session book seats

-- both
abbrev pub CoversBoth : Covering → Covering → Covering
CoversBoth one two book seats = one book seats × two book seats

-- the seats on names that no act is of stay
abbrev pub SparesSeats : List Act → List Seal → List Seal → Type 0
SparesSeats acts seats left = (seat : Seal) → Contains seats seat → ¬ (Among acts seat.name) → Contains left seat

-- Under a book with these seats: acts that were done and owe what they have to, only of names that are concerned; the seats that they leave are as `after` says.
abbrev pub Kept : Covering → (Name → Type 0) → Book → List Seal → Honest → Honest → Type 0
Kept after concerns book seats old new =
    (acts : List Act) × (left : List Seal) × DidAll book seats acts left old new × after (booked_all acts book) left × SparesSeats acts seats left × ((name : Name) → Among acts name → concerns name)

-- so for every book that agrees with the disk before, with seats as `before` says
abbrev pub KeepsUnder : Covering → Covering → (Name → Type 0) → Honest → Honest → Type 0
KeepsUnder before after concerns old new = (book : Book) (seats : List Seal) → Agrees book seats old.now → IsImage old.now (reading old.now) → before book seats → Kept after concerns book seats old new
