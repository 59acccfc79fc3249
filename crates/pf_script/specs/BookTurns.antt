-- What a line does under a book: the book goes on beside the state of the script.
use Rattle.std.specs.Prelude.{⊤, ◌≡◌, ◌≢◌, ◌⊎◌, ℕ, Bool, true, false, List, [], length, Contains, Option, Some, None, IfSome, IsSome, IsSomeAnd, Result, Ok}
use Rattle.node_tree.specs.Sheet.{Sheet}
use Rattle.pf_io.specs.Disk.{Name, IsImage, reading}
use Rattle.pf_io.specs.Host.{HostState, Both, IsMore, OnDisk}
use Rattle.pf_io.specs.Moments.{Honest}
use Rattle.pf_io.specs.Unchanged.{KeepsDisk}
use Rattle.pf_io.specs.Words.{WordsState}
use Rattle.pf_io.specs.declared.faults.Memory.{Memory}
use Rattle.pf_session.specs.Asking.{IsTaken as AreTaken}
use Rattle.pf_session.specs.Moving.{IsKeptOn}
use Rattle.pf_session.specs.State.{SessionState}
use Rattle.pf_script.specs.Book.{Book, Seal, Agrees}
use Rattle.pf_script.specs.BookActs.{Deed, Opening, Creation, Flush, Move, Act, Among, booked_all, speaks}
use Rattle.pf_script.specs.BookDebts.{DidAll, seat_of}
use Rattle.pf_script.specs.BookSeats.{SparesSeats}
use Rattle.pf_script.specs.Desk.{DeskState, session_at, seat_on}
use Rattle.pf_script.specs.DeskSteps.{CountsFault, Concerns, IsChange, WhereReplied}
use Rattle.pf_script.specs.Script.{OwnSeat, Seat, Empty, Own, ScriptState, seat_at, HasThisName, seat_of_line}
use Rattle.pf_script.specs.FileTurns.{stands_on, SeatFiles, DeskFiles}
use Rattle.pf_script.specs.Turns.{Seen, SeatTurn, Turn}
use Rattle.pf_script.specs.Words.{SEATS}
use Rattle.pf_script.specs.declared.line.ScriptLine.{ScriptLine}
use Rattle.pf_script.specs.declared.line.ScriptLine.TheVariants as lines
use Rattle.pf_script.specs.declared.reply.Reply.{Reply}
use Rattle.pf_script.specs.declared.reply.Reply.TheVariants as replies

-- A seat shows a session: one that is whole and on a name of the book stands on the sheet of one of the seats of the book. Of another one only key and name are known.
pub data ShowsUnder (book : Book) (seats : List Seal) (seat : Seat) (session : Option SessionState) : Type 0 where
  no_file : seat ≡ Empty → session ≡ None → ShowsUnder book seats seat session
  of_book : (sheet : Sheet) (own : SessionState) → own.broken ≡ false → Contains seats (seat_of own.key own.name sheet) → IsKeptOn sheet own → seat ≡ Own (seat_on sheet own) → session ≡ Some own → ShowsUnder book seats seat session
  other_file : (shown : OwnSeat) (own : SessionState) → (own.broken ≡ true) ⊎ (book own.name ≡ None) → shown.key ≡ own.key → shown.name ≡ own.name → shown.broken ≡ own.broken → seat ≡ Own shown → session ≡ Some own
      → ShowsUnder book seats seat session

-- The book tells what a line comes to on a seat: it speaks of the seat's name, or an opening that is accepted is of a name that it goes on to speak of.
abbrev pub Knows : Book → List ℕ → Seat → ScriptLine → Reply → Type 0
Knows book key (Own own) line reply = (own.broken ≡ true) ⊎ IsSome (book own.name)
Knows book key Empty (lines.Open k name) (replies.Opened size) = IsSomeAnd (book name) (λ entry. speaks key entry ≡ true)
Knows book key Empty line reply = ⊤

-- what was seen in a step, also of a host that does not tell its answers
pub record SeenIn (seen : Seen) (before after : HostState) (random random' : WordsState) : Type 0 where
  pub answers : Both before.given after.given (IsMore seen.given)
  pub words : Both random.left random'.left (AreTaken seen.words)
  pub of_host : CountsFault seen.host_failed before.faults after.faults
  pub of_words : CountsFault seen.words_failed random.faults random'.faults

-- the deeds of one kind that a line may make: on the name that it gives, or on that of its seat
abbrev pub IsCreationOf : Name → Deed → Type 0
IsCreationOf name (Opening seal) = ⊥
IsCreationOf name (Creation seal) = seal.name ≡ name
IsCreationOf name (Flush seal) = ⊥
IsCreationOf name (Move from seal) = ⊥

abbrev pub IsOpeningOf : Name → Deed → Type 0
IsOpeningOf name (Opening seal) = seal.name ≡ name
IsOpeningOf name (Creation seal) = ⊥
IsOpeningOf name (Flush seal) = ⊥
IsOpeningOf name (Move from seal) = ⊥

abbrev pub IsFlushOf : Seat → Deed → Type 0
IsFlushOf seat (Opening seal) = ⊥
IsFlushOf seat (Creation seal) = ⊥
IsFlushOf seat (Flush seal) = HasThisName seal.name seat
IsFlushOf seat (Move from seal) = ⊥

-- a move, or the flush before it
abbrev pub IsMoveOf : Name → Seat → Deed → Type 0
IsMoveOf name seat (Opening seal) = ⊥
IsMoveOf name seat (Creation seal) = ⊥
IsMoveOf name seat (Flush seal) = HasThisName seal.name seat
IsMoveOf name seat (Move from seal) = HasThisName from seat × (seal.name ≡ name)

-- the deeds that a line makes on its seat
abbrev pub MadeBy : ScriptLine → Seat → Deed → Type 0
MadeBy lines.Blank seat deed = ⊥
MadeBy (lines.Create k name) seat deed = IsCreationOf name deed
MadeBy (lines.Open k name) seat deed = IsOpeningOf name deed
MadeBy (lines.View k path) seat deed = ⊥
MadeBy (lines.Read k at count) seat deed = ⊥
MadeBy (lines.Write k at bytes) seat deed = IsFlushOf seat deed
MadeBy (lines.Fill k at count byte) seat deed = IsFlushOf seat deed
MadeBy (lines.Size k size) seat deed = IsFlushOf seat deed
MadeBy (lines.Flush k) seat deed = IsFlushOf seat deed
MadeBy (lines.Move k name) seat deed = IsMoveOf name seat deed
MadeBy (lines.Draw k) seat deed = ⊥
MadeBy (lines.Close k) seat deed = IsFlushOf seat deed

-- what is refused does nothing
abbrev pub IdleIfRefused : Reply → List Act → Type 0
IdleIfRefused (replies.Refused why) acts = acts ≡ []
IdleIfRefused other acts = ⊤

-- A line on a seat: what was done to names owes what it has to, and is that of the line's turn, where the book tells it.
pub record LineUnder (key : List ℕ) (taken : Bool) (line : ScriptLine) (seen : Seen) (reply : Reply) (old new : Option SessionState) (book : Book) (seats : List Seal) (seat : Seat) (a b : Honest) : Type 0 where
  pub acts : List Act
  pub left : List Seal
  pub after : Seat
  pub did : DidAll book seats acts left a b
  pub shows : ShowsUnder (booked_all acts book) left after new
  pub spares : SparesSeats acts seats left
  pub concerned : (name : Name) → Among acts name → Concerns taken line old name
  pub made : (act : Act) → Contains acts act → MadeBy line seat act.deed
  pub idle : IdleIfRefused reply acts
  pub turn : Knows book key seat line reply → SeatTurn (stands_on key (reading a.now)) key taken seat line seen reply acts after

-- so under each book that agrees with the disk before, on each seat that shows the session
abbrev pub SeatUnder : List ℕ → Bool → ScriptLine → Seen → Reply → Option SessionState → Option SessionState → Honest → Honest → Type 0
SeatUnder key taken line seen reply old new a b =
    (book : Book) (seats : List Seal) (seat : Seat) → Agrees book seats a.now → IsImage a.now (reading a.now) → ShowsUnder book seats seat old → LineUnder key taken line seen reply old new book seats seat a b

-- no nonce was drawn for the next sealing
abbrev pub IsUndrawn : Option SessionState → Type 0
IsUndrawn None = ⊤
IsUndrawn (Some session) = session.drawn ≡ None

pub record SeatAgrees (key : List ℕ) (taken : Bool) (line : ScriptLine) (reply : Reply) (old new : Option SessionState) (before after : HostState) (random random' : WordsState) : Type 0 where
  pub seen : Seen
  pub was_seen : SeenIn seen before after random random'
  pub under : OnDisk before after (SeatUnder key taken line seen reply old new)
  pub over : OnDisk before after (SeatFiles key taken line seen reply old new)
  -- a change seals with random words alone: where it took none, and no nonce was drawn before, the disk stays
  pub wordless : IsChange line → IsUndrawn old → seen.words ≡ [] → KeepsDisk before after

-- a line on one seat that was replied to
abbrev pub SeatBooked : List ℕ → Bool → ScriptLine → Result Reply Memory → Option SessionState → Option SessionState → HostState → HostState → WordsState → WordsState → Type 0
SeatBooked key taken line result old new before after random random' = WhereReplied result (λ reply. SeatAgrees key taken line reply old new before after random random')

-- The state of a script is that of a desk, under a book.
pub record IsStateUnder (book : Book) (seats : List Seal) (state : ScriptState) (desk : DeskState) : Type 0 where
  pub key_is : state.key ≡ desk.key
  pub eight : length state.seats ≡ SEATS
  pub shows : (k : ℕ) → ShowsUnder book seats (seat_at state k) (session_at desk k)

abbrev pub KnowsLine : Book → ScriptState → ScriptLine → Reply → Type 0
KnowsLine book state line reply = IfSome (seat_of_line line) (λ k. Knows book state.key (seat_at state k) line reply)

-- Of each line, also of one that the book does not know: its acts are of its kind, on its seat; a refusal does nothing, and no other seat changes.
pub record OnItsSeat (line : ScriptLine) (reply : Reply) (state after : ScriptState) (acts : List Act) : Type 0 where
  pub key_is : after.key ≡ state.key
  pub made : (act : Act) → Contains acts act → (k : ℕ) × (seat_of_line line ≡ Some k) × MadeBy line (seat_at state k) act.deed
  pub idle : IdleIfRefused reply acts
  pub others : (j : ℕ) → seat_of_line line ≢ Some j → seat_at after j ≡ seat_at state j

-- A line on a desk.
pub record TurnUnder (line : ScriptLine) (seen : Seen) (reply : Reply) (new : DeskState) (book : Book) (seats : List Seal) (state : ScriptState) (a b : Honest) : Type 0 where
  pub acts : List Act
  pub left : List Seal
  pub after : ScriptState
  pub did : DidAll book seats acts left a b
  pub is_state : IsStateUnder (booked_all acts book) left after new
  pub on_seat : OnItsSeat line reply state after acts
  pub turn : KnowsLine book state line reply → Turn (stands_on state.key (reading a.now)) state line seen reply acts after

abbrev pub DeskUnder : ScriptLine → Seen → Reply → DeskState → DeskState → Honest → Honest → Type 0
DeskUnder line seen reply old new a b =
    (book : Book) (seats : List Seal) (state : ScriptState) → Agrees book seats a.now → IsImage a.now (reading a.now) → IsStateUnder book seats state old → TurnUnder line seen reply new book seats state a b

pub record DeskAgrees (line : ScriptLine) (reply : Reply) (old new : DeskState) (before after : HostState) (random random' : WordsState) : Type 0 where
  pub seen : Seen
  pub was_seen : SeenIn seen before after random random'
  pub under : OnDisk before after (DeskUnder line seen reply old new)
  pub over : OnDisk before after (DeskFiles line seen reply old new)
  pub wordless : IsChange line → (k : ℕ) → seat_of_line line ≡ Some k → IsUndrawn (session_at old k) → seen.words ≡ [] → KeepsDisk before after

-- a line on a desk that was replied to
abbrev pub DeskBooked : ScriptLine → Result Reply Memory → DeskState → DeskState → HostState → HostState → WordsState → WordsState → Type 0
DeskBooked line result old new before after random random' = WhereReplied result (λ reply. DeskAgrees line reply old new before after random random')

-- the closing of a seat after the last line
abbrev pub EndBooked : ℕ → Option Reply → DeskState → DeskState → HostState → HostState → WordsState → WordsState → Type 0
EndBooked seat None old new before after random random' = ⊤
EndBooked seat (Some reply) old new before after random random' = DeskBooked (lines.Close seat) (Ok reply) old new before after random random'
