-- What a line comes to by the files alone, where nothing fails, and what it leaves of them.
use Rattle.std.specs.Prelude.{⊤, ◌≡◌, ℕ, Bool, true, false, List, [], ◌∷◌, length, take, Option, Some, None}
use Rattle.node_tree.specs.Sheet.{Sheet}
use Rattle.pf_io.specs.Disk.{Name, Files, reading}
use Rattle.pf_io.specs.Host.{Answer, LengthWas, Gave, length_of}
use Rattle.pf_io.specs.Moments.{Honest}
use Rattle.pf_io.specs.Names.{recovery_of}
use Rattle.pf_session.specs.Moving.{IsKeptOn}
use Rattle.pf_session.specs.Reopening.{ReopensAs}
use Rattle.pf_session.specs.State.{SessionState}
use Rattle.pf_script.specs.BookActs.{Deed, Opening, Creation, Flush, Move, Act}
use Rattle.pf_script.specs.BookDebts.{IsApart, seal_of}
use Rattle.pf_script.specs.Desk.{DeskState, session_at, seat_on}
use Rattle.pf_script.specs.Script.{OwnSeat, Seat, Empty, Own, ScriptState, seat_at}
use Rattle.pf_script.specs.Turns.{Seen, Failed, Standing, SeatTurn, Turn}
use Rattle.pf_script.specs.declared.line.ScriptLine.{ScriptLine}
use Rattle.pf_script.specs.declared.line.ScriptLine.TheVariants as lines
use Rattle.pf_script.specs.declared.reply.Reply.{Reply}
use Rattle.pf_script.specs.declared.reply.Reply.TheVariants as replies
use Rattle.pf_script.specs.Words.{SEATS}

-- An opening stands on the sheet as which the file of the name reopens.
abbrev pub stands_on : List ℕ → Files → Standing
stands_on key files name given sheet = ReopensAs key sheet (files name) (files (recovery_of name))

-- the length of a name, and node 0 where it is there
abbrev pub opening_answers : Name → Option (List ℕ) → List Answer
opening_answers name None = LengthWas name None ∷ []
opening_answers name (Some file) = LengthWas name (Some (length file)) ∷ Gave name 0 4096 (take 4096 file) ∷ []

-- the answers of the files on which the rules of a line rest
abbrev pub answers_of : Files → ScriptLine → List Answer
answers_of files lines.Blank = []
answers_of files (lines.Create seat name) = LengthWas name (length_of (files name)) ∷ []
answers_of files (lines.Open seat name) = opening_answers name (files name)
answers_of files (lines.View seat path) = []
answers_of files (lines.Read seat at count) = []
answers_of files (lines.Write seat at bytes) = []
answers_of files (lines.Fill seat at count byte) = []
answers_of files (lines.Size seat size) = []
answers_of files (lines.Flush seat) = []
answers_of files (lines.Move seat name) = LengthWas name (length_of (files name)) ∷ []
answers_of files (lines.Draw seat) = []
answers_of files (lines.Close seat) = []

-- what is seen in a step over files: their answers and these words, and nothing fails
abbrev pub seen_over : Files → ScriptLine → List (List ℕ) → Seen
seen_over files line words = record { given = answers_of files line; words = words; host_failed = false; words_failed = false }

-- a name that was moved away is absent
abbrev pub IsAway : Deed → Files → Type 0
IsAway (Opening seal) files = Unit {0}
IsAway (Creation seal) files = Unit {0}
IsAway (Flush seal) files = Unit {0}
IsAway (Move from seal) files = files from ≡ None

-- What an accepted deed leaves of files: its name stands for its sheet, and each name apart from its names is as before.
pub record FilesLeft (deed : Deed) (old new : Files) : Type 0 where
  pub stands : ReopensAs (seal_of deed).key (seal_of deed).sheet (new (seal_of deed).name) (new (recovery_of (seal_of deed).name))
  pub away : IsAway deed new
  pub others : (other : Name) → IsApart deed other → new other ≡ old other

-- what several leave, one after the other
abbrev pub FilesAfter : List Act → Files → Files → Type 0
FilesAfter [] old new = (name : Name) → new name ≡ old name
FilesAfter (act ∷ acts) old new = (act.done ≡ true) × ((mid : Files) × FilesLeft act.deed old mid × FilesAfter acts mid new)

-- A seat shows a session over files: where it is whole, its file stands for the sheet on which it stands. Of a broken one only key and name are known.
pub data ShowsOver (files : Files) (seat : Seat) (session : Option SessionState) : Type 0 where
  no_file : seat ≡ Empty → session ≡ None → ShowsOver files seat session
  whole_file : (sheet : Sheet) (own : SessionState) → own.broken ≡ false → sheet.path ≡ own.name → ReopensAs own.key sheet (files own.name) (files (recovery_of own.name)) → IsKeptOn sheet own → seat ≡ Own (seat_on sheet own) → session ≡ Some own
      → ShowsOver files seat session
  broken_file : (shown : OwnSeat) (own : SessionState) → own.broken ≡ true → shown.broken ≡ true → shown.key ≡ own.key → shown.name ≡ own.name → seat ≡ Own shown → session ≡ Some own → ShowsOver files seat session

-- The state of a script is that of a desk, over files.
pub record IsStateOver (files : Files) (state : ScriptState) (desk : DeskState) : Type 0 where
  pub key_is : state.key ≡ desk.key
  pub eight : length state.seats ≡ SEATS
  pub shows : (k : ℕ) → ShowsOver files (seat_at state k) (session_at desk k)

-- a file that is opened reopens under the key
abbrev pub ReopensOpened : List ℕ → Files → ScriptLine → Reply → Type 0
ReopensOpened key files (lines.Open seat name) (replies.Opened size) = (sheet : Sheet) × ReopensAs key sheet (files name) (files (recovery_of name))
ReopensOpened key files line reply = ⊤

-- Over files in which nothing fails, a line on a seat is answered as they say, and leaves what its acts say.
pub record SeatOver (key : List ℕ) (taken : Bool) (seat : Seat) (line : ScriptLine) (words : List (List ℕ)) (reply : Reply) (acts : List Act) (after : Seat) (old new : Files) : Type 0 where
  pub turn : SeatTurn (stands_on key old) key taken seat line (seen_over old line words) reply acts after
  pub files : FilesAfter acts old new

-- so a line of a script
pub record TurnOver (state : ScriptState) (line : ScriptLine) (words : List (List ℕ)) (reply : Reply) (acts : List Act) (after : ScriptState) (old new : Files) : Type 0 where
  pub turn : Turn (stands_on state.key old) state line (seen_over old line words) reply acts after
  pub files : FilesAfter acts old new

-- Where nothing failed, the line was so answered from each seat that shows the session, and the seat after it shows the session after it, over the files then; as long as a file that is opened
-- reopens.
pub record LineOver (key : List ℕ) (taken : Bool) (line : ScriptLine) (seen : Seen) (reply : Reply) (new : Option SessionState) (seat : Seat) (a b : Honest) : Type 0 where
  pub acts : List Act
  pub after : Seat
  pub over : SeatOver key taken seat line seen.words reply acts after (reading a.now) (reading b.now)
  pub shows : ShowsOver (reading b.now) after new

abbrev pub SeatFiles : List ℕ → Bool → ScriptLine → Seen → Reply → Option SessionState → Option SessionState → Honest → Honest → Type 0
SeatFiles key taken line seen reply old new a b =
    (seat : Seat) → Failed seen false false → ShowsOver (reading a.now) seat old → ReopensOpened key (reading a.now) line reply → LineOver key taken line seen reply new seat a b

-- so for a desk
pub record DeskOver (line : ScriptLine) (seen : Seen) (reply : Reply) (new : DeskState) (state : ScriptState) (a b : Honest) : Type 0 where
  pub acts : List Act
  pub after : ScriptState
  pub over : TurnOver state line seen.words reply acts after (reading a.now) (reading b.now)
  pub is_state : IsStateOver (reading b.now) after new

abbrev pub DeskFiles : ScriptLine → Seen → Reply → DeskState → DeskState → Honest → Honest → Type 0
DeskFiles line seen reply old new a b =
    (state : ScriptState) → Failed seen false false → IsStateOver (reading a.now) state old → ReopensOpened state.key (reading a.now) line reply → DeskOver line seen reply new state a b
