-- What a step of a desk comes to.
use Rattle.std.specs.Prelude.{⊤, ◌≡◌, ◌≢◌, ◌⊎◌, ℕ, ◌+◌, ◌-◌, ◌*◌, ◌<◌, min, max, Bool, true, false, List, [], ◌++◌, length, Contains, replicate, Option, Some, None, IsSomeAnd, Result, Ok, Err}
use Rattle.node_tree.specs.Backing.{now}
use Rattle.node_tree.specs.Fetching.{CountsReads}
use Rattle.node_tree.specs.Reading.{KeepsFields as KeepsTree, ReadsFew}
use Rattle.node_tree.specs.Sheet.{Sheet}
use Rattle.node_tree.specs.State.{Held}
use Rattle.node_tree.specs.Unforged.{Unforged}
use Rattle.pf_io.specs.Counts.{counted}
use Rattle.pf_io.specs.Disk.{Name, IsImage, reading}
use Rattle.pf_io.specs.Host.{Answer, HostState, Both, IsMore, WhereTold, OnDisk}
use Rattle.pf_io.specs.Moments.{Honest, Ran}
use Rattle.pf_io.specs.Unchanged.{KeepsDisk}
use Rattle.pf_io.specs.Words.{WordsState}
use Rattle.pf_io.specs.declared.faults.Memory.{Memory}
use Rattle.pf_session.specs.Aside.{Apart}
use Rattle.pf_session.specs.Asking.{IsTaken as AreTaken}
use Rattle.pf_session.specs.Reading.{KeepsFields}
use Rattle.pf_session.specs.State.{SessionState}
use Rattle.pf_script.specs.Book.{Book, Entry, Seal, Agrees}
use Rattle.pf_script.specs.BookActs.{Flush, Act}
use Rattle.pf_script.specs.BookDebts.{LeavesOthers, KeepsOthers, DidAll}
use Rattle.pf_script.specs.BookSeats.{Covering, Covers, CoversOn, CoversNone, KeepsUnder, SparesSeats}
use Rattle.pf_script.specs.Desk.{DeskState, session_at, IsSeatOf, IsLike, IsLikeDesk, Shows, IsStateOf}
use Rattle.pf_script.specs.Rules.{NoneRefuses, rules}
use Rattle.pf_script.specs.Script.{Seat, Empty, Own, ScriptState, seat_at, sheets_of, seat_of_line, name_of_line}
use Rattle.pf_script.specs.SeatSteps.{PIECE, broken_seat}
use Rattle.pf_script.specs.Turns.{Seen, SeatTurn, Caused, CausedIn, Turn, on_carried}
use Rattle.pf_script.specs.declared.line.ScriptLine.{ScriptLine}
use Rattle.pf_script.specs.declared.line.ScriptLine.TheVariants as lines
use Rattle.pf_script.specs.declared.reply.Reply.{Reply}
use Rattle.pf_script.specs.declared.reply.Reply.TheVariants as replies

-- a count of faults, by whether it rose
abbrev pub CountsFault : Bool → ℕ → ℕ → Type 0
CountsFault false before now = now ≡ before
CountsFault true before now = now ≡ counted before

-- what was seen in a step: these answers, the words that were taken where they are told, and the counts that rose
pub record WasSeen (seen : Seen) (given : List Answer) (before after : HostState) (random random' : WordsState) : Type 0 where
  pub answers : seen.given ≡ given
  pub words : Both random.left random'.left (AreTaken seen.words)
  pub of_host : CountsFault seen.host_failed before.faults after.faults
  pub of_words : CountsFault seen.words_failed random.faults random'.faults

-- The line may have sealed the sheets of these acts: with the first of the words that were taken it goes so far, where the host then fails.
pub record MaySeal (Goes : Seen → Reply → List Act → Type 0) (seen : Seen) (acts : List Act) : Type 0 where
  pub front : List (List ℕ)
  pub back : List (List ℕ)
  pub failed : List Act
  pub in_order : seen.words ≡ front ++ back
  pub goes : Goes (record { given = seen.given; words = front; host_failed = true; words_failed = false }) replies.HostFault failed
  pub sheets : sheets_of acts ≡ sheets_of failed

-- What a step did to names, as far as nothing is forged: the acts so far; where no block that was given until then opens to what none of the sheets has that were sealed so far, there may be more, as
-- long as the line may have sealed their sheets; and in the end P holds of them all.
pub data Unfolds (key : List ℕ) (sealed : List Sheet) (May P : List Act → Type 0) (given : List Answer) : List Act → Type 0 where
  in_the_end : (acts : List Act) → (Unforged key (sealed ++ sheets_of acts) given → P acts) → Unfolds key sealed May P given acts
  then_more : (acts more : List Act) (these rest : List Answer) → given ≡ these ++ rest → (sheets_of more ≡ []) ⊎ May (acts ++ more) → (Unforged key (sealed ++ sheets_of acts) these → Unfolds key sealed May P given (acts ++ more)) → Unfolds key sealed May P given acts

-- a turn of a line on a seat, whatever seat it leaves
abbrev pub SomeSeatTurn : List ℕ → List Sheet → Bool → Seat → ScriptLine → Seen → Reply → List Act → Type 0
SomeSeatTurn key sealed taken seat line seen reply acts = (left : Seat) × SeatTurn (on_carried key sealed) key taken seat line seen reply acts left

-- such a turn, which leaves a seat that shows this session
abbrev pub SeatTurnsTo : List ℕ → List Sheet → Bool → Seat → Option SessionState → ScriptLine → Seen → Reply → List Act → Type 0
SeatTurnsTo key sealed taken seat new line seen reply acts = (left : Seat) × SeatTurn (on_carried key sealed) key taken seat line seen reply acts left × Shows (sealed ++ sheets_of acts) left new

-- Whatever the seat shows, and whatever was sealed before: the line is answered on the seat as it may be.
abbrev pub SeatTurns : List ℕ → Bool → ScriptLine → Seen → Reply → Option SessionState → Option SessionState → List Answer → Type 0
SeatTurns key taken line seen reply old new given =
    (sealed : List Sheet) (seat : Seat) → Shows sealed seat old
    → Unfolds key sealed (MaySeal (SomeSeatTurn key sealed taken seat line) seen) (SeatTurnsTo key sealed taken seat new line seen reply) given []

pub record SeatAsks (key : List ℕ) (taken : Bool) (line : ScriptLine) (reply : Reply) (old new : Option SessionState) (given : List Answer) (before after : HostState) (random random' : WordsState) : Type 0 where
  pub seen : Seen
  pub was_seen : WasSeen seen given before after random random'
  pub turns : SeatTurns key taken line seen reply old new given

-- the name of a seat's session
abbrev pub HasItsName : Option SessionState → Name → Type 0
HasItsName None name = ⊥
HasItsName (Some session) name = name ≡ session.name

abbrev pub HasPath : Option SessionState → List ℕ → Type 0
HasPath None path = ⊥
HasPath (Some session) path = session.path ≡ path

-- another seat than the k-th has the name
abbrev pub OtherHas : DeskState → ℕ → Name → Type 0
OtherHas desk k name = (j : ℕ) × (j ≢ k) × HasItsName (session_at desk j) name

-- the names that a line on a seat may change: the seat's, and the one that the line gives, where no other seat has it
abbrev pub Concerns : Bool → ScriptLine → Option SessionState → Name → Type 0
Concerns taken line old name = HasItsName old name ⊎ ((name_of_line line ≡ Some name) × (taken ≡ false))

-- a name that is apart from each of these
abbrev pub ApartFrom : (Name → Type 0) → Name → Type 0
ApartFrom concerned other = (name : Name) → concerned name → Apart name other

-- Whatever stands at these names, every name apart from them is as before at every moment and in the end.
abbrev pub Spares : (Name → Type 0) → HostState → HostState → Type 0
Spares concerned before after = OnDisk before after (Ran (LeavesOthers (ApartFrom concerned)) (KeepsOthers (ApartFrom concerned)))

-- So for a desk: the name of the line's seat, and the one that the line gives.
abbrev pub ConcernsDesk : ScriptLine → DeskState → Name → Type 0
ConcernsDesk line desk name = (name_of_line line ≡ Some name) ⊎ ((k : ℕ) × (seat_of_line line ≡ Some k) × HasItsName (session_at desk k) name)

-- each seat has the name that it had, and the line's seat that or the one that the line gives
abbrev pub KeepsNames : ScriptLine → DeskState → DeskState → Type 0
KeepsNames line old new =
    (k : ℕ) (name : Name) → HasItsName (session_at new k) name → HasItsName (session_at old k) name ⊎ ((seat_of_line line ≡ Some k) × (name_of_line line ≡ Some name))

-- a turn of a line in a script, whatever state it leaves
abbrev pub SomeTurn : ScriptState → ScriptLine → Seen → Reply → List Act → Type 0
SomeTurn state line seen reply acts = (left : ScriptState) × Turn (on_carried state.key state.sealed) state line seen reply acts left

-- such a turn, which leaves the state of this desk
abbrev pub TurnsTo : ScriptState → DeskState → ScriptLine → Seen → Reply → List Act → Type 0
TurnsTo state new line seen reply acts = (left : ScriptState) × Turn (on_carried state.key state.sealed) state line seen reply acts left × IsStateOf left new

-- The cause of a reply, also where something is forged: by some answers that came in the step, which are those that were told, where the host tells them.
pub record SeatCaused (key : List ℕ) (taken : Bool) (line : ScriptLine) (reply : Reply) (old : Option SessionState) (before after : HostState) : Type 0 where
  pub given : List Answer
  pub told : Both before.given after.given (IsMore given)
  pub caused : (seat : Seat) → IsLike seat old → Caused key taken seat line given reply

-- so for a desk
pub record DeskCaused (line : ScriptLine) (reply : Reply) (old : DeskState) (before after : HostState) : Type 0 where
  pub given : List Answer
  pub told : Both before.given after.given (IsMore given)
  pub caused : (state : ScriptState) → IsLikeDesk state old → CausedIn state line given reply

-- What was asked of a desk.
pub record Asks (line : ScriptLine) (reply : Reply) (old new : DeskState) (given : List Answer) (before after : HostState) (random random' : WordsState) : Type 0 where
  pub seen : Seen
  pub was_seen : WasSeen seen given before after random random'
  pub turns : (state : ScriptState) → IsStateOf state old
      → Unfolds state.key state.sealed (MaySeal (SomeTurn state line) seen) (TurnsTo state new line seen reply) given []

-- where the book speaks of the name of a seat's session, it is covered
abbrev pub CoversSome : Option SessionState → Covering
CoversSome None = CoversNone
CoversSome (Some session) = Covers session

-- so for all seats of a desk
abbrev pub CoversDesk : DeskState → Covering
CoversDesk desk book seats = (k : ℕ) (session : SessionState) → session_at desk k ≡ Some session → Covers session book seats

-- what a step keeps of each book, at every moment and in the end
abbrev pub KeepsBooks : ScriptLine → DeskState → DeskState → HostState → HostState → Type 0
KeepsBooks line old new before after = OnDisk before after (KeepsUnder (CoversDesk old) (CoversDesk new) (ConcernsDesk line old))

-- a reply, of which only a fault of the host counts as a fault; and one of which only a fault of the random words does
abbrev pub is_host_fault : Reply → Bool
is_host_fault replies.HostFault = true
is_host_fault other = false

abbrev pub is_words_fault : Reply → Bool
is_words_fault replies.WordsFault = true
is_words_fault other = false

-- The counts rise exactly by the fault that is the reply.
abbrev pub CountsReply : Result Reply Memory → HostState → HostState → WordsState → WordsState → Type 0
CountsReply (Ok reply) before after random random' = CountsFault (is_host_fault reply) before.faults after.faults × CountsFault (is_words_fault reply) random.faults random'.faults
CountsReply (Err fault) before after random random' = (after.faults ≡ before.faults) × (random'.faults ≡ random.faults)

-- lines that take no memory
abbrev pub TakesNone : ScriptLine → Type 0
TakesNone lines.Blank = ⊤
TakesNone (lines.View seat path) = ⊤
TakesNone (lines.Flush seat) = ⊤
TakesNone (lines.Draw seat) = ⊤
TakesNone (lines.Close seat) = ⊤
TakesNone other = ⊥

-- lines that take no random words
abbrev pub TakesNoWords : ScriptLine → Type 0
TakesNoWords lines.Blank = ⊤
TakesNoWords (lines.Open seat name) = ⊤
TakesNoWords (lines.View seat path) = ⊤
TakesNoWords (lines.Read seat at count) = ⊤
TakesNoWords other = ⊥

-- lines that want memory before their first call alone, so that no answer is lost behind it
abbrev pub WantsEarly : ScriptLine → Type 0
WantsEarly (lines.Create seat name) = ⊤
WantsEarly (lines.Open seat name) = ⊤
WantsEarly (lines.Move seat name) = ⊤
WantsEarly other = ⊥

-- lines that change a content
abbrev pub IsChange : ScriptLine → Type 0
IsChange (lines.Write seat at bytes) = ⊤
IsChange (lines.Fill seat at count byte) = ⊤
IsChange (lines.Size seat size) = ⊤
IsChange other = ⊥

-- A session is as before, but for further nodes that it holds.
pub record HoldsMore (old new : SessionState) : Type 0 where
  pub fields : KeepsFields old new
  pub tree : KeepsTree old.tree new.tree
  pub held : (k : ℕ) (plain : List ℕ) → Held old.tree k plain → Held new.tree k plain

abbrev pub KeepsSession : Option SessionState → Option SessionState → Type 0
KeepsSession None new = new ≡ None
KeepsSession (Some old) new = IsSomeAnd new (HoldsMore old)

pub record SeatIdle (old new : Option SessionState) (before after : HostState) (random random' : WordsState) : Type 0 where
  pub seat : KeepsSession old new
  pub disk : KeepsDisk before after
  pub words : random' ≡ random

abbrev pub IsBrokenSession : Option SessionState → Type 0
IsBrokenSession new = IsSomeAnd new (λ session. session.broken ≡ true)

-- flushes of this name that were accepted
abbrev pub AreFlushes : Name → List Act → Type 0
AreFlushes name acts = (act : Act) → Contains acts act → (seal : Seal) × (act ≡ record { deed = Flush seal; done = true }) × (seal.name ≡ name)

-- how many zeros a line may have put behind a content of this length before a flush: none, and those of the steps of `size` before its last one
abbrev pub MayGrow : ScriptLine → ℕ → ℕ → Type 0
MayGrow (lines.Size seat size) held n = (n ≡ 0) ⊎ (held + n < size)
MayGrow other held n = n ≡ 0

-- each act is a flush that sealed this content, with zeros behind it where the line may have put some
abbrev pub SealsOnly : ScriptLine → List ℕ → List Act → Type 0
SealsOnly line content acts = (act : Act) → Contains acts act → (seal : Seal) × (n : ℕ) × (act.deed ≡ Flush seal) × (seal.sheet.content ≡ content ++ replicate n 0) × MayGrow line (length content) n

-- Under each book that agrees with the disk, with a seat under this sheet where it speaks of the session's name, nothing but such flushes was done to names. They sealed the content of the session,
-- and the seats on other names stay.
abbrev pub FlushesUnder : ScriptLine → SessionState → Honest → Honest → Type 0
FlushesUnder line session a b =
    (book : Book) (seats : List Seal) → Agrees book seats a.now → IsImage a.now (reading a.now) → (sheet : Sheet) → CoversOn sheet session book seats
    → (acts : List Act) × (left : List Seal) × DidAll book seats acts left a b × AreFlushes session.name acts × SparesSeats acts seats left
    × ((entry : Entry) → session.broken ≡ false → book session.name ≡ Some entry → SealsOnly line (now sheet session.tree) acts)

-- No rule refuses the line on a seat that is like the session, which is whole.
pub record Admits (line : ScriptLine) (session : SessionState) : Type 0 where
  pub whole : session.broken ≡ false
  pub none : (key : List ℕ) (taken : Bool) (seat : Seat) → IsLike seat (Some session) → NoneRefuses (rules key taken seat line [])

-- a seat's own broken
abbrev pub broken_of : Seat → Seat
broken_of Empty = Empty
broken_of (Own own) = Own (broken_seat own)

-- what a seat shows after want of memory: what it showed, or that broken
abbrev pub StillShows : List Sheet → Seat → Option SessionState → Type 0
StillShows sealed seat new = Shows sealed seat new ⊎ Shows sealed (broken_of seat) new

-- So whatever the seat showed, and whatever was sealed before, where nothing is forged.
abbrev pub SeatStillShows : List ℕ → Option SessionState → Option SessionState → List Answer → Type 0
SeatStillShows key old new given = (sealed : List Sheet) (seat : Seat) → Shows sealed seat old → Unforged key sealed given → StillShows sealed seat new

-- so for all seats of a desk
abbrev pub DeskStillShows : DeskState → DeskState → List Answer → Type 0
DeskStillShows old new given = (state : ScriptState) → IsStateOf state old → Unforged old.key state.sealed given → (k : ℕ) → StillShows state.sealed (seat_at state k) (session_at new k)

pub record SeatWants (key : List ℕ) (line : ScriptLine) (old new : Option SessionState) (before after : HostState) (random random' : WordsState) : Type 0 where
  pub takes : ¬ (TakesNone line)
  pub early : WantsEarly line → after ≡ before
  pub shows : WhereTold before after (SeatStillShows key old new)
  pub ends : SeatIdle old new before after random random' ⊎ (IsChange line × IsBrokenSession new × IsSomeAnd old (Admits line))
  pub flushes : (session : SessionState) → old ≡ Some session → OnDisk before after (FlushesUnder line session)

pub record NothingDone (old new : DeskState) (before after : HostState) (random random' : WordsState) : Type 0 where
  pub key_is : new.key ≡ old.key
  pub seats : (k : ℕ) → KeepsSession (session_at old k) (session_at new k)
  pub disk : KeepsDisk before after
  pub words : random' ≡ random

-- a change that no rule refuses, and for which there was no memory, leaves its seat broken
pub record BreaksSeat (line : ScriptLine) (old new : DeskState) : Type 0 where
  pub change : IsChange line
  pub seat : ℕ
  pub is_seat : seat_of_line line ≡ Some seat
  pub broken : IsBrokenSession (session_at new seat)
  pub admitted : IsSomeAnd (session_at old seat) (Admits line)

-- want of memory; what the host tells goes on
pub record Wants (line : ScriptLine) (old new : DeskState) (before after : HostState) (random random' : WordsState) : Type 0 where
  pub takes : ¬ (TakesNone line)
  pub early : WantsEarly line → after ≡ before
  pub shows : WhereTold before after (DeskStillShows old new)
  pub ends : NothingDone old new before after random random' ⊎ BreaksSeat line old new
  pub flushes : (k : ℕ) (session : SessionState) → seat_of_line line ≡ Some k → session_at old k ≡ Some session → OnDisk before after (FlushesUnder line session)

-- what an accepted reply to a line leaves in its seat
pub data IsAcceptance : Option SessionState → ScriptLine → Reply → Option SessionState → Type 0 where
  to_create : (k : ℕ) (name : Name) (new : SessionState) → new.name ≡ name → new.broken ≡ false → new.changed ≡ false → new.drawn ≡ None → new.tree.size ≡ 0 → IsAcceptance None (lines.Create k name) replies.Created (Some new)
  to_open : (k : ℕ) (name : Name) (new : SessionState) → new.name ≡ name → new.broken ≡ false → new.changed ≡ false → new.drawn ≡ None → IsAcceptance None (lines.Open k name) (replies.Opened new.tree.size) (Some new)
  to_read : (k at count : ℕ) (bytes : List ℕ) (old new : SessionState) → length bytes ≡ min count (old.tree.size - at) → HoldsMore old new → IsAcceptance (Some old) (lines.Read k at count) (replies.Given bytes) (Some new)
  to_write : (k at : ℕ) (bytes : List ℕ) (flushed : Bool) (old new : SessionState) → new.broken ≡ false → new.tree.size ≡ max old.tree.size (at + length bytes) → IsAcceptance (Some old) (lines.Write k at bytes) (replies.Written (length bytes) flushed) (Some new)
  to_fill : (k at count byte : ℕ) (flushed : Bool) (old new : SessionState) → new.broken ≡ false → new.tree.size ≡ max old.tree.size (at + count) → IsAcceptance (Some old) (lines.Fill k at count byte) (replies.Written count flushed) (Some new)
  to_size : (k n : ℕ) (old new : SessionState) → new.broken ≡ false → new.tree.size ≡ n → IsAcceptance (Some old) (lines.Size k n) (replies.Sized n) (Some new)
  to_flush : (k : ℕ) (old new : SessionState) → new.broken ≡ false → new.changed ≡ false → new.drawn ≡ None → new.tree.size ≡ old.tree.size → IsAcceptance (Some old) (lines.Flush k) replies.Flushed (Some new)
  to_move : (k : ℕ) (name : Name) (old new : SessionState) → new.name ≡ name → new.broken ≡ false → new.changed ≡ false → new.tree.size ≡ old.tree.size → IsAcceptance (Some old) (lines.Move k name) replies.Moved (Some new)
  to_draw : (k : ℕ) (nonce : List ℕ) (old new : SessionState) → new ≡ record old { drawn = Some nonce } → IsAcceptance (Some old) (lines.Draw k) (replies.Drawn nonce) (Some new)
  to_close : (k : ℕ) (old : SessionState) → IsAcceptance (Some old) (lines.Close k) (replies.Closed old.broken) None

-- what a fault of the host leaves there; a move whose first call failed has taken no random words
abbrev pub LeftAtFault : ScriptLine → Option SessionState → Option SessionState → WordsState → WordsState → Type 0
LeftAtFault lines.Blank old new random random' = ⊥
LeftAtFault (lines.Create k name) old new random random' = new ≡ old
LeftAtFault (lines.Open k name) old new random random' = new ≡ old
LeftAtFault (lines.View k path) old new random random' = ⊥
LeftAtFault (lines.Read k at count) old new random random' = KeepsSession old new
LeftAtFault (lines.Write k at bytes) old new random random' = IsBrokenSession new
LeftAtFault (lines.Fill k at count byte) old new random random' = IsBrokenSession new
LeftAtFault (lines.Size k n) old new random random' = IsBrokenSession new
LeftAtFault (lines.Flush k) old new random random' = IsBrokenSession new
LeftAtFault (lines.Move k name) old new random random' = ((new ≡ old) × (random' ≡ random)) ⊎ IsBrokenSession new
LeftAtFault (lines.Draw k) old new random random' = ⊥
LeftAtFault (lines.Close k) old new random random' = new ≡ None

-- what a damage leaves there: none is met where a file is made, and in a move only by calls that break the seat
abbrev pub LeftAtDamage : ScriptLine → Option SessionState → Option SessionState → WordsState → WordsState → Type 0
LeftAtDamage (lines.Create k name) old new random random' = ⊥
LeftAtDamage (lines.Move k name) old new random random' = IsBrokenSession new
LeftAtDamage other old new random random' = LeftAtFault other old new random random'

-- a session that grew by some steps of a piece, with more to come
pub record Grown (n : ℕ) (old new : SessionState) : Type 0 where
  pub whole : new.broken ≡ false
  pub steps : ℕ
  pub grown : new.tree.size ≡ old.tree.size + steps * PIECE
  pub some : 0 < steps
  pub more : new.tree.size < n

abbrev pub GrewTo : ℕ → Option SessionState → Option SessionState → Type 0
GrewTo n (Some old) (Some new) = Grown n old new
GrewTo n (Some old) None = ⊥
GrewTo n None new = ⊥

-- what is left where a random word was wanting: steps that a `size` line had made stand
abbrev pub LeftAtWords : ScriptLine → Option SessionState → Option SessionState → Type 0
LeftAtWords lines.Blank old new = ⊥
LeftAtWords (lines.Create k name) old new = new ≡ old
LeftAtWords (lines.Open k name) old new = ⊥
LeftAtWords (lines.View k path) old new = ⊥
LeftAtWords (lines.Read k at count) old new = ⊥
LeftAtWords (lines.Write k at bytes) old new = new ≡ old
LeftAtWords (lines.Fill k at count byte) old new = new ≡ old
LeftAtWords (lines.Size k n) old new = (new ≡ old) ⊎ GrewTo n old new
LeftAtWords (lines.Flush k) old new = new ≡ old
LeftAtWords (lines.Move k name) old new = new ≡ old
LeftAtWords (lines.Draw k) old new = new ≡ old
LeftAtWords (lines.Close k) old new = new ≡ None

-- What stands in the seat of a line after its reply, whatever is told or forged. A refusal leaves it, and takes no random words.
abbrev pub LeavesSeat : ScriptLine → Reply → Option SessionState → Option SessionState → WordsState → WordsState → Type 0
LeavesSeat line (replies.Refused why) old new random random' = (new ≡ old) × (random' ≡ random)
LeavesSeat line (replies.DamagedNode damage) old new random random' = LeftAtDamage line old new random random'
LeavesSeat line replies.HostFault old new random random' = LeftAtFault line old new random random'
LeavesSeat line replies.WordsFault old new random random' = LeftAtWords line old new
LeavesSeat line other old new random random' = IsAcceptance old line other new

-- What a line reads at most: `view` and `draw` ask for nothing, an opening reads once, and a read as often as there are touched nodes that were not held.
abbrev pub AsksFew : ScriptLine → Option SessionState → HostState → HostState → Type 0
AsksFew (lines.Open k name) old before after = CountsReads 1 before after
AsksFew (lines.View k path) old before after = after ≡ before
AsksFew (lines.Read k at count) None before after = after ≡ before
AsksFew (lines.Read k at count) (Some session) before after = ReadsFew at (min count (session.tree.size - at)) session.tree before after
AsksFew (lines.Draw k) old before after = after ≡ before
AsksFew other old before after = ⊤

abbrev pub WhereWanting : Result Reply Memory → Type 0 → Type 0
WhereWanting (Ok reply) P = ⊤
WhereWanting (Err fault) P = P

abbrev pub WhereReplied : Result Reply Memory → (Reply → Type 0) → Type 0
WhereReplied (Ok reply) P = P reply
WhereReplied (Err fault) P = ⊤

-- A line on one seat of a desk under this key.
pub record SeatGoes (key : List ℕ) (taken : Bool) (line : ScriptLine) (result : Result Reply Memory) (old new : Option SessionState) (before after : HostState) (random random' : WordsState) : Type 0 where
  pub asks : WhereReplied result (λ reply. WhereTold before after (λ given. SeatAsks key taken line reply old new given before after random random'))
  pub caused : WhereReplied result (λ reply. SeatCaused key taken line reply old before after)
  pub leaves : WhereReplied result (λ reply. LeavesSeat line reply old new random random')
  pub books : OnDisk before after (KeepsUnder (CoversSome old) (CoversSome new) (Concerns taken line old))
  pub counts : CountsReply result before after random random'
  pub wordless : TakesNoWords line → random' ≡ random
  pub few : AsksFew line old before after
  pub wants : WhereWanting result (SeatWants key line old new before after random random')
  pub seated : IsSeatOf key new
  pub named : (name : Name) → HasItsName new name → Concerns taken line old name
  pub spares : Spares (Concerns taken line old) before after

-- A line on a desk.
pub record DeskGoes (line : ScriptLine) (result : Result Reply Memory) (old new : DeskState) (before after : HostState) (random random' : WordsState) : Type 0 where
  pub key_is : new.key ≡ old.key
  pub asks : WhereReplied result (λ reply. WhereTold before after (λ given. Asks line reply old new given before after random random'))
  pub caused : WhereReplied result (λ reply. DeskCaused line reply old before after)
  pub leaves : WhereReplied result (λ reply. (k : ℕ) → seat_of_line line ≡ Some k → LeavesSeat line reply (session_at old k) (session_at new k) random random')
  pub others : (j : ℕ) → seat_of_line line ≢ Some j → session_at new j ≡ session_at old j
  pub books : KeepsBooks line old new before after
  pub named : KeepsNames line old new
  pub spares : Spares (ConcernsDesk line old) before after
  pub counts : CountsReply result before after random random'
  pub wordless : TakesNoWords line → random' ≡ random
  pub few : (k : ℕ) → seat_of_line line ≡ Some k → AsksFew line (session_at old k) before after
  pub silent : line ≡ lines.Blank → (new ≡ old) × (after ≡ before)
  pub wants : WhereWanting result (Wants line old new before after random random')

-- the closing of a seat after the last line: nothing is done for an empty one
abbrev pub EndGoes : ℕ → Option Reply → DeskState → DeskState → HostState → HostState → WordsState → WordsState → Type 0
EndGoes seat None old new before after random random' = (new ≡ old) × (after ≡ before) × (random' ≡ random)
EndGoes seat (Some reply) old new before after random random' = DeskGoes (lines.Close seat) (Ok reply) old new before after random random'
