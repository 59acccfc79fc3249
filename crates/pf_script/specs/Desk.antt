-- What contracts see of a desk, and the state of a script that it shows.
use Rattle.std.specs.Prelude.{◌≡◌, ℕ, true, false, List, length, get_or, Contains, Option, Some, None, IsSomeAnd}
use Rattle.node_tree.specs.Backing.{now}
use Rattle.node_tree.specs.Sheet.{Sheet, IsLinked}
use Rattle.pf_session.specs.Moving.{IsKeptOn}
use Rattle.pf_session.specs.State.{SessionState}
use Rattle.pf_script.specs.BookSeats.{IsOfScript}
use Rattle.pf_script.specs.Script.{OwnSeat, Seat, Empty, Own, ScriptState, seat_at}
use Rattle.pf_script.specs.Words.{SEATS}

-- a key, and for each seat the session of its file, where it has one
pub record DeskState : Type 0 where
  pub key : List ℕ
  pub seats : List (Option SessionState)

abbrev pub session_at : DeskState → ℕ → Option SessionState
session_at desk k = get_or desk.seats k None

-- A session of a desk: it is of a script, under the desk's key, and where it is whole and not changed no node is dirty.
pub record IsSeated (key : List ℕ) (session : SessionState) : Type 0 where
  pub of_script : IsOfScript session
  pub key_is : session.key ≡ key
  pub clean : session.broken ≡ false → session.changed ≡ false → session.tree.dirty ≡ List.[]

-- so for the session of a seat, if it has one
abbrev pub IsSeatOf : List ℕ → Option SessionState → Type 0
IsSeatOf key None = Unit {0}
IsSeatOf key (Some session) = IsSeated key session

-- What holds of each desk: it has eight seats, and no two of them have one name.
pub record IsDesk (desk : DeskState) : Type 0 where
  pub eight : length desk.seats ≡ SEATS
  pub seated : (k : ℕ) (session : SessionState) → session_at desk k ≡ Some session → IsSeated desk.key session
  pub apart : (j k : ℕ) (session other : SessionState) → session_at desk j ≡ Some session → session_at desk k ≡ Some other → session.name ≡ other.name → j ≡ k

-- the seat that a session is, on a sheet that backs it
abbrev pub seat_on : Sheet → SessionState → OwnSeat
seat_on sheet session = record {
  key = session.key;
  name = session.name;
  sheet = sheet;
  content = now sheet session.tree;
  dirty = session.tree.dirty;
  changed = session.changed;
  drawn = session.drawn;
  broken = session.broken;
}

-- a seat has the key and the name of a session, is broken where it is, and where it is whole as large, and changed where it is
pub record IsLikeOwn (own : OwnSeat) (session : SessionState) : Type 0 where
  pub key_is : own.key ≡ session.key
  pub name_is : own.name ≡ session.name
  pub broken_is : own.broken ≡ session.broken
  pub as_large : session.broken ≡ false → length own.content ≡ session.tree.size
  pub changed_is : session.broken ≡ false → own.changed ≡ session.changed

-- so a seat of a script
abbrev pub IsLike : Seat → Option SessionState → Type 0
IsLike Empty session = session ≡ None
IsLike (Own own) session = IsSomeAnd session (IsLikeOwn own)

-- and all seats of a desk
pub record IsLikeDesk (state : ScriptState) (desk : DeskState) : Type 0 where
  pub key_is : state.key ≡ desk.key
  pub like : (k : ℕ) → IsLike (seat_at state k) (session_at desk k)

-- A seat shows a session: one that is whole stands on a sheet of those that were sealed, and one that is not changed has its content. Of a broken one nothing but its closing is left.
pub data Shows (sealed : List Sheet) (seat : Seat) (session : Option SessionState) : Type 0 where
  no_file : seat ≡ Empty → session ≡ None → Shows sealed seat session
  whole_file : (sheet : Sheet) (own : SessionState) → own.broken ≡ false → Contains sealed sheet → IsLinked sheet → IsKeptOn sheet own → seat ≡ Own (seat_on sheet own) → session ≡ Some own → Shows sealed seat session
  broken_file : (shown : OwnSeat) (own : SessionState) → own.broken ≡ true → shown.broken ≡ true → shown.key ≡ own.key → shown.name ≡ own.name → seat ≡ Own shown → session ≡ Some own → Shows sealed seat session

-- The state of a script is that of a desk.
pub record IsStateOf (state : ScriptState) (desk : DeskState) : Type 0 where
  pub key_is : state.key ≡ desk.key
  pub eight : length state.seats ≡ SEATS
  pub shows : (k : ℕ) → Shows state.sealed (seat_at state k) (session_at desk k)
