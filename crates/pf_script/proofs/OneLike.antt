-- Two runs side by side: what of their seats, acts and files is alike.
use Rattle.std.proofs.Common.{◌≡◌, ℕ, List, [], ◌∷◌, length, Option, Some}
use Rattle.node_tree.specs.Sheet.{Sheet, Stands}
use Rattle.pf_io.specs.Disk.{Name, Files}
use Rattle.pf_io.specs.Names.{IsTarget}
use Rattle.pf_script.specs.Book.{Seal}
use Rattle.pf_script.specs.BookActs.{Deed, Opening, Creation, Flush, Move, Act}
use Rattle.pf_script.specs.Script.{OwnSeat, Seat, Empty, Own, ScriptState, seat_at}
use Rattle.pf_script.specs.declared.reply.Reply.{Reply}

-- sheets of one content, with this path
pub record LikeSheet (name : Name) (sheet other : Sheet) : Type 0 where
  pub path : sheet.path ≡ name
  pub other_path : other.path ≡ name
  pub content : sheet.content ≡ other.content

-- seats under this key that differ in their sheets alone
pub record LikeOwn (key : List ℕ) (own other : OwnSeat) : Type 0 where
  pub key_is : own.key ≡ key
  pub other_key : other.key ≡ key
  pub name : own.name ≡ other.name
  pub content : own.content ≡ other.content
  pub dirty : own.dirty ≡ other.dirty
  pub changed : own.changed ≡ other.changed
  pub drawn : own.drawn ≡ other.drawn
  pub broken : own.broken ≡ other.broken

pub data LikeSeat (key : List ℕ) : Seat → Seat → Type 0 where
  both_empty : LikeSeat key Empty Empty
  both_own : (own other : OwnSeat) → LikeOwn key own other → LikeSeat key (Own own) (Own other)

pub record LikeState (key : List ℕ) (state other : ScriptState) : Type 0 where
  pub key_is : state.key ≡ key
  pub other_key : other.key ≡ key
  pub long : length state.seats ≡ length other.seats
  pub seats : (k : ℕ) → LikeSeat key (seat_at state k) (seat_at other k)

pub record LikeSeal (key : List ℕ) (seal other : Seal) : Type 0 where
  pub key_is : seal.key ≡ key
  pub other_key : other.key ≡ key
  pub name : seal.name ≡ other.name
  pub sheet : LikeSheet seal.name seal.sheet other.sheet

pub data LikeDeed (key : List ℕ) : Deed → Deed → Type 0 where
  openings : (seal other : Seal) → LikeSeal key seal other → LikeDeed key (Opening seal) (Opening other)
  creations : (seal other : Seal) → LikeSeal key seal other → LikeDeed key (Creation seal) (Creation other)
  flushes : (seal other : Seal) → LikeSeal key seal other → LikeDeed key (Flush seal) (Flush other)
  moves : (from start : Name) (seal other : Seal) → from ≡ start → LikeSeal key seal other → LikeDeed key (Move from seal) (Move start other)

abbrev pub LikeActs : List ℕ → List Act → List Act → Type 0
LikeActs key [] [] = Unit {0}
LikeActs key [] (other ∷ others) = ⊥
LikeActs key (act ∷ acts) [] = ⊥
LikeActs key (act ∷ acts) (other ∷ others) = LikeDeed key act.deed other.deed × LikeActs key acts others

abbrev pub LikeSheets : Name → List Sheet → List Sheet → Type 0
LikeSheets name [] [] = Unit {0}
LikeSheets name [] (other ∷ others) = ⊥
LikeSheets name (sheet ∷ sheets) [] = ⊥
LikeSheets name (sheet ∷ sheets) (other ∷ others) = LikeSheet name sheet other × LikeSheets name sheets others

-- a name has the same bytes, or files that stand for sheets of one content, with the name as path
pub data LikeFile (key : List ℕ) (name : Name) (here there : Option (List ℕ)) : Type 0 where
  same_bytes : here ≡ there → LikeFile key name here there
  both_stand : (file other : List ℕ) (sheet base : Sheet) → here ≡ Some file → there ≡ Some other → Stands file key sheet → Stands other key base → LikeSheet name sheet base → LikeFile key name here there

-- the name may be one of a protected file
abbrev pub MayBeTarget : Name → Type 0
MayBeTarget name = ¬ (¬ (IsTarget name))

abbrev pub LikeFiles : List ℕ → Files → Files → Type 0
LikeFiles key files others = (name : Name) → MayBeTarget name → LikeFile key name (files name) (others name)

-- what two steps come to
pub record LikeEnds (key : List ℕ) (reply say : Reply) (words takes : List (List ℕ)) (acts others : List Act) (after left : Seat) : Type 0 where
  pub reply_is : reply ≡ say
  pub words_are : words ≡ takes
  pub acts_are : LikeActs key acts others
  pub seat_is : LikeSeat key after left
