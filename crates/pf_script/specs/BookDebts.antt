-- What a call of a session owes to the book, on an honest disk: at every moment and in the end.
use Rattle.std.specs.Prelude.{◌≡◌, ◌≢◌, ◌⊎◌, ℕ, Bool, true, false, List, [], ◌∷◌, Contains, Option, Some, None}
use Rattle.pf_io.specs.Disk.{Name, Disk, Image, IsImage, IsImageAt, reading}
use Rattle.pf_io.specs.Moments.{Honest, Leaves, Where, Ran}
use Rattle.pf_io.specs.Names.{IsTarget}
use Rattle.pf_io.specs.Steps.{Stays}
use Rattle.node_tree.specs.Sheet.{Sheet}
use Rattle.pf_session.specs.Aside.{Apart}
use Rattle.pf_session.specs.Creating.{CreatesOn}
use Rattle.pf_session.specs.Moving.{MovedAs, MovedIf}
use Rattle.pf_session.specs.Reopening.{AsEither, EachReopens, ReopensEither, Stood}
use Rattle.pf_session.specs.Sealing.{StoodIf}
use Rattle.pf_session.specs.Restored.{Ready}
use Rattle.pf_script.specs.Book.{Book, Entry, Seal}
use Rattle.pf_script.specs.BookActs.{Deed, Opening, Creation, Flush, Move, Act, Names, booked, speaks}

-- nothing was changed
abbrev pub Unchanged : Honest → Honest → Type 0
Unchanged old new = Ran IsImage Stays old new

-- a name that the deed leaves alone; an opening changes nothing
abbrev pub IsApart : Deed → Name → Type 0
IsApart (Opening seal) other = Unit {0}
IsApart (Creation seal) other = Apart seal.name other
IsApart (Flush seal) other = Apart seal.name other
IsApart (Move from seal) other = Apart seal.name other × Apart from other

abbrev pub LeavesOthers : (Name → Type 0) → Disk → Image → Type 0
LeavesOthers apart disk image = (other : Name) → apart other → IsImageAt (disk other) (image other)

abbrev pub KeepsOthers : (Name → Type 0) → Disk → Disk → Type 0
KeepsOthers apart old new = (other : Name) → apart other → new other ≡ old other

-- the names of a deed may be those of protected files
abbrev pub AreTargets : Deed → Type 0
AreTargets (Opening seal) = IsTarget seal.name
AreTargets (Creation seal) = IsTarget seal.name
AreTargets (Flush seal) = IsTarget seal.name
AreTargets (Move from seal) = IsTarget seal.name × IsTarget from

-- a name that each of some deeds leaves alone
abbrev pub AreApart : List Act → Name → Type 0
AreApart acts other = (act : Act) → Contains acts act → IsApart act.deed other

-- Whatever stands at its names, a call leaves all others alone; and the disk reads as one of its images, as that of each honest host.
pub record SparesOthers (deed : Deed) (old new : Honest) : Type 0 where
  pub targets : AreTargets deed
  pub others : Ran (LeavesOthers (IsApart deed)) (KeepsOthers (IsApart deed)) old new
  pub reads : IsImage new.now (reading new.now)

-- A flush that had taken its words: where the file stood for a sheet, the image of the name at every moment reopens as this one or as the sealed one.
pub record Flushes (done : Bool) (base : Sheet) (seal : Seal) (old new : Honest) : Type 0 where
  pub path_is : seal.sheet.path ≡ seal.name
  pub sealed : Where (Stood seal.key seal.name base) (Ran (AsEither seal.key seal.name base seal.sheet) (StoodIf done seal.key seal.name seal.sheet)) old new

-- A creation that had taken its words.
pub record Creates (done : Bool) (seal : Seal) (old new : Honest) : Type 0 where
  pub path_is : seal.sheet.path ≡ seal.name
  pub creates : CreatesOn done seal.key seal.name seal.sheet old new

-- An opening, accepted or refused: whatever key the file has, and whatever key the opening was given.
pub record KeepsOpened (name : Name) (old new : Honest) : Type 0 where
  pub absent : old.now name ≡ None → Unchanged old new
  pub keeps : (key v w : List ℕ) → EachReopens key name v w old.now → Leaves (ReopensEither key name v w) old new
  pub ready : Ready old.now name → Ready new.now name

-- An accepted opening, of a name that reopens under the key and that may be opened: the name as path, and its file stands for the sheet.
pub record OpensOn (seal : Seal) (old new : Honest) : Type 0 where
  pub path_is : seal.sheet.path ≡ seal.name
  pub stood : (v w : List ℕ) → EachReopens seal.key seal.name v w old.now → Ready old.now seal.name → Stood seal.key seal.name seal.sheet new.now

-- A move that had taken its words and comes after its flush.
pub record Moves (done : Bool) (from : Name) (base : Sheet) (seal : Seal) (old new : Honest) : Type 0 where
  pub path_is : seal.sheet.path ≡ seal.name
  pub content_is : seal.sheet.content ≡ base.content
  pub sealed : Where (Stood seal.key from base) (Ran (λ disk. MovedAs seal.key from base seal.name seal.sheet) (MovedIf done seal.key from seal.name seal.sheet)) old new

-- a seat of this key and name that stands on the sheet
abbrev pub seat_of : List ℕ → Name → Sheet → Seal
seat_of key name sheet = record { key = key; name = name; sheet = sheet }

-- What a deed owes, by the entry of its name, with the seats before it: more where the book speaks of the name.
abbrev pub Owes : List Seal → Deed → Bool → Option Entry → Honest → Honest → Type 0
Owes seats (Opening seal) false entry old new = KeepsOpened seal.name old new
Owes seats (Opening seal) true None old new = KeepsOpened seal.name old new
Owes seats (Opening seal) true (Some entry) old new = KeepsOpened seal.name old new × (old.now seal.name ≢ None) × (speaks seal.key entry ≡ true → OpensOn seal old new)
Owes seats (Creation seal) done entry old new = Creates done seal old new
Owes seats (Flush seal) done None old new = Unit {0}
Owes seats (Flush seal) done (Some entry) old new = (base : Sheet) × Contains seats (seat_of seal.key seal.name base) × Flushes done base seal old new
Owes seats (Move from seal) done None old new = old.now seal.name ≡ None
Owes seats (Move from seal) done (Some entry) old new = (old.now seal.name ≡ None) × ((base : Sheet) × Contains seats (seat_of seal.key from base) × Moves done from base seal old new)

-- the name by whose entry the book goes on
abbrev pub subject : Deed → Name
subject (Opening seal) = seal.name
subject (Creation seal) = seal.name
subject (Flush seal) = seal.name
subject (Move from seal) = from

abbrev pub seal_of : Deed → Seal
seal_of (Opening seal) = seal
seal_of (Creation seal) = seal
seal_of (Flush seal) = seal
seal_of (Move from seal) = seal

-- the seat that a deed leaves
abbrev pub IsLeft : Deed → Bool → Seal → Type 0
IsLeft deed true seat = seat ≡ seal_of deed
IsLeft deed false seat = ⊥

-- The seats after a deed stood on other names before, or are the one that it leaves.
abbrev pub SeatsAfter : Deed → Bool → List Seal → List Seal → Type 0
SeatsAfter deed done old new = (seat : Seal) → Contains new seat → (Contains old seat × ¬ (Names deed seat.name)) ⊎ IsLeft deed done seat

-- One call of a session with its effect on the seats, under a book.
pub record Did (book : Book) (before after : List Seal) (deed : Deed) (done : Bool) (old new : Honest) : Type 0 where
  pub spares : SparesOthers deed old new
  pub owes : Owes before deed done (book (subject deed)) old new
  pub seats : SeatsAfter deed done before after

-- A step: its acts one after the other, with reads before each and at the end. A seat may go at any time.
abbrev pub DidAll : Book → List Seal → List Act → List Seal → Honest → Honest → Type 0
DidAll book before [] after old new = Unchanged old new × ((seat : Seal) → Contains after seat → Contains before seat)
DidAll book before (act ∷ acts) after old new =
    (start mid : Honest) × (between : List Seal) × Unchanged old start × Did book before between act.deed act.done start mid × DidAll (booked act.deed act.done book) between acts after mid new
