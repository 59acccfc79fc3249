-- The book of a script: under which key each name is kept, and as which contents it may reopen after a crash.
use Rattle.std.specs.Prelude.{◌≡◌, ◌≢◌, ◌⊎◌, ℕ, Bool, true, List, Option, Some, None, Contains}
use Rattle.pf_io.specs.Disk.{Name, Disk, Image}
use Rattle.pf_io.specs.Names.{IsTarget, recovery_of}
use Rattle.node_tree.specs.Sheet.{Sheet}
use Rattle.pf_session.specs.Reopening.{Reopens, LeftAt, Stood}
use Rattle.pf_session.specs.Restored.{Ready}
use Rattle.pf_script.specs.BookRules.{MayLeaveBoth}

-- `kept` is the content that was acknowledged last, or None where the name is absent; `tried` is the one that a call was sealing when it failed. `ready` says
-- that no call on the name has failed. Two names are each other's partner where a move from one to the other failed: each that is there has the content.
pub data Entry : Type 0 where
  Alone : (key : List ℕ) → (kept tried : Option (List ℕ)) → (ready : Bool) → Entry
  Partner : (key content : List ℕ) → (other : Name) → Entry

-- the names of which the book speaks
abbrev pub Book : Type 0
Book = Name → Option Entry

abbrev pub key_of : Entry → List ℕ
key_of (Alone key kept tried ready) = key
key_of (Partner key content other) = key

-- what is there, with its recovery file, is the kept content
abbrev pub IsKept : List ℕ → Name → Option (List ℕ) → Option (List ℕ) → Option (List ℕ) → Type 0
IsKept key name None here log = here ≡ None
IsKept key name (Some content) here log = Reopens key name content here log

-- it is the tried content
abbrev pub IsTried : List ℕ → Name → Option (List ℕ) → Option (List ℕ) → Option (List ℕ) → Type 0
IsTried key name None here log = ⊥
IsTried key name (Some content) here log = Reopens key name content here log

-- what is left of two names, of which one was moved to the other, or was to be
pub data IsMoved (key content : List ℕ) (name other : Name) (here log here2 log2 : Option (List ℕ)) : Type 0 where
  first_alone : Reopens key name content here log → here2 ≡ None → IsMoved key content name other here log here2 log2
  second_alone : here ≡ None → Reopens key other content here2 log2 → IsMoved key content name other here log here2 log2
  both_there : MayLeaveBoth → Reopens key name content here log → Reopens key other content here2 log2 → IsMoved key content name other here log here2 log2

-- what may be left at a name, with what at its recovery name
abbrev pub Leaving : Type 1
Leaving = Name → Option (List ℕ) → Option (List ℕ) → Type 0

-- all that may be left of a name is as its entry says
abbrev pub Fits : Leaving → Name → Entry → Type 0
Fits left name (Alone key kept tried ready) = (here log : Option (List ℕ)) → left name here log → IsKept key name kept here log ⊎ IsTried key name tried here log
Fits left name (Partner key content other) = (here log here2 log2 : Option (List ℕ)) → left name here log → left other here2 log2 → IsMoved key content name other here log here2 log2

abbrev pub FitsBook : Leaving → Book → Type 0
FitsBook left book = (name : Name) (entry : Entry) → book name ≡ Some entry → Fits left name entry

-- what an image has at a name and at its recovery name
pub record HasAt (image : Image) (name : Name) (here log : Option (List ℕ)) : Type 0 where
  pub file : here ≡ image name
  pub recovery : log ≡ image (recovery_of name)

-- an image is as the book says
abbrev pub ImageFits : Book → Image → Type 0
ImageFits book image = FitsBook (HasAt image) book

-- a sheet under a key at a name: of a seat that stands on it, or of what a call seals or opens
pub record Seal : Type 0 where
  pub key : List ℕ
  pub name : Name
  pub sheet : Sheet

-- a name of the book with a seat: its content is kept, and its file stands for the seat's sheet
pub record IsSeated (seat : Seal) (entry : Entry) (disk : Disk) : Type 0 where
  pub entry_is : entry ≡ Alone seat.key (Some seat.sheet.content) None true
  pub path_is : seat.sheet.path ≡ seat.name
  pub stood : Stood seat.key seat.name seat.sheet disk

-- The book, the seats of protected files that are not broken, and the disk fit together.
pub record Agrees (book : Book) (seats : List Seal) (disk : Disk) : Type 0 where
  pub targets : (name : Name) (entry : Entry) → book name ≡ Some entry → IsTarget name
  pub partners : (name other : Name) (key content : List ℕ) → book name ≡ Some (Partner key content other) → (book other ≡ Some (Partner key content name)) × (other ≢ name)
  pub images : FitsBook (LeftAt disk) book
  pub calm : (name : Name) (key : List ℕ) (kept tried : Option (List ℕ)) → book name ≡ Some (Alone key kept tried true) → Ready disk name
  pub stand : (seat : Seal) (entry : Entry) → Contains seats seat → book seat.name ≡ Some entry → IsSeated seat entry disk
