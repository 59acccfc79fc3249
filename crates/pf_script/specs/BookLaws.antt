-- What the book of a script comes to over a step, and with which book a run begins.
use Rattle.std.specs.Prelude.{◌≡◌, ℕ, true, List, Some, None}
use Rattle.pf_io.specs.Disk.{Name, Disk, IsImage, Settled, reading}
use Rattle.pf_io.specs.Moments.{Honest, LeavesOnly}
use Rattle.pf_io.specs.Names.{IsTarget, recovery_of}
use Rattle.pf_session.specs.Reopening.{Reopens}
use Rattle.pf_script.specs.Book.{Book, Entry, Alone, Seal, Agrees}
use Rattle.pf_script.specs.BookActs.{Act, booked_all, FitsDuring}
use Rattle.pf_script.specs.BookDebts.{DidAll}

-- From a book that agrees with the disk, whatever was done: at every moment an image is as the book says at some point of the step, and in the end the book after
-- it agrees with the disk.
abbrev pub KeepsBook : Type 0
KeepsBook =
    (book : Book) (before after : List Seal) (acts : List Act) (old new : Honest) → Agrees book before old.now → IsImage old.now (reading old.now) → DidAll book before acts after old new
    → Agrees (booked_all acts book) after new.now × LeavesOnly (FitsDuring book acts) old new

-- a name of the book with which a run begins: settled, and it reopens under the key that the run uses for it
pub record IsStart (disk : Disk) (name : Name) (entry : Entry) : Type 0 where
  pub key : List ℕ
  pub content : List ℕ
  pub entry_is : entry ≡ Alone key (Some content) None true
  pub target : IsTarget name
  pub settled : Settled disk name
  pub reopens : Reopens key name content (reading disk name) (reading disk (recovery_of name))

abbrev pub StartsWith : Book → Disk → Type 0
StartsWith book disk = (name : Name) (entry : Entry) → book name ≡ Some entry → IsStart disk name entry

-- What a run of steps comes to, from a book with which it began: acts that were done, with images as the book says at some point of them, and in the end the book
-- after them agrees with the disk.
pub record RunKeeps (book : Book) (old new : Honest) : Type 0 where
  pub acts : List Act
  pub left : List Seal
  pub leaves : LeavesOnly (FitsDuring book acts) old new
  pub agrees : Agrees (booked_all acts book) left new.now
