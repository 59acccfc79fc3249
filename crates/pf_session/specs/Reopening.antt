-- When what a crash leaves reopens, and as which sealed version.
use Rattle.std.specs.Prelude.{◌≡◌, ◌⊎◌, ℕ, List, Option, Some}
use Rattle.pf_io.specs.Disk.{Name, File, Disk, Image, IsImageAt, IsSettledFile, Settled, reading}
use Rattle.pf_io.specs.Host.{contents}
use Rattle.pf_io.specs.Names.{recovery_of}
use Rattle.node_tree.specs.Sheet.{Sheet, Stands}
use Rattle.pf_session.specs.Restored.{restored}

-- a file, with its recovery file, reopens under the key as this sheet
pub record ReopensAs (key : List ℕ) (sheet : Sheet) (here log : Option (List ℕ)) : Type 0 where
  pub file : List ℕ
  pub whole : restored here log ≡ Some file
  pub stands : Stands file key sheet

-- it reopens as this content, with the name as its path
pub record Reopens (key : List ℕ) (name : Name) (content : List ℕ) (here log : Option (List ℕ)) : Type 0 where
  pub sheet : Sheet
  pub path_is : sheet.path ≡ name
  pub content_is : sheet.content ≡ content
  pub as_sheet : ReopensAs key sheet here log

-- the image of the name reopens as the sheet
abbrev pub LeftAs : List ℕ → Name → Sheet → Image → Type 0
LeftAs key name sheet image = ReopensAs key sheet (image name) (image (recovery_of name))

-- as one of two sheets
abbrev pub AsEither : List ℕ → Name → Sheet → Sheet → Disk → Image → Type 0
AsEither key name base next disk image = LeftAs key name base image ⊎ LeftAs key name next image

-- what a crash of the disk may leave at a name and at its recovery name
pub record LeftAt (disk : Disk) (name : Name) (here log : Option (List ℕ)) : Type 0 where
  pub file : IsImageAt (disk name) here
  pub recovery : IsImageAt (disk (recovery_of name)) log

-- each image of the name reopens as one of the two contents
abbrev pub EachReopens : List ℕ → Name → List ℕ → List ℕ → Disk → Type 0
EachReopens key name v w disk = (here log : Option (List ℕ)) → LeftAt disk name here log → Reopens key name v here log ⊎ Reopens key name w here log

-- the image of the name reopens as one of the two contents
abbrev pub ReopensEither : List ℕ → Name → List ℕ → List ℕ → Disk → Image → Type 0
ReopensEither key name v w disk image = Reopens key name v (image name) (image (recovery_of name)) ⊎ Reopens key name w (image name) (image (recovery_of name))

-- nothing is pending at the name, and its file stands for the sheet
pub record Stood (key : List ℕ) (name : Name) (sheet : Sheet) (disk : Disk) : Type 0 where
  pub settled : Settled disk name
  pub as_sheet : ReopensAs key sheet (reading disk name) (reading disk (recovery_of name))

-- what a read of the name gives stands for the sheet, whatever is pending at it
abbrev pub ReadsAs : List ℕ → Name → Sheet → Disk → Type 0
ReadsAs key name sheet disk = Stands (contents (reading disk name)) key sheet

-- the name has a file that stands for the sheet, and nothing is pending at it; of its recovery file nothing is said
pub record HasSheet (key : List ℕ) (name : Name) (sheet : Sheet) (disk : Disk) : Type 0 where
  pub file : File
  pub there : disk name ≡ Some file
  pub settled : IsSettledFile file
  pub stands : Stands file.bytes key sheet
