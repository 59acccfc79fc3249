-- A disk: its files, and what a crash may leave of them.
use Rattle.std.specs.Prelude.{◌≡◌, ℕ, ◌<◌, ◌≤◌, Bool, true, List, length, slice_get, Option, Some, None}
use Rattle.pf_io.specs.Names.{recovery_of}

-- the bytes of a name
abbrev pub Name : Type 0
Name = List ℕ

-- what a read of each name gives: its bytes, or None where it is absent
abbrev pub Files : Type 0
Files = Name → Option (List ℕ)

-- A file: the bytes that a read gives, the places whose byte a crash keeps, and the shortest and the longest length that a crash may leave.
pub record File : Type 0 where
  pub bytes : List ℕ
  pub keeps : ℕ → Bool
  pub shortest : ℕ
  pub longest : ℕ

abbrev pub Disk : Type 0
Disk = Name → Option File

-- what a crash leaves: at each name bytes, or nothing
abbrev pub Image : Type 0
Image = Files

-- A crash may leave these bytes of the file: any length between the two, and any bytes but at the places that are kept.
pub record IsFileImage (file : File) (bytes : List ℕ) : Type 0 where
  pub no_shorter : file.shortest ≤ length bytes
  pub no_longer : length bytes ≤ file.longest
  pub kept : (i : ℕ) → file.keeps i ≡ true → slice_get bytes i ≡ slice_get file.bytes i

-- Names are kept: a file leaves bytes, and an absent name leaves nothing.
abbrev pub IsImageAt : Option File → Option (List ℕ) → Type 0
IsImageAt (Some file) (Some bytes) = IsFileImage file bytes
IsImageAt (Some file) None = ⊥
IsImageAt None (Some bytes) = ⊥
IsImageAt None None = Unit {0}

-- A crash of the disk may leave this: an image of each of its files.
abbrev pub IsImage : Disk → Image → Type 0
IsImage disk image = (name : Name) → IsImageAt (disk name) (image name)

-- nothing is pending: a crash leaves what a read gives
pub record IsSettledFile (file : File) : Type 0 where
  pub no_shorter : length file.bytes ≤ file.shortest
  pub no_longer : file.longest ≤ length file.bytes
  pub keeps : (i : ℕ) → i < length file.bytes → file.keeps i ≡ true

abbrev pub IsSettledAt : Option File → Type 0
IsSettledAt (Some file) = IsSettledFile file
IsSettledAt None = Unit {0}

-- nothing is pending at the name and at its recovery name
pub record Settled (disk : Disk) (name : Name) : Type 0 where
  pub file : IsSettledAt (disk name)
  pub recovery : IsSettledAt (disk (recovery_of name))

-- what a read gives at a name
abbrev pub read_of : Option File → Option (List ℕ)
read_of (Some file) = Some file.bytes
read_of None = None

-- the disk as it reads
abbrev pub reading : Disk → Files
reading disk name = read_of (disk name)

-- A crash of the old disk left the new one: what it reads is an image of the old one, and nothing is pending.
pub record IsCrashOf (old new : Disk) : Type 0 where
  pub image : IsImage old (reading new)
  pub settled : (name : Name) → IsSettledAt (new name)
