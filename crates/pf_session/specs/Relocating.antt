-- A file that is copied to a new name under a new node 0, and taken away from the old one.
use Rattle.std.specs.Prelude.{◌≡◌, ◌≢◌, ℕ, ◌+◌, ◌*◌, ◌<◌, ◌≤◌, List, [], ◌∷◌, ◌++◌, length, Contains, slice_get, Some, None, Result, Ok, Err}
use Rattle.pf_io.specs.Disk.{Name, File, Disk, Image, IsImageAt, IsSettledFile, IsSettledAt, read_of}
use Rattle.pf_io.specs.Host.{Answer, Wrote, Synced, Made, Swapped, Removed, HostState, contents}
use Rattle.pf_io.specs.Names.{recovery_of, side_of}
use Rattle.pf_io.specs.Steps.{KeepsOthers, overwrite}
use Rattle.pf_session.specs.Aside.{LeavesApartBoth, KeepsApartBoth}
use Rattle.pf_session.specs.Asking.{NoCall, Asked, Stopped}
use Rattle.pf_session.specs.Copying.{copied, AreBlocksOf}
use Rattle.pf_session.specs.Making.{ReplaceShort}
use Rattle.pf_session.specs.declared.fault.FlushFault.{FlushFault}
use Rattle.pf_session.specs.declared.fault.FlushFault.TheVariants as faults

-- node 0 is written, and the file is synced
abbrev pub put_steps : Name → List ℕ → List Answer
put_steps name node = Wrote name 0 node ∷ Synced name ∷ []

-- the side file is made and gets the nodes of a file and a node 0
abbrev pub copy_steps : Name → Name → List ℕ → List ℕ → List (List ℕ) → List Answer
copy_steps from side node numbers blocks = Made side ∷ copied from side numbers blocks ++ put_steps side node

-- once nothing is pending at the recovery name the side file takes the new name, and the old name is removed
abbrev pub name_steps : Name → Name → List Answer
name_steps from to = Synced (recovery_of to) ∷ Swapped (side_of to) to ∷ Removed from ∷ []

abbrev pub relocate_steps : Name → Name → List ℕ → List ℕ → List (List ℕ) → List Answer
relocate_steps from to node numbers blocks = copy_steps from (side_of to) node numbers blocks ++ name_steps from to

-- a file that was there has the node in front, and nothing is pending at it
pub record PutsNode (name : Name) (node : List ℕ) (old new : Disk) : Type 0 where
  pub others : KeepsOthers name old new
  pub there : (file : File) → old name ≡ Some file → (file' : File) × (new name ≡ Some file') × IsSettledFile file' × (file'.bytes ≡ overwrite 0 node file.bytes)

abbrev pub PutLeaves : {T E : Type 0} → Result T E → Name → List ℕ → Disk → Disk → Type 0
PutLeaves (Ok done) name node old new = PutsNode name node old new
PutLeaves (Err fault) name node old new = KeepsOthers name old new

-- bytes that have a node 0 and the other nodes of a file
pub record IsCopyOf (node numbers old bytes : List ℕ) : Type 0 where
  pub at_least : 4096 ≤ length bytes
  pub front : (i : ℕ) → i < 4096 → slice_get bytes i ≡ slice_get node i
  pub whole : (k : ℕ) → Contains numbers k → 4096 * k + 4096 ≤ length bytes
  pub same : (k i : ℕ) → Contains numbers k → 4096 * k ≤ i → i < 4096 * k + 4096 → slice_get bytes i ≡ slice_get old i

-- the side file is such a copy, and nothing is pending at it
pub record HasCopy (from side : Name) (node numbers : List ℕ) (old new : Disk) : Type 0 where
  pub others : KeepsOthers side old new
  pub file : File
  pub there : new side ≡ Some file
  pub settled : IsSettledFile file
  pub copy : IsCopyOf node numbers (contents (read_of (old from))) file.bytes

abbrev pub MakesCopy : {T E : Type 0} → Result T E → Name → Name → List ℕ → List ℕ → Disk → Disk → Type 0
MakesCopy (Ok done) from side node numbers old new = HasCopy from side node numbers old new
MakesCopy (Err fault) from side node numbers old new = KeepsOthers side old new

-- all calls were answered
pub record CopyMade (from side : Name) (node numbers : List ℕ) (before after : HostState) : Type 0 where
  pub blocks : List (List ℕ)
  pub are_blocks : AreBlocksOf numbers blocks
  pub asked : Asked (copy_steps from side node numbers blocks) NoCall before after

-- one of them failed
pub record CopyFailed (from side : Name) (node numbers : List ℕ) (before after : HostState) : Type 0 where
  pub blocks : List (List ℕ)
  pub are_blocks : AreBlocksOf numbers blocks
  pub stopped : Stopped (copy_steps from side node numbers blocks) before after

abbrev pub CopyFileGoes : Result (Unit {0}) FlushFault → Name → Name → List ℕ → List ℕ → HostState → HostState → Type 0
CopyFileGoes (Ok done) from side node numbers before after = CopyMade from side node numbers before after
CopyFileGoes (Err faults.Words) from side node numbers before after = ⊥
CopyFileGoes (Err (faults.Damaged damage)) from side node numbers before after = ReplaceShort from side numbers damage before after
CopyFileGoes (Err faults.Host) from side node numbers before after = CopyFailed from side node numbers before after

-- An image of the two names: as they were, or the new name has the file, and then the old one may be gone.
pub data NamedAs (from to : Name) (file : File) (disk : Disk) (image : Image) : Type 0 where
  not_yet : IsImageAt (disk from) (image from) → IsImageAt (disk to) (image to) → NamedAs from to file disk image
  both : IsImageAt (disk from) (image from) → image to ≡ Some file.bytes → NamedAs from to file disk image
  new_alone : image from ≡ None → image to ≡ Some file.bytes → NamedAs from to file disk image

-- so it is of a settled side file
pub record NameImage (from to : Name) (disk : Disk) (image : Image) : Type 0 where
  pub apart : LeavesApartBoth from to disk image
  pub names : (file : File) → from ≢ to → disk (side_of to) ≡ Some file → IsSettledFile file → NamedAs from to file disk image

-- the new name has the side file, and the old one is gone
pub record IsNamed (from to : Name) (old new : Disk) : Type 0 where
  pub apart : KeepsApartBoth from to old new
  pub gone : new from ≡ None
  pub recovery : IsSettledAt (new (recovery_of to))
  pub named : (file : File) → from ≢ to → old (side_of to) ≡ Some file → new to ≡ Some file

abbrev pub NameLeaves : {T E : Type 0} → Result T E → Name → Name → Disk → Disk → Type 0
NameLeaves (Ok done) from to old new = IsNamed from to old new
NameLeaves (Err fault) from to old new = KeepsApartBoth from to old new

-- An image of the two names: as they were, or the new name has a copy, and then the old one may be gone.
pub data RelocatedAs (from to : Name) (node numbers : List ℕ) (disk : Disk) (image : Image) : Type 0 where
  not_yet : IsImageAt (disk from) (image from) → IsImageAt (disk to) (image to) → RelocatedAs from to node numbers disk image
  both : (bytes : List ℕ) → IsCopyOf node numbers (contents (read_of (disk from))) bytes → IsImageAt (disk from) (image from) → image to ≡ Some bytes → RelocatedAs from to node numbers disk image
  new_alone : (bytes : List ℕ) → IsCopyOf node numbers (contents (read_of (disk from))) bytes → image from ≡ None → image to ≡ Some bytes → RelocatedAs from to node numbers disk image

pub record RelocateImage (from to : Name) (node numbers : List ℕ) (disk : Disk) (image : Image) : Type 0 where
  pub apart : LeavesApartBoth from to disk image
  pub names : from ≢ to → RelocatedAs from to node numbers disk image

-- the new name has a copy, the old one is gone, and nothing is pending at the new one and at its recovery name
pub record IsRelocated (from to : Name) (node numbers : List ℕ) (old new : Disk) : Type 0 where
  pub apart : KeepsApartBoth from to old new
  pub gone : new from ≡ None
  pub recovery : IsSettledAt (new (recovery_of to))
  pub named : from ≢ to → (file : File) × (new to ≡ Some file) × IsSettledFile file × IsCopyOf node numbers (contents (read_of (old from))) file.bytes

abbrev pub RelocateLeaves : {T E : Type 0} → Result T E → Name → Name → List ℕ → List ℕ → Disk → Disk → Type 0
RelocateLeaves (Ok done) from to node numbers old new = IsRelocated from to node numbers old new
RelocateLeaves (Err fault) from to node numbers old new = KeepsApartBoth from to old new

pub record Relocated (from to : Name) (node numbers : List ℕ) (before after : HostState) : Type 0 where
  pub blocks : List (List ℕ)
  pub are_blocks : AreBlocksOf numbers blocks
  pub asked : Asked (relocate_steps from to node numbers blocks) NoCall before after

pub record RelocateStopped (from to : Name) (node numbers : List ℕ) (before after : HostState) : Type 0 where
  pub blocks : List (List ℕ)
  pub are_blocks : AreBlocksOf numbers blocks
  pub stopped : Stopped (relocate_steps from to node numbers blocks) before after

-- All calls were answered; or of a node too few bytes were given; or one of them failed.
abbrev pub RelocateGoes : Result (Unit {0}) FlushFault → Name → Name → List ℕ → List ℕ → HostState → HostState → Type 0
RelocateGoes (Ok done) from to node numbers before after = Relocated from to node numbers before after
RelocateGoes (Err faults.Words) from to node numbers before after = ⊥
RelocateGoes (Err (faults.Damaged damage)) from to node numbers before after = ReplaceShort from (side_of to) numbers damage before after
RelocateGoes (Err faults.Host) from to node numbers before after = RelocateStopped from to node numbers before after
