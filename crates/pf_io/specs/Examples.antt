-- Crashes of small files, computed: what is left, and what is not.
use Rattle.std.specs.Prelude.{◌≡◌, ◌⊎◌, ℕ, List, [], ◌∷◌, ◌++◌, Some, None, Result, Ok}
use Rattle.pf_io.specs.Disk.{Name, File, Disk, Image, IsFileImage, IsImageAt, IsImage}
use Rattle.pf_io.specs.Steps.{Writes, Cuts, Syncs, Makes, Swaps, AtOnce}
use Rattle.pf_io.specs.Host.{Wrote, Swapped}
use Rattle.pf_io.specs.Replay.{Event, Call, Put, Traced, settled, written, shortened, after_all, empty, file_of, disk_of}

abbrev pub old_file : Traced
old_file = settled (1 ∷ 2 ∷ 3 ∷ 4 ∷ [])

-- a file in memory of which the middle was written over
abbrev pub middle_written : File
middle_written = file_of (written 1 (9 ∷ 9 ∷ []) old_file)

-- the write, part of it, any bytes in its place
pub record MiddleThere : Type 0 where
  pub reads : middle_written.bytes ≡ 1 ∷ 9 ∷ 9 ∷ 4 ∷ []
  pub done : IsFileImage middle_written (1 ∷ 9 ∷ 9 ∷ 4 ∷ [])
  pub undone : IsFileImage middle_written (1 ∷ 2 ∷ 3 ∷ 4 ∷ [])
  pub torn : IsFileImage middle_written (1 ∷ 9 ∷ 7 ∷ 4 ∷ [])

-- on each honest host, whether the write was done or faulted: no byte outside, and no other length
pub record MiddleNotThere (file : File) : Type 0 where
  pub before : (a b c d : ℕ) → IsFileImage file (a ∷ b ∷ c ∷ d ∷ []) → a ≡ 1
  pub behind : (a b c d : ℕ) → IsFileImage file (a ∷ b ∷ c ∷ d ∷ []) → d ≡ 4
  pub shorter : (a b c : ℕ) → IsFileImage file (a ∷ b ∷ c ∷ []) → ⊥
  pub longer : (a b c d e : ℕ) → IsFileImage file (a ∷ b ∷ c ∷ d ∷ e ∷ []) → ⊥

abbrev pub MiddleOnlyThere : Type 0
MiddleOnlyThere = (result : Result (Unit {0}) (Unit {0})) (file : File) → Writes 1 (9 ∷ 9 ∷ []) result (file_of old_file) file → MiddleNotThere file

-- a file in memory that was written past its end, with a gap of one byte
abbrev pub end_written : File
end_written = file_of (written 5 (9 ∷ []) old_file)

-- each length between, and any bytes past the old end
pub record EndThere : Type 0 where
  pub reads : end_written.bytes ≡ 1 ∷ 2 ∷ 3 ∷ 4 ∷ 0 ∷ 9 ∷ []
  pub undone : IsFileImage end_written (1 ∷ 2 ∷ 3 ∷ 4 ∷ [])
  pub part : IsFileImage end_written (1 ∷ 2 ∷ 3 ∷ 4 ∷ 7 ∷ [])
  pub torn : IsFileImage end_written (1 ∷ 2 ∷ 3 ∷ 4 ∷ 7 ∷ 7 ∷ [])

pub record EndNotThere (file : File) : Type 0 where
  pub before : (a b c d : ℕ) (rest : List ℕ) → IsFileImage file (a ∷ b ∷ c ∷ d ∷ rest) → d ≡ 4
  pub shorter : (a b c : ℕ) → IsFileImage file (a ∷ b ∷ c ∷ []) → ⊥
  pub longer : (a b c d e f g : ℕ) → IsFileImage file (a ∷ b ∷ c ∷ d ∷ e ∷ f ∷ g ∷ []) → ⊥

abbrev pub EndOnlyThere : Type 0
EndOnlyThere = (result : Result (Unit {0}) (Unit {0})) (file : File) → Writes 5 (9 ∷ []) result (file_of old_file) file → EndNotThere file

-- a file in memory that was cut
abbrev pub was_cut : File
was_cut = file_of (shortened 2 old_file)

-- each length between, and any bytes that were cut off
pub record CutThere : Type 0 where
  pub reads : was_cut.bytes ≡ 1 ∷ 2 ∷ []
  pub done : IsFileImage was_cut (1 ∷ 2 ∷ [])
  pub undone : IsFileImage was_cut (1 ∷ 2 ∷ 3 ∷ 4 ∷ [])
  pub torn : IsFileImage was_cut (1 ∷ 2 ∷ 7 ∷ [])

pub record CutNotThere (file : File) : Type 0 where
  pub before : (a b : ℕ) (rest : List ℕ) → IsFileImage file (a ∷ b ∷ rest) → b ≡ 2
  pub shorter : (a : ℕ) → IsFileImage file (a ∷ []) → ⊥
  pub longer : (a b c d e : ℕ) → IsFileImage file (a ∷ b ∷ c ∷ d ∷ e ∷ []) → ⊥

abbrev pub CutOnlyThere : Type 0
CutOnlyThere = (result : Result (Unit {0}) (Unit {0})) (file : File) → Cuts 2 result (file_of old_file) file → CutNotThere file

-- After a write and a sync that answered Ok a crash leaves what was read, and nothing else.
abbrev pub SyncedOnly : Type 0
SyncedOnly =
    (mid file : File) → Writes {T = Unit {0}} {E = Unit {0}} 1 (9 ∷ 9 ∷ []) (Ok tt) (file_of old_file) mid → Syncs {T = Unit {0}} {E = Unit {0}} (Ok tt) mid file
    → (bytes : List ℕ) → IsFileImage file bytes → bytes ≡ 1 ∷ 9 ∷ 9 ∷ 4 ∷ []

-- two names, `a` and `b`
abbrev pub A : Name
A = 97 ∷ []

abbrev pub B : Name
B = 98 ∷ []

-- a host in memory of which one file was written to, and a settled one stands beside it
abbrev pub two_files : List Event
two_files = Put B (5 ∷ []) ∷ Put A (1 ∷ 2 ∷ []) ∷ Call (Wrote A 1 (9 ∷ [])) ∷ []

abbrev pub two_files_disk : Disk
two_files_disk = disk_of (after_all two_files empty)

-- After a swap, done or not, the two names are both as before or both as after, and what was pending at the file moved with it.
pub record SwapLeaves (image : Image) : Type 0 where
  pub before_or_after : (((x : ℕ) × (image A ≡ Some (1 ∷ x ∷ []))) × (image B ≡ Some (5 ∷ []))) ⊎ ((image A ≡ None) × ((x : ℕ) × (image B ≡ Some (1 ∷ x ∷ []))))

abbrev pub SwapOnlyThere : Type 0
SwapOnlyThere = (result : Result (Unit {0}) (Unit {0})) (new : Disk) (image : Image) → AtOnce result (Swaps A B) two_files_disk new → IsImage new image → SwapLeaves image

-- in memory: the swap, and the file that it moved torn
pub record SwapThere : Type 0 where
  pub gone : disk_of (after_all (two_files ++ Call (Swapped A B) ∷ []) empty) A ≡ None
  pub torn : IsImageAt (disk_of (after_all (two_files ++ Call (Swapped A B) ∷ []) empty) B) (Some (1 ∷ 7 ∷ []))

-- Making a name anew leaves the old file or an empty one.
abbrev pub MakeOnlyThere : Type 0
MakeOnlyThere = (result : Result (Unit {0}) (Unit {0})) (new : Disk) (image : Image) → AtOnce result (Makes B) two_files_disk new → IsImage new image → (image B ≡ Some (5 ∷ [])) ⊎ (image B ≡ Some [])
