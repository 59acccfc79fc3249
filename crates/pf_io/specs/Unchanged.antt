-- Calls that change nothing of an honest disk, and calls that change nothing that is read of it.
use Rattle.std.specs.Prelude.{◌≡◌}
use Rattle.pf_io.specs.Disk.{Name, File, Disk, IsImage}
use Rattle.pf_io.specs.Moments.{Ran}
use Rattle.pf_io.specs.Steps.{Follows, RisksNoMore, Stays}
use Rattle.pf_io.specs.Host.{HostState, OnDisk}

-- Nothing was changed, as by `len` and `read_at` alone: a crash at any moment leaves what it might have left before, and the
-- disk is as it was.
abbrev pub KeepsDisk : HostState → HostState → Type 0
KeepsDisk old new = OnDisk old new (Ran IsImage Stays)

-- the file reads as before, and a crash may leave no more than before
pub record ReadsAsBefore (old new : File) : Type 0 where
  pub bytes : new.bytes ≡ old.bytes
  pub risks : RisksNoMore old new

-- so at each name, and an absent one stays absent
abbrev pub AllReadAsBefore : Disk → Disk → Type 0
AllReadAsBefore old new = (name : Name) → Follows ReadsAsBefore (old name) (new name)

-- Files were read, and at most synced: a crash at any moment leaves what it might have left before, and in the end each name
-- reads as before and risks no more.
abbrev pub OnlyReads : HostState → HostState → Type 0
OnlyReads old new = OnDisk old new (Ran IsImage AllReadAsBefore)
