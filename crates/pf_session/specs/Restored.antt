-- What will be otherwise once a new version is written into the file itself.
use Rattle.std.specs.Prelude.{ℕ, List, Option}
use Rattle.pf_io.specs.Disk.{Name, Disk, Settled}
use Rattle.pf_io.specs.Host.{HostState}
use Rattle.pf_io.specs.Names.{side_of}
use Rattle.pf_session.specs.Aside.{ChangesAlone}

-- What a file and its recovery file restore to: as long as a new version takes the place of the last one at once, the file itself.
abbrev pub restored : Option (List ℕ) → Option (List ℕ) → Option (List ℕ)
restored here log = here

-- what an opening needs of the disk: until it syncs, that nothing is pending
abbrev pub Ready : Disk → Name → Type 0
Ready disk name = Settled disk name

-- As long as a new version is made as a side file, a session whose file stands beside its name changes the side file alone.
abbrev pub KeepsBeside : Name → HostState → HostState → Type 0
KeepsBeside name before after = ChangesAlone (side_of name) before after
