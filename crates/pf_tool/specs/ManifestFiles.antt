-- The reading of a manifest from its file.
use Rattle.std.specs.Prelude.{◌≡◌, ℕ, List, Result, Ok, Err}
use Rattle.manifest_model.specs.Listed.{Seen, ReadsAs}
use Rattle.manifest_model.specs.declared.fault.ManifestFault.{ManifestFault}
use Rattle.pf_io.specs.Disk.{Name, Files}
use Rattle.pf_io.specs.Unchanged.{KeepsDisk}
use Rattle.pf_tool.specs.World.{World}
use Rattle.pf_tool.specs.Events.{Event}
use Rattle.pf_tool.specs.Endings.{Ending, Refused, BadManifest, AtEnd}
use Rattle.pf_tool.specs.Happened.{Passed}
use Rattle.pf_tool.specs.InputFiles.{InputReads, InputLeads, InputRead, InputOver}
use Rattle.pf_tool.specs.Outcomes.{IsFaultOf, Falls}
use Rattle.pf_tool.specs.declared.fault.Fault.{Fault}
use Rattle.pf_tool.specs.declared.fault.Fault.TheVariants as faults

-- What the reading comes to by the events: the manifest, or why there is none.
pub data ManifestReads (name : Name) (events : List Event) (result : Result Seen Ending) : Type 0 where
  manifest_unread : (ending : Ending) → InputReads name events (Err ending) → result ≡ Err ending → ManifestReads name events result
  no_manifest : (text : List ℕ) (why : ManifestFault) → InputReads name events (Ok text) → ReadsAs text (Err why) → result ≡ Err (Refused (BadManifest why)) → ManifestReads name events result
  manifest_seen : (text : List ℕ) (seen : Seen) → InputReads name events (Ok text) → ReadsAs text (Ok seen) → result ≡ Ok seen → ManifestReads name events result

-- the manifest that files give, or why there is none
pub data ManifestFrom (files : Files) (name : Name) (result : Result Seen Ending) : Type 0 where
  from_unread : (ending : Ending) → InputOver files name (Err ending) → result ≡ Err ending → ManifestFrom files name result
  from_refused : (text : List ℕ) (why : ManifestFault) → InputOver files name (Ok text) → ReadsAs text (Err why) → result ≡ Err (Refused (BadManifest why)) → ManifestFrom files name result
  from_seen : (text : List ℕ) (seen : Seen) → InputOver files name (Ok text) → ReadsAs text (Ok seen) → result ≡ Ok seen → ManifestFrom files name result

-- the manifest was read, and nothing else happened
pub record ManifestRead (name : Name) (seen : Seen) (old new : World) : Type 0 where
  pub events : List Event
  pub reads : ManifestReads name events (Ok seen)
  pub passed : Passed events old new

-- Why no manifest came: its bytes were not read, or they are none, or there was no memory for what they list.
pub data ManifestFails (name : Name) (fault : Fault) (old new : World) : Type 0 where
  fails_unread : Falls (InputLeads name) (λ _ _. KeepsDisk) fault old new → ManifestFails name fault old new
  fails_refused : (text : List ℕ) (why : ManifestFault) → InputRead name text old new → ReadsAs text (Err why) → IsFaultOf (AtEnd (Refused (BadManifest why))) fault → ManifestFails name fault old new
  fails_starved : (text : List ℕ) → InputRead name text old new → fault ≡ faults.Memory → ManifestFails name fault old new
