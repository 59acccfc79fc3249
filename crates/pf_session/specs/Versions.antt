-- What the writing of a new version comes to.
use Rattle.std.specs.Prelude.{◌≡◌, ℕ, Bool, true, false, List, Result, Ok, Err}
use Rattle.node_tree.specs.Sheet.{Sheet}
use Rattle.node_tree.specs.State.{TreeState}
use Rattle.pf_io.specs.Host.{HostState}
use Rattle.pf_session.specs.State.{SessionState, file_of}
use Rattle.pf_session.specs.Sealing.{HasNext, Replaces, StandsNext}
use Rattle.pf_session.specs.Making.{done_of}
use Rattle.pf_session.specs.Flushing.{FlushShort, FlushStopped, FlushDone}
use Rattle.pf_session.specs.declared.fault.FlushFault.{FlushFault}
use Rattle.pf_session.specs.declared.fault.FlushFault.TheVariants as faults

-- the calls were made, up to the one that failed or that gave too few bytes
abbrev pub VersionGoes : Result (Unit {0}) FlushFault → List ℕ → List (List ℕ) → SessionState → TreeState → HostState → HostState → Type 0
VersionGoes (Ok done) nonce keys old tree before after = FlushDone old nonce keys tree before after
VersionGoes (Err faults.Words) nonce keys old tree before after = ⊥
VersionGoes (Err (faults.Damaged damage)) nonce keys old tree before after = (old.beside ≡ false) × FlushShort old damage before after
VersionGoes (Err faults.Host) nonce keys old tree before after = FlushStopped old nonce keys tree before after

-- what it leaves of a sheet and the next one
pub record SealsOn (done : Bool) (sheet next : Sheet) (old : SessionState) (before after : HostState) : Type 0 where
  pub named : old.beside ≡ false → Replaces done old.key old.name sheet next before after
  pub stands : done ≡ true → StandsNext old.key (file_of old) sheet next before after

abbrev pub SealsOns : Result (Unit {0}) FlushFault → List ℕ → List (List ℕ) → SessionState → HostState → HostState → Type 0
SealsOns result nonce keys old before after = (sheet next : Sheet) → HasNext sheet old.tree old.path nonce keys next → SealsOn (done_of result) sheet next old before after
