-- Where a path leads: the mount that serves it, and what that mount gives.
use Rattle.std.specs.Prelude.{◌≡◌, ℕ, ◌<◌, ◌≤◌, true, List, ◌++◌, length, bytes_eq, Option, Some, None, Result, Ok, Err}
use Rattle.std.specs.List.{slice_get}
use Rattle.std.specs.Map.{lookup}
use Rattle.pf_io.specs.Names.{IsName, LONGEST}
use Rattle.manifest_model.specs.declared.entries.Mount.{Mount}
use Rattle.manifest_model.specs.declared.entries.MountKind.{MountKind}
use Rattle.manifest_model.specs.declared.entries.MountKind.TheVariants.{Chroot, Encrypted, Other}
use Rattle.manifest_model.specs.Names.{is_absolute, normal, normal_parts, behind, uri_of}
use Rattle.manifest_model.specs.Listed.{Lists}
use Rattle.check_policy.specs.declared.place.Place.{Place}
use Rattle.check_policy.specs.declared.place.Place.TheVariants as places
use Rattle.check_policy.specs.declared.place.ResolveFault.{ResolveFault}
use Rattle.check_policy.specs.declared.place.ResolveFault.TheVariants as faults

-- an absolute name
pub record IsPath (path : List ℕ) : Type 0 where
  pub name : IsName path
  pub absolute : is_absolute path ≡ true

-- the parts of a mount's place
abbrev pub parts_of : Mount → List (List ℕ)
parts_of mount = normal_parts mount.path

abbrev pub depth : Mount → ℕ
depth mount = length (parts_of mount)

-- parts begin others, and these stand behind them
pub record Begins (front ps : List (List ℕ)) : Type 0 where
  pub rest : List (List ℕ)
  pub whole : ps ≡ front ++ rest

-- The mount that serves a path's parts: of those whose parts begin the path's, one with the most parts, and of several
-- with as many the last. `rest` stands behind its parts.
pub record Serves (mounts : List Mount) (ps : List (List ℕ)) (mount : Mount) (rest : List (List ℕ)) : Type 0 where
  pub place : ℕ
  pub listed : slice_get mounts place ≡ Some mount
  pub begins : ps ≡ parts_of mount ++ rest
  pub most : (k : ℕ) (other : Mount) → slice_get mounts k ≡ Some other → Begins (parts_of other) ps → depth other ≤ depth mount
  pub last : (k : ℕ) (other : Mount) → slice_get mounts k ≡ Some other → Begins (parts_of other) ps → depth other ≡ depth mount → k ≤ place

-- no mount's parts begin a path's
abbrev pub NoneServes : List Mount → List (List ℕ) → Type 0
NoneServes mounts ps = (k : ℕ) (other : Mount) → slice_get mounts k ≡ Some other → Begins (parts_of other) ps → ⊥

-- the name on the host of what stands behind a mount's place: the mount's name, a slash and the rest, in normal form
abbrev pub host_name : List ℕ → List (List ℕ) → List ℕ
host_name name rest = normal (name ++ behind rest)

-- the name of a mount that gives files of the host
abbrev pub given_by : MountKind → Option (List ℕ) → Option (List ℕ)
given_by Chroot name = name
given_by Encrypted name = name
given_by Other name = None

-- What a mount gives for the rest of a path, by its kind, its name and its key.
pub data Gives (keys : List (List ℕ × List ℕ)) (mount : Mount) (rest : List (List ℕ)) (outcome : Result Place ResolveFault) : Type 0 where
  NoFile : given_by mount.kind mount.name ≡ None → outcome ≡ Ok places.Nothing → Gives keys mount rest outcome
  TooLong : (name : List ℕ) → given_by mount.kind mount.name ≡ Some name → LONGEST < length (host_name name rest)
      → outcome ≡ Err faults.BadPath → Gives keys mount rest outcome
  IsHostFile : (name : List ℕ) → mount.kind ≡ Chroot → mount.name ≡ Some name → length (host_name name rest) ≤ LONGEST
      → outcome ≡ Ok (places.HostFile (uri_of (host_name name rest)) (host_name name rest)) → Gives keys mount rest outcome
  IsProtected : (name key : List ℕ) → mount.kind ≡ Encrypted → mount.name ≡ Some name → length (host_name name rest) ≤ LONGEST
      → lookup (bytes_eq mount.key_name) keys ≡ Some key → outcome ≡ Ok (places.Protected (host_name name rest) key) → Gives keys mount rest outcome
  LacksKey : (name : List ℕ) → mount.kind ≡ Encrypted → mount.name ≡ Some name → length (host_name name rest) ≤ LONGEST
      → lookup (bytes_eq mount.key_name) keys ≡ None → outcome ≡ Err (faults.NoKey mount.key_name) → Gives keys mount rest outcome

-- Where a path leads: what is no path is refused; else the mount that serves it decides. Where none serves, which no
-- list with a mount at `/` allows, it leads nowhere.
pub data Resolves (lists : Lists) (path : List ℕ) (outcome : Result Place ResolveFault) : Type 0 where
  NoPath : (IsPath path → ⊥) → outcome ≡ Err faults.BadPath → Resolves lists path outcome
  ByMount : IsPath path → (mount : Mount) (rest : List (List ℕ)) → Serves lists.mounts (normal_parts path) mount rest → Gives lists.keys mount rest outcome → Resolves lists path outcome
  Unserved : IsPath path → NoneServes lists.mounts (normal_parts path) → outcome ≡ Ok places.Nothing → Resolves lists path outcome
