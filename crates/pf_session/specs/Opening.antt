-- What an opening comes to, by the answers of the call.
use Rattle.std.specs.Prelude.{◌≡◌, ◌≢◌, ℕ, ◌<◌, ◌≤◌, List, [], ◌∷◌, length, take, Option, Some, None, IfSome, Result, Ok, Err, false}
use Rattle.node_layout.specs.Metadata.{IsPath, IsPlain, magic, flag_at, nonce_at}
use Rattle.node_layout.specs.Faults.{IsPlainFault}
use Rattle.node_layout.specs.Opening.{OpensTo, IsOpenFault}
use Rattle.node_layout.specs.declared.damage.Damage.{Damage}
use Rattle.node_layout.specs.declared.damage.Kind.{Kind}
use Rattle.node_layout.specs.declared.damage.Kind.TheVariants.{Short}
use Rattle.node_layout.specs.declared.metadata.MetaSecret.{MetaSecret}
use Rattle.node_layout.specs.declared.metadata.PlainFault.TheVariants as plain_faults
use Rattle.pf_io.specs.Host.{Name, Answer, LengthWas, Gave, HostState}
use Rattle.pf_io.specs.Names.{IsTarget}
use Rattle.pf_session.specs.Asking.{NoCall, AReading, AnotherCall}
use Rattle.pf_session.specs.Questions.{OnlyAsked}
use Rattle.pf_session.specs.State.{SessionState, unread}
use Rattle.pf_session.specs.declared.open_fault.OpenFault.{OpenFault}
use Rattle.pf_session.specs.declared.open_fault.OpenFault.TheVariants as faults

-- a name that a protected file may have, and a path that it may be stored under, where one is given
pub record AreGood (name : Name) (path : Option (List ℕ)) : Type 0 where
  pub target : IsTarget name
  pub stored : IfSome path IsPath

-- that the name is there, and then its node 0
abbrev pub node_answers : Name → ℕ → List ℕ → List Answer
node_answers name size block = LengthWas name (Some size) ∷ Gave name 0 4096 block ∷ []

-- node 0 was given whole, has no update pending and is of version 1.0
pub record IsOpenable (block : List ℕ) : Type 0 where
  pub whole : length block ≡ 4096
  pub flag : flag_at block ≡ 0
  pub plain : IsPlain block

-- a damage of node 0
abbrev pub damaged_zero : Kind → OpenFault
damaged_zero kind = let damage : Damage = record { node = 0; kind = kind } in faults.Damaged damage

-- why the bytes given of node 0 are not such: the first cause; fewer than 8 bytes are no magic
pub data BlockRefused (block : List ℕ) (fault : OpenFault) : Type 0 where
  not_protected : length block ≤ 4096 → take 8 block ≢ magic → fault ≡ faults.NotProtected → BlockRefused block fault
  node_short : take 8 block ≡ magic → length block < 4096 → fault ≡ damaged_zero Short → BlockRefused block fault
  update_pending : take 8 block ≡ magic → length block ≡ 4096 → flag_at block ≢ 0 → fault ≡ faults.Unbuilt → BlockRefused block fault
  other_version : (major minor : ℕ) → length block ≡ 4096 → flag_at block ≡ 0 → IsPlainFault block (plain_faults.BadVersion major minor) → fault ≡ faults.BadVersion major minor → BlockRefused block fault

-- why such a node 0 is refused: it does not open, or it is stored under another path than the given one
pub data SecretRefused (key : List ℕ) (path : Option (List ℕ)) (block : List ℕ) (fault : OpenFault) : Type 0 where
  not_opened : (kind : Kind) → IsOpenFault key block kind → fault ≡ damaged_zero kind → SecretRefused key path block fault
  other_path : (secret : MetaSecret) (given : List ℕ) → OpensTo key block secret → path ≡ Some given → given ≢ secret.path → fault ≡ faults.WrongPath secret.path → SecretRefused key path block fault

-- node 0 opens to these fields, and they have the given path
pub record IsAccepted (key : List ℕ) (path : Option (List ℕ)) (block : List ℕ) (secret : MetaSecret) : Type 0 where
  pub opened : OpensTo key block secret
  pub path_is : IfSome path (λ given. given ≡ secret.path)

-- the session of a file that was opened: nothing is drawn, changed or broken
abbrev pub opened_session : List ℕ → Name → List ℕ → MetaSecret → SessionState
opened_session key name block secret = record { key = key; name = name; path = secret.path; nonce = nonce_at block; drawn = None; tree = unread secret; changed = false; broken = false; beside = false }

-- how an opening ends by these answers
pub data OpenEnds (key : List ℕ) (name : Name) (path : Option (List ℕ)) (these : List Answer) (result : Result SessionState OpenFault) : Type 0 where
  misnamed : ¬ (AreGood name path) → these ≡ [] → result ≡ Err faults.BadName → OpenEnds key name path these result
  absent : AreGood name path → these ≡ LengthWas name None ∷ [] → result ≡ Err faults.NotFound → OpenEnds key name path these result
  block_refused : (size : ℕ) (block : List ℕ) (fault : OpenFault) → AreGood name path → these ≡ node_answers name size block → BlockRefused block fault → result ≡ Err fault → OpenEnds key name path these result
  secret_refused : (size : ℕ) (block : List ℕ) (fault : OpenFault) → AreGood name path → these ≡ node_answers name size block → IsOpenable block → SecretRefused key path block fault → result ≡ Err fault
      → OpenEnds key name path these result
  accepted : (size : ℕ) (block : List ℕ) (secret : MetaSecret) → AreGood name path → these ≡ node_answers name size block → IsOpenable block → IsAccepted key path block secret
      → result ≡ Ok (opened_session key name block secret) → OpenEnds key name path these result

-- An opening ends by its answers; or a call of the host failed, of the length or of node 0; or there was no memory, before the first call.
pub data Opens (key : List ℕ) (name : Name) (path : Option (List ℕ)) (before after : HostState) (result : Result SessionState OpenFault) : Type 0 where
  by_answers : (these : List Answer) → OnlyAsked these NoCall before after → OpenEnds key name path these result → Opens key name path before after result
  length_failed : AreGood name path → OnlyAsked [] AnotherCall before after → result ≡ Err faults.Host → Opens key name path before after result
  read_failed : (size : ℕ) → AreGood name path → OnlyAsked (LengthWas name (Some size) ∷ []) AReading before after → result ≡ Err faults.Host → Opens key name path before after result
  no_names : AreGood name path → after ≡ before → result ≡ Err faults.Memory → Opens key name path before after result

-- The same answers lead to one end.
abbrev pub OneOpening : Type 0
OneOpening = (key : List ℕ) (name : Name) (path : Option (List ℕ)) (these : List Answer) (result other : Result SessionState OpenFault) → OpenEnds key name path these result → OpenEnds key name path these other → result ≡ other

-- a result, of which only a fault of the host counts as a fault
abbrev pub opening_part : {T : Type 0} → Result T OpenFault → Result (Unit {0}) (Unit {0})
opening_part (Ok value) = Ok tt
opening_part (Err faults.BadName) = Ok tt
opening_part (Err faults.Memory) = Ok tt
opening_part (Err faults.Host) = Err tt
opening_part (Err faults.NotFound) = Ok tt
opening_part (Err faults.NotProtected) = Ok tt
opening_part (Err (faults.Damaged damage)) = Ok tt
opening_part (Err faults.Unbuilt) = Ok tt
opening_part (Err (faults.BadVersion major minor)) = Ok tt
opening_part (Err (faults.WrongPath stored)) = Ok tt

-- node 0 was read of the name and can be opened; the second is its nonce
pub record HasNodeZero (name : Name) (before after : HostState) (node : List ℕ × List ℕ) : Type 0 where
  pub size : ℕ
  pub asked : OnlyAsked (node_answers name size node.0) NoCall before after
  pub openable : IsOpenable node.0
  pub nonce_is : node.1 ≡ nonce_at node.0

-- why no node 0 was read
pub data NodeRefused (name : Name) (before after : HostState) (fault : OpenFault) : Type 0 where
  node_absent : OnlyAsked (LengthWas name None ∷ []) NoCall before after → fault ≡ faults.NotFound → NodeRefused name before after fault
  node_refused : (size : ℕ) (block : List ℕ) → OnlyAsked (node_answers name size block) NoCall before after → BlockRefused block fault → NodeRefused name before after fault
  no_length : OnlyAsked [] AnotherCall before after → fault ≡ faults.Host → NodeRefused name before after fault
  no_bytes : (size : ℕ) → OnlyAsked (LengthWas name (Some size) ∷ []) AReading before after → fault ≡ faults.Host → NodeRefused name before after fault

-- memory is wanting before any call of the host
abbrev pub WantsEarly : Result SessionState OpenFault → HostState → HostState → Type 0
WantsEarly result before after = result ≡ Err faults.Memory → after ≡ before
