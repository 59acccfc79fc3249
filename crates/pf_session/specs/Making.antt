-- What the parts of a sealing come to.
use Rattle.std.specs.Prelude.{◌≡◌, ◌≢◌, ℕ, ◌*◌, ◌<◌, Bool, true, false, ◌+◌, List, [], ◌∷◌, ◌++◌, length, Contains, Result, Ok, Err}
use Rattle.node_layout.specs.declared.damage.Damage.{Damage}
use Rattle.node_layout.specs.declared.damage.Kind.TheVariants.{Short}
use Rattle.node_tree.specs.Sheet.{Sheet}
use Rattle.node_tree.specs.State.{TreeState}
use Rattle.pf_io.specs.Disk.{Name}
use Rattle.pf_io.specs.Host.{Answer, Gave, Made, Swapped, HostState, OnDisk, OnHonest, contents}
use Rattle.pf_io.specs.Moments.{Ends}
use Rattle.pf_session.specs.Asking.{NoCall, Asked, Stopped}
use Rattle.pf_session.specs.Copying.{copied, AreBlocksOf}
use Rattle.pf_session.specs.Steps.{replace_steps}
use Rattle.pf_session.specs.Sealing.{ChangesAlone, HasNext, SealLeaves, Replaces, StandsNext}
use Rattle.pf_session.specs.declared.fault.FlushFault.{FlushFault}
use Rattle.pf_session.specs.declared.fault.FlushFault.TheVariants as faults

-- all steps were answered, or one failed
abbrev pub StepsGo : {T E : Type 0} → Result T E → List Answer → HostState → HostState → Type 0
StepsGo (Ok done) steps before after = Asked steps NoCall before after
StepsGo (Err fault) steps before after = Stopped steps before after

-- for each next sheet of the tree under this path and nonce: its seals are in the file
abbrev pub SealsNexts : {T E : Type 0} → Result T E → List ℕ → List ℕ → List ℕ → Name → TreeState → List (List ℕ) → HostState → HostState → Type 0
SealsNexts result key path nonce name tree keys before after = (sheet next : Sheet) → HasNext sheet tree path nonce keys next → OnDisk before after (Ends (SealLeaves result key next tree.dirty name))

-- those before a node were copied, and of it too few bytes were given
pub record ReplaceShort (name side : Name) (clean : List ℕ) (damage : Damage) (before after : HostState) : Type 0 where
  pub done : List ℕ
  pub left : List ℕ
  pub blocks : List (List ℕ)
  pub block : List ℕ
  pub in_order : clean ≡ done ++ damage.node ∷ left
  pub are_blocks : AreBlocksOf done blocks
  pub short : length block < 4096
  pub kind_is : damage.kind ≡ Short
  pub asked : Asked (Made side ∷ copied name side done blocks ++ Gave name (4096 * damage.node) 4096 block ∷ []) NoCall before after
  pub alone : ChangesAlone side before after

pub record ReplaceStopped (key path nonce : List ℕ) (name side : Name) (clean dirty : List ℕ) (keys : List (List ℕ)) (tree : TreeState) (before after : HostState) : Type 0 where
  pub blocks : List (List ℕ)
  pub are_blocks : AreBlocksOf clean blocks
  pub stopped : Stopped (replace_steps key path nonce name name side clean dirty keys blocks tree) before after
  pub alone : stopped.failed ≢ Swapped side name → ChangesAlone side before after

pub record Replaced (key path nonce : List ℕ) (name side : Name) (clean dirty : List ℕ) (keys : List (List ℕ)) (tree : TreeState) (before after : HostState) : Type 0 where
  pub blocks : List (List ℕ)
  pub are_blocks : AreBlocksOf clean blocks
  pub asked : Asked (replace_steps key path nonce name name side clean dirty keys blocks tree) NoCall before after

abbrev pub ReplaceGoes : Result (Unit {0}) FlushFault → List ℕ → List ℕ → List ℕ → Name → Name → List ℕ → List ℕ → List (List ℕ) → TreeState → HostState → HostState → Type 0
ReplaceGoes (Ok done) key path nonce name side clean dirty keys tree before after = Replaced key path nonce name side clean dirty keys tree before after
ReplaceGoes (Err faults.Words) key path nonce name side clean dirty keys tree before after = ⊥
ReplaceGoes (Err (faults.Damaged damage)) key path nonce name side clean dirty keys tree before after = ReplaceShort name side clean damage before after
ReplaceGoes (Err faults.Host) key path nonce name side clean dirty keys tree before after = ReplaceStopped key path nonce name side clean dirty keys tree before after

abbrev pub done_of : {T E : Type 0} → Result T E → Bool
done_of (Ok done) = true
done_of (Err fault) = false

-- for each next sheet: it took the place of the last one
abbrev pub ReplacesNexts : {T E : Type 0} → Result T E → List ℕ → List ℕ → List ℕ → Name → TreeState → List (List ℕ) → HostState → HostState → Type 0
ReplacesNexts result key path nonce name tree keys before after = (sheet next : Sheet) → HasNext sheet tree path nonce keys next → Replaces (done_of result) key name sheet next before after

-- and where the name stood for the last one, it stands for this one
abbrev pub StandsNexts : List ℕ → List ℕ → List ℕ → Name → TreeState → List (List ℕ) → HostState → HostState → Type 0
StandsNexts key path nonce name tree keys before after = (sheet next : Sheet) → HasNext sheet tree path nonce keys next → StandsNext key name sheet next before after

-- where a node to be copied is short, the file is
abbrev pub ReplaceUndamaged : Result (Unit {0}) FlushFault → Name → List ℕ → HostState → Type 0
ReplaceUndamaged (Ok done) name clean before = Unit {0}
ReplaceUndamaged (Err faults.Words) name clean before = Unit {0}
ReplaceUndamaged (Err (faults.Damaged damage)) name clean before = OnHonest before (λ files. Contains clean damage.node × (length (contents (files name)) < 4096 * damage.node + 4096))
ReplaceUndamaged (Err faults.Host) name clean before = Unit {0}

-- at a damage the tree is as before
abbrev pub KeptAtDamage : Result (Unit {0}) FlushFault → TreeState → TreeState → Type 0
KeptAtDamage (Ok done) old new = Unit {0}
KeptAtDamage (Err faults.Words) old new = Unit {0}
KeptAtDamage (Err (faults.Damaged damage)) old new = new ≡ old
KeptAtDamage (Err faults.Host) old new = Unit {0}
