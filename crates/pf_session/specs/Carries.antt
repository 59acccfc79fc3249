-- The sheet on which an opened session stands.
use Rattle.std.specs.Prelude.{◌≡◌, ◌≢◌, ◌⊎◌, ℕ, List, ◌∷◌, ◌++◌, Contains, Option, Some, IfSome, Result, Ok, Err}
use Rattle.node_layout.specs.declared.damage.Kind.TheVariants.{Text}
use Rattle.pf_io.specs.Host.{Name, Answer, Gave, HostState, WhereTold, OnHonest}
use Rattle.pf_io.specs.Answered.{Came}
use Rattle.node_tree.specs.Sheet.{Sheet, IsLinked, Stands}
use Rattle.node_tree.specs.Unforged.{Unforged, Carries}
use Rattle.pf_session.specs.State.{SessionState}
use Rattle.pf_session.specs.Backing.{StandsOn}
use Rattle.pf_session.specs.Opening.{AreGood}
use Rattle.pf_session.specs.declared.open_fault.OpenFault.{OpenFault}
use Rattle.pf_session.specs.declared.open_fault.OpenFault.TheVariants as faults

-- the last block of node 0 that was given of the name
pub record IsLast (name : Name) (these : List Answer) (block : List ℕ) : Type 0 where
  pub before : List Answer
  pub after : List Answer
  pub split : these ≡ before ++ Gave name 0 4096 block ∷ after
  pub no_more : (other : List ℕ) → ¬ (Contains after (Gave name 0 4096 other))

-- the first of the list with P
pub record IsFirst (P : Sheet → Type 0) (sheets : List Sheet) (sheet : Sheet) : Type 0 where
  pub before : List Sheet
  pub after : List Sheet
  pub split : sheets ≡ before ++ sheet ∷ after
  pub has : P sheet
  pub no_sooner : (other : Sheet) → Contains before other → ¬ (P other)

-- An accepted opening stands on each linked sheet that the last block of node 0 carries.
abbrev pub OpensOnCarried : SessionState → HostState → HostState → Type 0
OpensOnCarried session before after =
    Came (λ these. (block : List ℕ) × IsLast session.name these block × ((sheet : Sheet) → IsLinked sheet → Carries session.key block sheet → StandsOn sheet session)) before after

-- Where nothing is forged, it stands on the first sheet of the list that this block carries.
pub record OnFirst (sheets : List Sheet) (session : SessionState) (these : List Answer) : Type 0 where
  pub block : List ℕ
  pub last : IsLast session.name these block
  pub sheet : Sheet
  pub first : IsFirst (Carries session.key block) sheets sheet
  pub on : StandsOn sheet session

abbrev pub OpensOnFirst : SessionState → HostState → HostState → Type 0
OpensOnFirst session before after = WhereTold before after (λ these. (sheets : List Sheet) → Unforged session.key sheets these → OnFirst sheets session these)

-- Where nothing is forged, node 0 never opens to a text that is no metadata.
abbrev pub IsNoText : Result SessionState OpenFault → Type 0
IsNoText (Ok session) = Unit {0}
IsNoText (Err faults.BadName) = Unit {0}
IsNoText (Err faults.Memory) = Unit {0}
IsNoText (Err faults.Host) = Unit {0}
IsNoText (Err faults.NotFound) = Unit {0}
IsNoText (Err faults.NotProtected) = Unit {0}
IsNoText (Err (faults.Damaged damage)) = damage.kind ≢ Text
IsNoText (Err faults.Unbuilt) = Unit {0}
IsNoText (Err (faults.BadVersion major minor)) = Unit {0}
IsNoText (Err (faults.WrongPath stored)) = Unit {0}

abbrev pub OpensNoText : List ℕ → Result SessionState OpenFault → HostState → HostState → Type 0
OpensNoText key result before after = WhereTold before after (λ these. (sheets : List Sheet) → Unforged key sheets these → IsNoText result)

-- Over an honest host whose file stands for a sheet, with the given path where one is given, the opening is accepted and stands on the sheet, or a call failed, or there was no memory.
abbrev pub IsOpenedOn : Sheet → Result SessionState OpenFault → Type 0
IsOpenedOn sheet (Ok session) = StandsOn sheet session
IsOpenedOn sheet (Err fault) = (fault ≡ faults.Host) ⊎ (fault ≡ faults.Memory)

abbrev pub OpensStanding : List ℕ → Name → Option (List ℕ) → Result SessionState OpenFault → HostState → Type 0
OpensStanding key name path result before =
    OnHonest before (λ files. (file : List ℕ) (sheet : Sheet) → AreGood name path → files name ≡ Some file → Stands file key sheet → IfSome path (λ given. given ≡ sheet.path) → IsOpenedOn sheet result)
