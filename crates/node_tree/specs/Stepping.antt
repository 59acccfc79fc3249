-- A step on a tree.
use Rattle.std.specs.Prelude.{◌≡◌, ◌⊎◌, ◌↔◌, ℕ, ◌<◌, ◌≤◌, List, length, Contains, Result, Ok, Err}
use Rattle.std.specs.List.Sorted.{IsStrictlyIncreasing}
use Rattle.node_layout.specs.declared.damage.Damage.{Damage}
use Rattle.node_layout.specs.Places.{mht_place, node_count}
use Rattle.pf_io.specs.Host.{Name, Answer, HostState, OnHonest, contents}
use Rattle.pf_io.specs.Answered.{Answered, Came}
use Rattle.node_tree.specs.Content.{bytes_of}
use Rattle.node_tree.specs.Sheet.{Sheet, IsLinked, Stands}
use Rattle.node_tree.specs.Opened.{AtNodes, IsAt, Entry, Given, Opened, Fails, NothingHeld, BlockOf}
use Rattle.node_tree.specs.State.{TreeState, held_at, Held, root_in, plain_or, IsPadded}
use Rattle.node_tree.specs.Unforged.{GivenOf}
use Rattle.node_tree.specs.Fetching.{Fetched, EachOpens, Asks, CountsReads, CountsCalls, calls_of, missing_of}
use Rattle.node_tree.specs.Backing.{Backs, now}
use Rattle.node_tree.specs.Reading.{KeepsFields, IsForeign, IsOfFile}
use Rattle.node_tree.specs.Applying.{Step, applied, size_after, Touches}
use Rattle.node_tree.specs.declared.fault.TreeFault.{TreeFault}
use Rattle.node_tree.specs.declared.fault.TreeFault.TheVariants as faults

-- the content of a tree, with these plain texts where no node is held
abbrev pub content_with : (ℕ → List ℕ) → TreeState → List ℕ
content_with other tree = bytes_of tree.first (λ k. plain_or (held_at tree k) (other k)) 0 tree.size

-- A step was made on a tree whose live touched nodes were held: whatever stands in the nodes that are not held, the content is stepped and zeros behind its end stay;
-- the dirty nodes are the live ones among those that were dirty or are touched; no plain text of a hash-tree node changed, and what is not live is not held.
pub record Stepped (step : Step) (old new : TreeState) : Type 0 where
  pub ready : (k : ℕ) → Touches step old.size k → k < node_count old.size → IsAt (Held old) k
  pub root : root_in new ≡ root_in old
  pub base : new.base ≡ old.base
  pub size : new.size ≡ size_after step old.size
  pub content : (other : ℕ → List ℕ) → content_with other new ≡ applied step (content_with other old)
  pub padded : (other : ℕ → List ℕ) → IsPadded other old → IsPadded other new
  pub rising : IsStrictlyIncreasing new.dirty
  pub dirty : (k : ℕ) → Contains new.dirty k ↔ ((Contains old.dirty k ⊎ Touches step old.size k) × (k < node_count new.size))
  pub came : (k : ℕ) → node_count old.size ≤ k → k < node_count new.size → Touches step old.size k
  pub touched : (k : ℕ) → Touches step old.size k → k < node_count new.size → IsAt (Held new) k
  pub low : (k : ℕ) → Contains new.dirty k → 1 ≤ k
  pub still : (k : ℕ) → 1 ≤ k → k < node_count new.size → IsAt (Held old) k → IsAt (Held new) k
  pub others : (k : ℕ) → 1 ≤ k → ¬ (Touches step old.size k) → k < node_count new.size → held_at new k ≡ held_at old k
  pub hashes : (m : ℕ) (plain : List ℕ) → mht_place m < node_count new.size → mht_place m < node_count old.size → Held old (mht_place m) plain → Held new (mht_place m) plain
  pub dropped : (k : ℕ) → node_count new.size ≤ k → ¬ (IsAt (Held new) k)

-- A tree that a sheet backs is backed by it after a step, and its content is stepped.
abbrev pub SteppedStaysBacked : Type 0
SteppedStaysBacked = (step : Step) (sheet : Sheet) (old new : TreeState) → IsLinked sheet → Backs sheet old → Stepped step old new → Backs sheet new × (now sheet new ≡ applied step (now sheet old))

-- the live nodes that a step touches, in rising order
pub record AreLiveTouched (step : Step) (size : ℕ) (numbers : List ℕ) : Type 0 where
  pub rising : IsStrictlyIncreasing numbers
  pub exactly : (k : ℕ) → Contains numbers k ↔ (Touches step size k × (k < node_count size))

-- the first live touched node, in rising number, that does not open
pub record BreaksAt (step : Step) (size : ℕ) (held given : AtNodes) (root : Entry) (damage : Damage) : Type 0 where
  pub touched : Touches step size damage.node
  pub live : damage.node < node_count size
  pub before : (k : ℕ) → Touches step size k → k < damage.node → (plain : List ℕ) × Opened held given root k plain
  pub fails : Fails held given root damage.node damage.kind

-- only nodes that are neither live nor dirty changed
pub record KeepsLive (old new : TreeState) : Type 0 where
  pub rest : KeepsFields old new
  pub same : (k : ℕ) → (k < node_count old.size) ⊎ Contains old.dirty k → held_at new k ≡ held_at old k

-- how a step ends, once nodes were fetched; a fault comes before any block that does not open
abbrev pub StepEnds : Result (Unit {0}) TreeFault → Step → AtNodes → TreeState → TreeState → TreeState → Type 0
StepEnds (Ok value) step given old mid new = Stepped step mid new
StepEnds (Err (faults.Damaged damage)) step given old mid new = BreaksAt step old.size (Held old) given (root_in old) damage × (new ≡ mid)
StepEnds (Err faults.Host) step given old mid new = EachOpens (Held old) given (root_in old) × (new ≡ mid)
StepEnds (Err faults.Memory) step given old mid new = EachOpens (Held old) given (root_in old) × KeepsLive mid new

-- Some answers came, of the live touched nodes that were not held, in rising number, each of one call. What is held in the middle was held or opens from what they gave, and nothing is let
-- go; and then the step was made, or it was not.
pub record Steps (result : Result (Unit {0}) TreeFault) (name : Name) (step : Step) (old new : TreeState) (before after : HostState) : Type 0 where
  pub these : List Answer
  pub answered : Answered these before after
  pub counted : CountsCalls (calls_of result (length these)) before after
  pub mid : TreeState
  pub rest : KeepsFields old mid
  pub fetched : Fetched (Held old) (Held mid) (Given name these) (root_in old)
  pub numbers : List ℕ
  pub touched : AreLiveTouched step old.size numbers
  pub asked : Asks result name (missing_of (held_at old) numbers) these
  pub ends : StepEnds result step (Given name these) old mid new

-- the calls are no more than the live touched nodes that were not held
abbrev pub StepsFew : Step → TreeState → HostState → HostState → Type 0
StepsFew step tree before after = (numbers : List ℕ) → AreLiveTouched step tree.size numbers → CountsReads (length (missing_of (held_at tree) numbers)) before after

-- a damage is that of the first live touched node, in rising number, that was not held and whose block, given in this call, is short or does not open
abbrev pub StepDamageComes : Result (Unit {0}) TreeFault → Name → Step → TreeState → HostState → HostState → Type 0
StepDamageComes (Ok value) name step tree before after = Unit {0}
StepDamageComes (Err (faults.Damaged damage)) name step tree before after = Came (λ these. BreaksAt step tree.size (Held tree) (Given name these) (root_in tree) damage) before after
StepDamageComes (Err faults.Host) name step tree before after = Unit {0}
StepDamageComes (Err faults.Memory) name step tree before after = Unit {0}

-- the tree stands on the sheet, with this content
pub record BacksWith (sheet : Sheet) (tree : TreeState) (content : List ℕ) : Type 0 where
  pub backs : Backs sheet tree
  pub content_is : now sheet tree ≡ content

-- the step was made of the content, or the content is as before
abbrev pub StepLeaves : Result (Unit {0}) TreeFault → Step → Sheet → AtNodes → TreeState → TreeState → Type 0
StepLeaves (Ok value) step sheet given old new = BacksWith sheet new (applied step (now sheet old))
StepLeaves (Err (faults.Damaged damage)) step sheet given old new = BacksWith sheet new (now sheet old) × IsForeign sheet given damage.node
StepLeaves (Err faults.Host) step sheet given old new = BacksWith sheet new (now sheet old)
StepLeaves (Err faults.Memory) step sheet given old new = BacksWith sheet new (now sheet old)

-- for each sheet on which the tree stands and of which the answers are
abbrev pub BackedStep : Result (Unit {0}) TreeFault → Name → Step → TreeState → TreeState → HostState → HostState → Type 0
BackedStep result name step old new before after = Came (λ these. (sheet : Sheet) → GivenOf sheet (Given name these) → Backs sheet old → StepLeaves result step sheet (Given name these) old new) before after

abbrev pub StandingStep : Result (Unit {0}) TreeFault → Step → Sheet → TreeState → TreeState → Type 0
StandingStep (Ok value) step sheet old new = BacksWith sheet new (applied step (now sheet old))
StandingStep (Err (faults.Damaged damage)) step sheet old new = ⊥
StandingStep (Err faults.Host) step sheet old new = BacksWith sheet new (now sheet old)
StandingStep (Err faults.Memory) step sheet old new = BacksWith sheet new (now sheet old)

-- Over an honest host whose file stands for a sheet on which the tree stands, the step is made of the content and meets no damage.
abbrev pub StepsStanding : Result (Unit {0}) TreeFault → Name → Step → TreeState → TreeState → HostState → Type 0
StepsStanding result name step old new before =
    OnHonest before (λ files. (user : List ℕ) (sheet : Sheet) → length user ≡ 16 → Stands (contents (files name)) user sheet → Backs sheet old → StandingStep result step sheet old new)

abbrev pub FileStep : Result (Unit {0}) TreeFault → Step → List ℕ → TreeState → TreeState → Type 0
FileStep (Ok value) step file old new = (k : ℕ) → Touches step old.size k → k < node_count old.size → (plain : List ℕ) × Opened NothingHeld (BlockOf file) (root_in old) k plain
FileStep (Err (faults.Damaged damage)) step file old new = IsOfFile file new × BreaksAt step old.size NothingHeld (BlockOf file) (root_in old) damage
FileStep (Err faults.Host) step file old new = IsOfFile file new
FileStep (Err faults.Memory) step file old new = Unit {0}

-- over an honest host, whatever bytes the file has, the live touched nodes open from the file, or the damage is the file's
abbrev pub HonestStep : Result (Unit {0}) TreeFault → Name → Step → TreeState → TreeState → HostState → Type 0
HonestStep result name step old new before = OnHonest before (λ files. IsOfFile (contents (files name)) old → FileStep result step (contents (files name)) old new)
