-- What a read of a tree comes to.
use Rattle.std.specs.Prelude.{◌≡◌, ◌≢◌, ℕ, ◌+◌, List, length, take, drop, Result, Ok, Err}
use Rattle.pf_io.specs.Host.{Name, Answer, HostState, OnHonest, contents}
use Rattle.pf_io.specs.Answered.{Answered, Came}
use Rattle.node_tree.specs.Touched.{IsTouched, AreTouched}
use Rattle.node_tree.specs.Sheet.{Node, Sheet, HasNode, sealed, Stands}
use Rattle.node_tree.specs.Opened.{AtNodes, IsAt, Given, Opened, NothingHeld, BlockOf}
use Rattle.node_tree.specs.Parts.{IsBroken, IsPart}
use Rattle.node_tree.specs.State.{TreeState, held_at, Held, root_in, readable}
use Rattle.node_tree.specs.Unforged.{GivenOf}
use Rattle.node_tree.specs.Fetching.{Fetched, EachOpens, Asks, CountsReads, CountsCalls, calls_of, missing_of}
use Rattle.node_tree.specs.Backing.{Backs, now}
use Rattle.node_tree.specs.declared.fault.TreeFault.{TreeFault}
use Rattle.node_tree.specs.declared.fault.TreeFault.TheVariants as faults

-- only the held nodes may have changed
abbrev pub KeepsFields : TreeState → TreeState → Type 0
KeepsFields old new = record new { held = old.held } ≡ old

-- how a read ends, by the nodes that were held and the blocks that were given; a fault comes before any block that does not open
abbrev pub ReadEnds : Result ℕ TreeFault → AtNodes → ℕ → List ℕ → TreeState → TreeState → Type 0
ReadEnds (Ok n) given at buffer old new = (n ≡ readable old at (length buffer)) × IsPart (Held old) given (root_in old) old.first at n (Ok (take n buffer)) × ((k : ℕ) → IsTouched at (at + n) k → IsAt (Held new) k)
ReadEnds (Err (faults.Damaged damage)) given at buffer old new = IsPart (Held old) given (root_in old) old.first at (readable old at (length buffer)) (Err damage)
ReadEnds (Err faults.Host) given at buffer old new = EachOpens (Held old) given (root_in old)
ReadEnds (Err faults.Memory) given at buffer old new = EachOpens (Held old) given (root_in old)

-- Some answers came, of the touched nodes that were not held, in rising number, each of one call. What is held afterwards was held or opens from what they gave, from the root down, and nothing is let go; and so the read ends.
pub record Reads (result : Result ℕ TreeFault) (name : Name) (at : ℕ) (buffer : List ℕ) (old new : TreeState) (before after : HostState) : Type 0 where
  pub these : List Answer
  pub answered : Answered these before after
  pub counted : CountsCalls (calls_of result (length these)) before after
  pub rest : KeepsFields old new
  pub fetched : Fetched (Held old) (Held new) (Given name these) (root_in old)
  pub numbers : List ℕ
  pub touched : AreTouched at (at + readable old at (length buffer)) numbers
  pub asked : Asks result name (missing_of (held_at old) numbers) these
  pub ends : ReadEnds result (Given name these) at buffer old new

-- the calls are no more than the touched nodes that were not held
abbrev pub ReadsFew : ℕ → ℕ → TreeState → HostState → HostState → Type 0
ReadsFew at room tree before after = (numbers : List ℕ) → AreTouched at (at + readable tree at room) numbers → CountsReads (length (missing_of (held_at tree) numbers)) before after

-- a damage is that of the first touched node, in rising number, that was not held and whose block, given in this call, is short or does not open
abbrev pub DamageComes : Result ℕ TreeFault → Name → ℕ → ℕ → TreeState → HostState → HostState → Type 0
DamageComes (Ok n) name at room tree before after = Unit {0}
DamageComes (Err (faults.Damaged damage)) name at room tree before after = Came (λ these. IsBroken (Held tree) (Given name these) (root_in tree) at (readable tree at room) damage) before after
DamageComes (Err faults.Host) name at room tree before after = Unit {0}
DamageComes (Err faults.Memory) name at room tree before after = Unit {0}

-- what was read is a slice of the content
abbrev pub IsSlice : Result ℕ TreeFault → ℕ → List ℕ → List ℕ → Type 0
IsSlice (Ok n) at buffer content = take n buffer ≡ take n (drop at content)
IsSlice (Err fault) at buffer content = Unit {0}

-- a block that was given of a node is not the sheet's seal of it
pub record IsForeign (sheet : Sheet) (given : AtNodes) (k : ℕ) : Type 0 where
  pub node : Node
  pub there : HasNode sheet k node
  pub block : List ℕ
  pub gave : given k block
  pub other : block ≢ sealed node

abbrev pub DamageIsForeign : Result ℕ TreeFault → Sheet → AtNodes → Type 0
DamageIsForeign (Ok n) sheet given = Unit {0}
DamageIsForeign (Err (faults.Damaged damage)) sheet given = IsForeign sheet given damage.node
DamageIsForeign (Err faults.Host) sheet given = Unit {0}
DamageIsForeign (Err faults.Memory) sheet given = Unit {0}

-- The tree stands on the sheet as before, its content stays, and the read gave the slice of it, or met a block that is none of the sheet's.
pub record StaysBacked (result : Result ℕ TreeFault) (sheet : Sheet) (given : AtNodes) (at : ℕ) (buffer : List ℕ) (old new : TreeState) : Type 0 where
  pub backs : Backs sheet new
  pub same : now sheet new ≡ now sheet old
  pub slice : IsSlice result at buffer (now sheet old)
  pub damage : DamageIsForeign result sheet given

-- for each sheet on which the tree stands and of which the answers are
abbrev pub BackedRead : Result ℕ TreeFault → Name → ℕ → List ℕ → TreeState → TreeState → HostState → HostState → Type 0
BackedRead result name at buffer old new before after = Came (λ these. (sheet : Sheet) → GivenOf sheet (Given name these) → Backs sheet old → StaysBacked result sheet (Given name these) at buffer old new) before after

abbrev pub IsUndamaged : Result ℕ TreeFault → Type 0
IsUndamaged (Ok n) = Unit {0}
IsUndamaged (Err (faults.Damaged damage)) = ⊥
IsUndamaged (Err faults.Host) = Unit {0}
IsUndamaged (Err faults.Memory) = Unit {0}

-- Over an honest host whose file stands for a sheet on which the tree stands, the read gives the slice of the content, and meets no damage.
pub record StandingRead (result : Result ℕ TreeFault) (sheet : Sheet) (at : ℕ) (buffer : List ℕ) (old new : TreeState) : Type 0 where
  pub backs : Backs sheet new
  pub same : now sheet new ≡ now sheet old
  pub slice : IsSlice result at buffer (now sheet old)
  pub undamaged : IsUndamaged result

abbrev pub ReadsStanding : Result ℕ TreeFault → Name → ℕ → List ℕ → TreeState → TreeState → HostState → Type 0
ReadsStanding result name at buffer old new before =
    OnHonest before (λ files. (user : List ℕ) (sheet : Sheet) → length user ≡ 16 → Stands (contents (files name)) user sheet → Backs sheet old → StandingRead result sheet at buffer old new)

-- each held node is what the file's blocks open to under the tree's root
pub record IsOfFile (file : List ℕ) (tree : TreeState) : Type 0 where
  pub each : (k : ℕ) (plain : List ℕ) → Held tree k plain → Opened NothingHeld (BlockOf file) (root_in tree) k plain

abbrev pub PartEnds : Result ℕ TreeFault → List ℕ → ℕ → List ℕ → TreeState → Type 0
PartEnds (Ok n) file at buffer tree = IsPart NothingHeld (BlockOf file) (root_in tree) tree.first at n (Ok (take n buffer))
PartEnds (Err (faults.Damaged damage)) file at buffer tree = IsPart NothingHeld (BlockOf file) (root_in tree) tree.first at (readable tree at (length buffer)) (Err damage)
PartEnds (Err faults.Host) file at buffer tree = Unit {0}
PartEnds (Err faults.Memory) file at buffer tree = Unit {0}

-- over an honest host, whatever bytes the file has, the read gives the part of the file, or its damage
pub record IsPartOfFile (result : Result ℕ TreeFault) (file : List ℕ) (at : ℕ) (buffer : List ℕ) (old new : TreeState) : Type 0 where
  pub of_file : IsOfFile file new
  pub part : PartEnds result file at buffer old

abbrev pub HonestRead : Result ℕ TreeFault → Name → ℕ → List ℕ → TreeState → TreeState → HostState → Type 0
HonestRead result name at buffer old new before = OnHonest before (λ files. IsOfFile (contents (files name)) old → IsPartOfFile result (contents (files name)) at buffer old new)

-- it ended by its answers
abbrev pub IsDecided : Result ℕ TreeFault → Type 0
IsDecided (Ok n) = Unit {0}
IsDecided (Err (faults.Damaged damage)) = Unit {0}
IsDecided (Err faults.Host) = ⊥
IsDecided (Err faults.Memory) = ⊥

abbrev pub part_read : Result ℕ TreeFault → List ℕ → Result (List ℕ) TreeFault
part_read (Ok n) buffer = Ok (take n buffer)
part_read (Err fault) buffer = Err fault

-- The same answers lead two reads of a tree to one end.
abbrev pub OneEnding : Type 0
OneEnding = (result other : Result ℕ TreeFault) (name : Name) (at : ℕ) (buffer buffer' : List ℕ) (old new new' : TreeState) (before after before' after' : HostState)
    → (reads : Reads result name at buffer old new before after) → (reads' : Reads other name at buffer' old new' before' after') → length buffer ≡ length buffer' → reads.these ≡ reads'.these
    → IsDecided result → IsDecided other → part_read result buffer ≡ part_read other buffer'
