-- Nodes that are fetched of a host, opened and kept.
use Rattle.std.specs.Prelude.{◌≡◌, ◌⊎◌, ℕ, suc, ◌+◌, ◌*◌, ◌<◌, ◌≤◌, max, List, [], ◌∷◌, ◌++◌, length, filter, slice_index, Contains, Result, Ok, Err, Option, is_none}
use Rattle.std.specs.List.{AllZip}
use Rattle.node_layout.specs.declared.damage.Damage.{Damage}
use Rattle.node_layout.specs.declared.damage.Kind.{Kind}
use Rattle.node_layout.specs.declared.damage.Kind.TheVariants.{Short, Tag}
use Rattle.node_layout.specs.Places.{parent_of, slot_of}
use Rattle.node_layout.specs.Entries.{entry_at}
use Rattle.pf_io.specs.Counts.{HasCause, counted_times}
use Rattle.pf_io.specs.Host.{Name, Answer, Gave, HostState}
use Rattle.pf_io.specs.Answered.{Answered}
use Rattle.pf_io.specs.Unchanged.{KeepsDisk}
use Rattle.node_tree.specs.Opened.{AtNodes, At, IsAt, Entry, Given, OpensUnder, FailsUnder, Opened, Fails}
use Rattle.node_tree.specs.declared.fault.TreeFault.{TreeFault}
use Rattle.node_tree.specs.declared.fault.TreeFault.TheVariants as faults

-- a result, of which only a fault of the host counts as a fault
abbrev pub host_part : {T : Type 0} → Result T TreeFault → Result (Unit {0}) (Unit {0})
host_part (Ok value) = Ok tt
host_part (Err (faults.Damaged damage)) = Ok tt
host_part (Err faults.Host) = Err tt
host_part (Err faults.Memory) = Ok tt

-- the counts after at most n reads of a node
pub record CountsReads (n : ℕ) (old new : HostState) : Type 0 where
  pub reads : new.reads ≤ old.reads + n
  pub writes : new.writes ≡ old.writes
  pub widest : new.widest ≤ max old.widest 4096

-- Calls that only read: a fault of the host comes of the host, the reads are at most n, and an honest disk stays at every moment.
pub record Asking {T : Type 0} (result : Result T TreeFault) (n : ℕ) (old new : HostState) : Type 0 where
  pub cause : HasCause old.faults new.faults (host_part result)
  pub counts : CountsReads n old new
  pub disk : KeepsDisk old new

-- n calls were made, each a read, and no other
pub record CountsCalls (n : ℕ) (old new : HostState) : Type 0 where
  pub reads : new.reads ≡ counted_times n old.reads
  pub writes : new.writes ≡ old.writes
  pub untouched : n ≡ 0 → new ≡ old

-- how many calls were made: one for each answer, and the one that failed
abbrev pub calls_of : {T : Type 0} → Result T TreeFault → ℕ → ℕ
calls_of (Ok value) answers = answers
calls_of (Err (faults.Damaged damage)) answers = answers
calls_of (Err faults.Host) answers = suc answers
calls_of (Err faults.Memory) answers = answers

-- the entry of node k: the root's, or that in the plain text of its parent
pub data HasEntry (held : AtNodes) (root : Entry) (k : ℕ) (entry : Entry) : Type 0 where
  of_root : k ≡ 1 → entry ≡ root → HasEntry held root k entry
  of_parent : (parent : List ℕ) → 2 ≤ k → held (parent_of k) parent → entry ≡ entry_at parent (slot_of k) → HasEntry held root k entry

-- the one answer of asking for node k
abbrev pub node_answer : Name → ℕ → List ℕ → List Answer
node_answer name k block = Gave name (4096 * k) 4096 block ∷ []

-- why a block is not one of the node
abbrev pub BlockFails : Entry → List ℕ → Kind → Type 0
BlockFails entry block kind = ((length block < 4096) × (kind ≡ Short)) ⊎ (FailsUnder entry block × (kind ≡ Tag))

-- the block that came of node k opens under the entry to this
pub record NodeOpens (name : Name) (k : ℕ) (entry : Entry) (old new : HostState) (plain : List ℕ) : Type 0 where
  pub block : List ℕ
  pub answered : Answered (node_answer name k block) old new
  pub opens_to : OpensUnder entry block plain

pub record NodeFails (name : Name) (k : ℕ) (entry : Entry) (old new : HostState) (damage : Damage) : Type 0 where
  pub block : List ℕ
  pub answered : Answered (node_answer name k block) old new
  pub node_is : damage.node ≡ k
  pub fails : BlockFails entry block damage.kind

-- how the opening of node k ends, with this plain text
abbrev pub NodeEnds : {T : Type 0} → Result T TreeFault → List ℕ → Name → ℕ → Entry → HostState → HostState → Type 0
NodeEnds (Ok value) plain name k entry old new = NodeOpens name k entry old new plain
NodeEnds (Err (faults.Damaged damage)) plain name k entry old new = NodeFails name k entry old new damage
NodeEnds (Err faults.Host) plain name k entry old new = Answered [] old new
NodeEnds (Err faults.Memory) plain name k entry old new = ⊥

-- What is held afterwards was held before, or opens from given blocks; and nothing that was held is let go.
pub record Fetched (held held_now given : AtNodes) (root : Entry) : Type 0 where
  pub kept : (k : ℕ) (plain : List ℕ) → held k plain → held_now k plain
  pub came : (k : ℕ) (plain : List ℕ) → held_now k plain → Opened held given root k plain

-- those of some numbers at which nothing is held
abbrev pub missing_of : (ℕ → Option (List ℕ)) → List ℕ → List ℕ
missing_of held numbers = filter (λ k. is_none (held k)) numbers

-- each number is the root's, or its parent stands before it
abbrev pub AreRooted : List ℕ → Type 0
AreRooted numbers = (i : ℕ) → i < length numbers → (slice_index numbers i ≡ 1) ⊎ ((2 ≤ slice_index numbers i) × ((j : ℕ) × (j < i) × (slice_index numbers j ≡ parent_of (slice_index numbers i))))

-- the i-th of some numbers does not open, and those before it are held
pub record FailsAt (numbers : List ℕ) (held held_now given : AtNodes) (root : Entry) (damage : Damage) : Type 0 where
  pub i : ℕ
  pub within : i < length numbers
  pub node_is : damage.node ≡ slice_index numbers i
  pub before : (j : ℕ) → j < i → IsAt held_now (slice_index numbers j)
  pub fails : Fails held given root damage.node damage.kind

-- each block that was given opens
abbrev pub EachOpens : AtNodes → AtNodes → Entry → Type 0
EachOpens held given root = (k : ℕ) (block : List ℕ) → given k block → (plain : List ℕ) × Opened held given root k plain

-- how the fetching of some numbers ends
abbrev pub FetchEnds : {T : Type 0} → Result T TreeFault → List ℕ → AtNodes → AtNodes → AtNodes → Entry → Type 0
FetchEnds (Ok value) numbers held held_now given root = (i : ℕ) → i < length numbers → IsAt held_now (slice_index numbers i)
FetchEnds (Err (faults.Damaged damage)) numbers held held_now given root = FailsAt numbers held held_now given root damage
FetchEnds (Err faults.Host) numbers held held_now given root = EachOpens held given root
FetchEnds (Err faults.Memory) numbers held held_now given root = EachOpens held given root

-- each of the numbers was asked for, and these answers came of it, in turn
abbrev pub AsksInTurn : Name → List ℕ → List Answer → Type 0
AsksInTurn name numbers these = AllZip (λ k answer. (block : List ℕ) × (answer ≡ Gave name (4096 * k) 4096 block)) numbers these

-- the first of the numbers were
pub record AsksFront (name : Name) (numbers : List ℕ) (these : List Answer) : Type 0 where
  pub done : List ℕ
  pub left : List ℕ
  pub split : numbers ≡ done ++ left
  pub asks : AsksInTurn name done these

-- those up to this one were, and none behind it
pub record AsksUpTo (name : Name) (numbers : List ℕ) (number : ℕ) (these : List Answer) : Type 0 where
  pub before : List ℕ
  pub left : List ℕ
  pub split : numbers ≡ (before ++ number ∷ []) ++ left
  pub asks : AsksInTurn name (before ++ number ∷ []) these

-- those before another one were
pub record AsksBefore (name : Name) (numbers : List ℕ) (these : List Answer) : Type 0 where
  pub done : List ℕ
  pub next : ℕ
  pub left : List ℕ
  pub split : numbers ≡ done ++ next ∷ left
  pub asks : AsksInTurn name done these

-- All of them were asked for, or those up to the one that is damaged, or those before the one at which the host failed.
abbrev pub Asks : {T : Type 0} → Result T TreeFault → Name → List ℕ → List Answer → Type 0
Asks (Ok value) name numbers these = AsksInTurn name numbers these
Asks (Err (faults.Damaged damage)) name numbers these = AsksUpTo name numbers damage.node these
Asks (Err faults.Host) name numbers these = AsksBefore name numbers these
Asks (Err faults.Memory) name numbers these = AsksFront name numbers these

-- the fetching of some numbers, by the answers that came
pub record Fetches {T : Type 0} (result : Result T TreeFault) (name : Name) (numbers : List ℕ) (held held_now : ℕ → Option (List ℕ)) (root : Entry) (old new : HostState) : Type 0 where
  pub these : List Answer
  pub answered : Answered these old new
  pub counted : CountsCalls (calls_of result (length these)) old new
  pub fetched : Fetched (At held) (At held_now) (Given name these) root
  pub only : (k : ℕ) → IsAt (At held_now) k → IsAt (At held) k ⊎ Contains numbers k
  pub asked : Asks result name (missing_of held numbers) these
  pub ends : FetchEnds result numbers (At held) (At held_now) (Given name these) root
