-- Nodes that are copied from one name to another.
use Rattle.std.specs.Prelude.{◌≡◌, ℕ, zero, suc, ◌+◌, ◌-◌, ◌*◌, ◌<◌, ◌≤◌, ◌==◌, Bool, true, false, cond, List, [], ◌∷◌, ◌++◌, length, Contains, All, slice_get, Option, Some, Result, Ok, Err}
use Rattle.pf_io.specs.Disk.{Name, File, Disk, read_of}
use Rattle.pf_io.specs.Host.{Answer, Gave, Wrote, HostState, contents}
use Rattle.pf_io.specs.Steps.{KeepsOthers}
use Rattle.node_layout.specs.declared.damage.Damage.{Damage}
use Rattle.node_layout.specs.declared.damage.Kind.TheVariants.{Short}
use Rattle.pf_session.specs.Asking.{NoCall, Asked, Stopped}
use Rattle.pf_session.specs.declared.fault.FlushFault.{FlushFault}
use Rattle.pf_session.specs.declared.fault.FlushFault.TheVariants as faults

abbrev pub is_in : List ℕ → ℕ → Bool
is_in [] k = false
is_in (d ∷ dirty) k = cond (d == k) true (is_in dirty k)

-- those of n numbers, from one on, that are not dirty
abbrev pub clean_from : List ℕ → ℕ → ℕ → List ℕ
clean_from dirty k zero = []
clean_from dirty k (suc n) = cond (is_in dirty k) (clean_from dirty (k + 1) n) (k ∷ clean_from dirty (k + 1) n)

-- the nodes from 1 on, of so many in all, that are not dirty
abbrev pub clean_below : List ℕ → ℕ → List ℕ
clean_below dirty count = clean_from dirty 1 (count - 1)

-- each node is read, and written at the same place
abbrev pub copied : Name → Name → List ℕ → List (List ℕ) → List Answer
copied from to [] blocks = []
copied from to (k ∷ numbers) [] = []
copied from to (k ∷ numbers) (block ∷ blocks) = Gave from (4096 * k) 4096 block ∷ Wrote to (4096 * k) block ∷ copied from to numbers blocks

-- a whole block for each node
pub record AreBlocksOf (numbers : List ℕ) (blocks : List (List ℕ)) : Type 0 where
  pub one_each : length blocks ≡ length numbers
  pub whole : All (λ block. length block ≡ 4096) blocks

-- all were copied
pub record Copied (from to : Name) (numbers : List ℕ) (old new : HostState) : Type 0 where
  pub blocks : List (List ℕ)
  pub are_blocks : AreBlocksOf numbers blocks
  pub asked : Asked (copied from to numbers blocks) NoCall old new

-- a call failed; the blocks of the nodes that were not read are any
pub record CopyStopped (from to : Name) (numbers : List ℕ) (old new : HostState) : Type 0 where
  pub blocks : List (List ℕ)
  pub are_blocks : AreBlocksOf numbers blocks
  pub stopped : Stopped (copied from to numbers blocks) old new

-- those before a node were copied, and of it too few bytes were given
pub record CopyShort (from to : Name) (numbers : List ℕ) (damage : Damage) (old new : HostState) : Type 0 where
  pub done : List ℕ
  pub left : List ℕ
  pub blocks : List (List ℕ)
  pub block : List ℕ
  pub in_order : numbers ≡ done ++ damage.node ∷ left
  pub are_blocks : AreBlocksOf done blocks
  pub short : length block < 4096
  pub kind_is : damage.kind ≡ Short
  pub asked : Asked (copied from to done blocks ++ Gave from (4096 * damage.node) 4096 block ∷ []) NoCall old new

abbrev pub CopyGoes : Result (Unit {0}) FlushFault → Name → Name → List ℕ → HostState → HostState → Type 0
CopyGoes (Ok done) from to numbers old new = Copied from to numbers old new
CopyGoes (Err faults.Words) from to numbers old new = ⊥
CopyGoes (Err (faults.Damaged damage)) from to numbers old new = CopyShort from to numbers damage old new
CopyGoes (Err faults.Host) from to numbers old new = CopyStopped from to numbers old new

-- a number is below each of some
abbrev pub IsBefore : ℕ → List ℕ → Type 0
IsBefore i numbers = (k : ℕ) → Contains numbers k → i < 4096 * k

-- The file has the bytes of these nodes, each of which is there whole; bytes before all of them are as they were.
pub record HasCopies (numbers bytes old : List ℕ) (here : Option File) : Type 0 where
  pub file : File
  pub there : here ≡ Some file
  pub within : (k : ℕ) → Contains numbers k → (4096 * k + 4096 ≤ length bytes) × (4096 * k + 4096 ≤ length file.bytes)
  pub same : (k i : ℕ) → Contains numbers k → 4096 * k ≤ i → i < 4096 * k + 4096 → slice_get file.bytes i ≡ slice_get bytes i
  pub longer : length old ≤ length file.bytes
  pub before : (i : ℕ) → IsBefore i numbers → i < length old → slice_get file.bytes i ≡ slice_get old i

-- The nodes were copied into a file that was there. No other name changed.
pub record CopiesInto (from to : Name) (numbers : List ℕ) (old new : Disk) : Type 0 where
  pub others : KeepsOthers to old new
  pub copies : (file : File) → old to ≡ Some file → HasCopies numbers (contents (read_of (old from))) file.bytes (new to)

-- of a node the file does not have the whole
pub record CopyBreaks (from to : Name) (numbers : List ℕ) (damage : Damage) (old new : Disk) : Type 0 where
  pub others : KeepsOthers to old new
  pub among : Contains numbers damage.node
  pub short : length (contents (read_of (old from))) < 4096 * damage.node + 4096

abbrev pub CopyLeaves : Result (Unit {0}) FlushFault → Name → Name → List ℕ → Disk → Disk → Type 0
CopyLeaves (Ok done) from to numbers old new = CopiesInto from to numbers old new
CopyLeaves (Err faults.Words) from to numbers old new = KeepsOthers to old new
CopyLeaves (Err (faults.Damaged damage)) from to numbers old new = CopyBreaks from to numbers damage old new
CopyLeaves (Err faults.Host) from to numbers old new = KeepsOthers to old new
