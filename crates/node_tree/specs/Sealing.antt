-- The sealing of dirty nodes, children first.
use Rattle.std.specs.Prelude.{◌≡◌, ◌≢◌, ℕ, ◌+◌, ◌-◌, ◌*◌, ◌<◌, ◌≤◌, max, true, List, [], ◌∷◌, ◌++◌, length, drop, slice_index, slice_index_or, slice_get, Contains, Option, Some, None, Result, Ok, Err}
use Rattle.std.specs.BTreeMap.{BTreeMap}
use Rattle.pf_io.specs.Disk.{File, Disk, Image, IsImageAt, IsSettledFile}
use Rattle.pf_io.specs.Host.{Name, Answer, Wrote, HostState, Both, IsMore}
use Rattle.pf_io.specs.Steps.{KeepsOthers}
use Rattle.node_layout.specs.Places.{parent_of, slot_of}
use Rattle.node_layout.specs.Entries.{entry_at}
use Rattle.node_tree.specs.Sheet.{Node, Sheet, HasNode, sealed, tag_of}
use Rattle.node_tree.specs.Opened.{Entry, IsAt, block_of}
use Rattle.node_tree.specs.Nodes.{Keeps}
use Rattle.pf_io.specs.Counts.{counted_times}
use Rattle.node_tree.specs.Marks.{KeepsMarks}
use Rattle.node_tree.specs.State.{AreBlocks, plain_or}
use Rattle.node_tree.specs.declared.nodes.HeldNode.{HeldNode}

-- the counts after at most n writes of a node
pub record CountsPuts (n : ℕ) (old new : HostState) : Type 0 where
  pub reads : new.reads ≡ old.reads
  pub writes : new.writes ≤ old.writes + n
  pub widest : new.widest ≤ max old.widest 4096

-- n writes were made, and no other call
pub record CountsWrites (n : ℕ) (old new : HostState) : Type 0 where
  pub reads : new.reads ≡ old.reads
  pub writes : new.writes ≡ counted_times n old.writes
  pub untouched : n ≡ 0 → new ≡ old

-- only the bytes of nodes that are held changed
pub record KeepsNodes (old new : BTreeMap ℕ HeldNode) : Type 0 where
  pub marks : KeepsMarks old new
  pub blocks : AreBlocks (Keeps old) → AreBlocks (Keeps new)
  pub held : (k : ℕ) → IsAt (Keeps old) k → IsAt (Keeps new) k

-- a number has the key at its place
pub record HasKey (numbers : List ℕ) (keys : List (List ℕ)) (k : ℕ) (key : List ℕ) : Type 0 where
  pub place : ℕ
  pub within : place < length numbers
  pub number_is : slice_index numbers place ≡ k
  pub key_is : slice_index_or keys place [] ≡ key

-- a plain text that is sealed under a key
abbrev pub seal_for : List ℕ → List ℕ → List ℕ
seal_for key plain = sealed (record { key = key; plain = plain })

-- the key, and the tag of a plain text that is sealed under it
abbrev pub entry_for : List ℕ → List ℕ → Entry
entry_for key plain = (key, tag_of (record { key = key; plain = plain }))

-- the entry of one node was put into its parent, or is the root's now
pub record IsEntryPut (k : ℕ) (entry : Entry) (held held_now : ℕ → Option (List ℕ)) (root root_now : Entry) : Type 0 where
  pub of_root : k ≡ 1 → root_now ≡ entry
  pub not_root : 2 ≤ k → root_now ≡ root
  pub here : (plain : List ℕ) → 2 ≤ k → held_now (parent_of k) ≡ Some plain → entry_at plain (slot_of k) ≡ entry
  pub same_parent : (plain : List ℕ) → 2 ≤ k → held (parent_of k) ≡ Some plain → (after : List ℕ) × (held_now (parent_of k) ≡ Some after) × (length after ≡ length plain)
      × ((s : ℕ) → s < 128 → s ≢ slot_of k → entry_at after s ≡ entry_at plain s)
  pub others : (j : ℕ) → (2 ≤ k → j ≢ parent_of k) → held_now j ≡ held j

-- a node after the entries of some nodes were put: the entries of all others are as before
pub record KeepsEntries (numbers : List ℕ) (k : ℕ) (plain : List ℕ) (node : Option (List ℕ)) : Type 0 where
  pub after : List ℕ
  pub there : node ≡ Some after
  pub same_length : length after ≡ length plain
  pub others : (c : ℕ) → 2 ≤ c → parent_of c ≡ k → ¬ (Contains numbers c) → entry_at after (slot_of c) ≡ entry_at plain (slot_of c)

-- Some nodes were sealed under these keys, children first: in each parent stands the entry of what the node has in the end.
pub record ArePut (numbers : List ℕ) (keys : List (List ℕ)) (held held_now : ℕ → Option (List ℕ)) (root root_now : Entry) : Type 0 where
  pub entries : (k : ℕ) (key plain parent : List ℕ) → HasKey numbers keys k key → 2 ≤ k → held_now k ≡ Some plain → held_now (parent_of k) ≡ Some parent → entry_at parent (slot_of k) ≡ entry_for key plain
  pub root_is : (key plain : List ℕ) → HasKey numbers keys 1 key → held_now 1 ≡ Some plain → root_now ≡ entry_for key plain
  pub no_root : ¬ (Contains numbers 1) → root_now ≡ root
  pub kept : (k : ℕ) (plain : List ℕ) → held k ≡ Some plain → KeepsEntries numbers k plain (held_now k)
  pub childless : (k : ℕ) → ((c : ℕ) → Contains numbers c → 2 ≤ c → parent_of c ≢ k) → held_now k ≡ held k

-- the writes of their seals, the last number first
abbrev pub writes_of : Name → (ℕ → Option (List ℕ)) → List ℕ → List (List ℕ) → List Answer
writes_of name held [] keys = []
writes_of name held (k ∷ numbers) [] = []
writes_of name held (k ∷ numbers) (key ∷ keys) = writes_of name held numbers keys ++ (Wrote name (4096 * k) (seal_for key (plain_or (held k) [])) ∷ [])

-- Some of the writes were told, those of the last numbers, and at least one was left undone. The calls are those that were told, and the one that failed.
pub record PutsFront (name : Name) (held : ℕ → Option (List ℕ)) (numbers : List ℕ) (keys : List (List ℕ)) (old new : HostState) : Type 0 where
  pub left : ℕ
  pub undone : 1 ≤ left
  pub within : left ≤ length numbers
  pub calls : CountsWrites (length numbers - left + 1) old new
  pub told : Both old.given new.given (IsMore (writes_of name held (drop left numbers) (drop left keys)))

-- all of them were, or at a fault some
abbrev pub PutTold : {T E : Type 0} → Result T E → Name → (ℕ → Option (List ℕ)) → List ℕ → List (List ℕ) → HostState → HostState → Type 0
PutTold (Ok value) name held numbers keys old new = Both old.given new.given (IsMore (writes_of name held numbers keys))
PutTold (Err fault) name held numbers keys old new = PutsFront name held numbers keys old new

-- byte i stands in the block of one of these nodes
abbrev pub InBlocks : List ℕ → ℕ → Type 0
InBlocks numbers i = (k : ℕ) × Contains numbers k × (4096 * k ≤ i) × (i < 4096 * k + 4096)

-- Each of the nodes that were put has its seal at its place; what was there and is outside the blocks of the dirty nodes is as before, a gap before them is zeros, and the file does not go on behind them.
pub record HasSeals (numbers : List ℕ) (keys : List (List ℕ)) (held : ℕ → Option (List ℕ)) (dirty old new : List ℕ) : Type 0 where
  pub seals : (k : ℕ) (key plain : List ℕ) → HasKey numbers keys k key → held k ≡ Some plain → block_of new k ≡ seal_for key plain
  pub longer : length old ≤ length new
  pub before : (i : ℕ) → i < length old → ¬ (InBlocks dirty i) → slice_get new i ≡ slice_get old i
  pub gap : (i : ℕ) → length old ≤ i → i < length new → ¬ (InBlocks dirty i) → slice_get new i ≡ Some 0
  pub ends : (i : ℕ) → length old ≤ i → i < length new → (k : ℕ) × Contains dirty k × (i < 4096 * k + 4096)

-- the file so far, and what of it a crash keeps: the bytes outside the blocks of the dirty nodes, the shortest length, and the longest one but for those blocks
pub record SealedFile (numbers : List ℕ) (keys : List (List ℕ)) (held : ℕ → Option (List ℕ)) (dirty : List ℕ) (old new : File) : Type 0 where
  pub reads : HasSeals numbers keys held dirty old.bytes new.bytes
  pub keeps : (i : ℕ) → old.keeps i ≡ true → ¬ (InBlocks dirty i) → new.keeps i ≡ true
  pub shortest : old.shortest ≤ new.shortest
  pub longest : (i : ℕ) → old.longest ≤ i → i < new.longest → (k : ℕ) × Contains dirty k × (i < 4096 * k + 4096)

-- what a crash leaves of a file: no fewer bytes than it had, outside the blocks of the dirty nodes those that it had, and behind its end none but up to the end of such a block
pub record LeavesFile (dirty : List ℕ) (file : File) (left : Option (List ℕ)) : Type 0 where
  pub bytes : List ℕ
  pub there : left ≡ Some bytes
  pub longer : length file.bytes ≤ length bytes
  pub before : (i : ℕ) → i < length file.bytes → ¬ (InBlocks dirty i) → slice_get bytes i ≡ slice_get file.bytes i
  pub ends : (i : ℕ) → length file.bytes ≤ i → i < length bytes → (k : ℕ) × Contains dirty k × (i < 4096 * k + 4096)

-- An image at every moment: where nothing was pending at the name, it has the file but for the blocks of the dirty nodes; where the name is absent, it has none; and of every other name it has what a crash may leave of the disk.
pub record LeavesOutside (name : Name) (dirty : List ℕ) (disk : Disk) (image : Image) : Type 0 where
  pub here : (file : File) → disk name ≡ Some file → IsSettledFile file → LeavesFile dirty file (image name)
  pub absent : disk name ≡ None → image name ≡ None
  pub others : (other : Name) → other ≢ name → IsImageAt (disk other) (image other)

-- the seals of the next sheet stand at the places of the dirty nodes; elsewhere the file is as before, with zeros in a gap
pub record HasSealsOf (next : Sheet) (dirty old new : List ℕ) : Type 0 where
  pub seals : (k : ℕ) (node : Node) → Contains dirty k → HasNode next k node → block_of new k ≡ sealed node
  pub longer : length old ≤ length new
  pub before : (i : ℕ) → i < length old → ¬ (InBlocks dirty i) → slice_get new i ≡ slice_get old i
  pub gap : (i : ℕ) → length old ≤ i → i < length new → ¬ (InBlocks dirty i) → slice_get new i ≡ Some 0
  pub ends : (i : ℕ) → length old ≤ i → i < length new → (k : ℕ) × Contains dirty k × (i < 4096 * k + 4096)

-- In the end all other names stay, and where the name is there, at Ok its file has R with the one before; where it is absent, it stays so.
pub record PutsAll (R : File → File → Type 0) (name : Name) (old new : Disk) : Type 0 where
  pub there : (file : File) → old name ≡ Some file → (file' : File) × (new name ≡ Some file') × R file file'
  pub absent : old name ≡ None → new name ≡ None
  pub others : KeepsOthers name old new

abbrev pub PutEnds : {T E : Type 0} → Result T E → (File → File → Type 0) → Name → Disk → Disk → Type 0
PutEnds (Ok value) R name old new = PutsAll R name old new
PutEnds (Err fault) R name old new = KeepsOthers name old new
