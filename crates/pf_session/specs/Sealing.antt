-- What a sealing leaves on an honest disk.
use Rattle.std.specs.Prelude.{◌≡◌, ◌⊎◌, ℕ, ◌<◌, ◌≤◌, Bool, true, false, List, length, Contains, slice_get, Some, Result, Ok, Err}
use Rattle.node_layout.specs.Metadata.{meta_block}
use Rattle.node_tree.specs.Backing.{Backs}
use Rattle.node_tree.specs.Next.{NextSheet}
use Rattle.node_tree.specs.Opened.{block_of}
use Rattle.node_tree.specs.Sealing.{InBlocks}
use Rattle.node_tree.specs.Sheet.{Node, Sheet, HasNode, IsLinked, sealed, meta_of}
use Rattle.node_tree.specs.State.{TreeState}
use Rattle.pf_io.specs.Disk.{Name, File, Disk, IsSettledFile}
use Rattle.pf_io.specs.Steps.{KeepsOthers}
use Rattle.pf_io.specs.Host.{HostState, OnDisk}
use Rattle.pf_io.specs.Moments.{Ran, Ends, Where}
pub use Rattle.pf_session.specs.Aside.{LeavesOthers, ChangesAlone}
use Rattle.pf_session.specs.Reopening.{AsEither, Stood, ReadsAs, HasSheet}

-- the tree on a sheet has this next sheet
pub record HasNext (sheet : Sheet) (tree : TreeState) (path nonce : List ℕ) (keys : List (List ℕ)) (next : Sheet) : Type 0 where
  pub linked : IsLinked sheet
  pub backs : Backs sheet tree
  pub is_next : NextSheet sheet tree path nonce keys next

-- A file has the next sheet's node 0 and dirty nodes; outside of these it is as it was.
pub record HasSealed (key : List ℕ) (next : Sheet) (dirty old new : List ℕ) : Type 0 where
  pub node_0 : (i : ℕ) → i < 4096 → slice_get new i ≡ slice_get (meta_block key next.nonce (meta_of next)) i
  pub seals : (k : ℕ) (node : Node) → Contains dirty k → HasNode next k node → block_of new k ≡ sealed node
  pub longer : length old ≤ length new
  pub at_least : 4096 ≤ length new
  pub before : (i : ℕ) → 4096 ≤ i → i < length old → ¬ (InBlocks dirty i) → slice_get new i ≡ slice_get old i

-- so it is in the end, where the file was there, and nothing is pending
pub record SealsFile (key : List ℕ) (next : Sheet) (dirty : List ℕ) (name : Name) (old new : Disk) : Type 0 where
  pub others : KeepsOthers name old new
  pub there : (file : File) → old name ≡ Some file → (file' : File) × (new name ≡ Some file') × IsSettledFile file' × HasSealed key next dirty file.bytes file'.bytes

abbrev pub SealLeaves : {T E : Type 0} → Result T E → List ℕ → Sheet → List ℕ → Name → Disk → Disk → Type 0
SealLeaves (Ok done) key next dirty name old new = SealsFile key next dirty name old new
SealLeaves (Err fault) key next dirty name old new = KeepsOthers name old new

-- nothing is pending at the name, and its file stands for the sheet; or it is as before
abbrev pub StoodOrKept : List ℕ → Name → Sheet → Disk → Disk → Type 0
StoodOrKept key name next old new = (new name ≡ old name) ⊎ Stood key name next new

-- in the end: the next sheet, or where it is not done the next one or as before
abbrev pub StoodIf : Bool → List ℕ → Name → Sheet → Disk → Disk → Type 0
StoodIf true key name next old new = Stood key name next new
StoodIf false key name next old new = StoodOrKept key name next old new

-- A new version took the place of the last one, where this was settled: at every moment an image reopens as one of the two.
abbrev pub Replaces : Bool → List ℕ → Name → Sheet → Sheet → HostState → HostState → Type 0
Replaces done key name base next before after = OnDisk before after (Where (Stood key name base) (Ran (AsEither key name base next) (StoodIf done key name next)))

-- Where the name stood for the base, whatever was pending at it, it stands for the next sheet in the end, and nothing is pending there.
abbrev pub StandsNext : List ℕ → Name → Sheet → Sheet → HostState → HostState → Type 0
StandsNext key name base next before after = OnDisk before after (Where (ReadsAs key name base) (Ends (λ _. HasSheet key name next)))
