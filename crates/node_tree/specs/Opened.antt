-- Nodes opened from blocks, from the root down.
use Rattle.std.specs.Prelude.{◌≡◌, ℕ, ◌*◌, ◌<◌, ◌≤◌, List, [], length, take, drop, Contains, Some, None, Option}
use Rattle.aes_gcm.specs.Gcm.{opens}
use Rattle.node_layout.specs.declared.damage.Kind.{Kind}
use Rattle.node_layout.specs.declared.damage.Kind.TheVariants.{Short, Tag}
use Rattle.pf_io.specs.Host.{Name, Answer, Gave}
use Rattle.node_layout.specs.Places.{parent_of, slot_of}
use Rattle.node_layout.specs.Entries.{entry_at}

-- lists of bytes at numbers of nodes: plain texts that are held, or blocks that were given
abbrev pub AtNodes : Type 1
AtNodes = ℕ → List ℕ → Type 0

-- those that a function gives
abbrev pub At : (ℕ → Option (List ℕ)) → AtNodes
At f k bytes = f k ≡ Some bytes

-- something is at node k
abbrev pub IsAt : AtNodes → ℕ → Type 0
IsAt there k = (bytes : List ℕ) × there k bytes

-- a key and a tag
abbrev pub Entry : Type 0
Entry = List ℕ × List ℕ

-- the whole block opens under the entry
pub record OpensUnder (entry : Entry) (block plain : List ℕ) : Type 0 where
  pub whole : length block ≡ 4096
  pub opened : opens entry.0 [] block entry.1 ≡ Some plain

-- Node k has this plain text: it is held, or it is not, and a block given of it opens under the root's entry, or under its entry in the plain text of its parent.
pub data Opened (held given : AtNodes) (root : Entry) : ℕ → List ℕ → Type 0 where
  was_held : (k : ℕ) (plain : List ℕ) → held k plain → Opened held given root k plain
  root_opens : (k : ℕ) (block plain : List ℕ) → ¬ (IsAt held k) → k ≡ 1 → given k block → OpensUnder root block plain → Opened held given root k plain
  child_opens : (k : ℕ) (parent block plain : List ℕ) → ¬ (IsAt held k) → 2 ≤ k → Opened held given root (parent_of k) parent → given k block → OpensUnder (entry_at parent (slot_of k)) block plain
      → Opened held given root k plain

-- the whole block does not open under the entry
pub record FailsUnder (entry : Entry) (block : List ℕ) : Type 0 where
  pub whole : length block ≡ 4096
  pub refused : opens entry.0 [] block entry.1 ≡ None

-- why a block that was given of node k, which is not held, is none
pub data Fails (held given : AtNodes) (root : Entry) (k : ℕ) (kind : Kind) : Type 0 where
  is_short : (block : List ℕ) → ¬ (IsAt held k) → given k block → length block < 4096 → kind ≡ Short → Fails held given root k kind
  root_fails : (block : List ℕ) → ¬ (IsAt held k) → k ≡ 1 → given k block → FailsUnder root block → kind ≡ Tag → Fails held given root k kind
  child_fails : (parent block : List ℕ) → ¬ (IsAt held k) → 2 ≤ k → Opened held given root (parent_of k) parent → given k block → FailsUnder (entry_at parent (slot_of k)) block → kind ≡ Tag
      → Fails held given root k kind

-- blocks that a host gave of a name, with room for a whole one
abbrev pub Given : Name → List Answer → AtNodes
Given name these k block = Contains these (Gave name (4096 * k) 4096 block)

-- over a file alone: nothing is held, and a block is what the file has at its place
abbrev pub NothingHeld : AtNodes
NothingHeld k plain = ⊥

abbrev pub block_of : List ℕ → ℕ → List ℕ
block_of file k = take 4096 (drop (4096 * k) file)

abbrev pub BlockOf : List ℕ → AtNodes
BlockOf file k block = block ≡ block_of file k
