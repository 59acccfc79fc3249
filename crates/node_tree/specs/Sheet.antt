-- A sealed version of a file, and the bytes that stand for it.
use Rattle.std.specs.Prelude.{◌≡◌, ◌⊎◌, ℕ, ◌+◌, ◌-◌, ◌<◌, ◌≤◌, List, [], ◌∷◌, ◌++◌, length, replicate, slice_get, Option, Some, None}
use Rattle.std.specs.List.{flat_map}
use Rattle.aes_gcm.specs.Gcm.{seal}
use Rattle.node_layout.specs.Metadata.{IsPath, MOST_SIZE, meta_text, meta_block}
use Rattle.node_layout.specs.Places.{data_place, node_count, parent_of, slot_of}
use Rattle.node_layout.specs.Entries.{entry_at}
use Rattle.node_tree.specs.Content.{first_text, data_text}

-- a node from 1 on
pub record Node : Type 0 where
  pub key : List ℕ
  pub plain : List ℕ

abbrev pub sealed : Node → List ℕ
sealed node = (seal node.key [] node.plain).0

abbrev pub tag_of : Node → List ℕ
tag_of node = (seal node.key [] node.plain).1

-- `nodes` has the nodes from 1 on
pub record Sheet : Type 0 where
  pub path : List ℕ
  pub nonce : List ℕ
  pub content : List ℕ
  pub nodes : List Node

-- the sheet has this node at number k
pub record HasNode (sheet : Sheet) (k : ℕ) (node : Node) : Type 0 where
  pub numbered : 1 ≤ k
  pub there : slice_get sheet.nodes (k - 1) ≡ Some node

-- the plain text of a node that is there
abbrev pub plain_or_none : Option Node → List ℕ
plain_or_none (Some node) = node.plain
plain_or_none None = []

abbrev pub plain_in : Sheet → ℕ → List ℕ
plain_in sheet k = plain_or_none (slice_get sheet.nodes (k - 1))

-- Each data node has its slice of the content. Each node but the root has its key and its tag in its parent.
pub record IsLinked (sheet : Sheet) : Type 0 where
  pub path_is : IsPath sheet.path
  pub nonce_length : length sheet.nonce ≡ 32
  pub not_large : length sheet.content ≤ MOST_SIZE
  pub all_nodes : 1 + length sheet.nodes ≡ node_count (length sheet.content)
  pub key_length : (k : ℕ) (node : Node) → HasNode sheet k node → length node.key ≡ 16
  pub whole : (k : ℕ) (node : Node) → HasNode sheet k node → length node.plain ≡ 4096
  pub slices : (d : ℕ) (node : Node) → HasNode sheet (data_place d) node → node.plain ≡ data_text sheet.content d
  pub entries : (k : ℕ) (parent node : Node) → 2 ≤ k → HasNode sheet (parent_of k) parent → HasNode sheet k node → entry_at parent.plain (slot_of k) ≡ (node.key, tag_of node)

-- Node 1 is the root; where there is none its key and tag are zero.
abbrev pub root_of : List Node → List ℕ × List ℕ
root_of [] = (replicate 16 0, replicate 16 0)
root_of (root ∷ nodes) = (root.key, tag_of root)

-- the text of the sheet's metadata
abbrev pub meta_of : Sheet → List ℕ
meta_of sheet = meta_text sheet.path (length sheet.content) (root_of sheet.nodes).0 (root_of sheet.nodes).1 (first_text sheet.content)

-- the sheet's file: node 0 under the user's key, and the seals of the other nodes
abbrev pub image_of : List ℕ → Sheet → List ℕ
image_of user sheet = meta_block user sheet.nonce (meta_of sheet) ++ flat_map sealed sheet.nodes

-- the padding of node 0, whose bytes are free
abbrev pub PADDING : ℕ
PADDING = 3939

-- The file begins with the sheet's, the padding of node 0 aside. What follows is free.
pub record Stands (file user : List ℕ) (sheet : Sheet) : Type 0 where
  pub linked : IsLinked sheet
  pub long : length (image_of user sheet) ≤ length file
  pub same : (i : ℕ) → i < length (image_of user sheet) → (i < PADDING) ⊎ (4096 ≤ i) → slice_get file i ≡ slice_get (image_of user sheet) i

-- A file stands for at most one path, nonce and content under a user's key.
abbrev pub StandsForOne : Type 0
StandsForOne = (file user : List ℕ) (sheet other : Sheet) → length user ≡ 16 → Stands file user sheet → Stands file user other
    → (sheet.path ≡ other.path) × (sheet.nonce ≡ other.nonce) × (sheet.content ≡ other.content)
