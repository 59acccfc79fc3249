-- Sheets that exist.
use Rattle.std.specs.Prelude.{◌≡◌, ℕ, ◌-◌, ◌≤◌, List, [], length, slice_index_or, All}
use Rattle.node_layout.specs.Metadata.{IsPath, MOST_SIZE}
use Rattle.node_layout.specs.Places.{node_count}
use Rattle.node_tree.specs.Sheet.{Node, Sheet, HasNode, IsLinked}

-- the keys of some nodes
pub record AreKeys (count : ℕ) (keys : List (List ℕ)) : Type 0 where
  pub one_each : length keys ≡ count
  pub whole : All (λ key. length key ≡ 16) keys

-- a path and a nonce for a content of this size
pub record MayBeSealed (path nonce : List ℕ) (size : ℕ) : Type 0 where
  pub path_is : IsPath path
  pub nonce_length : length nonce ≡ 32
  pub not_large : size ≤ MOST_SIZE

-- a linked sheet of a content, with these keys
pub record IsSheetOf (path nonce content : List ℕ) (keys : List (List ℕ)) (sheet : Sheet) : Type 0 where
  pub linked : IsLinked sheet
  pub path_is : sheet.path ≡ path
  pub nonce_is : sheet.nonce ≡ nonce
  pub content_is : sheet.content ≡ content
  pub keys_are : (k : ℕ) (node : Node) → HasNode sheet k node → node.key ≡ slice_index_or keys (k - 1) []

-- Each content has a linked sheet under each path, nonce and keys.
abbrev pub LinkedExist : Type 0
LinkedExist = (path nonce content : List ℕ) (keys : List (List ℕ)) → MayBeSealed path nonce (length content) → AreKeys (node_count (length content) - 1) keys → (sheet : Sheet) × IsSheetOf path nonce content keys sheet
