-- Parts of a content, read from nodes that open.
use Rattle.std.specs.Prelude.{◌≡◌, ℕ, ◌+◌, ◌-◌, ◌<◌, ◌≤◌, min, List, [], ◌∷◌, Some, None, Option, Result, Ok, Err}
use Rattle.node_layout.specs.declared.damage.Damage.{Damage}
use Rattle.node_layout.specs.declared.metadata.MetaSecret.{MetaSecret}
use Rattle.node_layout.specs.Opening.{OpensTo}
use Rattle.node_tree.specs.Content.{bytes_of}
use Rattle.node_tree.specs.Touched.{IsTouched}
use Rattle.node_tree.specs.Opened.{AtNodes, Entry, Opened, Fails, NothingHeld, BlockOf, block_of}

-- the n bytes from a place on, where each touched node opens
pub record IsWhole (held given : AtNodes) (root : Entry) (first : List ℕ) (at n : ℕ) (bytes : List ℕ) : Type 0 where
  pub plain : ℕ → List ℕ
  pub each : (k : ℕ) → IsTouched at (at + n) k → Opened held given root k (plain k)
  pub are : bytes ≡ bytes_of first plain at n

-- the first touched node, in rising number, that does not open
pub record IsBroken (held given : AtNodes) (root : Entry) (at n : ℕ) (damage : Damage) : Type 0 where
  pub touched : IsTouched at (at + n) damage.node
  pub before : (k : ℕ) → IsTouched at (at + n) k → k < damage.node → (plain : List ℕ) × Opened held given root k plain
  pub fails : Fails held given root damage.node damage.kind

-- what a read of n bytes from a place on comes to
abbrev pub IsPart : AtNodes → AtNodes → Entry → List ℕ → ℕ → ℕ → Result (List ℕ) Damage → Type 0
IsPart held given root first at n (Ok bytes) = IsWhole held given root first at n bytes
IsPart held given root first at n (Err damage) = IsBroken held given root at n damage

-- over a file alone, with the root's entry and the first bytes that its metadata have
abbrev pub IsFilePart : List ℕ → MetaSecret → ℕ → ℕ → Result (List ℕ) Damage → Type 0
IsFilePart file secret at n part = IsPart NothingHeld (BlockOf file) (secret.root_key, secret.root_tag) secret.first at n part

-- A part of a file comes to one end.
abbrev pub OnePart : Type 0
OnePart = (file : List ℕ) (secret : MetaSecret) (at n : ℕ) (part other : Result (List ℕ) Damage) → IsFilePart file secret at n part → IsFilePart file secret at n other → part ≡ other

abbrev pub PIECE : ℕ
PIECE = 32768

-- the parts of a file from a place on, up to the content's end or to the first that fails
abbrev pub ArePiecesFrom : List ℕ → MetaSecret → ℕ → List (List ℕ) → Option Damage → Type 0
ArePiecesFrom file secret at [] None = secret.size ≤ at
ArePiecesFrom file secret at [] (Some damage) = (at < secret.size) × IsFilePart file secret at (min PIECE (secret.size - at)) (Err damage)
ArePiecesFrom file secret at (piece ∷ pieces) end = (at < secret.size) × IsFilePart file secret at (min PIECE (secret.size - at)) (Ok piece) × ArePiecesFrom file secret (at + PIECE) pieces end

-- The pieces of a file's content under a user's key, and the damage of the one that failed, if one did.
pub record ArePieces (user file : List ℕ) (pieces : List (List ℕ)) (end : Option Damage) : Type 0 where
  pub secret : MetaSecret
  pub opens_to : OpensTo user (block_of file 0) secret
  pub pieces_are : ArePiecesFrom file secret 0 pieces end

-- The pieces of a file are one list, with one end.
abbrev pub OnePieces : Type 0
OnePieces = (user file : List ℕ) (pieces others : List (List ℕ)) (end other : Option Damage) → ArePieces user file pieces end → ArePieces user file others other → (pieces ≡ others) × (end ≡ other)
