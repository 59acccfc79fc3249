-- Steps and writes that are small enough to compute.
use Rattle.std.specs.Prelude.{◌≡◌, ℕ, List, [], ◌∷◌, Option}
use Rattle.pf_io.specs.Host.{Name, Wrote}
use Rattle.node_tree.specs.Touched.{AreTouched}
use Rattle.node_tree.specs.State.{plain_or}
use Rattle.node_tree.specs.Sealing.{seal_for, writes_of}
use Rattle.node_tree.specs.Applying.{Step, Write, Size, applied, from_of, to_of}

-- these are the nodes that a step on a content of this size touches
abbrev pub TouchesThese : Step → ℕ → List ℕ → Type 0
TouchesThese step size numbers = AreTouched (from_of step size) (to_of step size) numbers

-- the last of 396,289 bytes is the first of data node 96: the root, hash-tree node 1 and that node
abbrev pub LastByteTouched : Type 0
LastByteTouched = (byte : ℕ) → TouchesThese (Write 396288 (byte ∷ [])) 396289 (1 ∷ 98 ∷ 99 ∷ [])

pub record RangesTouched : Type 0 where
  -- bytes on both sides of byte 3072
  pub across : AreTouched 3000 3100 (1 ∷ 2 ∷ [])
  -- no byte
  pub nothing : AreTouched 5000 5000 []

-- a shrink from 5000 bytes to 100 leaves no data node, and concerns none
pub record ShrinkConcerns : Type 0 where
  pub from_is : from_of (Size 100) 5000 ≡ 100
  pub to_is : to_of (Size 100) 5000 ≡ 3072

pub record StepsApplied : Type 0 where
  pub written : applied (Write 1 (8 ∷ 9 ∷ [])) (1 ∷ 2 ∷ 3 ∷ 4 ∷ []) ≡ 1 ∷ 8 ∷ 9 ∷ 4 ∷ []
  pub written_on : applied (Write 2 (8 ∷ 9 ∷ [])) (1 ∷ 2 ∷ 3 ∷ []) ≡ 1 ∷ 2 ∷ 8 ∷ 9 ∷ []
  pub cut : applied (Size 2) (1 ∷ 2 ∷ 3 ∷ []) ≡ 1 ∷ 2 ∷ []
  pub grown : applied (Size 5) (1 ∷ 2 ∷ 3 ∷ []) ≡ 1 ∷ 2 ∷ 3 ∷ 0 ∷ 0 ∷ []

-- node 2 is written before node 1, each under its key
abbrev pub TwoWritten : Type 0
TwoWritten = (name : Name) (held : ℕ → Option (List ℕ)) (first second : List ℕ) → writes_of name held (1 ∷ 2 ∷ []) (first ∷ second ∷ [])
    ≡ Wrote name 8192 (seal_for second (plain_or (held 2) [])) ∷ Wrote name 4096 (seal_for first (plain_or (held 1) [])) ∷ []
