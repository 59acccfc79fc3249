-- The nodes that a step over some bytes of a content touches.
use Rattle.std.specs.Prelude.{◌≡◌, ◌⊎◌, ◌↔◌, ℕ, ◌+◌, ◌*◌, ◌<◌, List, Contains}
use Rattle.std.specs.List.Sorted.{IsStrictlyIncreasing}
use Rattle.node_layout.specs.Places.{data_place, mht_place, IsOnPath}

-- data node d has a byte from a up to b
pub record Meets (a b d : ℕ) : Type 0 where
  pub some : a < b
  pub begins : 3072 + 4096 * d < b
  pub ends : a < 3072 + 4096 * (d + 1)

-- one of these data nodes, or a hash-tree node on the path of one
abbrev pub IsTouched : ℕ → ℕ → ℕ → Type 0
IsTouched a b k = (d : ℕ) × Meets a b d × ((k ≡ data_place d) ⊎ ((m : ℕ) × IsOnPath d m × (k ≡ mht_place m)))

-- they are these, in rising order
pub record AreTouched (a b : ℕ) (numbers : List ℕ) : Type 0 where
  pub rising : IsStrictlyIncreasing numbers
  pub exactly : (k : ℕ) → Contains numbers k ↔ IsTouched a b k
