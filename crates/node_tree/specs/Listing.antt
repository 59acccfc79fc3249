-- Lists of numbers of nodes, in rising order.
use Rattle.std.specs.Prelude.{◌≡◌, ◌⊎◌, ◌↔◌, ℕ, ◌+◌, ◌-◌, ◌*◌, ◌/◌, ◌%◌, ◌<◌, ◌≤◌, List, length, Contains}
use Rattle.std.specs.List.Sorted.{IsStrictlyIncreasing}
use Rattle.node_layout.specs.Places.{data_place, mht_place, up, levels_up}

-- the number was put behind the others, where it was not there
pub record Adds (old new : List ℕ) (number : ℕ) : Type 0 where
  pub rising : IsStrictlyIncreasing new
  pub members : (k : ℕ) → Contains new k ↔ (Contains old k ⊎ (k ≡ number))
  pub not_longer : length new ≤ length old + 1

-- no number of the list is above this one
abbrev pub UpTo : List ℕ → ℕ → Type 0
UpTo numbers number = (k : ℕ) → Contains numbers k → k ≤ number

-- a hash-tree node, or one above it
abbrev pub IsFrom : ℕ → ℕ → Type 0
IsFrom m k = (n : ℕ) × (k ≡ mht_place (levels_up n m))

-- the list has the hash-tree nodes from these two up to the root
pub record ArePaths (numbers : List ℕ) (low high : ℕ) : Type 0 where
  pub rising : IsStrictlyIncreasing numbers
  pub members : (k : ℕ) → Contains numbers k ↔ (IsFrom low k ⊎ IsFrom high k)

-- the list has the first of two hash-tree nodes, and those above either
pub record AreLeaves (numbers : List ℕ) (low high : ℕ) : Type 0 where
  pub rising : IsStrictlyIncreasing numbers
  pub members : (k : ℕ) → Contains numbers k ↔ ((k ≡ mht_place low) ⊎ (IsFrom (up low) k ⊎ IsFrom (up high) k))

-- the hash-tree node of data node d, where d is the first that has its entry there
abbrev pub IsNewLeaf : ℕ → ℕ → Type 0
IsNewLeaf d k = (d % 96 ≡ 0) × (k ≡ mht_place (d / 96))

pub record AddsLeaf (old new : List ℕ) (d : ℕ) : Type 0 where
  pub rising : IsStrictlyIncreasing new
  pub members : (k : ℕ) → Contains new k ↔ (Contains old k ⊎ IsNewLeaf d k)
  pub not_longer : length new ≤ length old + 1

pub record AddsData (old new : List ℕ) (d : ℕ) : Type 0 where
  pub rising : IsStrictlyIncreasing new
  pub members : (k : ℕ) → Contains new k ↔ (Contains old k ⊎ (IsNewLeaf d k ⊎ (k ≡ data_place d)))
  pub not_longer : length new ≤ length old + 2

-- what the data nodes from the first up to the end bring
abbrev pub IsBrought : ℕ → ℕ → ℕ → Type 0
IsBrought first end k = (d : ℕ) × (first ≤ d) × (d < end) × (IsNewLeaf d k ⊎ (k ≡ data_place d))

-- the list so far: the hash-tree nodes on the paths of the first and the last leaf, but for the last, and what data nodes brought
pub record ListedTo (numbers : List ℕ) (first end low high : ℕ) : Type 0 where
  pub rising : IsStrictlyIncreasing numbers
  pub members : (k : ℕ) → Contains numbers k ↔ (((k ≡ mht_place low) ⊎ (IsFrom (up low) k ⊎ IsFrom (up high) k)) ⊎ IsBrought first end k)
  pub short : length numbers ≤ 11 + 2 * (end - first)
