-- Nodes of zeros that come, and nodes that go.
use Rattle.std.specs.Prelude.{◌≡◌, ◌⊎◌, ℕ, ◌<◌, ◌≤◌, List, length, slice_index, take, replicate, Contains, Option, Some, None}

-- the first of some numbers have nodes of zeros, and at all others nothing changed
pub record IsZeroed (n : ℕ) (numbers : List ℕ) (held held_now : ℕ → Option (List ℕ)) : Type 0 where
  pub zeros : (k : ℕ) → Contains (take n numbers) k → held_now k ≡ Some (replicate 4096 0)
  pub others : (k : ℕ) → ¬ (Contains (take n numbers) k) → held_now k ≡ held k

-- the first n of some numbers are below a bound, and the others are not
pub record IsCountBelow (numbers : List ℕ) (bound n : ℕ) : Type 0 where
  pub within : n ≤ length numbers
  pub below : (i : ℕ) → i < n → slice_index numbers i < bound
  pub not_below : (i : ℕ) → n ≤ i → i < length numbers → bound ≤ slice_index numbers i

-- some nodes of zeros may have come at these numbers
pub record MayZero (numbers : List ℕ) (held held_now : ℕ → Option (List ℕ)) : Type 0 where
  pub either : (k : ℕ) → (held_now k ≡ held k) ⊎ (held_now k ≡ Some (replicate 4096 0))
  pub others : (k : ℕ) → ¬ (Contains numbers k) → held_now k ≡ held k

-- what a map has below a bound stays, and there is nothing from the bound on
pub record IsCutAt {X : Type 0} (bound : ℕ) (old new : ℕ → Option X) : Type 0 where
  pub below : (k : ℕ) → k < bound → new k ≡ old k
  pub gone : (k : ℕ) → bound ≤ k → new k ≡ None
