-- Levels of hash-tree nodes.
use Rattle.std.proofs.Common.{◌≡◌, ◌⊎◌, inl, inr, ℕ, zero, suc, ◌+◌, ◌≤◌, refl, arith}
use Rattle.node_layout.specs.Places.{up, levels_up, mht_place}
use Rattle.node_tree.specs.Listing.{IsFrom}

pub levels_rise : (n a b : ℕ) → a ≤ b → levels_up n a ≤ levels_up n b
levels_rise zero a b le = le
levels_rise (suc n) a b le = levels_rise n (up a) (up b) (omega arith)

pub levels_fall : (n m : ℕ) → levels_up n m ≤ m
levels_fall zero m = omega arith
levels_fall (suc n) m = let le = levels_fall n (up m) in omega arith

-- the root is its own
pub levels_of_root : (n : ℕ) → levels_up n 0 ≡ 0
levels_of_root zero = refl
levels_of_root (suc n) = levels_of_root n

-- what is above one of two that stand side by side is not behind the other
pub from_below : (low high k : ℕ) → high ≤ low + 1 → IsFrom (up low) k ⊎ IsFrom (up high) k → low ≤ high → k ≤ mht_place low
from_below low high k near (inl (n, is)) le = let a = levels_fall n (up low) in omega (arith, is, a)
from_below low high k near (inr (n, is)) le = let a = levels_fall n (up high) in omega (arith, is, a)

-- one level more
pub from_step : (m k : ℕ) → IsFrom m k → (k ≡ mht_place m) ⊎ IsFrom (up m) k
from_step m k (zero, is) = inl is
from_step m k (suc n, is) = inr (n, is)

pub from_itself : (m k : ℕ) → k ≡ mht_place m → IsFrom m k
from_itself m k is = (0, is)

pub from_above : (m k : ℕ) → IsFrom (up m) k → IsFrom m k
from_above m k (n, is) = (suc n, is)
