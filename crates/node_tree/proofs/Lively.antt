-- Touched nodes of a range within a content.
use Rattle.std.proofs.Common.{inl, inr, ℕ, ◌<◌, ◌≤◌, arith}
use Rattle.node_layout.specs.Places.{leaf_of, node_count}
use Rattle.node_layout.proofs.Numbers.{data_live, mht_live}
use Rattle.node_tree.specs.Touched.{IsTouched}
use Rattle.node_tree.proofs.Rooted.{levels_fall}

pub touched_live : (a b size k : ℕ) → b ≤ size → IsTouched a b k → k < node_count size
touched_live a b size k le (d, meets, inl is) = let begins = meets.begins in let live = (data_live size d).1 (omega arith) in omega arith
touched_live a b size k le (d, meets, inr (m, (n, on), is)) = let begins = meets.begins in let fall = levels_fall n (leaf_of d) in let live = (mht_live size m).1 (omega arith) in omega arith

pub touched_low : (a b k : ℕ) → IsTouched a b k → 1 ≤ k
touched_low a b k (d, meets, inl is) = omega arith
touched_low a b k (d, meets, inr (m, on, is)) = omega arith
