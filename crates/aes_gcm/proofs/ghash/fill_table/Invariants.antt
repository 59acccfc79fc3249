use Rattle.std.proofs.Common.{◌≡◌, ℕ, ◌*◌, ◌<◌, [], length, slice_index_or}
use Rattle.aes_gcm.specs.Multiples.{shifted, IsRow}
use Rattle.aes_gcm.proofs.ghash.fill_table.Given as goal

abbrev pub invariant-loop-k : goal.invariant-loop-k
invariant-loop-k l = (length l.table ≡ 32) × (l.v ≡ shifted (4 * l.k) l.h) × ((j : ℕ) → j < l.k → IsRow (slice_index_or l.table j []) (shifted (4 * j) l.h))
