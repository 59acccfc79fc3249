use Rattle.std.proofs.Common.{length, slice_index, ◌-◌, ◌<◌, ◌≤◌, ℕ}
use Rattle.node_tree.proofs.change.count_below.Given as goal

abbrev pub invariant-loop-count : goal.invariant-loop-count
invariant-loop-count l = (l.count ≤ length l.numbers) × ((i : ℕ) → i < l.count → slice_index l.numbers i < l.bound)

abbrev pub decreases-loop-count : goal.decreases-loop-count
decreases-loop-count l = length l.numbers - l.count
