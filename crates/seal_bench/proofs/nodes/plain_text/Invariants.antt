use Rattle.std.proofs.Common.{◌≡◌, ℕ, ◌<◌, ◌%◌, length, get_or}
use Rattle.seal_bench.proofs.nodes.plain_text.Given as goal

abbrev pub invariant-loop-i : goal.invariant-loop-i
invariant-loop-i l = (length l.text ≡ 4096) × ((k : ℕ) → k < l.i → get_or l.text k 0 ≡ k % 251)
