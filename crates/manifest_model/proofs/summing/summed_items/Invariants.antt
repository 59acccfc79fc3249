use Rattle.std.proofs.Common.{◌≡◌, ◌<◌, ℕ, [], take, get_or}
use Rattle.toml.specs.View.{array_view}
use Rattle.manifest_model.specs.Summed.{IsSum, summed_items}
use Rattle.manifest_model.proofs.summing.summed_items.Given as goal

abbrev pub invariant-loop-k : goal.invariant-loop-k
invariant-loop-k l = record {
  items : array_view l.items ≡ summed_items (take l.k l.entries) (take l.k l.sums);
  sums : (j : ℕ) → j < l.k → IsSum (get_or l.sums j []);
}
