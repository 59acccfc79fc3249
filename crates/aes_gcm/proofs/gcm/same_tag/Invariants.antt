use Rattle.std.proofs.Common.{◌≡◌, ℕ, ◌<◌, slice_index}
use Rattle.aes_gcm.proofs.gcm.same_tag.Given as goal

abbrev pub invariant-loop-k : goal.invariant-loop-k
invariant-loop-k l = record {
  alike : l.difference ≡ 0 → (j : ℕ) → j < l.k → slice_index l.tag j ≡ slice_index l.other j;
  none : ((j : ℕ) → j < l.k → slice_index l.tag j ≡ slice_index l.other j) → l.difference ≡ 0;
}
