use Rattle.std.proofs.Common.{◌≡◌, drop}
use Rattle.check_policy.specs.Verdicts.{sum_for}
use Rattle.check_policy.proofs.verdict.sum_for.Given as goal

abbrev pub invariant-loop-k : goal.invariant-loop-k
invariant-loop-k l = sum_for l.uri l.manifest.lists.trusted ≡ sum_for l.uri (drop l.k l.manifest.lists.trusted)
