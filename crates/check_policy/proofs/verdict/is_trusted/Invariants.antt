use Rattle.std.proofs.Common.{◌≡◌, drop}
use Rattle.std.specs.List.{list_any}
use Rattle.check_policy.specs.Verdicts.{has_uri}
use Rattle.check_policy.proofs.verdict.is_trusted.Given as goal

abbrev pub invariant-loop-k : goal.invariant-loop-k
invariant-loop-k l = list_any (has_uri l.uri) l.manifest.lists.trusted ≡ list_any (has_uri l.uri) (drop l.k l.manifest.lists.trusted)
