use Rattle.std.proofs.Common.{◌≡◌, drop, bytes_eq}
use Rattle.std.specs.List.{list_any}
use Rattle.check_policy.proofs.verdict.is_allowed.Given as goal

abbrev pub invariant-loop-k : goal.invariant-loop-k
invariant-loop-k l = list_any (bytes_eq l.uri) l.manifest.lists.allowed ≡ list_any (bytes_eq l.uri) (drop l.k l.manifest.lists.allowed)
