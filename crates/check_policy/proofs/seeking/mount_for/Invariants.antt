use Rattle.manifest_model.specs.Names.{normal_parts}
use Rattle.check_policy.specs.Served.{seen}
use Rattle.check_policy.specs.Seeking.{IsBest}
use Rattle.check_policy.proofs.seeking.mount_for.Given as goal

abbrev pub invariant-loop-k : goal.invariant-loop-k
invariant-loop-k l = IsBest l.manifest.lists.mounts (normal_parts l.path) l.k (seen l.found)
