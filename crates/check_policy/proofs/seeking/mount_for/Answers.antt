use Rattle.std.proofs.Common.{◌≤◌, ℕ, List, length, Option, Some, None, MatchOption, arith}
use Rattle.manifest_model.specs.declared.entries.Mount.{Mount}
use Rattle.manifest_model.specs.Names.{normal_parts}
use Rattle.check_policy.specs.declared.seeking.Serving.{Serving}
use Rattle.check_policy.specs.Places.{NoneServes}
use Rattle.check_policy.specs.Served.{seen}
use Rattle.check_policy.specs.Seeking.{IsBest, IsServing}
use Rattle.check_policy.proofs.Bettering.{none_yet, whole_none, whole_some}
use Rattle.check_policy.proofs.seeking.mount_for.Goals as goal

whole : (mounts : List Mount) (ps : List (List ℕ)) (n : ℕ) (found : Option Serving) → length mounts ≤ n → IsBest mounts ps n (seen found) → MatchOption found (NoneServes mounts ps) (λ f. IsServing mounts ps f.mount.now f.rest.now)
whole mounts ps n None all best = whole_none mounts ps n all best
whole mounts ps n (Some f) all best = whole_some mounts ps n f.mount.now f.rest.now all best

pub loop-k-init : goal.loop-k-init
loop-k-init c = none_yet c.args.manifest.now.lists.mounts (normal_parts c.args.path.now)

pub returns : goal.returns
returns c = whole c.args.manifest.now.lists.mounts (normal_parts c.args.path.now) c.loop-k.k c.loop-k.found (omega (arith, c.loop-k-test.false, c.mounts_len-k-end.ensures)) c.loop-k.invariant
