use Rattle.std.proofs.Common.{◌∙◌, inr}
use Rattle.check_policy.proofs.Deciding.{no_other, path_is_normal, by_mount, by_none}
use Rattle.check_policy.proofs.resolving.resolve.Goals as goal

pub mount_for-requires : goal.mount_for-requires
mount_for-requires c = path_is_normal c.args.path.now c.as_str.result.now (c.is_path.ensures.0 c.if-not-is_path.false) (c.as_str.ensures ∙ c.in_ok-path.ensures)

pub returns-in-Some-clause-outcome : goal.returns-in-Some-clause-outcome
returns-in-Some-clause-outcome c =
    by_mount c.args.manifest.now.lists c.args.path.now c.as_str.result.now c.in-Some.found.mount.now c.in-Some.found.rest.now c.given.result
    (c.is_path.ensures.0 c.if-not-is_path.false) (c.as_str.ensures ∙ c.in_ok-path.ensures) c.in-Some.ensures c.given.ensures

pub returns-in-Some-clause-no_other : goal.returns-in-Some-clause-no_other
returns-in-Some-clause-no_other c =
    no_other c.args.manifest.now.lists c.args.path.now c.given.result
    (by_mount c.args.manifest.now.lists c.args.path.now c.as_str.result.now c.in-Some.found.mount.now c.in-Some.found.rest.now c.given.result
    (c.is_path.ensures.0 c.if-not-is_path.false) (c.as_str.ensures ∙ c.in_ok-path.ensures) c.in-Some.ensures c.given.ensures)

pub returns-clause-outcome : goal.returns-clause-outcome
returns-clause-outcome c =
    inr (by_none c.args.manifest.now.lists c.args.path.now c.as_str.result.now (c.is_path.ensures.0 c.if-not-is_path.false) (c.as_str.ensures ∙ c.in_ok-path.ensures) c.in-None.ensures)

pub returns-clause-no_other : goal.returns-clause-no_other
returns-clause-no_other c =
    no_other c.args.manifest.now.lists c.args.path.now _
    (inr (by_none c.args.manifest.now.lists c.args.path.now c.as_str.result.now (c.is_path.ensures.0 c.if-not-is_path.false) (c.as_str.ensures ∙ c.in_ok-path.ensures) c.in-None.ensures))
