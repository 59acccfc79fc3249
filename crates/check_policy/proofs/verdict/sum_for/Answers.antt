use Rattle.std.proofs.Common.{◌∙◌, sym}
use Rattle.check_policy.proofs.Judging.{sum_found, sum_next}
use Rattle.check_policy.proofs.verdict.sum_for.Goals as goal

pub returns-in-Some : goal.returns-in-Some
returns-in-Some c =
    sum_found c.args.uri.now c.args.manifest.now.lists.trusted c.loop-k.k c.trusted.result.now c.in-Some.sum c.loop-k.invariant c.trusted.ensures (sym c.listed_sum.ensures ∙ c.in-Some.is)

pub loop-k-preserved : goal.loop-k-preserved
loop-k-preserved c = sum_next c.args.uri.now c.args.manifest.now.lists.trusted c.loop-k.k c.trusted.result.now c.loop-k.invariant c.trusted.ensures (sym c.listed_sum.ensures ∙ c.in_default.is)
