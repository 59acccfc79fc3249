use Rattle.std.proofs.Common.{◌∙◌, sym}
use Rattle.check_policy.specs.Verdicts.{has_uri}
use Rattle.check_policy.proofs.Judging.{any_found, any_next}
use Rattle.check_policy.proofs.verdict.is_trusted.Goals as goal

pub returns-then-has_uri : goal.returns-then-has_uri
returns-then-has_uri c = any_found (has_uri c.args.uri.now) c.args.manifest.now.lists.trusted c.loop-k.k c.trusted.result.now c.loop-k.invariant c.trusted.ensures (sym c.has_uri.ensures ∙ c.if-has_uri.true)

pub loop-k-preserved : goal.loop-k-preserved
loop-k-preserved c = any_next (has_uri c.args.uri.now) c.args.manifest.now.lists.trusted c.loop-k.k c.trusted.result.now c.loop-k.invariant c.trusted.ensures (sym c.has_uri.ensures ∙ c.if-has_uri.false)
