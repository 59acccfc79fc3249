use Rattle.std.proofs.Common.{◌∙◌, sym, ap, bytes_eq}
use Rattle.check_policy.proofs.Judging.{any_found, any_next}
use Rattle.check_policy.proofs.verdict.is_allowed.Goals as goal

pub returns-then-eq : goal.returns-then-eq
returns-then-eq c =
    any_found (bytes_eq c.args.uri.now) c.args.manifest.now.lists.allowed c.loop-k.k c.allowed.result.now c.loop-k.invariant c.allowed.ensures
    (ap (bytes_eq c.args.uri.now) (sym c.as_str.ensures) ∙ sym c.eq.ensures ∙ c.if-eq.true)

pub loop-k-preserved : goal.loop-k-preserved
loop-k-preserved c =
    any_next (bytes_eq c.args.uri.now) c.args.manifest.now.lists.allowed c.loop-k.k c.allowed.result.now c.loop-k.invariant c.allowed.ensures
    (ap (bytes_eq c.args.uri.now) (sym c.as_str.ensures) ∙ sym c.eq.ensures ∙ c.if-eq.false)
