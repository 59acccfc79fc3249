use Rattle.std.proofs.Common.{◌∙◌, sym, refl}
use Rattle.check_policy.specs.Verdicts.{WithSum}
use Rattle.check_policy.proofs.Judging.{verdict_one, without_sum, is_allowed, is_logged, is_denied}
use Rattle.check_policy.proofs.verdict.decide.Goals as goal

pub returns-in-Some-clause-verdict : goal.returns-in-Some-clause-verdict
returns-in-Some-clause-verdict c = WithSum c.in-Some.sum (sym c.sum_for.ensures ∙ c.in-Some.is) refl

pub returns-in-Some-clause-no_other : goal.returns-in-Some-clause-no_other
returns-in-Some-clause-no_other c = λ other is.
    verdict_one c.args.manifest.now.lists c.args.uri.now _ other
    (WithSum c.in-Some.sum (sym c.sum_for.ensures ∙ c.in-Some.is) refl) is

pub returns-then-is_trusted-clause-verdict : goal.returns-then-is_trusted-clause-verdict
returns-then-is_trusted-clause-verdict c = without_sum c.args.manifest.now.lists c.args.uri.now (sym c.sum_for.ensures ∙ c.in_default.is) (sym c.is_trusted.ensures ∙ c.if-is_trusted.true)

pub returns-then-is_trusted-clause-no_other : goal.returns-then-is_trusted-clause-no_other
returns-then-is_trusted-clause-no_other c = λ other is.
    verdict_one c.args.manifest.now.lists c.args.uri.now _ other
    (without_sum c.args.manifest.now.lists c.args.uri.now (sym c.sum_for.ensures ∙ c.in_default.is) (sym c.is_trusted.ensures ∙ c.if-is_trusted.true)) is

pub returns-then-is_allowed-clause-verdict : goal.returns-then-is_allowed-clause-verdict
returns-then-is_allowed-clause-verdict c = is_allowed c.args.manifest.now.lists c.args.uri.now (sym c.is_trusted.ensures ∙ c.if-is_trusted.false) (sym c.is_allowed.ensures ∙ c.if-is_allowed.true)

pub returns-then-is_allowed-clause-no_other : goal.returns-then-is_allowed-clause-no_other
returns-then-is_allowed-clause-no_other c = λ other is.
    verdict_one c.args.manifest.now.lists c.args.uri.now _ other
    (is_allowed c.args.manifest.now.lists c.args.uri.now (sym c.is_trusted.ensures ∙ c.if-is_trusted.false) (sym c.is_allowed.ensures ∙ c.if-is_allowed.true)) is

pub returns-in-Strict-clause-verdict : goal.returns-in-Strict-clause-verdict
returns-in-Strict-clause-verdict c = is_denied c.args.manifest.now.lists c.args.uri.now (sym c.is_trusted.ensures ∙ c.if-is_trusted.false) (sym c.is_allowed.ensures ∙ c.if-is_allowed.false) (sym c.policy.ensures ∙ c.in-Strict.is)

pub returns-in-Strict-clause-no_other : goal.returns-in-Strict-clause-no_other
returns-in-Strict-clause-no_other c = λ other is.
    verdict_one c.args.manifest.now.lists c.args.uri.now _ other
    (is_denied c.args.manifest.now.lists c.args.uri.now (sym c.is_trusted.ensures ∙ c.if-is_trusted.false) (sym c.is_allowed.ensures ∙ c.if-is_allowed.false) (sym c.policy.ensures ∙ c.in-Strict.is)) is

pub returns-in-AllowAllButLog-clause-verdict : goal.returns-in-AllowAllButLog-clause-verdict
returns-in-AllowAllButLog-clause-verdict c = is_logged c.args.manifest.now.lists c.args.uri.now (sym c.is_trusted.ensures ∙ c.if-is_trusted.false) (sym c.is_allowed.ensures ∙ c.if-is_allowed.false) (sym c.policy.ensures ∙ c.in-AllowAllButLog.is)

pub returns-in-AllowAllButLog-clause-no_other : goal.returns-in-AllowAllButLog-clause-no_other
returns-in-AllowAllButLog-clause-no_other c = λ other is.
    verdict_one c.args.manifest.now.lists c.args.uri.now _ other
    (is_logged c.args.manifest.now.lists c.args.uri.now (sym c.is_trusted.ensures ∙ c.if-is_trusted.false) (sym c.is_allowed.ensures ∙ c.if-is_allowed.false) (sym c.policy.ensures ∙ c.in-AllowAllButLog.is)) is
