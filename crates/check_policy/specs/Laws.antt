-- What the definitions say together.
use Rattle.std.specs.Prelude.{◌≡◌, ◌↔◌, ℕ, List, Any, Contains, Some, None}
use Rattle.manifest_model.specs.declared.entries.Policy.TheVariants.{Strict, AllowAllButLog}
use Rattle.manifest_model.specs.Listed.{Lists}
use Rattle.check_policy.specs.declared.verdict.Verdict.{Verdict}
use Rattle.check_policy.specs.declared.verdict.Verdict.TheVariants as verdicts
use Rattle.check_policy.specs.Verdicts.{HasUri, sum_for}

-- each verdict comes exactly under its condition
pub record IsByCases (lists : Lists) (uri : List ℕ) (verdict : Verdict) : Type 0 where
  pub trusted : (sum : List ℕ) → (verdict ≡ verdicts.Trusted sum) ↔ (sum_for uri lists.trusted ≡ Some sum)
  pub no_sum : (verdict ≡ verdicts.NoSum) ↔ (Any (HasUri uri) lists.trusted × (sum_for uri lists.trusted ≡ None))
  pub allowed : (verdict ≡ verdicts.Allowed) ↔ ((¬ Any (HasUri uri) lists.trusted) × Contains lists.allowed uri)
  pub logged : (verdict ≡ verdicts.Logged) ↔ ((¬ Any (HasUri uri) lists.trusted) × (¬ Contains lists.allowed uri) × (lists.policy ≡ AllowAllButLog))
  pub denied : (verdict ≡ verdicts.Denied) ↔ ((¬ Any (HasUri uri) lists.trusted) × (¬ Contains lists.allowed uri) × (lists.policy ≡ Strict))
