-- What a manifest says of a file of the host.
use Rattle.std.specs.Prelude.{◌≡◌, ℕ, Bool, if◌then◌else◌, List, [], ◌∷◌, Any, Contains, bytes_eq, Option, Some, None}
use Rattle.std.specs.Option.{option_or}
use Rattle.manifest_model.specs.declared.entries.Trusted.{Trusted}
use Rattle.manifest_model.specs.declared.entries.Policy.TheVariants.{Strict, AllowAllButLog}
use Rattle.manifest_model.specs.Names.{uri_of}
use Rattle.manifest_model.specs.Listed.{Lists}
use Rattle.check_policy.specs.declared.verdict.Verdict.{Verdict}
use Rattle.check_policy.specs.declared.verdict.Verdict.TheVariants as verdicts

-- the normal uri of a trusted entry
abbrev pub HasUri : List ℕ → Trusted → Type 0
HasUri uri entry = uri ≡ uri_of entry.name

abbrev pub has_uri : List ℕ → Trusted → Bool
has_uri uri entry = bytes_eq uri (uri_of entry.name)

-- the sum of a trusted entry with that normal uri
abbrev pub listed_sum : List ℕ → Trusted → Option (List ℕ)
listed_sum uri entry = if has_uri uri entry then entry.sum else None

-- the first sum that a trusted entry with that normal uri has
abbrev pub sum_for : List ℕ → List Trusted → Option (List ℕ)
sum_for uri [] = None
sum_for uri (entry ∷ entries) = option_or (listed_sum uri entry) (sum_for uri entries)

-- The verdict on a uri as it is given, by the first case that holds: trusted with a sum, trusted without one, allowed,
-- or in neither list, where the policy decides.
pub data IsVerdict (lists : Lists) (uri : List ℕ) (verdict : Verdict) : Type 0 where
  WithSum : (sum : List ℕ) → sum_for uri lists.trusted ≡ Some sum → verdict ≡ verdicts.Trusted sum → IsVerdict lists uri verdict
  WithoutSum : Any (HasUri uri) lists.trusted → sum_for uri lists.trusted ≡ None → verdict ≡ verdicts.NoSum → IsVerdict lists uri verdict
  IsAllowed : ¬ Any (HasUri uri) lists.trusted → Contains lists.allowed uri → verdict ≡ verdicts.Allowed → IsVerdict lists uri verdict
  IsLogged : ¬ Any (HasUri uri) lists.trusted → ¬ Contains lists.allowed uri → lists.policy ≡ AllowAllButLog → verdict ≡ verdicts.Logged → IsVerdict lists uri verdict
  IsDenied : ¬ Any (HasUri uri) lists.trusted → ¬ Contains lists.allowed uri → lists.policy ≡ Strict → verdict ≡ verdicts.Denied → IsVerdict lists uri verdict
