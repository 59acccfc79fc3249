-- Items of which none is refused agree on the sum of a name.
use Rattle.std.proofs.Common.{◌≡◌, ◌∙◌, ℕ, zero, suc, ◌+◌, ◌<◌, cond, Contains, List, [], ◌∷◌, ◌++◌, length, get_or, Option, Some, None, refl, sym, ap, subst, arith}
use Rattle.std.specs.Option.{option_or}
use Rattle.std.proofs.lemmas.List.{append_assoc}
use Rattle.toml.specs.Data.{Items, no_items, item}
use Rattle.manifest_model.specs.declared.entries.Trusted.{Trusted}
use Rattle.manifest_model.specs.declared.fault.ManifestFault.TheVariants as faults
use Rattle.manifest_model.specs.Places.{at_item}
use Rattle.manifest_model.specs.Trusting.{sum_in, differ, two_sums, own_refusal, item_refusal, items_refusal, item_of, items_of}
use Rattle.manifest_model.proofs.Indexed.{Yes, No, same_name}
use Rattle.manifest_model.proofs.Entered.{bytes_eq_self, option_or-assoc}
use Rattle.manifest_model.proofs.Accepted.{both_none}

sum_in-append : (name : List ℕ) (xs ys : List Trusted) → sum_in name (xs ++ ys) ≡ option_or (sum_in name xs) (sum_in name ys)
sum_in-append name [] ys = refl
sum_in-append name (x ∷ xs) ys =
    elim (same_name name x.name) [
      | Yes b s ↦ rw (b, sum_in-append name xs ys) (sym (option_or-assoc x.sum (sum_in name xs) (sum_in name ys)))
      | No b s ↦ rw b (sum_in-append name xs ys)
    ]

-- an item that names no other sum than those before it
own_sum : (before rest : List Trusted) (t : Trusted) (sum : List ℕ) → two_sums before t ≡ None → t.sum ≡ Some sum → sum_in t.name (before ++ t ∷ rest) ≡ Some sum
own_sum before rest t sum none is =
    let same : cond (differ (sum_in t.name before) (Some sum)) (Some (faults.TwoSums t.uri)) None ≡ None = rw is at none in
    sum_in-append t.name before (t ∷ rest) ∙ rw (bytes_eq_self t.name, is) (by_first (sum_in t.name before) same)
  where
    by_first : (o : Option (List ℕ)) → cond (differ o (Some sum)) (Some (faults.TwoSums t.uri)) None ≡ None → option_or o (Some sum) ≡ Some sum
    by_first None h = refl
    by_first (Some a) h = elim (same_name a sum) [ Yes b s ↦ ap (λ x. Some x) s | No b s ↦ let f : Some (faults.TwoSums t.uri) ≡ None = rw b at h in cc ]

pub agreed : (before : List Trusted) (place : List ℕ) (i : ℕ) (ds : Items) (t : Trusted) (sum : List ℕ) → items_refusal before place i ds ≡ None → Contains (items_of ds) t → t.sum ≡ Some sum → sum_in t.name (before ++ items_of ds) ≡ Some sum
agreed before place i no_items t sum e c is = absurd (omega (arith, c.1))
agreed before place i (item d ds) t sum e c is =
    let (first, rest) = both_none (item_refusal before (at_item place i) d) _ e in
    let (own, one) = both_none (own_refusal (at_item place i) d) _ first in
    let more : Contains (items_of ds) t → sum_in t.name (before ++ item_of d ∷ items_of ds) ≡ Some sum =
    λ later. sym (ap (sum_in t.name) (append_assoc before (item_of d ∷ []) (items_of ds))) ∙ agreed (before ++ item_of d ∷ []) place (i + 1) ds t sum rest later is in
    by_index c.0 c.1 c.2 one more
  where
    by_index : (k : ℕ) → k < suc (length (items_of ds)) → get_or (item_of d ∷ items_of ds) k t ≡ t → two_sums before (item_of d) ≡ None → (Contains (items_of ds) t → sum_in t.name (before ++ item_of d ∷ items_of ds) ≡ Some sum)
        → sum_in t.name (before ++ item_of d ∷ items_of ds) ≡ Some sum
    by_index zero l f one more = subst (λ u. sum_in u.name (before ++ item_of d ∷ items_of ds) ≡ Some sum) f (own_sum before (items_of ds) (item_of d) sum one (ap (λ u. u.sum) f ∙ is))
    by_index (suc k) l f one more = more (k, omega (arith, l), f)
