-- The sums of what a table lists.
use Rattle.std.proofs.Common.{◌≡◌, ◌∙◌, ℕ, zero, suc, ◌<◌, Bool, true, false, ◌||◌, cond, List, [], ◌∷◌, length, get_or, map, Contains, Option, Some, None, refl, sym, ap, subst, arith, codes}
use Rattle.std.specs.List.{AllByRecursion, list_any}
use Rattle.std.specs.Option.{option_or}
use Rattle.std.proofs.lemmas.List.{append_cancel_left}
use Rattle.std.proofs.lemmas.List.Folds.{list_any_at}
use Rattle.std.proofs.lemmas.Slice.Eq.{bytes_eq-Decides}
use Rattle.manifest_model.specs.declared.entries.Trusted.{Trusted}
use Rattle.manifest_model.specs.Names.{uri_of}
use Rattle.manifest_model.specs.Trusting.{sum_in, summed_by, firsts, entries_of}
use Rattle.check_policy.specs.Verdicts.{has_uri, sum_for}

-- each entry has the sum that belongs to its name
abbrev SumsBy : (List ℕ → Option (List ℕ)) → List Trusted → Type 0
SumsBy sum entries = AllByRecursion (λ e. e.sum ≡ sum e.name) entries

summed : (ts us : List Trusted) → SumsBy (λ name. sum_in name ts) (map (summed_by ts) us)
summed ts [] = tt
summed ts (u ∷ us) = (refl, summed ts us)

sums_at : (sum : List ℕ → Option (List ℕ)) (entries : List Trusted) (k : ℕ) (d : Trusted) → k < length entries → SumsBy sum entries → (get_or entries k d).sum ≡ sum (get_or entries k d).name
sums_at sum [] k d l each = absurd (omega (arith, l))
sums_at sum (e ∷ entries) zero d l each = each.0
sums_at sum (e ∷ entries) (suc k) d l each = sums_at sum entries k d (omega (arith, l)) each.1

same_name : (name : List ℕ) (e : Trusted) → has_uri (uri_of name) e ≡ true → name ≡ e.name
same_name name e is = append_cancel_left (codes "file:") name e.name ((bytes_eq-Decides (uri_of name) (uri_of e.name)).0 is)

module _ (sum : List ℕ → Option (List ℕ)) (name : List ℕ) where
  none_step : (e : Trusted) (others : Option (List ℕ)) (has : Bool) → has_uri (uri_of name) e ≡ has → e.sum ≡ sum e.name → sum name ≡ None → others ≡ None → option_or (cond has e.sum None) others ≡ None
  none_step e others false is s none rest = rest
  none_step e others true is s none rest =
      let nothing : e.sum ≡ None = s ∙ ap sum (sym (same_name name e is)) ∙ none in rw (nothing, rest) refl

  sum_none : (entries : List Trusted) → SumsBy sum entries → sum name ≡ None → sum_for (uri_of name) entries ≡ None
  sum_none [] each none = refl
  sum_none (e ∷ entries) each none = none_step e (sum_for (uri_of name) entries) (has_uri (uri_of name) e) refl each.0 none (sum_none entries each.1 none)

  some_step : (s : List ℕ) (e : Trusted) (others : Option (List ℕ)) (has there : Bool) → has_uri (uri_of name) e ≡ has → e.sum ≡ sum e.name → sum name ≡ Some s → (there ≡ true → others ≡ Some s) → (has || there) ≡ true → option_or (cond has e.sum None) others ≡ Some s
  some_step s e others false there is of some rest any = rest any
  some_step s e others true there is of some rest any =
      let found : e.sum ≡ Some s = of ∙ ap sum (sym (same_name name e is)) ∙ some in rw found refl

  sum_some : (s : List ℕ) (entries : List Trusted) → SumsBy sum entries → sum name ≡ Some s → list_any (has_uri (uri_of name)) entries ≡ true → sum_for (uri_of name) entries ≡ Some s
  sum_some s [] each some any = absurd (cc)
  sum_some s (e ∷ entries) each some any =
      some_step s e (sum_for (uri_of name) entries) (has_uri (uri_of name) e) (list_any (has_uri (uri_of name)) entries) refl each.0 some (sum_some s entries each.1 some) any

  by_name : (entries : List Trusted) (found : Option (List ℕ)) → sum name ≡ found → SumsBy sum entries → list_any (has_uri (uri_of name)) entries ≡ true → sum_for (uri_of name) entries ≡ found
  by_name entries None e each any = sum_none entries each e
  by_name entries (Some s) e each any = sum_some s entries each e any

entry_sum : (sum : List ℕ → Option (List ℕ)) (entries : List Trusted) (entry : Trusted) → SumsBy sum entries → Contains entries entry → sum_for (uri_of entry.name) entries ≡ entry.sum
entry_sum sum entries entry each has =
    let its : entry.sum ≡ sum entry.name = subst (λ e. e.sum ≡ sum e.name) has.2 (sums_at sum entries has.0 entry has.1 each) in
    let is : has_uri (uri_of entry.name) (get_or entries has.0 entry) ≡ true = (bytes_eq-Decides (uri_of entry.name) (uri_of (get_or entries has.0 entry).name)).1 (ap (λ e. uri_of e.name) (sym has.2)) in
    by_name sum entry.name entries entry.sum (sym its) each (list_any_at (has_uri (uri_of entry.name)) entries has.0 entry has.1 is)

-- the sum of a listed entry is the one that decides on its uri
pub listed_sum_decides : (ts : List Trusted) (entry : Trusted) → Contains (entries_of ts) entry → sum_for (uri_of entry.name) (entries_of ts) ≡ entry.sum
unfolding entries_of
listed_sum_decides ts entry has = entry_sum (λ name. sum_in name ts) (map (summed_by ts) (firsts ts)) entry (summed ts (firsts ts)) has
