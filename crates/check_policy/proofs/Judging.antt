-- A uri has one verdict.
use Rattle.std.proofs.Common.{◌≡◌, ◌∙◌, ℕ, ◌+◌, Bool, true, false, ◌||◌, List, [], ◌∷◌, drop, get_or, Any, Contains, bytes_eq, Option, Some, None, refl, sym, ap, subst}
use Rattle.std.specs.List.{slice_get, list_any}
use Rattle.std.specs.Option.{option_or}
use Rattle.std.proofs.lemmas.Bool.{false≢true}
use Rattle.std.proofs.lemmas.List.{drop_more}
use Rattle.std.proofs.lemmas.List.Folds.{Any-from_list_any, list_any-from_Any, list_any_at}
use Rattle.std.proofs.lemmas.Option.{slice_get_within, get_or_from_slice_get}
use Rattle.std.proofs.lemmas.Slice.Eq.{bytes_eq-Decides}
use Rattle.manifest_model.specs.declared.entries.Trusted.{Trusted}
use Rattle.manifest_model.specs.declared.entries.Policy.{Policy}
use Rattle.manifest_model.specs.declared.entries.Policy.TheVariants.{Strict, AllowAllButLog}
use Rattle.manifest_model.specs.Names.{uri_of}
use Rattle.manifest_model.specs.Listed.{Lists}
use Rattle.check_policy.specs.declared.verdict.Verdict.{Verdict}
use Rattle.check_policy.specs.declared.verdict.Verdict.TheVariants as verdicts
use Rattle.check_policy.specs.Laws.{IsByCases}
use Rattle.check_policy.specs.Verdicts.{HasUri, has_uri, listed_sum, sum_for, IsVerdict, WithSum, WithoutSum, IsAllowed, IsLogged, IsDenied}

-- the steps of a search

pub drop_at_place : {X : Type 0} (xs : List X) (k : ℕ) (x : X) → slice_get xs k ≡ Some x → drop k xs ≡ x ∷ drop (k + 1) xs
drop_at_place xs k x e = drop_more xs k x (slice_get_within xs k x e) ∙ ap (λ y. y ∷ drop (k + 1) xs) (get_or_from_slice_get xs k x x e)

pub any_found : {X : Type 0} (test : X → Bool) (xs : List X) (k : ℕ) (x : X) → list_any test xs ≡ list_any test (drop k xs) → slice_get xs k ≡ Some x → test x ≡ true → true ≡ list_any test xs
any_found test xs k x e at is = sym (e ∙ ap (list_any test) (drop_at_place xs k x at) ∙ ap (λ b. b || list_any test (drop (k + 1) xs)) is)

pub any_next : {X : Type 0} (test : X → Bool) (xs : List X) (k : ℕ) (x : X) → list_any test xs ≡ list_any test (drop k xs) → slice_get xs k ≡ Some x → test x ≡ false → list_any test xs ≡ list_any test (drop (k + 1) xs)
any_next test xs k x e at is = e ∙ ap (list_any test) (drop_at_place xs k x at) ∙ ap (λ b. b || list_any test (drop (k + 1) xs)) is

pub sum_found : (uri : List ℕ) (xs : List Trusted) (k : ℕ) (x : Trusted) (sum : List ℕ) → sum_for uri xs ≡ sum_for uri (drop k xs) → slice_get xs k ≡ Some x → listed_sum uri x ≡ Some sum → Some sum ≡ sum_for uri xs
sum_found uri xs k x sum e at is = sym (e ∙ ap (sum_for uri) (drop_at_place xs k x at) ∙ ap (λ s. option_or s (sum_for uri (drop (k + 1) xs))) is)

pub sum_next : (uri : List ℕ) (xs : List Trusted) (k : ℕ) (x : Trusted) → sum_for uri xs ≡ sum_for uri (drop k xs) → slice_get xs k ≡ Some x → listed_sum uri x ≡ None → sum_for uri xs ≡ sum_for uri (drop (k + 1) xs)
sum_next uri xs k x e at is = e ∙ ap (sum_for uri) (drop_at_place xs k x at) ∙ ap (λ s. option_or s (sum_for uri (drop (k + 1) xs))) is

-- the tests, and what they tell

any_map : {X : Type 0} (P Q : X → Type 0) (xs : List X) → ((x : X) → P x → Q x) → Any P xs → Any Q xs
any_map P Q xs f a = (a.0, a.1, a.2, a.3, f a.1 a.4)

has_listed : (uri : List ℕ) (xs : List Trusted) → list_any (has_uri uri) xs ≡ true → Any (HasUri uri) xs
has_listed uri xs e = any_map (λ x. has_uri uri x ≡ true) (HasUri uri) xs (λ x. (bytes_eq-Decides uri (uri_of x.name)).0) (Any-from_list_any (has_uri uri) xs e)

listed_has : (uri : List ℕ) (xs : List Trusted) → Any (HasUri uri) xs → list_any (has_uri uri) xs ≡ true
listed_has uri xs a = list_any-from_Any (has_uri uri) xs (any_map (HasUri uri) (λ x. has_uri uri x ≡ true) xs (λ x. (bytes_eq-Decides uri (uri_of x.name)).1) a)

not_listed : (uri : List ℕ) (xs : List Trusted) → list_any (has_uri uri) xs ≡ false → ¬ Any (HasUri uri) xs
not_listed uri xs e a = false≢true (sym e ∙ listed_has uri xs a)

has_allowed : (uri : List ℕ) (uris : List (List ℕ)) → list_any (bytes_eq uri) uris ≡ true → Contains uris uri
has_allowed uri uris e =
    let found = Any-from_list_any (bytes_eq uri) uris e in
    let same : found.1 ≡ uri = sym ((bytes_eq-Decides uri found.1).0 found.4) in
    (found.0, found.2, subst (λ y. get_or uris found.0 y ≡ y) same found.3)

allowed_has : (uri : List ℕ) (uris : List (List ℕ)) → Contains uris uri → list_any (bytes_eq uri) uris ≡ true
allowed_has uri uris a = list_any_at (bytes_eq uri) uris a.0 uri a.1 ((bytes_eq-Decides uri (get_or uris a.0 uri)).1 (sym a.2))

not_allowed : (uri : List ℕ) (uris : List (List ℕ)) → list_any (bytes_eq uri) uris ≡ false → ¬ Contains uris uri
not_allowed uri uris e a = false≢true (sym e ∙ allowed_has uri uris a)

-- a uri of no trusted entry has no sum
no_sum_step : (uri : List ℕ) (x : Trusted) (xs : List Trusted) (has others : Bool) → has_uri uri x ≡ has → list_any (has_uri uri) xs ≡ others → (has || others) ≡ false
    → (list_any (has_uri uri) xs ≡ false → sum_for uri xs ≡ None) → sum_for uri (x ∷ xs) ≡ None
no_sum_step uri x xs true others h o e rest = absurd (false≢true (sym e))
no_sum_step uri x xs false true h o e rest = absurd (false≢true (sym e))
no_sum_step uri x xs false false h o e rest = rw (h, rest o) refl

no_sum : (uri : List ℕ) (xs : List Trusted) → list_any (has_uri uri) xs ≡ false → sum_for uri xs ≡ None
no_sum uri [] e = refl
no_sum uri (x ∷ xs) e = no_sum_step uri x xs (has_uri uri x) (list_any (has_uri uri) xs) refl refl e (no_sum uri xs)

-- a verdict as a function of the tests
verdict_of : Option (List ℕ) → Bool → Bool → Policy → Verdict
verdict_of (Some sum) listed allowed policy = verdicts.Trusted sum
verdict_of None true allowed policy = verdicts.NoSum
verdict_of None false true policy = verdicts.Allowed
verdict_of None false false AllowAllButLog = verdicts.Logged
verdict_of None false false Strict = verdicts.Denied

module _ (lists : Lists) (uri : List ℕ) where
  from_tests : (sum : Option (List ℕ)) (listed allowed : Bool) (policy : Policy)
      → sum_for uri lists.trusted ≡ sum → list_any (has_uri uri) lists.trusted ≡ listed → list_any (bytes_eq uri) lists.allowed ≡ allowed → lists.policy ≡ policy
      → IsVerdict lists uri (verdict_of sum listed allowed policy)
  unfolding verdict_of
  from_tests (Some sum) listed allowed policy s l a p = WithSum sum s refl
  from_tests None true allowed policy s l a p = WithoutSum (has_listed uri lists.trusted l) s refl
  from_tests None false true policy s l a p = IsAllowed (not_listed uri lists.trusted l) (has_allowed uri lists.allowed a) refl
  from_tests None false false AllowAllButLog s l a p = IsLogged (not_listed uri lists.trusted l) (not_allowed uri lists.allowed a) p refl
  from_tests None false false Strict s l a p = IsDenied (not_listed uri lists.trusted l) (not_allowed uri lists.allowed a) p refl

  -- there is a verdict
  pub verdict_there : (verdict : Verdict) × IsVerdict lists uri verdict
  verdict_there = (_, from_tests (sum_for uri lists.trusted) (list_any (has_uri uri) lists.trusted) (list_any (bytes_eq uri) lists.allowed) lists.policy refl refl refl refl)

  false_from : (b : Bool) → (b ≡ true → ⊥) → b ≡ false
  false_from true none = absurd (none refl)
  false_from false none = refl

  untrusted : ¬ Any (HasUri uri) lists.trusted → list_any (has_uri uri) lists.trusted ≡ false
  untrusted none = false_from _ (λ e. none (has_listed uri lists.trusted e))

  disallowed : ¬ Contains lists.allowed uri → list_any (bytes_eq uri) lists.allowed ≡ false
  disallowed none = false_from _ (λ e. none (has_allowed uri lists.allowed e))

  told : (verdict : Verdict) → IsVerdict lists uri verdict → verdict ≡ verdict_of (sum_for uri lists.trusted) (list_any (has_uri uri) lists.trusted) (list_any (bytes_eq uri) lists.allowed) lists.policy
  unfolding verdict_of
  told verdict (WithSum sum s e) = rw s e
  told verdict (WithoutSum l s e) = rw (s, listed_has uri lists.trusted l) e
  told verdict (IsAllowed l a e) = rw (no_sum uri lists.trusted (untrusted l), untrusted l, allowed_has uri lists.allowed a) e
  told verdict (IsLogged l a p e) = rw (no_sum uri lists.trusted (untrusted l), untrusted l, disallowed a, p) e
  told verdict (IsDenied l a p e) = rw (no_sum uri lists.trusted (untrusted l), untrusted l, disallowed a, p) e

  -- and no other
  pub verdict_one : (a b : Verdict) → IsVerdict lists uri a → IsVerdict lists uri b → a ≡ b
  verdict_one a b x y = told a x ∙ sym (told b y)

  pub without_sum : sum_for uri lists.trusted ≡ None → list_any (has_uri uri) lists.trusted ≡ true → IsVerdict lists uri verdicts.NoSum
  without_sum s l = WithoutSum (has_listed uri lists.trusted l) s refl

  pub is_allowed : list_any (has_uri uri) lists.trusted ≡ false → list_any (bytes_eq uri) lists.allowed ≡ true → IsVerdict lists uri verdicts.Allowed
  is_allowed l a = IsAllowed (not_listed uri lists.trusted l) (has_allowed uri lists.allowed a) refl

  pub is_logged : list_any (has_uri uri) lists.trusted ≡ false → list_any (bytes_eq uri) lists.allowed ≡ false → lists.policy ≡ AllowAllButLog → IsVerdict lists uri verdicts.Logged
  is_logged l a p = IsLogged (not_listed uri lists.trusted l) (not_allowed uri lists.allowed a) p refl

  pub is_denied : list_any (has_uri uri) lists.trusted ≡ false → list_any (bytes_eq uri) lists.allowed ≡ false → lists.policy ≡ Strict → IsVerdict lists uri verdicts.Denied
  is_denied l a p = IsDenied (not_listed uri lists.trusted l) (not_allowed uri lists.allowed a) p refl

  -- what each verdict tells
  trusted_tells : (verdict : Verdict) (sum : List ℕ) → IsVerdict lists uri verdict → verdict ≡ verdicts.Trusted sum → sum_for uri lists.trusted ≡ Some sum
  trusted_tells verdict sum (WithSum other s e) f = let same : other ≡ sum = cc in s ∙ ap Some same
  trusted_tells verdict sum (WithoutSum l s e) f = absurd (cc)
  trusted_tells verdict sum (IsAllowed l a e) f = absurd (cc)
  trusted_tells verdict sum (IsLogged l a p e) f = absurd (cc)
  trusted_tells verdict sum (IsDenied l a p e) f = absurd (cc)

  no_sum_tells : (verdict : Verdict) → IsVerdict lists uri verdict → verdict ≡ verdicts.NoSum → Any (HasUri uri) lists.trusted × (sum_for uri lists.trusted ≡ None)
  no_sum_tells verdict (WithSum sum s e) f = absurd (cc)
  no_sum_tells verdict (WithoutSum l s e) f = (l, s)
  no_sum_tells verdict (IsAllowed l a e) f = absurd (cc)
  no_sum_tells verdict (IsLogged l a p e) f = absurd (cc)
  no_sum_tells verdict (IsDenied l a p e) f = absurd (cc)

  allowed_tells : (verdict : Verdict) → IsVerdict lists uri verdict → verdict ≡ verdicts.Allowed → (¬ Any (HasUri uri) lists.trusted) × Contains lists.allowed uri
  allowed_tells verdict (WithSum sum s e) f = absurd (cc)
  allowed_tells verdict (WithoutSum l s e) f = absurd (cc)
  allowed_tells verdict (IsAllowed l a e) f = (l, a)
  allowed_tells verdict (IsLogged l a p e) f = absurd (cc)
  allowed_tells verdict (IsDenied l a p e) f = absurd (cc)

  logged_tells : (verdict : Verdict) → IsVerdict lists uri verdict → verdict ≡ verdicts.Logged → (¬ Any (HasUri uri) lists.trusted) × (¬ Contains lists.allowed uri) × (lists.policy ≡ AllowAllButLog)
  logged_tells verdict (WithSum sum s e) f = absurd (cc)
  logged_tells verdict (WithoutSum l s e) f = absurd (cc)
  logged_tells verdict (IsAllowed l a e) f = absurd (cc)
  logged_tells verdict (IsLogged l a p e) f = (l, a, p)
  logged_tells verdict (IsDenied l a p e) f = absurd (cc)

  denied_tells : (verdict : Verdict) → IsVerdict lists uri verdict → verdict ≡ verdicts.Denied → (¬ Any (HasUri uri) lists.trusted) × (¬ Contains lists.allowed uri) × (lists.policy ≡ Strict)
  denied_tells verdict (WithSum sum s e) f = absurd (cc)
  denied_tells verdict (WithoutSum l s e) f = absurd (cc)
  denied_tells verdict (IsAllowed l a e) f = absurd (cc)
  denied_tells verdict (IsLogged l a p e) f = absurd (cc)
  denied_tells verdict (IsDenied l a p e) f = (l, a, p)

  pub by_cases : (verdict : Verdict) → IsVerdict lists uri verdict → IsByCases lists uri verdict
  by_cases verdict is = record {
    trusted = λ sum. (trusted_tells verdict sum is, λ s. verdict_one verdict (verdicts.Trusted sum) is (WithSum sum s refl));
    no_sum = (no_sum_tells verdict is, λ t. verdict_one verdict verdicts.NoSum is (WithoutSum t.0 t.1 refl));
    allowed = (allowed_tells verdict is, λ t. verdict_one verdict verdicts.Allowed is (IsAllowed t.0 t.1 refl));
    logged = (logged_tells verdict is, λ t. verdict_one verdict verdicts.Logged is (IsLogged t.0 t.1 t.2 refl));
    denied = (denied_tells verdict is, λ t. verdict_one verdict verdicts.Denied is (IsDenied t.0 t.1 t.2 refl));
  }
