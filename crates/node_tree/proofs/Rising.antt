-- Rising lists that grow.
use Rattle.std.proofs.Common.{◌≡◌, inl, inr, ℕ, ◌+◌, ◌-◌, ◌<◌, List, [], ◌∷◌, ◌++◌, length, get_or, ap, ◌∙◌, sym, arith, subst}
use Rattle.std.specs.Prelude.{Contains, slice_get, Some}
use Rattle.std.specs.List.Sorted.{IsStrictlyIncreasing}
use Rattle.std.proofs.lemmas.Bool.{cases_lt, cases_eq}
use Rattle.std.proofs.lemmas.Option.{slice_get-get_or}
use Rattle.std.proofs.lemmas.List.{length_push, get_or_append_left, get_or_push, get_or_default}
use Rattle.std.proofs.lemmas.List.Elements.{Contains-get_or, Contains-append_left, Contains-push, Contains-push_cases}
use Rattle.node_tree.specs.Listing.{Adds, UpTo}

rising_push : (xs : List ℕ) (y : ℕ) → IsStrictlyIncreasing xs → ((k : ℕ) → Contains xs k → k < y) → IsStrictlyIncreasing (xs ++ y ∷ [])
rising_push xs y rising below k lt =
    elim (cases_lt (k + 1) (length xs)) [
      | inl within ↦
          let a = get_or_append_left xs (y ∷ []) 0 k (omega arith) in
          let b = get_or_append_left xs (y ∷ []) 0 (k + 1) within in
          omega (arith, a, b, rising k within)
      | inr past ↦
          let long = length_push xs y in
          let a = get_or_append_left xs (y ∷ []) 0 k (omega arith) in
          let b = get_or_push xs y 0 (k + 1) (omega arith) in
          omega (arith, a, b, below (get_or xs k 0) (Contains-get_or xs k 0 (omega arith)))
    ]

-- the number is put behind
pub adds_pushed : (xs : List ℕ) (y : ℕ) → IsStrictlyIncreasing xs → ((k : ℕ) → Contains xs k → k < y) → Adds xs (xs ++ y ∷ []) y
adds_pushed xs y rising below = record {
  rising = rising_push xs y rising below;
  members = λ k. (
    λ there. elim (Contains-push_cases xs y k there) [ inl old ↦ inl old | inr is ↦ inr (sym is) ],
    λ either. elim either [ inl old ↦ Contains-append_left xs (y ∷ []) k old | inr is ↦ subst (λ (j : ℕ). Contains (xs ++ y ∷ []) j) (sym is) (Contains-push xs y) ],
  );
  not_longer = omega (arith, length_push xs y);
}

-- it is there
pub adds_nothing : (xs : List ℕ) (y : ℕ) → IsStrictlyIncreasing xs → Contains xs y → Adds xs xs y
adds_nothing xs y rising there = record {
  rising = rising;
  members = λ k. (λ old. inl old, λ either. elim either [ inl old ↦ old | inr is ↦ subst (λ (j : ℕ). Contains xs j) (sym is) there ]);
  not_longer = omega arith;
}

-- A rising list with no number above y, whose last is not y, has numbers below y only.
pub below_new : (xs : List ℕ) (y : ℕ) → IsStrictlyIncreasing xs → UpTo xs y → (slice_get xs (length xs - 1) ≡ Some y → ⊥) → (k : ℕ) → Contains xs k → k < y
below_new xs y rising order other k (i, within, is) =
    let here : get_or xs i 0 ≡ k = get_or_default xs i 0 k within ∙ is in
    elim (cases_lt (i + 1) (length xs)) [
      | inl more ↦
          let next = order (get_or xs (i + 1) 0) (Contains-get_or xs (i + 1) 0 more) in
          omega (arith, rising i more, here, next)
      | inr last ↦
          let le = order k (i, within, is) in
          elim (cases_eq k y) [
            | inl same ↦ absurd (other (ap (λ j. slice_get xs j) (let e : length xs - 1 ≡ i = omega arith in e) ∙ slice_get-get_or xs i 0 within ∙ ap (λ (n : ℕ). Some n) (here ∙ same)))
            | inr ne ↦ omega arith
          ]
    ]
