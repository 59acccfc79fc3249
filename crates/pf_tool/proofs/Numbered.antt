-- The nodes that a piece touches and that are not held yet.
use Rattle.std.proofs.Common.{◌≡◌, inl, inr, ℕ, zero, suc, ◌+◌, ◌-◌, ◌*◌, ◌<◌, ◌≤◌, Bool, true, false, cond, List, [], ◌∷◌, refl, ap, ◌∙◌, sym, arith, Option}
use Rattle.std.specs.Prelude.{Contains, filter, is_none}
use Rattle.std.specs.List.{range_with_len}
use Rattle.std.specs.List.Sorted.{IsStrictlyIncreasing}
use Rattle.std.proofs.lemmas.Bool.{true≢false, cases_lt}
use Rattle.std.proofs.lemmas.List.FromFn.{length-range_with_len, get_or-range_with_len}
use Rattle.std.proofs.lemmas.List.Kept.{IsStrictlyIncreasing-filter}
use Rattle.node_layout.specs.Places.{data_count, mht_count, node_count}
use Rattle.node_layout.proofs.Numbers.{each_number, data_live, mht_live}
use Rattle.node_tree.specs.Touched.{IsTouched, AreTouched}
use Rattle.node_tree.specs.Fetching.{missing_of}
use Rattle.node_tree.proofs.Order.{same_rising}
use Rattle.node_tree.proofs.Lively.{touched_live, touched_low}

-- the members of a filtered list
kept_cases : (p : ℕ → Bool) (x : ℕ) (xs : List ℕ) (k : ℕ) (b : Bool) → p x ≡ b → Contains (cond b (x ∷ filter p xs) (filter p xs)) k → ((j : ℕ) → Contains (filter p xs) j → Contains xs j × (p j ≡ true)) → Contains (x ∷ xs) k × (p k ≡ true)
kept_cases p x xs k true passes (zero, within, is) rest = ((0, omega arith, is), ap p (sym is) ∙ passes)
kept_cases p x xs k true passes (suc i, within, is) rest = let r = rest k (i, omega arith, is) in ((suc r.0.0, let w = r.0.1 in omega arith, r.0.2), r.1)
kept_cases p x xs k false passes there rest = let r = rest k there in ((suc r.0.0, let w = r.0.1 in omega arith, r.0.2), r.1)

kept_of : (p : ℕ → Bool) (xs : List ℕ) (k : ℕ) → Contains (filter p xs) k → Contains xs k × (p k ≡ true)
kept_of p [] k (i, within, is) = absurd (omega arith)
kept_of p (x ∷ xs) k there = kept_cases p x xs k (p x) refl there (λ j. kept_of p xs j)

first_kept : (p : ℕ → Bool) (x : ℕ) (xs : List ℕ) (k : ℕ) (b : Bool) → b ≡ true → x ≡ k → Contains (cond b (x ∷ filter p xs) (filter p xs)) k
first_kept p x xs k true same is = (0, omega arith, is)
first_kept p x xs k false same is = absurd (true≢false (sym same))

later_kept : (p : ℕ → Bool) (x : ℕ) (xs : List ℕ) (k : ℕ) (b : Bool) → Contains (filter p xs) k → Contains (cond b (x ∷ filter p xs) (filter p xs)) k
later_kept p x xs k true rest = (suc rest.0, let w = rest.1 in omega arith, rest.2)
later_kept p x xs k false rest = rest

of_kept : (p : ℕ → Bool) (xs : List ℕ) (k : ℕ) → Contains xs k → p k ≡ true → Contains (filter p xs) k
of_kept p [] k (i, within, is) passes = absurd (omega arith)
of_kept p (x ∷ xs) k (zero, within, is) passes = first_kept p x xs k (p x) (ap p is ∙ passes) is
of_kept p (x ∷ xs) k (suc i, within, is) passes = later_kept p x xs k (p x) (of_kept p xs k (i, omega arith, is) passes)

-- the members of a range
pub in_range : (a n k : ℕ) → a ≤ k → k < a + n → Contains (range_with_len a n) k
in_range a n k low high = (k - a, omega (arith, length-range_with_len a n), get_or-range_with_len a n (k - a) k (omega arith) ∙ omega arith)

pub of_range : (a n k : ℕ) → Contains (range_with_len a n) k → (a ≤ k) × (k < a + n)
of_range a n k (i, within, is) =
    let at = get_or-range_with_len a n i k (omega (arith, length-range_with_len a n)) in
    (omega (arith, at, is), omega (arith, at, is, length-range_with_len a n))

pub rising_range : (a n : ℕ) → IsStrictlyIncreasing (range_with_len a n)
rising_range a n i lt =
    let long = length-range_with_len a n in
    omega (arith, get_or-range_with_len a n i 0 (omega (arith, long)), get_or-range_with_len a n (i + 1) 0 (omega (arith, long)))

-- each number of these is touched
pub touched_between : (at end k : ℕ) → at < end → node_count at ≤ k → k < node_count end → IsTouched at end k
touched_between at end k some low high =
    elim (each_number k (omega arith)) [
      | inl (d, is) ↦
          let live = (data_live end d).0 (omega arith) in
          let new : data_count at ≤ d = elim (cases_lt d (data_count at)) [ inl old ↦ absurd (let below = (data_live at d).1 old in omega arith) | inr not_old ↦ not_old ] in
          (d, record { some = some; begins = omega arith; ends = omega arith }, inl is)
      | inr (m, is) ↦
          let live = (mht_live end m).0 (omega arith) in
          let new : mht_count at ≤ m = elim (cases_lt m (mht_count at)) [ inl old ↦ absurd (let below = (mht_live at m).1 old in omega arith) | inr not_old ↦ not_old ] in
          (96 * m, record { some = some; begins = omega arith; ends = omega arith }, inr (m, (0, omega arith), is))
    ]

-- the nodes below a number are held, and no others
abbrev pub AreHeldBelow : (ℕ → Option (List ℕ)) → ℕ → Type 0
AreHeldBelow held n = (k : ℕ) → is_none (held k) ≡ false → (1 ≤ k) × (k < n)

abbrev pub IsHeldBelow : (ℕ → Option (List ℕ)) → ℕ → Type 0
IsHeldBelow held n = (k : ℕ) → 1 ≤ k → k < n → is_none (held k) ≡ false

still_missing : (held : ℕ → Option (List ℕ)) (n k : ℕ) (b : Bool) → is_none (held k) ≡ b → AreHeldBelow held n → n ≤ k → is_none (held k) ≡ true
still_missing held n k true is no_others new = is
still_missing held n k false is no_others new = absurd (let old = (no_others k is).1 in omega arith)

-- what is missing of the touched nodes is the numbers from one count up to the other
pub missing_between : (held : ℕ → Option (List ℕ)) (at end : ℕ) (numbers : List ℕ) → at < end → AreHeldBelow held (node_count at) → IsHeldBelow held (node_count at) → AreTouched at end numbers
    → missing_of held numbers ≡ range_with_len (node_count at) (node_count end - node_count at)
missing_between held at end numbers some no_others below touched =
    same_rising (missing_of held numbers) (range_with_len (node_count at) (node_count end - node_count at))
    (IsStrictlyIncreasing-filter (λ k. is_none (held k)) numbers touched.rising) (rising_range (node_count at) (node_count end - node_count at))
    (λ k there.
    let kept = kept_of (λ j. is_none (held j)) numbers k there in
    let on = (touched.exactly k).0 kept.0 in
    let live = touched_live at end end k (omega arith) on in
    let low = touched_low at end k on in
    let new : node_count at ≤ k = elim (cases_lt k (node_count at)) [ inl old ↦ absurd (true≢false (sym kept.1 ∙ below k low old)) | inr not_old ↦ not_old ] in
    in_range (node_count at) (node_count end - node_count at) k new (omega arith))
    (λ k there.
    let bounds = of_range (node_count at) (node_count end - node_count at) k there in
    let on = touched_between at end k some bounds.0 (let high = bounds.1 in omega arith) in
    of_kept (λ j. is_none (held j)) numbers k ((touched.exactly k).1 on) (still_missing held (node_count at) k (is_none (held k)) refl no_others bounds.0))
