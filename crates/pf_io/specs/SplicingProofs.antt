-- Proofs, no definitions of what is promised: what stands where in a list after a write at a place. (They stand here for those of `SoundProofs`.)
use Rattle.std.proofs.Common.{◌≡◌, ◌⊎◌, inl, inr, ℕ, zero, suc, ◌+◌, ◌-◌, ◌<◌, ◌≤◌, max, Bool, true, false, List, [], ◌∷◌, ◌++◌, length, take, drop, replicate, slice_get, refl, sym, ◌∙◌, ap, Some, arith, length-append, length-drop}
use Rattle.std.proofs.lemmas.List.{length-take, length-replicate}
use Rattle.pf_io.specs.Steps.{overwrite, reach}
use Rattle.pf_io.specs.Replay.{unkept}

pub below_or_past : (i n : ℕ) → (i < n) ⊎ (n ≤ i)
below_or_past i zero = inr (omega arith)
below_or_past zero (suc n) = inl (omega arith)
below_or_past (suc i) (suc n) = step (below_or_past i n)
  where
    step : (i < n) ⊎ (n ≤ i) → (suc i < suc n) ⊎ (suc n ≤ suc i)
    step (inl lt) = inl (omega arith)
    step (inr le) = inr (omega arith)

pub get_left : {A : Type 0} (xs ys : List A) (i : ℕ) → i < length xs → slice_get (xs ++ ys) i ≡ slice_get xs i
get_left [] ys i lt = absurd (omega arith)
get_left (x ∷ xs) ys zero lt = refl
get_left (x ∷ xs) ys (suc i) lt = get_left xs ys i (omega arith)

pub get_right : {A : Type 0} (xs ys : List A) (i : ℕ) → length xs ≤ i → slice_get (xs ++ ys) i ≡ slice_get ys (i - length xs)
get_right [] ys i le = ap (λ (k : ℕ). slice_get ys k) (omega arith)
get_right (x ∷ xs) ys zero le = absurd (omega arith)
get_right (x ∷ xs) ys (suc i) le = get_right xs ys i (omega arith) ∙ ap (λ (k : ℕ). slice_get ys k) (omega arith)

pub get_take : {A : Type 0} (n : ℕ) (xs : List A) (i : ℕ) → i < n → slice_get (take n xs) i ≡ slice_get xs i
get_take zero xs i lt = absurd (omega arith)
get_take (suc n) [] i lt = refl
get_take (suc n) (x ∷ xs) zero lt = refl
get_take (suc n) (x ∷ xs) (suc i) lt = get_take n xs i (omega arith)

pub get_drop : {A : Type 0} (n : ℕ) (xs : List A) (i : ℕ) → slice_get (drop n xs) i ≡ slice_get xs (n + i)
get_drop zero xs i = ap (λ (k : ℕ). slice_get xs k) (omega arith)
get_drop (suc n) [] i = refl
get_drop (suc n) (x ∷ xs) i = get_drop n xs i ∙ ap (λ (k : ℕ). slice_get (x ∷ xs) k) over
  where
    over : suc (n + i) ≡ suc n + i
    over = omega arith

pub get_replicate : {A : Type 0} (n : ℕ) (x : A) (i : ℕ) → i < n → slice_get (replicate n x) i ≡ Some x
get_replicate zero x i lt = absurd (omega arith)
get_replicate (suc n) x zero lt = refl
get_replicate (suc n) x (suc i) lt = get_replicate n x i (omega arith)

pub get_inside : {A : Type 0} (xs : List A) (i : ℕ) (x : A) → slice_get xs i ≡ Some x → i < length xs
get_inside [] i x is = absurd (cc)
get_inside (y ∷ xs) zero x is = omega arith
get_inside (y ∷ xs) (suc i) x is = let lt = get_inside xs i x is in omega arith

-- a front, some in the middle, and what the list has behind them
module _ {A : Type 0} (at end : ℕ) (middle old : List A) (meets : length (take at old) + length middle ≡ end) where
  pub spliced-length : length (take at old ++ middle ++ drop end old) ≡ end + (length old - end)
  spliced-length = omega (arith, meets, length-append (take at old ++ middle) (drop end old), length-append (take at old) middle, length-drop end old)

  pub spliced-front : (i : ℕ) → i < at → i < length old → slice_get (take at old ++ middle ++ drop end old) i ≡ slice_get old i
  spliced-front i lt inside =
      get_left (take at old ++ middle) (drop end old) i (omega (arith, length-append (take at old) middle, length-take at old))
      ∙ get_left (take at old) middle i (omega (arith, length-take at old))
      ∙ get_take at old i lt

  pub spliced-middle : (i : ℕ) → length (take at old) ≤ i → i < end → slice_get (take at old ++ middle ++ drop end old) i ≡ slice_get middle (i - length (take at old))
  spliced-middle i le lt =
      get_left (take at old ++ middle) (drop end old) i (omega (arith, meets, length-append (take at old) middle))
      ∙ get_right (take at old) middle i le

  pub spliced-back : (i : ℕ) → end ≤ i → slice_get (take at old ++ middle ++ drop end old) i ≡ slice_get old i
  spliced-back i le =
      get_right (take at old ++ middle) (drop end old) i (omega (arith, meets, length-append (take at old) middle))
      ∙ get_drop end old (i - length (take at old ++ middle))
      ∙ ap (λ (k : ℕ). slice_get old k) (omega (arith, meets, length-append (take at old) middle))

-- a write: what stands before it, in the gap, and behind it
module _ (at b : ℕ) (bytes old : List ℕ) where
  whole : List ℕ
  whole = take at old ++ replicate (at - length old) 0 ++ (b ∷ bytes) ++ drop (at + length (b ∷ bytes)) old

  front_length : length (take at old ++ replicate (at - length old) 0) ≡ at
  front_length = omega (arith, length-append (take at old) (replicate (at - length old) 0), length-take at old, length-replicate {A = ℕ} (at - length old) 0)

  both_length : length (take at old ++ replicate (at - length old) 0 ++ (b ∷ bytes)) ≡ at + length (b ∷ bytes)
  both_length = omega (arith, front_length, length-append (take at old ++ replicate (at - length old) 0) (b ∷ bytes))

  pub written-length : length (overwrite at (b ∷ bytes) old) ≡ at + length (b ∷ bytes) + (length old - (at + length (b ∷ bytes)))
  written-length = omega (arith, both_length, length-append (take at old ++ replicate (at - length old) 0 ++ (b ∷ bytes)) (drop (at + length (b ∷ bytes)) old), length-drop (at + length (b ∷ bytes)) old)

  before_bytes : (i : ℕ) → i < at → slice_get (overwrite at (b ∷ bytes) old) i ≡ slice_get (take at old ++ replicate (at - length old) 0) i
  before_bytes i lt =
      get_left (take at old ++ replicate (at - length old) 0 ++ (b ∷ bytes)) (drop (at + length (b ∷ bytes)) old) i (omega (arith, both_length))
      ∙ get_left (take at old ++ replicate (at - length old) 0) (b ∷ bytes) i (omega (arith, front_length))

  pub written-front : (i : ℕ) → i < at → i < length old → slice_get (overwrite at (b ∷ bytes) old) i ≡ slice_get old i
  written-front i lt inside =
      before_bytes i lt
      ∙ get_left (take at old) (replicate (at - length old) 0) i (omega (arith, length-take at old))
      ∙ get_take at old i lt

  pub written-gap : (i : ℕ) → length old ≤ i → i < at → slice_get (overwrite at (b ∷ bytes) old) i ≡ Some 0
  written-gap i past lt =
      before_bytes i lt
      ∙ get_right (take at old) (replicate (at - length old) 0) i (omega (arith, length-take at old))
      ∙ get_replicate (at - length old) 0 (i - length (take at old)) (omega (arith, length-take at old))

  pub written-back : (i : ℕ) → at + length (b ∷ bytes) ≤ i → slice_get (overwrite at (b ∷ bytes) old) i ≡ slice_get old i
  written-back i le =
      get_right (take at old ++ replicate (at - length old) 0 ++ (b ∷ bytes)) (drop (at + length (b ∷ bytes)) old) i (omega (arith, both_length))
      ∙ get_drop (at + length (b ∷ bytes)) old (i - length (take at old ++ replicate (at - length old) 0 ++ (b ∷ bytes)))
      ∙ ap (λ (k : ℕ). slice_get old k) (omega (arith, both_length))

pub overwrite-length : (at : ℕ) (bytes old : List ℕ) → length (overwrite at bytes old) ≡ max (length old) (reach at (length bytes))
overwrite-length at [] old = omega arith
overwrite-length at (b ∷ bytes) old = omega (arith, written-length at b bytes old)

pub overwrite-front : (at : ℕ) (bytes old : List ℕ) (i : ℕ) → i < at → i < length old → slice_get (overwrite at bytes old) i ≡ slice_get old i
overwrite-front at [] old i lt inside = refl
overwrite-front at (b ∷ bytes) old i lt inside = written-front at b bytes old i lt inside

-- a gap reads as zeros, in a file that reaches behind it
pub overwrite-gap : (at : ℕ) (bytes old : List ℕ) (i : ℕ) → length old ≤ i → i < at → i < length (overwrite at bytes old) → slice_get (overwrite at bytes old) i ≡ Some 0
overwrite-gap at [] old i past lt inside = absurd (omega arith)
overwrite-gap at (b ∷ bytes) old i past lt inside = written-gap at b bytes old i past lt

pub overwrite-back : (at : ℕ) (bytes old : List ℕ) (i : ℕ) → at + length bytes ≤ i → slice_get (overwrite at bytes old) i ≡ slice_get old i
overwrite-back at [] old i le = refl
overwrite-back at (b ∷ bytes) old i le = written-back at b bytes old i le

-- the marks behind and before n places
module _ (at n : ℕ) (kept : List Bool) where
  middle : List Bool
  middle = replicate (at + suc n - length (take at kept)) false

  meets : length (take at kept) + length (replicate (at + suc n - length (take at kept)) false) ≡ at + suc n
  meets = omega (arith, length-take at kept, length-replicate {A = Bool} (at + suc n - length (take at kept)) false)

  pub marks-length : length (unkept at (suc n) kept) ≡ at + suc n + (length kept - (at + suc n))
  marks-length = spliced-length at (at + suc n) (replicate (at + suc n - length (take at kept)) false) kept meets

  pub marks-front : (i : ℕ) → i < at → i < length kept → slice_get (unkept at (suc n) kept) i ≡ slice_get kept i
  marks-front = spliced-front at (at + suc n) (replicate (at + suc n - length (take at kept)) false) kept meets

  pub marks-middle : (i : ℕ) → length (take at kept) ≤ i → i < at + suc n → slice_get (unkept at (suc n) kept) i ≡ Some false
  marks-middle i le lt =
      spliced-middle at (at + suc n) (replicate (at + suc n - length (take at kept)) false) kept meets i le lt
      ∙ get_replicate (at + suc n - length (take at kept)) false (i - length (take at kept)) (omega arith)

  pub marks-back : (i : ℕ) → at + suc n ≤ i → slice_get (unkept at (suc n) kept) i ≡ slice_get kept i
  marks-back = spliced-back at (at + suc n) (replicate (at + suc n - length (take at kept)) false) kept meets

pub unkept-length : (at n : ℕ) (kept : List Bool) → length (unkept at n kept) ≡ max (length kept) (reach at n)
unkept-length at zero kept = omega arith
unkept-length at (suc n) kept = omega (arith, marks-length at n kept)

pub unkept-front : (at n : ℕ) (kept : List Bool) (i : ℕ) → slice_get kept i ≡ Some true → i < at → slice_get (unkept at n kept) i ≡ Some true
unkept-front at zero kept i is lt = is
unkept-front at (suc n) kept i is lt = marks-front at n kept i lt (get_inside kept i true is) ∙ is

pub unkept-back : (at n : ℕ) (kept : List Bool) (i : ℕ) → slice_get kept i ≡ Some true → at + n ≤ i → slice_get (unkept at n kept) i ≡ Some true
unkept-back at zero kept i is le = is
unkept-back at (suc n) kept i is le = marks-back at n kept i le ∙ is

-- A place that is still kept was kept before, and stands outside.
pub unkept-kept : (at n : ℕ) (kept : List Bool) (i : ℕ) → slice_get (unkept at n kept) i ≡ Some true → (slice_get kept i ≡ Some true) × ((i < at) ⊎ (at + n ≤ i))
unkept-kept at zero kept i is = (is, same (below_or_past i at))
  where
    same : (i < at) ⊎ (at ≤ i) → (i < at) ⊎ (at + 0 ≤ i)
    same (inl lt) = inl lt
    same (inr le) = inr (omega arith)
unkept-kept at (suc n) kept i is = by_place (below_or_past i (length (take at kept))) (below_or_past i (at + suc n))
  where
    by_place : (i < length (take at kept)) ⊎ (length (take at kept) ≤ i) → (i < at + suc n) ⊎ (at + suc n ≤ i) → (slice_get kept i ≡ Some true) × ((i < at) ⊎ (at + suc n ≤ i))
    by_place (inl lt) past =
        let below : i < at = omega (arith, length-take at kept) in
        (sym (marks-front at n kept i below (omega (arith, length-take at kept))) ∙ is, inl below)
    by_place (inr le) (inl lt) = let e : Some false ≡ Some true = sym (marks-middle at n kept i le lt) ∙ is in absurd (cc)
    by_place (inr le) (inr past) = (sym (marks-back at n kept i past) ∙ is, inr past)
