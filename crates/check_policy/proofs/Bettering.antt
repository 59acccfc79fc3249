-- The search for the last mount with the most parts.
use Rattle.std.proofs.Common.{◌≡◌, ◌∙◌, ℕ, suc, ◌+◌, ◌<◌, ◌≤◌, List, [], ◌∷◌, ◌++◌, length, length-append, Option, Some, None, sym, ap, subst, arith, below_more}
use Rattle.std.specs.List.{slice_get}
use Rattle.std.proofs.lemmas.Option.{slice_get_within}
use Rattle.manifest_model.specs.declared.entries.Mount.{Mount}
use Rattle.manifest_model.specs.Names.{behind}
use Rattle.check_policy.specs.Places.{parts_of, depth, Begins, NoneServes}
use Rattle.check_policy.specs.Seeking.{Leaves, IsBest, Missing, Found, IsServing}

length-behind : (p : List ℕ) (ps : List (List ℕ)) → length (behind (p ∷ ps)) ≡ suc (length p + length (behind ps))
length-behind p ps = ap suc (length-append p (behind ps))

within : (qs rest : List (List ℕ)) → length (behind rest) ≤ length (behind (qs ++ rest))
within [] rest = omega arith
within (q ∷ qs) rest = omega (arith, within qs rest, length-behind q (qs ++ rest))

-- of two ways to cut a list of parts, the one that cuts later leaves the shorter text
shorter : (front other rest others : List (List ℕ)) → front ++ rest ≡ other ++ others → length front < length other → length (behind others) < length (behind rest)
shorter [] [] rest others e l = absurd (omega (arith, l))
shorter [] (q ∷ qs) rest others e l = rw e (omega (arith, within qs others, length-behind q (qs ++ others)))
shorter (p ∷ ps) [] rest others e l = absurd (omega (arith, l))
shorter (p ∷ ps) (q ∷ qs) rest others e l = let tails : ps ++ rest ≡ qs ++ others = cc in shorter ps qs rest others tails (omega (arith, l))

no_longer : (front other rest others : List (List ℕ)) → front ++ rest ≡ other ++ others → length front ≤ length other → length (behind others) ≤ length (behind rest)
no_longer [] qs rest others e l = rw e (within qs others)
no_longer (p ∷ ps) [] rest others e l = absurd (omega (arith, l))
no_longer (p ∷ ps) (q ∷ qs) rest others e l = let tails : ps ++ rest ≡ qs ++ others = cc in no_longer ps qs rest others tails (omega (arith, l))

module _ (mounts : List Mount) (ps : List (List ℕ)) (n : ℕ) (mount : Mount) (at : slice_get mounts n ≡ Some mount) where
  -- what is said of the n-th mount is said of each that stands there
  there : (P : Mount → Type 0) → P mount → (other : Mount) → slice_get mounts n ≡ Some other → P other
  there P p other is = let same : mount ≡ other = cc in subst P same p

  deeper : (found : Mount) (text rest : List ℕ) → Leaves (parts_of found) ps text → Leaves (parts_of mount) ps rest → length text < length rest → depth mount < depth found
  deeper found text rest a b l =
      let cut : parts_of found ++ a.rest ≡ parts_of mount ++ b.rest = sym a.whole ∙ b.whole in
      let most : depth found ≤ depth mount → length rest ≤ length text = λ d. rw (a.written, b.written) (no_longer (parts_of found) (parts_of mount) a.rest b.rest cut d) in
      grind (arith, most, l)

  as_deep : (found : Mount) (text rest : List ℕ) → Leaves (parts_of found) ps text → Leaves (parts_of mount) ps rest → length rest ≤ length text → depth found ≤ depth mount
  as_deep found text rest a b l =
      let cut : parts_of mount ++ b.rest ≡ parts_of found ++ a.rest = sym b.whole ∙ a.whole in
      let less : depth mount < depth found → length text < length rest = λ d. rw (a.written, b.written) (shorter (parts_of mount) (parts_of found) b.rest a.rest cut d) in
      grind (arith, less, l)

  -- a further mount that does not begin the path
  pub step_none : (found : Option (Mount × List ℕ)) → (Begins (parts_of mount) ps → ⊥) → IsBest mounts ps n found → IsBest mounts ps (n + 1) found
  step_none None none (Missing missing) = Missing (below_more (λ k. (other : Mount) → slice_get mounts k ≡ Some other → Begins (parts_of other) ps → ⊥) n missing (there (λ m. Begins (parts_of m) ps → ⊥) none))
  step_none (Some s) none (Found place at leaves most last) = Found place at leaves
      (below_more (λ k. (other : Mount) → slice_get mounts k ≡ Some other → Begins (parts_of other) ps → depth other ≤ depth s.0) n most (there (λ m. Begins (parts_of m) ps → depth m ≤ depth s.0) (λ b. absurd (none b))))
      (below_more (λ k. (other : Mount) → slice_get mounts k ≡ Some other → Begins (parts_of other) ps → depth other ≡ depth s.0 → k ≤ place) n last (there (λ m. Begins (parts_of m) ps → depth m ≡ depth s.0 → n ≤ place) (λ b. absurd (none b))))

  -- one with fewer parts than what was found
  pub step_keep : (found : Mount) (text rest : List ℕ) → Leaves (parts_of mount) ps rest → length text < length rest → IsBest mounts ps n (Some (found, text)) → IsBest mounts ps (n + 1) (Some (found, text))
  step_keep found text rest b l (Found place at leaves most last) =
      let less : depth mount < depth found = deeper found text rest leaves b l in
      Found place at leaves
      (below_more (λ k. (other : Mount) → slice_get mounts k ≡ Some other → Begins (parts_of other) ps → depth other ≤ depth found) n most (there (λ m. Begins (parts_of m) ps → depth m ≤ depth found) (λ _. omega (arith, less))))
      (below_more (λ k. (other : Mount) → slice_get mounts k ≡ Some other → Begins (parts_of other) ps → depth other ≡ depth found → k ≤ place) n last (there (λ m. Begins (parts_of m) ps → depth m ≡ depth found → n ≤ place) (λ _ same. absurd (omega (arith, less, same)))))

  -- the first that begins the path
  pub step_first : (rest : List ℕ) → Leaves (parts_of mount) ps rest → IsBest mounts ps n None → IsBest mounts ps (n + 1) (Some (mount, rest))
  step_first rest b (Missing missing) = Found n at b
      (below_more (λ k. (other : Mount) → slice_get mounts k ≡ Some other → Begins (parts_of other) ps → depth other ≤ depth mount) n (λ k l other is begins. absurd (missing k l other is begins)) (there (λ m. Begins (parts_of m) ps → depth m ≤ depth mount) (λ _. omega arith)))
      (λ k l other is begins same. omega (arith, l))

  -- one with no fewer parts than what was found
  pub step_take : (found : Mount) (text rest : List ℕ) → Leaves (parts_of mount) ps rest → length rest ≤ length text → IsBest mounts ps n (Some (found, text)) → IsBest mounts ps (n + 1) (Some (mount, rest))
  step_take found text rest b l (Found place placed leaves most last) =
      let more : depth found ≤ depth mount = as_deep found text rest leaves b l in
      Found n at b
      (below_more (λ k. (other : Mount) → slice_get mounts k ≡ Some other → Begins (parts_of other) ps → depth other ≤ depth mount) n (λ k below other is begins. omega (arith, most k below other is begins, more)) (there (λ m. Begins (parts_of m) ps → depth m ≤ depth mount) (λ _. omega arith)))
      (λ k below other is begins same. omega (arith, below))

module _ (mounts : List Mount) (ps : List (List ℕ)) where
  pub none_yet : IsBest mounts ps 0 None
  none_yet = Missing (λ k l other is begins. absurd (omega (arith, l)))

  -- the best of all mounts
  pub whole_none : (n : ℕ) → length mounts ≤ n → IsBest mounts ps n None → NoneServes mounts ps
  whole_none n all (Missing missing) = λ k other is begins. missing k (omega (arith, all, slice_get_within mounts k other is)) other is begins

  pub whole_some : (n : ℕ) (mount : Mount) (text : List ℕ) → length mounts ≤ n → IsBest mounts ps n (Some (mount, text)) → IsServing mounts ps mount text
  whole_some n mount text all (Found place at leaves most last) = record {
    rest = leaves.rest;
    serves = record {
      place = place;
      listed = at;
      begins = leaves.whole;
      most = λ k other is begins. most k (omega (arith, all, slice_get_within mounts k other is)) other is begins;
      last = λ k other is begins same. last k (omega (arith, all, slice_get_within mounts k other is)) other is begins same;
    };
    written = leaves.written;
  }
