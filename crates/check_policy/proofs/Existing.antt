-- A path has an outcome.
use Rattle.std.proofs.Common.{◌≡◌, ◌≢◌, ◌∙◌, ◌⊎◌, inl, inr, ℕ, zero, suc, ◌+◌, ◌≤◌, nat_le, nat_lt, ◌==◌, Bool, true, false, not, ◌&&◌, cond, All, Contains, List, [], ◌∷◌, ◌++◌, length, drop, bytes_eq, Option, Some, None, option_map, Result, Ok, Err, refl, sym, ap, subst, arith}
use Rattle.std.specs.Bool.{Decides}
use Rattle.std.specs.List.{slice_get, list_all, fold}
use Rattle.std.proofs.lemmas.Bool.{false≢true}
use Rattle.std.proofs.lemmas.Bool.Decides.{Decides-and, Decides-by_and, Decides-not, Decides-eqb, Decides-like, nat_tests}
use Rattle.std.proofs.lemmas.Slice.Eq.{bytes_eq-Decides}
use Rattle.std.proofs.lemmas.List.{append_cancel_left}
use Rattle.std.proofs.lemmas.Option.{slice_get-get_or}
use Rattle.pf_io.specs.Names.{LONGEST, SLASH}
use Rattle.manifest_model.specs.declared.entries.Mount.{Mount}
use Rattle.manifest_model.specs.Names.{is_absolute, normal_parts, behind}
use Rattle.manifest_model.specs.Listed.{Lists}
use Rattle.check_policy.specs.declared.place.Place.{Place}
use Rattle.check_policy.specs.declared.place.Place.TheVariants as places
use Rattle.check_policy.specs.declared.place.ResolveFault.{ResolveFault}
use Rattle.check_policy.specs.declared.place.ResolveFault.TheVariants as faults
use Rattle.check_policy.specs.Places.{IsPath, parts_of, Begins, Serves, NoneServes, Resolves, NoPath, ByMount, Unserved}
use Rattle.check_policy.specs.Seeking.{IsBest}
use Rattle.check_policy.proofs.Parting.{root_parts}
use Rattle.check_policy.proofs.Bettering.{step_none, step_keep, step_first, step_take, none_yet, whole_none, whole_some}
use Rattle.check_policy.proofs.Giving.{gives_some}

-- whether a text is a path

abbrev path_test : List ℕ → Bool
path_test path = ((nat_le 1 (length path) && nat_le (length path) LONGEST) && list_all (λ byte. not (byte == 0)) path) && is_absolute path

leb_decides : (a b : ℕ) → Decides (nat_le a b) (a ≤ b)
leb_decides a b = (λ h. grind (arith, nat_tests, h), λ h. grind (arith, nat_tests, h))

pub path_decides : (path : List ℕ) → Decides (path_test path) (IsPath path)
path_decides path =
    let zeros : Decides (list_all (λ byte. not (byte == 0)) path) (All (λ byte. byte ≢ 0) path) = Decides-by_and (λ byte. not (byte == 0)) (λ byte. byte ≢ 0) (list_all (λ byte. not (byte == 0))) (λ byte. Decides-not (byte == 0) (Decides-eqb byte 0)) refl (λ x xs. refl) path in
    let name = Decides-and _ _ (Decides-and _ _ (leb_decides 1 (length path)) (leb_decides (length path) LONGEST)) zeros in
    let absolute : Decides (is_absolute path) (is_absolute path ≡ true) = (λ h. h, λ h. h) in
    Decides-like (path_test path) (λ p. record { name = record { not_empty = p.0.0.0; not_long = p.0.0.1; no_zero = p.0.1 }; absolute = p.1 }) (λ p. (((p.name.not_empty, p.name.not_long), p.name.no_zero), p.absolute)) (Decides-and _ _ name absolute)

-- what stands behind parts in others

abbrev rest_of : List (List ℕ) → List (List ℕ) → Option (List (List ℕ))
rest_of [] ps = Some ps
rest_of (q ∷ qs) [] = None
rest_of (q ∷ qs) (p ∷ ps) = cond (bytes_eq q p) (rest_of qs ps) None

rest_by : (q p : List ℕ) (qs ps rest : List (List ℕ)) → (rest_of qs ps ≡ Some rest → ps ≡ qs ++ rest) → (same : Bool) → bytes_eq q p ≡ same → cond same (rest_of qs ps) None ≡ Some rest → p ∷ ps ≡ q ∷ (qs ++ rest)
rest_by q p qs ps rest inner true same e = λ i. sym ((bytes_eq-Decides q p).0 same) i ∷ inner e i
rest_by q p qs ps rest inner false same e = absurd (cc)

rest_found : (qs ps rest : List (List ℕ)) → rest_of qs ps ≡ Some rest → ps ≡ qs ++ rest
rest_found [] ps rest e = cc
rest_found (q ∷ qs) [] rest e = absurd (cc)
rest_found (q ∷ qs) (p ∷ ps) rest e = rest_by q p qs ps rest (rest_found qs ps rest) (bytes_eq q p) refl e

rest_none : (qs ps : List (List ℕ)) → rest_of qs ps ≡ None → Begins qs ps → ⊥
rest_none [] ps e b = cc
rest_none (q ∷ qs) [] e b = let whole = b.whole in cc
rest_none (q ∷ qs) (p ∷ ps) e b =
    let whole = b.whole in
    let head : q ≡ p = cc in
    let tail : ps ≡ qs ++ b.rest = cc in
    rest_none qs ps (sym (ap (λ same. cond same (rest_of qs ps) None) ((bytes_eq-Decides q p).1 head)) ∙ e) (record { rest = b.rest; whole = tail })

-- the mount that a search from the front picks

abbrev Pick : Type 0
Pick = Option (Mount × List (List ℕ))

abbrev pick_by : Pick → Mount → Option (List (List ℕ)) → Pick
pick_by found mount None = found
pick_by None mount (Some rest) = Some (mount, rest)
pick_by (Some f) mount (Some rest) = cond (nat_lt (length (behind f.1)) (length (behind rest))) (Some f) (Some (mount, rest))

abbrev pick : List (List ℕ) → Pick → Mount → Pick
pick ps found mount = pick_by found mount (rest_of (parts_of mount) ps)

at_drop : {X : Type 0} (xs : List X) (n : ℕ) (x : X) (ys : List X) → drop n xs ≡ x ∷ ys → (slice_get xs n ≡ Some x) × (drop (n + 1) xs ≡ ys)
at_drop [] zero x ys e = absurd (cc)
at_drop [] (suc n) x ys e = absurd (cc)
at_drop (y ∷ xs) zero x ys e = let head : y ≡ x = cc in let tail : xs ≡ ys = cc in (ap Some head, tail)
at_drop (y ∷ xs) (suc n) x ys e =
    let inner = at_drop xs n x ys e in
    let same : suc (n + 1) ≡ suc n + 1 = omega arith in
    (inner.0, subst (λ k. drop k (y ∷ xs) ≡ ys) same inner.1)

abbrev texts : Pick → Option (Mount × List ℕ)
texts found = option_map (λ f. (f.0, behind f.1)) found

module _ (mounts : List Mount) (ps : List (List ℕ)) where
  pub pick_step : (n : ℕ) (mount : Mount) (found : Pick) (rest : Option (List (List ℕ))) → slice_get mounts n ≡ Some mount → rest_of (parts_of mount) ps ≡ rest → IsBest mounts ps n (texts found) → IsBest mounts ps (n + 1) (texts (pick_by found mount rest))
  pick_step n mount found None at e best = step_none mounts ps n mount at (texts found) (rest_none (parts_of mount) ps e) best
  pick_step n mount None (Some rest) at e best = step_first mounts ps n mount at (behind rest) (record { rest = rest; whole = rest_found (parts_of mount) ps rest e; written = refl }) best
  pick_step n mount (Some f) (Some rest) at e best = by (nat_lt (length (behind f.1)) (length (behind rest))) refl where
    by : (less : Bool) → nat_lt (length (behind f.1)) (length (behind rest)) ≡ less → IsBest mounts ps (n + 1) (texts (cond less (Some f) (Some (mount, rest))))
    by true l = step_keep mounts ps n mount at f.0 (behind f.1) (behind rest) (record { rest = rest; whole = rest_found (parts_of mount) ps rest e; written = refl }) (grind (arith, nat_tests, l)) best
    by false l = step_take mounts ps n mount at f.0 (behind f.1) (behind rest) (record { rest = rest; whole = rest_found (parts_of mount) ps rest e; written = refl }) (grind (arith, nat_tests, l)) best

  pub pick_all : (n : ℕ) (others : List Mount) (found : Pick) → drop n mounts ≡ others → IsBest mounts ps n (texts found) → IsBest mounts ps (n + length others) (texts (fold (pick ps) found others))
  pick_all n [] found d best = let same : n ≡ n + 0 = omega arith in subst (λ k. IsBest mounts ps k (texts found)) same best
  pick_all n (mount ∷ others) found d best =
      let at = at_drop mounts n mount others d in
      let same : n + 1 + length others ≡ n + suc (length others) = omega arith in
      subst (λ k. IsBest mounts ps k (texts (fold (pick ps) (pick ps found mount) others))) same
      (pick_all (n + 1) others (pick ps found mount) at.1 (pick_step n mount found (rest_of (parts_of mount) ps) at.0 refl best))

  abbrev picked : Pick
  picked = fold (pick ps) None mounts

  pub served_or_not : (found : Pick) → IsBest mounts ps (0 + length mounts) (texts found) → ((mount : Mount) × (rest : List (List ℕ)) × Serves mounts ps mount rest) ⊎ NoneServes mounts ps
  served_or_not None best = inr (whole_none mounts ps (0 + length mounts) (omega arith) best)
  served_or_not (Some f) best = let found = whole_some mounts ps (0 + length mounts) f.0 (behind f.1) (omega arith) best in inl (f.0, found.rest, found.serves)

  pub a_mount_or_none : ((mount : Mount) × (rest : List (List ℕ)) × Serves mounts ps mount rest) ⊎ NoneServes mounts ps
  a_mount_or_none = served_or_not picked (pick_all 0 mounts None refl (none_yet mounts ps))

module _ (lists : Lists) (path : List ℕ) where
  by_search : IsPath path → ((mount : Mount) × (rest : List (List ℕ)) × Serves lists.mounts (normal_parts path) mount rest) ⊎ NoneServes lists.mounts (normal_parts path) → (outcome : Result Place ResolveFault) × Resolves lists path outcome
  by_search is (inl s) = let given = gives_some lists.keys s.0 s.1 in (given.0, ByMount is s.0 s.1 s.2 given.1)
  by_search is (inr none) = (Ok places.Nothing, Unserved is none refl)

  by_test : (test : Bool) → path_test path ≡ test → (outcome : Result Place ResolveFault) × Resolves lists path outcome
  by_test true e = by_search ((path_decides path).0 e) (a_mount_or_none lists.mounts (normal_parts path))
  by_test false e = (Err faults.BadPath, NoPath (λ is. false≢true (sym e ∙ (path_decides path).1 is)) refl)

  -- a text has an outcome as a path
  pub resolves_there : (outcome : Result Place ResolveFault) × Resolves lists path outcome
  resolves_there = by_test (path_test path) refl

-- a mount at the root begins each path
pub root_serves : (mounts : List Mount) (root : Mount) (path : List ℕ) → Contains mounts root → root.path ≡ SLASH ∷ [] → (mount : Mount) × (rest : List (List ℕ)) × Serves mounts (normal_parts path) mount rest
root_serves mounts root path has at = by (a_mount_or_none mounts (normal_parts path)) where
  by : ((mount : Mount) × (rest : List (List ℕ)) × Serves mounts (normal_parts path) mount rest) ⊎ NoneServes mounts (normal_parts path) → (mount : Mount) × (rest : List (List ℕ)) × Serves mounts (normal_parts path) mount rest
  by (inl s) = s
  by (inr none) =
      let listed : slice_get mounts has.0 ≡ Some root = slice_get-get_or mounts has.0 root has.1 ∙ ap Some has.2 in
      let nothing : parts_of root ≡ [] = ap normal_parts at ∙ root_parts in
      absurd (none has.0 root listed (record { rest = normal_parts path; whole = ap (λ qs. qs ++ normal_parts path) (sym nothing) }))

-- what a search from the front picks is what serves
pub serves_picked : (mounts : List Mount) (ps : List (List ℕ)) (mount : Mount) (rest : List (List ℕ)) → fold (pick ps) None mounts ≡ Some (mount, rest) → ps ≡ parts_of mount ++ rest → Serves mounts ps mount rest
serves_picked mounts ps mount rest e whole =
    let best : IsBest mounts ps (0 + length mounts) (Some (mount, behind rest)) = subst (λ f. IsBest mounts ps (0 + length mounts) (texts f)) e (pick_all mounts ps 0 mounts None refl (none_yet mounts ps)) in
    let found = whole_some mounts ps (0 + length mounts) mount (behind rest) (omega arith) best in
    let same : found.rest ≡ rest = append_cancel_left (parts_of mount) found.rest rest (sym found.serves.begins ∙ whole) in
    subst (Serves mounts ps mount) same found.serves

pub is_path : (path : List ℕ) → path_test path ≡ true → IsPath path
is_path path e = (path_decides path).0 e
