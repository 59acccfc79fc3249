-- Entries, and an index of them by name.
use Rattle.std.proofs.Common.{◌≡◌, ◌∙◌, ℕ, suc, ◌<◌, Bool, true, false, cond, List, [], ◌∷◌, ◌++◌, length, get_or, set, Option, Some, None, option_map, bytes_eq, refl, sym, ap, arith}
use Rattle.std.specs.Option.{option_or}
use Rattle.std.proofs.lemmas.Bool.Decides.{same_from_decides, Decides-like}
use Rattle.std.proofs.lemmas.Slice.Eq.{bytes_eq-Decides}
use Rattle.manifest_model.specs.declared.entries.Trusted.{Trusted}
use Rattle.manifest_model.specs.Indexing.{clash, joined, added, place_of, entry_sum}

pub data Told (b : Bool) (P : Type 0) : Type 0 where
  Yes : b ≡ true → P → Told b P
  No : b ≡ false → (P → ⊥) → Told b P

told : {P : Type 0} (b : Bool) → (b ≡ true → P) × (P → b ≡ true) → Told b P
told true d = Yes refl (d.0 refl)
told false d = No refl (λ p. cc (d.1 p))

-- whether two names are one
pub same_name : (a b : List ℕ) → Told (bytes_eq a b) (a ≡ b)
same_name a b = told (bytes_eq a b) (bytes_eq-Decides a b)

pub bytes_eq_comm : (a b : List ℕ) → bytes_eq a b ≡ bytes_eq b a
bytes_eq_comm a b = same_from_decides (bytes_eq a b) (bytes_eq b a) (bytes_eq-Decides a b) (Decides-like (bytes_eq b a) sym sym (bytes_eq-Decides b a))

suc_of_some : (o : Option ℕ) (at : ℕ) → option_map suc o ≡ Some at → (k : ℕ) × (o ≡ Some k) × (at ≡ suc k)
suc_of_some None at e = cc
suc_of_some (Some k) at e = (k, refl, cc)

suc_of_none : (o : Option ℕ) → option_map suc o ≡ None → o ≡ None
suc_of_none None e = refl
suc_of_none (Some k) e = cc

pub within : (name : List ℕ) (es : List Trusted) (at : ℕ) → place_of name es ≡ Some at → at < length es
within name [] at e = cc
within name (x ∷ es) at e =
    elim (same_name name x.name) [
      | Yes b s ↦ let z : Some 0 ≡ Some at = rw b at e in let k : 0 ≡ at = cc in omega (arith, k)
      | No b s ↦ let m : option_map suc (place_of name es) ≡ Some at = rw b at e in let (k, found, next) = suc_of_some (place_of name es) at m in omega (arith, within name es k found, next)
    ]

pub sum_at : (name : List ℕ) (es : List Trusted) (at : ℕ) (d : Trusted) → place_of name es ≡ Some at → (get_or es at d).sum ≡ entry_sum name es
sum_at name [] at d e = cc
sum_at name (x ∷ es) at d e =
    elim (same_name name x.name) [
      | Yes b s ↦ let z : Some 0 ≡ Some at = rw b at e in let k : 0 ≡ at = cc in rw (← k, b) refl
      | No b s ↦ let m : option_map suc (place_of name es) ≡ Some at = rw b at e in let (k, found, next) = suc_of_some (place_of name es) at m in rw (next, b) (sum_at name es k d found)
    ]

pub set_at : (t : Trusted) (es : List Trusted) (at : ℕ) (d : Trusted) → place_of t.name es ≡ Some at → set es at (joined (get_or es at d) t) ≡ added es t
set_at t [] at d e = cc
set_at t (x ∷ es) at d e =
    elim (same_name t.name x.name) [
      | Yes b s ↦ let z : Some 0 ≡ Some at = rw b at e in let k : 0 ≡ at = cc in rw (← k, b) refl
      | No b s ↦ let m : option_map suc (place_of t.name es) ≡ Some at = rw b at e in let (k, found, next) = suc_of_some (place_of t.name es) at m in rw (next, b) (ap (λ ts. x ∷ ts) (set_at t es k d found))
    ]

pub places_stay : (t : Trusted) (es : List Trusted) (at : ℕ) → place_of t.name es ≡ Some at → (q : List ℕ) → place_of q (added es t) ≡ place_of q es
places_stay t [] at e q = cc
places_stay t (x ∷ es) at e q =
    elim (same_name t.name x.name) [
      | Yes b s ↦ rw b refl
      | No b s ↦ let m : option_map suc (place_of t.name es) ≡ Some at = rw b at e in let (k, found, next) = suc_of_some (place_of t.name es) at m in rw b (rw (places_stay t es k found q) refl)
    ]

pub no_entry : (t : Trusted) (es : List Trusted) → place_of t.name es ≡ None → (entry_sum t.name es ≡ None) × (added es t ≡ es ++ t ∷ [])
no_entry t [] e = (refl, refl)
no_entry t (x ∷ es) e =
    elim (same_name t.name x.name) [
      | Yes b s ↦ let z : Some 0 ≡ None = rw b at e in cc
      | No b s ↦ let m : option_map suc (place_of t.name es) ≡ None = rw b at e in let rest = no_entry t es (suc_of_none _ m) in (rw b rest.0, rw b (ap (λ ts. x ∷ ts) rest.1))
    ]

pub place_last : (t : Trusted) (es : List Trusted) → place_of t.name es ≡ None → (q : List ℕ) → place_of q (es ++ t ∷ []) ≡ cond (bytes_eq t.name q) (Some (length es)) (place_of q es)
place_last t [] e q = rw (bytes_eq_comm t.name q) refl
place_last t (x ∷ es) e q =
    elim (same_name t.name x.name) [
      | Yes b s ↦ let z : Some 0 ≡ None = rw b at e in cc
      | No b s ↦
          let m : option_map suc (place_of t.name es) ≡ None = rw b at e in
          let rest = place_last t es (suc_of_none _ m) q in
          elim (same_name t.name q) [
            | Yes c same ↦ let other : bytes_eq q x.name ≡ false = rw (← same) b in rw (c, other, rest, c) refl
            | No c differ ↦ rw (c, rest, c) refl
          ]
    ]

-- an item joined to the entry of its name, in place
pub in_place : (t : Trusted) (es : List Trusted) (at : ℕ) (i m : Trusted) (sum : Option (List ℕ)) → place_of t.name es ≡ Some at → i ≡ get_or es at i → m ≡ get_or es at m → clash i.sum t ≡ None → sum ≡ option_or i.sum t.sum
    → (clash (entry_sum t.name es) t ≡ None) × (set es at (record m { sum = sum }) ≡ added es t) × ((q : List ℕ) → place_of q (set es at (record m { sum = sum })) ≡ place_of q es)
in_place t es at i m sum found is_i is_m none joins =
    let of_i : i.sum ≡ entry_sum t.name es = ap (λ e. e.sum) is_i ∙ sum_at t.name es at i found in
    let of_m : m.sum ≡ entry_sum t.name es = ap (λ e. e.sum) is_m ∙ sum_at t.name es at m found in
    let sums : sum ≡ option_or m.sum t.sum = joins ∙ ap (λ s. option_or s t.sum) (of_i ∙ sym of_m) in
    let entry : record m { sum = sum } ≡ joined m t = ap (λ s. record m { sum = s }) sums in
    let whole : set es at (record m { sum = sum }) ≡ added es t = ap (set es at) (entry ∙ ap (λ e. joined e t) is_m) ∙ set_at t es at m found in (
      sym (ap (λ s. clash s t) of_i) ∙ none,
      whole,
      λ q. ap (place_of q) whole ∙ places_stay t es at found q,
    )
