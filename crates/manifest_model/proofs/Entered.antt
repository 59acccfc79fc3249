-- The entries of a list of items, one item after another.
use Rattle.std.proofs.Common.{◌≡◌, ◌∙◌, ℕ, suc, Bool, true, false, cond, List, [], ◌∷◌, ◌++◌, map, filter, take, Option, Some, None, bytes_eq, refl, sym, ap}
use Rattle.std.specs.Option.{option_or}
use Rattle.std.proofs.lemmas.List.{map-append}
use Rattle.manifest_model.specs.declared.entries.Trusted.{Trusted}
use Rattle.manifest_model.specs.Trusting.{sum_in, summed_by, is_other, firsts, entries_of, named}
use Rattle.manifest_model.specs.Indexing.{joined, added, entry_sum}
use Rattle.manifest_model.proofs.Indexed.{Yes, No, same_name, bytes_eq_comm}

pub bytes_eq_self : (a : List ℕ) → bytes_eq a a ≡ true
bytes_eq_self a = elim (same_name a a) [ Yes b s ↦ b | No b s ↦ absurd (s refl) ]

-- how many items have a name
abbrev pub count : List ℕ → List Trusted → ℕ
count name [] = 0
count name (t ∷ ts) = cond (bytes_eq name t.name) (suc (count name ts)) (count name ts)

-- whether one has it
abbrev pub has : List ℕ → List Trusted → Bool
has name [] = false
has name (t ∷ ts) = cond (bytes_eq name t.name) true (has name ts)

-- without the items of a name none has it, and of another name all stay

count-own : (t : Trusted) (us : List Trusted) → count t.name (filter (is_other t) us) ≡ 0
count-own t [] = refl
count-own t (u ∷ us) = elim (same_name t.name u.name) [ Yes b s ↦ rw b (count-own t us) | No b s ↦ rw (b, b) (count-own t us) ]

other_name : (t u : Trusted) (name : List ℕ) → t.name ≡ u.name → bytes_eq name t.name ≡ false → bytes_eq name u.name ≡ false
other_name t u name same differ = rw (← same) differ

count-others : (t : Trusted) (name : List ℕ) (us : List Trusted) → bytes_eq name t.name ≡ false → count name (filter (is_other t) us) ≡ count name us
count-others t name [] differ = refl
count-others t name (u ∷ us) differ =
    elim (same_name t.name u.name) [ Yes b s ↦ rw (b, other_name t u name s differ) (count-others t name us differ) | No b s ↦ rw (b, count-others t name us differ) refl ]

pub count-firsts : (name : List ℕ) (ts : List Trusted) → count name (firsts ts) ≡ cond (has name ts) 1 0
count-firsts name [] = refl
count-firsts name (t ∷ ts) =
    elim (same_name name t.name) [
      | Yes b s ↦ let own : count name (filter (is_other t) (firsts ts)) ≡ 0 = rw s (count-own t (firsts ts)) in rw (b, own) refl
      | No b s ↦ rw (b, count-others t name (firsts ts) b) (count-firsts name ts)
    ]

pub sum_in-none : (name : List ℕ) (ts : List Trusted) → has name ts ≡ false → sum_in name ts ≡ None
sum_in-none name [] h = refl
sum_in-none name (t ∷ ts) h =
    elim (same_name name t.name) [
      | Yes b s ↦ let e : true ≡ false = rw b at h in cc
      | No b s ↦ let rest : has name ts ≡ false = rw b at h in rw b (sum_in-none name ts rest)
    ]

option_or-None : (o : Option (List ℕ)) → option_or o None ≡ o
option_or-None None = refl
option_or-None (Some s) = refl

pub option_or-assoc : (a b c : Option (List ℕ)) → option_or (option_or a b) c ≡ option_or a (option_or b c)
option_or-assoc None b c = refl
option_or-assoc (Some s) b c = refl

-- one more item
pub sum_in-last : (name : List ℕ) (ts : List Trusted) (t : Trusted) → sum_in name (ts ++ t ∷ []) ≡ option_or (sum_in name ts) (cond (bytes_eq name t.name) t.sum None)
sum_in-last name [] t = elim (same_name name t.name) [ Yes b s ↦ rw b (option_or-None t.sum) | No b s ↦ rw b refl ]
sum_in-last name (u ∷ ts) t =
    elim (same_name name u.name) [
      | Yes b s ↦ rw (b, sum_in-last name ts t) (sym (option_or-assoc u.sum (sum_in name ts) _))
      | No b s ↦ rw b (sum_in-last name ts t)
    ]

-- an item of another name changes no entry, one of its name joins it
summed-other : (all : List Trusted) (t u : Trusted) → bytes_eq t.name u.name ≡ false → summed_by (all ++ t ∷ []) u ≡ summed_by all u
summed-other all t u differ =
    let b : bytes_eq u.name t.name ≡ false = bytes_eq_comm u.name t.name ∙ differ in
    ap (λ s. record u { sum = s }) (sum_in-last u.name all t ∙ rw b (option_or-None (sum_in u.name all)))

summed-same : (all : List Trusted) (t u : Trusted) → bytes_eq t.name u.name ≡ true → summed_by (all ++ t ∷ []) u ≡ joined (summed_by all u) t
summed-same all t u same =
    let b : bytes_eq u.name t.name ≡ true = bytes_eq_comm u.name t.name ∙ same in
    ap (λ s. record u { sum = s }) (sum_in-last u.name all t ∙ rw b refl)

summed-none : (all : List Trusted) (t : Trusted) (us : List Trusted) → count t.name us ≡ 0 → map (summed_by (all ++ t ∷ [])) us ≡ map (summed_by all) us
summed-none all t [] h = refl
summed-none all t (u ∷ us) h =
    elim (same_name t.name u.name) [
      | Yes b s ↦ let e : suc (count t.name us) ≡ 0 = rw b at h in cc
      | No b s ↦ let rest : count t.name us ≡ 0 = rw b at h in rw (summed-other all t u b, summed-none all t us rest) refl
    ]

added-none : (all : List Trusted) (t : Trusted) (us : List Trusted) → count t.name us ≡ 0 → added (map (summed_by all) us) t ≡ map (summed_by all) us ++ t ∷ []
added-none all t [] h = refl
added-none all t (u ∷ us) h =
    elim (same_name t.name u.name) [
      | Yes b s ↦ let e : suc (count t.name us) ≡ 0 = rw b at h in cc
      | No b s ↦ let rest : count t.name us ≡ 0 = rw b at h in rw b (ap (λ es. summed_by all u ∷ es) (added-none all t us rest))
    ]

added-once : (all : List Trusted) (t : Trusted) (us : List Trusted) → count t.name us ≡ 1 → added (map (summed_by all) us) t ≡ map (summed_by (all ++ t ∷ [])) us
added-once all t [] h = cc
added-once all t (u ∷ us) h =
    elim (same_name t.name u.name) [
      | Yes b s ↦ let e : suc (count t.name us) ≡ 1 = rw b at h in let rest : count t.name us ≡ 0 = cc in rw (b, summed-same all t u b, summed-none all t us rest) refl
      | No b s ↦ let rest : count t.name us ≡ 1 = rw b at h in rw (b, summed-other all t u b) (ap (λ es. summed_by all u ∷ es) (added-once all t us rest))
    ]

filter-last : (u t : Trusted) (us : List Trusted) → filter (is_other u) (us ++ t ∷ []) ≡ cond (is_other u t) (filter (is_other u) us ++ t ∷ []) (filter (is_other u) us)
filter-last u t [] = refl
filter-last u t (v ∷ us) =
    elim (same_name u.name v.name) [
      | Yes b s ↦ rw b (filter-last u t us)
      | No b s ↦ rw (b, filter-last u t us) (elim (same_name u.name t.name) [ Yes c r ↦ rw c refl | No c r ↦ rw c refl ])
    ]

pub firsts-last : (ts : List Trusted) (t : Trusted) → firsts (ts ++ t ∷ []) ≡ cond (has t.name ts) (firsts ts) (firsts ts ++ t ∷ [])
firsts-last [] t = refl
firsts-last (u ∷ ts) t =
    elim (same_name t.name u.name) [
      | Yes b s ↦
          let c : bytes_eq u.name t.name ≡ true = bytes_eq_comm u.name t.name ∙ b in
          rw b (ap (λ us. u ∷ us) (ap (filter (is_other u)) (firsts-last ts t) ∙ dropped u t (firsts ts) (has t.name ts) c))
      | No b s ↦
          let c : bytes_eq u.name t.name ≡ false = bytes_eq_comm u.name t.name ∙ b in
          rw b (ap (λ us. u ∷ us) (ap (filter (is_other u)) (firsts-last ts t)) ∙ kept u t (firsts ts) (has t.name ts) c)
    ]
  where
    dropped : (u t : Trusted) (us : List Trusted) (h : Bool) → bytes_eq u.name t.name ≡ true → filter (is_other u) (cond h us (us ++ t ∷ [])) ≡ filter (is_other u) us
    dropped u t us true c = refl
    dropped u t us false c = filter-last u t us ∙ rw c refl

    kept : (u t : Trusted) (us : List Trusted) (h : Bool) → bytes_eq u.name t.name ≡ false → u ∷ filter (is_other u) (cond h us (us ++ t ∷ [])) ≡ cond h (u ∷ filter (is_other u) us) (u ∷ (filter (is_other u) us ++ t ∷ []))
    kept u t us true c = refl
    kept u t us false c = ap (λ vs. u ∷ vs) (filter-last u t us ∙ rw c refl)

-- the entries with one more item
pub added-entries : (ts : List Trusted) (t : Trusted) → added (entries_of ts) t ≡ entries_of (ts ++ t ∷ [])
unfolding entries_of
added-entries ts t = by_has (has t.name ts) refl
  where
    by_has : (h : Bool) → has t.name ts ≡ h → added (map (summed_by ts) (firsts ts)) t ≡ map (summed_by (ts ++ t ∷ [])) (firsts (ts ++ t ∷ []))
    by_has true h =
        let once : count t.name (firsts ts) ≡ 1 = count-firsts t.name ts ∙ rw h refl in
        added-once ts t (firsts ts) once ∙ ap (map (summed_by (ts ++ t ∷ []))) (sym (firsts-last ts t ∙ rw h refl))
    by_has false h =
        let none : count t.name (firsts ts) ≡ 0 = count-firsts t.name ts ∙ rw h refl in
        let itself : summed_by (ts ++ t ∷ []) t ≡ t = ap (λ s. record t { sum = s }) (sum_in-last t.name ts t ∙ rw (sum_in-none t.name ts h, bytes_eq_self t.name) refl) in
        added-none ts t (firsts ts) none ∙ ap (λ us. us ++ t ∷ []) (sym (summed-none ts t (firsts ts) none)) ∙ ap (λ v. map (summed_by (ts ++ t ∷ [])) (firsts ts) ++ v ∷ []) (sym itself)
        ∙ sym (map-append (summed_by (ts ++ t ∷ [])) (firsts ts) (t ∷ [])) ∙ ap (map (summed_by (ts ++ t ∷ []))) (sym (firsts-last ts t ∙ rw h refl))

-- what the entries say of a name's sum is what the items say
entry_sum-others : (all : List Trusted) (t : Trusted) (name : List ℕ) (us : List Trusted) → bytes_eq name t.name ≡ false → entry_sum name (map (summed_by all) (filter (is_other t) us)) ≡ entry_sum name (map (summed_by all) us)
entry_sum-others all t name [] differ = refl
entry_sum-others all t name (u ∷ us) differ =
    elim (same_name t.name u.name) [ Yes b s ↦ rw (b, other_name t u name s differ) (entry_sum-others all t name us differ) | No b s ↦ rw (b, entry_sum-others all t name us differ) refl ]

entry_sum-firsts : (all : List Trusted) (name : List ℕ) (ts : List Trusted) → entry_sum name (map (summed_by all) (firsts ts)) ≡ cond (has name ts) (sum_in name all) None
entry_sum-firsts all name [] = refl
entry_sum-firsts all name (t ∷ ts) =
    elim (same_name name t.name) [
      | Yes b s ↦ rw b (ap (λ n. sum_in n all) (sym s))
      | No b s ↦ rw (b, entry_sum-others all t name (firsts ts) b) (entry_sum-firsts all name ts)
    ]

pub entry_sum-entries : (name : List ℕ) (ts : List Trusted) → entry_sum name (entries_of ts) ≡ sum_in name ts
unfolding entries_of
entry_sum-entries name ts = by_has (has name ts) refl
  where
    by_has : (h : Bool) → has name ts ≡ h → entry_sum name (map (summed_by ts) (firsts ts)) ≡ sum_in name ts
    by_has true h = entry_sum-firsts ts name ts ∙ rw h refl
    by_has false h = entry_sum-firsts ts name ts ∙ rw h (sym (sum_in-none name ts h))

-- the entries of a name

named-own : (t : Trusted) (us : List Trusted) → named t.name (filter (is_other t) us) ≡ []
named-own t [] = refl
named-own t (u ∷ us) = elim (same_name t.name u.name) [ Yes b s ↦ rw b (named-own t us) | No b s ↦ rw (b, b) (named-own t us) ]

named-others : (t : Trusted) (name : List ℕ) (us : List Trusted) → bytes_eq name t.name ≡ false → named name (filter (is_other t) us) ≡ named name us
named-others t name [] differ = refl
named-others t name (u ∷ us) differ =
    elim (same_name t.name u.name) [ Yes b s ↦ rw (b, other_name t u name s differ) (named-others t name us differ) | No b s ↦ rw (b, named-others t name us differ) refl ]

named-firsts : (name : List ℕ) (ts : List Trusted) → named name (firsts ts) ≡ take 1 (named name ts)
named-firsts name [] = refl
named-firsts name (t ∷ ts) =
    elim (same_name name t.name) [
      | Yes b s ↦ let own : named name (filter (is_other t) (firsts ts)) ≡ [] = rw s (named-own t (firsts ts)) in rw (b, own) refl
      | No b s ↦ rw (b, named-others t name (firsts ts) b) (named-firsts name ts)
    ]

named-summed : (all : List Trusted) (name : List ℕ) (us : List Trusted) → named name (map (summed_by all) us) ≡ map (summed_by all) (named name us)
named-summed all name [] = refl
named-summed all name (u ∷ us) = elim (same_name name u.name) [ Yes b s ↦ rw (b, named-summed all name us) refl | No b s ↦ rw (b, named-summed all name us) refl ]

pub named-entries : (ts : List Trusted) (name : List ℕ) → named name (entries_of ts) ≡ map (summed_by ts) (take 1 (named name ts))
unfolding entries_of
named-entries ts name = named-summed ts name (firsts ts) ∙ ap (map (summed_by ts)) (named-firsts name ts)
