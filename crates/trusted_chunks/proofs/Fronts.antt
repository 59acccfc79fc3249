-- The chunks that a read touches stay in front, and so are kept.
use Rattle.std.proofs.Common.{◌≡◌, ℕ, zero, suc, ◌+◌, ◌-◌, ◌≤◌, Bool, true, false, cond, List, [], ◌∷◌, length, take, Contains, Option, Some, None, refl, sym, ap, ◌∙◌, subst, arith, inl, inr, nat_eq}
use Rattle.std.specs.Prelude.{is_some, is_none, IsSome, filter}
use Rattle.std.specs.Option.{option_map_or}
use Rattle.std.specs.Map.{lookup_entry, remove_entry}
use Rattle.std.proofs.lemmas.Bool.{true≢false, eq-eqb}
use Rattle.std.proofs.lemmas.List.{take-take, length-take, length-map}
use Rattle.lru.specs.LruCache.{lru_cache, promoted, put_entries}
use Rattle.lru.proofs.Pairs.{promoted_absent}
use Rattle.lru.proofs.Splits.{Contains-head, Contains-tail, Contains-cons, Contains-nil}
use Rattle.lru.proofs.CallerLemmas.{Contains-lookup_entry}
use Rattle.trusted_chunks.specs.State.{Kept, MOST_KEPT}
use Rattle.trusted_chunks.specs.Kept.{kept_at, missing_of, used, kept_with, numbers_of}
use Rattle.trusted_chunks.proofs.Promoting.{has, has_promoted}

abbrev entry_of : ℕ → Kept → Option (ℕ × List ℕ)
entry_of c kept = lookup_entry (nat_eq c) kept

-- one more entry in front
has_cons : (d : ℕ) (e : ℕ × List ℕ) (kept : Kept) → has d kept ≡ true → has d (e ∷ kept) ≡ true
has_cons d e kept is = elim (nat_eq d e.0) as (λ b. is_some (cond b (Some e.1) (kept_at kept d)) ≡ true) [ true ↦ refl | false ↦ is ]

-- a longer front
has_longer : (d k j : ℕ) (kept : Kept) → k ≤ j → has d (take k kept) ≡ true → has d (take j kept) ≡ true
has_longer d zero j kept le is = absurd (cc)
has_longer d (suc k) zero kept le is = absurd (omega (arith, le))
has_longer d (suc k) (suc j) [] le is = is
has_longer d (suc k) (suc j) (e ∷ kept) le is = (elim (nat_eq d e.0) as (λ b. nat_eq d e.0 ≡ b → has d (take (suc j) (e ∷ kept)) ≡ true) [
  | true ↦ λ t. rw t refl
  | false ↦ λ t. rw t (has_longer d k j kept (omega (arith, le)) (rw t at is))
]) refl

has_all : (d k : ℕ) (kept : Kept) → has d (take k kept) ≡ true → has d kept ≡ true
has_all d zero kept is = absurd (cc)
has_all d (suc k) [] is = is
has_all d (suc k) (e ∷ kept) is = (elim (nat_eq d e.0) as (λ b. nat_eq d e.0 ≡ b → has d (e ∷ kept) ≡ true) [
  | true ↦ λ t. rw t refl
  | false ↦ λ t. rw t (has_all d k kept (rw t at is))
]) refl

-- what is in a front without one entry, with that entry before it
has_moved : (c d k : ℕ) (kept : Kept) (e : ℕ × List ℕ) (bytes : List ℕ) → entry_of c kept ≡ Some e → has d (take k kept) ≡ true → is_some (cond (nat_eq d e.0) (Some bytes) (kept_at (take k (remove_entry (nat_eq c) kept)) d)) ≡ true
has_moved c d zero kept e bytes is there = absurd (cc)
has_moved c d (suc k) [] e bytes is there = absurd (cc)
has_moved c d (suc k) (f ∷ kept) e bytes is there = (elim (nat_eq c f.0) as (λ b. nat_eq c f.0 ≡ b → is_some (cond (nat_eq d e.0) (Some bytes) (kept_at (take (suc k) (remove_entry (nat_eq c) (f ∷ kept))) d)) ≡ true) [
  | true ↦ λ t. let is' = rw t at is in let same : f ≡ e = cc in rw t (first same (nat_eq d e.0) refl)
  | false ↦ λ t. rw t (later (λ found there. has_moved c d k kept e bytes found there) (nat_eq d f.0) refl (rw t at is))
]) refl
  where
    first : f ≡ e → (b : Bool) → nat_eq d e.0 ≡ b → is_some (cond b (Some bytes) (kept_at (take (suc k) kept) d)) ≡ true
    first same true t = refl
    first same false t =
        let other : nat_eq d f.0 ≡ false = ap (λ g. nat_eq d g.0) same ∙ t in
        has_longer d k (suc k) kept (omega arith) (rw other at there)

    later : (entry_of c kept ≡ Some e → has d (take k kept) ≡ true → is_some (cond (nat_eq d e.0) (Some bytes) (kept_at (take k (remove_entry (nat_eq c) kept)) d)) ≡ true)
        → (b : Bool) → nat_eq d f.0 ≡ b → entry_of c kept ≡ Some e → is_some (cond (nat_eq d e.0) (Some bytes) (cond (nat_eq d f.0) (Some f.1) (kept_at (take k (remove_entry (nat_eq c) kept)) d))) ≡ true
    later on true t found = rw t (elim (nat_eq d e.0) as (λ b. is_some (cond b (Some bytes) (Some f.1)) ≡ true) [ true ↦ refl | false ↦ refl ])
    later on false t found = rw t (on found (rw t at there))

-- coming to the front pushes the others back by one at most
front_promoted : (c d k : ℕ) (kept : Kept) (o : Option (ℕ × List ℕ)) → entry_of c kept ≡ o → has d (take k kept) ≡ true → has d (take (suc k) (option_map_or (λ e. e ∷ remove_entry (nat_eq c) kept) o kept)) ≡ true
front_promoted c d k kept (Some e) is there = has_moved c d k kept e e.1 is there
front_promoted c d k kept None is there = has_longer d k (suc k) kept (omega arith) there

-- putting does too, of less than four
front_put : (c d k : ℕ) (bytes : List ℕ) (kept : Kept) (o : Option (ℕ × List ℕ)) → entry_of c kept ≡ o → suc k ≤ MOST_KEPT → has d (take k kept) ≡ true
    → has d (take (suc k) (option_map_or (λ e. (e.0, bytes) ∷ remove_entry (nat_eq c) kept) o ((c, bytes) ∷ take (MOST_KEPT - 1) kept))) ≡ true
front_put c d k bytes kept (Some e) is fits there = has_moved c d k kept e bytes is there
front_put c d k bytes kept None is fits there =
    let same : take k (take (MOST_KEPT - 1) kept) ≡ take k kept = take-take k (MOST_KEPT - 1) kept (omega (arith, fits)) in
    has_cons d (c, bytes) (take k (take (MOST_KEPT - 1) kept)) (ap (λ (l : Kept). has d l) same ∙ there)

at_front : (c : ℕ) (bytes : List ℕ) (rest : Kept) (e : ℕ) → nat_eq c e ≡ true → has c (take 1 ((e, bytes) ∷ rest)) ≡ true
at_front c bytes rest e t = rw t refl

first_promoted : (c : ℕ) (kept : Kept) (o : Option (ℕ × List ℕ)) → entry_of c kept ≡ o → has c kept ≡ true → has c (take 1 (option_map_or (λ e. e ∷ remove_entry (nat_eq c) kept) o kept)) ≡ true
first_promoted c kept (Some e) is there = at_front c e.1 (remove_entry (nat_eq c) kept) e.0 (Contains-lookup_entry (nat_eq c) kept e is).1
first_promoted c kept None is there = absurd (none kept is there)
  where
    none : (l : Kept) → entry_of c l ≡ None → has c l ≡ true → ⊥
    none [] i t = cc
    none (f ∷ l) i t = (elim (nat_eq c f.0) as (λ b. nat_eq c f.0 ≡ b → ⊥) [
      | true ↦ λ e. let j = rw e at i in absurd (cc)
      | false ↦ λ e. none l (rw e at i) (rw e at t)
    ]) refl

first_put : (c : ℕ) (bytes : List ℕ) (kept : Kept) (o : Option (ℕ × List ℕ)) → entry_of c kept ≡ o → has c (take 1 (option_map_or (λ e. (e.0, bytes) ∷ remove_entry (nat_eq c) kept) o ((c, bytes) ∷ take (MOST_KEPT - 1) kept))) ≡ true
first_put c bytes kept (Some e) is = at_front c bytes (remove_entry (nat_eq c) kept) e.0 (Contains-lookup_entry (nat_eq c) kept e is).1
first_put c bytes kept None is = at_front c bytes (take (MOST_KEPT - 1) kept) c (eq-eqb c c refl)

-- those of some numbers that are kept
abbrev present_of : Kept → List ℕ → List ℕ
present_of kept numbers = filter (λ c. has c kept) numbers

same_present : (c : ℕ) (kept : Kept) (numbers : List ℕ) → present_of (promoted (nat_eq c) kept) numbers ≡ present_of kept numbers
same_present c kept [] = refl
same_present c kept (d ∷ numbers) = rw (has_promoted c d kept) (ap (λ (l : List ℕ). cond (has d kept) (d ∷ l) l) (same_present c kept numbers))

-- a number that stands in a front stays in a front that is as much longer as numbers came to it
used_front : (numbers : List ℕ) (d k : ℕ) (kept : Kept) → has d (take k kept) ≡ true → has d (take (k + length (present_of kept numbers)) (used numbers kept)) ≡ true
used_front [] d k kept there = has_longer d k (k + 0) kept (omega arith) there
used_front (c ∷ numbers) d k kept there = (elim (has c kept) as (λ b. has c kept ≡ b → has d (take (k + length (present_of kept (c ∷ numbers))) (used (c ∷ numbers) kept)) ≡ true) [
  | true ↦ λ t.
      let on = used_front numbers d (suc k) (promoted (nat_eq c) kept) (front_promoted c d k kept (entry_of c kept) refl there) in
      let long : length (present_of (promoted (nat_eq c) kept) numbers) ≡ length (present_of kept numbers) = ap (λ (l : List ℕ). length l) (same_present c kept numbers) in
      rw t (has_longer d (suc k + length (present_of (promoted (nat_eq c) kept) numbers)) (k + suc (length (present_of kept numbers))) (used numbers (promoted (nat_eq c) kept)) (omega (arith, long)) on)
  | false ↦ λ t.
      let same : promoted (nat_eq c) kept ≡ kept = (promoted_absent nat_eq (lru_cache kept MOST_KEPT) c t).1 in
      rw t (subst (λ (l : Kept). has d (take (k + length (present_of kept numbers)) (used numbers l)) ≡ true) (sym same) (used_front numbers d k kept there))
]) refl

-- each of the numbers that is kept stands in the front of as many
used_in : (numbers : List ℕ) (d : ℕ) (kept : Kept) → Contains numbers d → has d kept ≡ true → has d (take (length (present_of kept numbers)) (used numbers kept)) ≡ true
used_in [] d kept is there = absurd (Contains-nil d is)
used_in (c ∷ numbers) d kept is there = elim (Contains-cons c numbers d is) [
  | inl same ↦
      let t : has c kept ≡ true = ap (λ (e : ℕ). has e kept) same ∙ there in
      let on = used_front numbers c 1 (promoted (nat_eq c) kept) (first_promoted c kept (entry_of c kept) refl t) in
      let long : length (present_of (promoted (nat_eq c) kept) numbers) ≡ length (present_of kept numbers) = ap (λ (l : List ℕ). length l) (same_present c kept numbers) in
      subst (λ (e : ℕ). has e (take (length (present_of kept (c ∷ numbers))) (used (c ∷ numbers) kept)) ≡ true) same
      (rw t (has_longer c (1 + length (present_of (promoted (nat_eq c) kept) numbers)) (suc (length (present_of kept numbers))) (used numbers (promoted (nat_eq c) kept)) (omega (arith, long)) on))
  | inr more ↦ later (has c kept) refl (used_in numbers d (promoted (nat_eq c) kept) more (has_promoted c d kept ∙ there))
]
  where
    later : (b : Bool) → has c kept ≡ b → has d (take (length (present_of (promoted (nat_eq c) kept) numbers)) (used numbers (promoted (nat_eq c) kept))) ≡ true → has d (take (length (present_of kept (c ∷ numbers))) (used (c ∷ numbers) kept)) ≡ true
    later true t on =
        let long : length (present_of (promoted (nat_eq c) kept) numbers) ≡ length (present_of kept numbers) = ap (λ (l : List ℕ). length l) (same_present c kept numbers) in
        rw t (has_longer d (length (present_of (promoted (nat_eq c) kept) numbers)) (suc (length (present_of kept numbers))) (used numbers (promoted (nat_eq c) kept)) (omega (arith, long)) on)
    later false t on =
        let long : length (present_of (promoted (nat_eq c) kept) numbers) ≡ length (present_of kept numbers) = ap (λ (l : List ℕ). length l) (same_present c kept numbers) in
        rw t (subst (λ (n : ℕ). has d (take n (used numbers (promoted (nat_eq c) kept))) ≡ true) long on)

-- likewise for chunks that are put
with_front : (chunks : List (ℕ × List ℕ)) (d k : ℕ) (kept : Kept) → k + length chunks ≤ MOST_KEPT → has d (take k kept) ≡ true → has d (take (k + length chunks) (kept_with chunks kept)) ≡ true
with_front [] d k kept fits there = has_longer d k (k + 0) kept (omega arith) there
with_front ((c, bytes) ∷ chunks) d k kept fits there =
    let next = put_entries nat_eq (lru_cache kept MOST_KEPT) c bytes in
    let on = with_front chunks d (suc k) next (omega (arith, fits)) (front_put c d k bytes kept (entry_of c kept) refl (omega (arith, fits)) there) in
    has_longer d (suc k + length chunks) (k + suc (length chunks)) (kept_with chunks next) (omega arith) on

with_in : (chunks : List (ℕ × List ℕ)) (d k : ℕ) (kept : Kept) → k + length chunks ≤ MOST_KEPT → Contains (numbers_of chunks) d → has d (kept_with chunks kept) ≡ true
with_in [] d k kept fits is = absurd (Contains-nil d is)
with_in ((c, bytes) ∷ chunks) d k kept fits is =
    let next = put_entries nat_eq (lru_cache kept MOST_KEPT) c bytes in
    elim (Contains-cons c (numbers_of chunks) d is) [
      | inl same ↦ subst (λ (e : ℕ). has e (kept_with chunks next) ≡ true) same
          (has_all c (1 + length chunks) (kept_with chunks next) (with_front chunks c 1 next (omega (arith, fits)) (first_put c bytes kept (entry_of c kept) refl)))
      | inr more ↦ with_in chunks d k next (omega (arith, fits)) more
    ]

-- each number is kept or missing
split_numbers : (numbers : List ℕ) (kept : Kept) → length (present_of kept numbers) + length (missing_of kept numbers) ≡ length numbers
split_numbers [] kept = refl
split_numbers (c ∷ numbers) kept = by_case (split_numbers numbers kept) (kept_at kept c) refl
  where
    by_case : length (present_of kept numbers) + length (missing_of kept numbers) ≡ length numbers → (o : Option (List ℕ)) → kept_at kept c ≡ o → length (present_of kept (c ∷ numbers)) + length (missing_of kept (c ∷ numbers)) ≡ length (c ∷ numbers)
    by_case on (Some x) t = rw t (omega (arith, on))
    by_case on None t = rw t (omega (arith, on))

missing_has : (numbers : List ℕ) (d : ℕ) (kept : Kept) → Contains numbers d → has d kept ≡ false → Contains (missing_of kept numbers) d
missing_has [] d kept is no_one = absurd (Contains-nil d is)
missing_has (c ∷ numbers) d kept is no_one = elim (Contains-cons c numbers d is) [
  | inl same ↦ here same (kept_at kept c) refl
  | inr more ↦ there (is_none (kept_at kept c)) (missing_has numbers d kept more no_one)
]
  where
    here : c ≡ d → (o : Option (List ℕ)) → kept_at kept c ≡ o → Contains (missing_of kept (c ∷ numbers)) d
    here same (Some x) t = let yes_one : has d kept ≡ true = ap (λ (e : ℕ). has e kept) (sym same) ∙ ap (λ (o : Option (List ℕ)). is_some o) t in absurd (true≢false (sym yes_one ∙ no_one))
    here same None t = rw t (subst (Contains (c ∷ missing_of kept numbers)) same (Contains-head c (missing_of kept numbers)))

    there : (b : Bool) → Contains (missing_of kept numbers) d → Contains (cond b (c ∷ missing_of kept numbers) (missing_of kept numbers)) d
    there true has_it = Contains-tail c (missing_of kept numbers) d has_it
    there false has_it = has_it

-- At most three numbers are all kept, once the missing ones have come.
pub all_kept : (numbers : List ℕ) (old : Kept) (came : List (ℕ × List ℕ)) → length numbers ≤ 3 → missing_of old numbers ≡ numbers_of came → (d : ℕ) → Contains numbers d → IsSome (kept_at (kept_with came (used numbers old)) d)
all_kept numbers old came few came_is d is =
    let long : length (missing_of old numbers) ≡ length came = ap (λ (l : List ℕ). length l) came_is ∙ length-map came (λ chunk. chunk.0) in
    let fits : length (present_of old numbers) + length came ≤ MOST_KEPT = omega (arith, few, long, split_numbers numbers old) in
    (elim (has d old) as (λ b. has d old ≡ b → has d (kept_with came (used numbers old)) ≡ true) [
      | true ↦ λ t. has_all d (length (present_of old numbers) + length came) (kept_with came (used numbers old)) (with_front came d (length (present_of old numbers)) (used numbers old) fits (used_in numbers d old is t))
      | false ↦ λ t. with_in came d (length (present_of old numbers)) (used numbers old) fits (subst (λ (l : List ℕ). Contains l d) came_is (missing_has numbers d old is t))
    ]) refl

-- how many are kept
length_removed : (c : ℕ) (kept : Kept) (e : ℕ × List ℕ) → entry_of c kept ≡ Some e → suc (length (remove_entry (nat_eq c) kept)) ≡ length kept
length_removed c [] e is = absurd (cc)
length_removed c (f ∷ kept) e is = (elim (nat_eq c f.0) as (λ b. nat_eq c f.0 ≡ b → suc (length (remove_entry (nat_eq c) (f ∷ kept))) ≡ length (f ∷ kept)) [
  | true ↦ λ t. rw t refl
  | false ↦ λ t. let on = length_removed c kept e (rw t at is) in rw t (omega (arith, on))
]) refl

few_promoted : (c : ℕ) (kept : Kept) (o : Option (ℕ × List ℕ)) → entry_of c kept ≡ o → length (option_map_or (λ e. e ∷ remove_entry (nat_eq c) kept) o kept) ≡ length kept
few_promoted c kept (Some e) is = length_removed c kept e is
few_promoted c kept None is = refl

few_used : (numbers : List ℕ) (kept : Kept) → length (used numbers kept) ≡ length kept
few_used [] kept = refl
few_used (c ∷ numbers) kept = few_used numbers (promoted (nat_eq c) kept) ∙ few_promoted c kept (entry_of c kept) refl

few_put : (c : ℕ) (bytes : List ℕ) (kept : Kept) (o : Option (ℕ × List ℕ)) → entry_of c kept ≡ o → length kept ≤ MOST_KEPT → length (option_map_or (λ e. (e.0, bytes) ∷ remove_entry (nat_eq c) kept) o ((c, bytes) ∷ take (MOST_KEPT - 1) kept)) ≤ MOST_KEPT
few_put c bytes kept (Some e) is few = let same = length_removed c kept e is in omega (arith, same, few)
few_put c bytes kept None is few = omega (arith, length-take (MOST_KEPT - 1) kept)

few_with : (chunks : List (ℕ × List ℕ)) (kept : Kept) → length kept ≤ MOST_KEPT → length (kept_with chunks kept) ≤ MOST_KEPT
few_with [] kept few = few
few_with ((c, bytes) ∷ chunks) kept few = few_with chunks (put_entries nat_eq (lru_cache kept MOST_KEPT) c bytes) (few_put c bytes kept (entry_of c kept) refl few)

pub few_kept : (numbers : List ℕ) (old : Kept) (came : List (ℕ × List ℕ)) → length old ≤ MOST_KEPT → length (kept_with came (used numbers old)) ≤ MOST_KEPT
few_kept numbers old came few = few_with came (used numbers old) (let same = few_used numbers old in omega (arith, same, few))
