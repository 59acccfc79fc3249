-- Chunks that come to the front, and those that are put there.
use Rattle.std.proofs.Common.{◌≡◌, ℕ, ◌+◌, ◌≤◌, Bool, true, false, cond, List, [], ◌∷◌, ◌++◌, length, Option, Some, None, refl, sym, ap, ◌∙◌, subst, arith, nat_eq}
use Rattle.std.specs.Prelude.{is_some, is_none}
use Rattle.std.specs.Option.{option_map_or}
use Rattle.std.specs.Map.{lookup_entry, remove_entry}
use Rattle.std.proofs.lemmas.List.Elements.{filter-append}
use Rattle.std.specs.List.{range_with_len}
use Rattle.lru.specs.LruCache.{LruCache, lru_cache, promoted}
use Rattle.trusted_chunks.specs.State.{Kept}
use Rattle.trusted_chunks.proofs.Lists.{range_more}
use Rattle.trusted_chunks.specs.Kept.{kept_at, missing_of, used}

-- a chunk is kept
abbrev pub has : ℕ → Kept → Bool
has d kept = is_some (kept_at kept d)

abbrev entry_of : ℕ → Kept → Option (ℕ × List ℕ)
entry_of c kept = lookup_entry (nat_eq c) kept

-- what stands in front, and the rest behind it
abbrev fronted : ℕ → List ℕ → Option (ℕ × List ℕ) → Kept → Kept
fronted c bytes (Some e) kept = (e.0, bytes) ∷ remove_entry (nat_eq c) kept
fronted c bytes None kept = kept

-- taking one entry out leaves what else there is
has_removed : (c d : ℕ) (kept : Kept) (e : ℕ × List ℕ) → entry_of c kept ≡ Some e → is_some (cond (nat_eq d e.0) (Some e.1) (kept_at (remove_entry (nat_eq c) kept) d)) ≡ has d kept
has_removed c d [] e is = absurd (cc)
has_removed c d (f ∷ kept) e is = (elim (nat_eq c f.0) as (λ b. nat_eq c f.0 ≡ b → is_some (cond (nat_eq d e.0) (Some e.1) (kept_at (remove_entry (nat_eq c) (f ∷ kept)) d)) ≡ has d (f ∷ kept)) [
  | true ↦ λ t. let is' = rw t at is in let same : f ≡ e = cc in rw t (subst (λ g. is_some (cond (nat_eq d g.0) (Some g.1) (kept_at kept d)) ≡ has d (f ∷ kept)) same refl)
  | false ↦ λ t. rw t (swapped (nat_eq d e.0) (nat_eq d f.0) (kept_at (remove_entry (nat_eq c) kept) d) (kept_at kept d) (has_removed c d kept e (rw t at is)))
]) refl
  where
    swapped : (b g : Bool) (o p : Option (List ℕ)) → is_some (cond b (Some e.1) o) ≡ is_some p → is_some (cond b (Some e.1) (cond g (Some f.1) o)) ≡ is_some (cond g (Some f.1) p)
    swapped true true o p same = refl
    swapped true false o p same = same
    swapped false true o p same = refl
    swapped false false o p same = same

has_fronted : (c d : ℕ) (kept : Kept) (o : Option (ℕ × List ℕ)) → entry_of c kept ≡ o → has d (option_map_or (λ e. e ∷ remove_entry (nat_eq c) kept) o kept) ≡ has d kept
has_fronted c d kept (Some e) is = has_removed c d kept e is
has_fronted c d kept None is = refl

-- coming to the front leaves what is kept
pub has_promoted : (c d : ℕ) (kept : Kept) → has d (promoted (nat_eq c) kept) ≡ has d kept
has_promoted c d kept = has_fronted c d kept (entry_of c kept) refl

pub has_used : (numbers : List ℕ) (d : ℕ) (kept : Kept) → has d (used numbers kept) ≡ has d kept
has_used [] d kept = refl
has_used (c ∷ numbers) d kept = has_used numbers d (promoted (nat_eq c) kept) ∙ has_promoted c d kept

-- one number more
pub used_more : (numbers : List ℕ) (c : ℕ) (kept : Kept) → used (numbers ++ c ∷ []) kept ≡ promoted (nat_eq c) (used numbers kept)
used_more [] c kept = refl
used_more (d ∷ numbers) c kept = used_more numbers c (promoted (nat_eq d) kept)

pub missing_more : (numbers : List ℕ) (c : ℕ) (kept : Kept) → missing_of kept (numbers ++ c ∷ []) ≡ missing_of kept numbers ++ cond (is_none (kept_at kept c)) (c ∷ []) []
missing_more numbers c kept = filter-append (λ d. is_none (kept_at kept d)) numbers (c ∷ [])

pub few_missing : (kept : Kept) (numbers : List ℕ) → length (missing_of kept numbers) ≤ length numbers
few_missing kept [] = omega arith
few_missing kept (c ∷ numbers) = (elim (is_none (kept_at kept c)) as (λ b. is_none (kept_at kept c) ≡ b → length (missing_of kept (c ∷ numbers)) ≤ length (c ∷ numbers)) [
  | true ↦ λ t. let on = few_missing kept numbers in rw t (omega (arith, on))
  | false ↦ λ t. let on = few_missing kept numbers in rw t (omega (arith, on))
]) refl

-- what was done for m numbers from the first on
pub record UsedTo (old : LruCache ℕ (List ℕ)) (first m : ℕ) (kept : LruCache ℕ (List ℕ)) (missing : List ℕ) : Type 0 where
  pub used_are : kept ≡ lru_cache (used (range_with_len first m) old.entries) old.cap
  pub missing_are : missing ≡ missing_of old.entries (range_with_len first m)

pub none_used : (old : LruCache ℕ (List ℕ)) (first m : ℕ) (missing : List ℕ) → m ≡ 0 → missing ≡ [] → UsedTo old first m old missing
none_used old first m missing is none = rw is (record { used_are = refl; missing_are = none })

none_if : (b : Bool) (o : Option (List ℕ)) (c : ℕ) → b ≡ is_some o → cond b [] (c ∷ []) ≡ cond (is_none o) (c ∷ []) []
none_if b (Some x) c is = ap (λ (d : Bool). cond d [] (c ∷ [])) is
none_if b None c is = ap (λ (d : Bool). cond d [] (c ∷ [])) is

pub used_one : (old kept kept' : LruCache ℕ (List ℕ)) (first m m' c : ℕ) (missing missing' : List ℕ) (there : Bool) → UsedTo old first m kept missing → m' ≡ m + 1 → first + m ≡ c → kept' ≡ lru_cache (promoted (nat_eq c) kept.entries) kept.cap
    → there ≡ has c kept.entries → missing' ≡ missing ++ cond there [] (c ∷ []) → UsedTo old first m' kept' missing'
used_one old kept kept' first m m' c missing missing' there was one is promotes there_is more =
    let numbers : range_with_len first m' ≡ range_with_len first m ++ c ∷ [] = ap (λ (k : ℕ). range_with_len first k) one ∙ range_more first m ∙ ap (λ (k : ℕ). range_with_len first m ++ k ∷ []) is in
    let at_entry : there ≡ has c old.entries = there_is ∙ ap (λ (k : LruCache ℕ (List ℕ)). has c k.entries) was.used_are ∙ has_used (range_with_len first m) c old.entries in
    record {
      used_are = promotes ∙ ap (λ (k : LruCache ℕ (List ℕ)). lru_cache (promoted (nat_eq c) k.entries) k.cap) was.used_are
          ∙ ap (λ (k : Kept). lru_cache k old.cap) (sym (used_more (range_with_len first m) c old.entries) ∙ ap (λ (l : List ℕ). used l old.entries) (sym numbers));
      missing_are = more ∙ ap (λ (l : List ℕ). l ++ cond there [] (c ∷ [])) was.missing_are ∙ ap (λ (l : List ℕ). missing_of old.entries (range_with_len first m) ++ l) (none_if there (kept_at old.entries c) c at_entry)
          ∙ sym (missing_more (range_with_len first m) c old.entries) ∙ ap (λ (l : List ℕ). missing_of old.entries l) (sym numbers);
    }
