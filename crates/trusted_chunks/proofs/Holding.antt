-- What a trusted file holds, after chunks that came.
use Rattle.std.proofs.Common.{nat_eq, ◌≡◌, ℕ, ◌<◌, true, List, [], ◌∷◌, length, Contains, Option, Some, None, refl, sym, ap, ◌∙◌, subst, arith, ◌⊎◌, inl, inr}
use Rattle.std.specs.Prelude.{IsSome, slice_index_or}
use Rattle.std.proofs.lemmas.Bool.{eqb-true}
use Rattle.std.proofs.lemmas.List.FromFn.{get_or-map-range_with_len}
use Rattle.sha2.specs.Sha256.{sha256}
use Rattle.lru.specs.LruCache.{lru_cache, promoted, put_entries}
use Rattle.lru.proofs.Splits.{Contains-head, Contains-tail, Contains-cons, Contains-nil}
use Rattle.lru.proofs.CallerLemmas.{Contains-promoted, Contains-put_entries, Contains-lookup}
use Rattle.trusted_chunks.specs.Chunks.{chunk, chunk_count}
use Rattle.trusted_chunks.specs.State.{Kept, MOST_KEPT, FileState, Holds, hash_at}
use Rattle.trusted_chunks.specs.Kept.{kept_at, used, kept_with}
use Rattle.trusted_chunks.specs.Reading.{AreRight}

from_used : (numbers : List ℕ) (kept : Kept) (e : ℕ × List ℕ) → Contains (used numbers kept) e → Contains kept e
from_used [] kept e is = is
from_used (c ∷ numbers) kept e is = Contains-promoted (nat_eq c) kept e (from_used numbers (promoted (nat_eq c) kept) e is)

from_with : (chunks : List (ℕ × List ℕ)) (kept : Kept) (e : ℕ × List ℕ) → Contains (kept_with chunks kept) e → Contains kept e ⊎ Contains chunks e
from_with [] kept e is = inl is
from_with ((c, bytes) ∷ chunks) kept e is = elim (from_with chunks (put_entries nat_eq (lru_cache kept MOST_KEPT) c bytes) e is) [
  | inl before ↦ elim (Contains-put_entries nat_eq (lru_cache kept MOST_KEPT) c bytes e before) [
    | inl there ↦ inl there
    | inr put ↦ inr (subst (Contains ((c, bytes) ∷ chunks)) (pair c bytes e put.0 (key c e.0 kept put.1)) (Contains-head (c, bytes) chunks))
  ]
  | inr came ↦ inr (Contains-tail (c, bytes) chunks e came)
]
  where
    key : (k j : ℕ) (l : Kept) → (j ≡ k) ⊎ ((w : List ℕ) × Contains l (j, w) × (nat_eq k j ≡ true)) → k ≡ j
    key k j l (inl same) = sym same
    key k j l (inr (w, there, t)) = eqb-true k j t

    pair : (k : ℕ) (v : List ℕ) (p : ℕ × List ℕ) → p.1 ≡ v → k ≡ p.0 → (k, v) ≡ p
    pair k v p value is_key = ap (λ (x : ℕ). (x, v)) is_key ∙ ap (λ (x : List ℕ). (p.0, x)) (sym value)

-- where the chunks that came are those of the bytes, the file holds the bytes as before
pub still_holds : (old new : FileState) (bytes numbers : List ℕ) (came : List (ℕ × List ℕ)) → record new { kept = old.kept } ≡ old → new.kept ≡ kept_with came (used numbers old.kept)
    → ((c : ℕ) (slice : List ℕ) → Contains came (c, slice) → slice ≡ chunk bytes c) → Holds old bytes → Holds new bytes
still_holds old new bytes numbers came rest kept_is came_are holds = record {
  size_is = ap (λ (s : FileState). s.size) rest ∙ holds.size_is;
  hashes_are = ap (λ (s : FileState). s.hashes) rest ∙ holds.hashes_are;
  kept_are = λ c kept is. elim (from_with came (used numbers old.kept) (c, kept) (subst (λ (l : Kept). Contains l (c, kept)) kept_is is)) [
    | inl before ↦ holds.kept_are c kept (from_used numbers old.kept (c, kept) before)
    | inr now ↦ came_are c kept now
  ];
}

-- the sum of a chunk is that of the bytes' chunk
pub hash_is : (file : FileState) (bytes : List ℕ) (c : ℕ) → Holds file bytes → c < chunk_count (length bytes) → hash_at file c ≡ sha256 (chunk bytes c)
hash_is file bytes c holds lt = ap (λ (l : List (List ℕ)). slice_index_or l c []) holds.hashes_are ∙ get_or-map-range_with_len (λ d. sha256 (chunk bytes d)) 0 (chunk_count (length bytes)) c c [] lt (omega arith)

-- what is kept of a number is its chunk
pub chunk_kept : (file : FileState) (bytes : List ℕ) (c : ℕ) → Holds file bytes → IsSome (kept_at file.kept c) → kept_at file.kept c ≡ Some (chunk bytes c)
chunk_kept file bytes c holds some = by_case (kept_at file.kept c) refl some
  where
    by_case : (o : Option (List ℕ)) → kept_at file.kept c ≡ o → IsSome o → o ≡ Some (chunk bytes c)
    by_case (Some v) t is =
        let there = Contains-lookup (nat_eq c) file.kept v t in
        let same : c ≡ there.0 = eqb-true c there.0 there.2 in
        ap (λ (l : List ℕ). Some l) (holds.kept_are there.0 v there.1 ∙ ap (λ (d : ℕ). chunk bytes d) (sym same))
    by_case None t is = absurd (cc)

-- one of those that came is right
pub right_at : (hash : ℕ → List ℕ) (came : List (ℕ × List ℕ)) (c : ℕ) (slice : List ℕ) → AreRight hash came → Contains came (c, slice) → sha256 slice ≡ hash c
right_at hash [] c slice right is = absurd (Contains-nil (c, slice) is)
right_at hash (first ∷ came) c slice right is = elim (Contains-cons first came (c, slice) is) [
  | inl same ↦ subst (λ (p : ℕ × List ℕ). sha256 p.1 ≡ hash p.0) same right.0
  | inr more ↦ right_at hash came c slice right.1 more
]
