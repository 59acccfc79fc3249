-- Slices of bytes, out of their chunks.
use Rattle.std.proofs.Common.{◌≡◌, ℕ, zero, suc, ◌+◌, ◌-◌, ◌*◌, ◌/◌, ◌%◌, ◌<◌, ◌≤◌, min, List, [], ◌∷◌, ◌++◌, length, take, drop, map, Contains, Option, Some, refl, sym, ap, ◌∙◌, arith, length-drop, length-take}
use Rattle.std.specs.List.{range_with_len, concat}
use Rattle.std.proofs.lemmas.List.{drop-drop, take-take}
use Rattle.trusted_chunks.specs.Chunks.{CHUNK, chunk, chunk_count}
use Rattle.trusted_chunks.specs.State.{Kept}
use Rattle.trusted_chunks.specs.Kept.{span, touched, kept_at, bytes_or_none, joined}
use Rattle.std.proofs.lemmas.List.FromFn.{length-range_with_len}
use Rattle.lru.proofs.Splits.{Contains-head, Contains-tail, Contains-nil}
use Rattle.trusted_chunks.proofs.Lists.{range_high}

-- a front of m and then of n more
take_both : (m n : ℕ) (bytes : List ℕ) → take m bytes ++ take n (drop m bytes) ≡ take (m + n) bytes
take_both zero n bytes = ap (λ (k : ℕ). take k bytes) (omega arith)
take_both (suc m) n [] = nothing n
  where
    nothing : (k : ℕ) → take {A = ℕ} k [] ≡ take (suc m + k) []
    nothing zero = let e : suc m + 0 ≡ suc m = omega arith in ap (λ (j : ℕ). take {A = ℕ} j []) (sym e)
    nothing (suc k) = let e : suc m + suc k ≡ suc (m + suc k) = omega arith in ap (λ (j : ℕ). take {A = ℕ} j []) (sym e)
take_both (suc m) n (b ∷ bytes) = let e : suc (m + n) ≡ suc m + n = omega arith in ap (λ (l : List ℕ). b ∷ l) (take_both m n bytes) ∙ ap (λ (k : ℕ). take k (b ∷ bytes)) e

-- dropping of a front
pub drop_front : (s n : ℕ) (bytes : List ℕ) → drop s (take n bytes) ≡ take (n - s) (drop s bytes)
drop_front zero n bytes = ap (λ (k : ℕ). take k bytes) (omega arith)
drop_front (suc s) zero bytes = let e : zero ≡ zero - suc s = omega arith in ap (λ (k : ℕ). take k (drop (suc s) bytes)) e
drop_front (suc s) (suc n) [] = nothing (suc n - suc s)
  where
    nothing : (k : ℕ) → ◌≡◌ {A = List ℕ} [] (take k [])
    nothing zero = refl
    nothing (suc k) = refl
drop_front (suc s) (suc n) (b ∷ bytes) = drop_front s n bytes ∙ ap (λ (k : ℕ). take k (drop s bytes)) (omega arith)

-- chunks that follow each other
pub concat_chunks : (bytes : List ℕ) (a m : ℕ) → concat (map (λ c. chunk bytes c) (range_with_len a m)) ≡ take (CHUNK * m) (drop (CHUNK * a) bytes)
concat_chunks bytes a zero = refl
concat_chunks bytes a (suc m) =
    let place : drop (CHUNK * (a + 1)) bytes ≡ drop CHUNK (drop (CHUNK * a) bytes) = ap (λ (k : ℕ). drop k bytes) (omega arith) ∙ sym (drop-drop CHUNK (CHUNK * a) bytes) in
    ap (λ (l : List ℕ). chunk bytes a ++ l) (concat_chunks bytes (a + 1) m ∙ ap (λ (l : List ℕ). take (CHUNK * m) l) place)
    ∙ take_both CHUNK (CHUNK * m) (drop (CHUNK * a) bytes)
    ∙ ap (λ (k : ℕ). take k (drop (CHUNK * a) bytes)) (omega arith)

-- the chunks that are kept are those of the bytes
pub joined_chunks : (kept : Kept) (bytes : List ℕ) (numbers : List ℕ) → ((c : ℕ) → Contains numbers c → kept_at kept c ≡ Some (chunk bytes c)) → joined kept numbers ≡ concat (map (λ c. chunk bytes c) numbers)
joined_chunks kept bytes [] each = refl
joined_chunks kept bytes (c ∷ numbers) each =
    ap (λ (o : Option (List ℕ)). bytes_or_none o ++ joined kept numbers) (each c (Contains-head c numbers))
    ∙ ap (λ (l : List ℕ). chunk bytes c ++ l) (joined_chunks kept bytes numbers (λ d is. each d (Contains-tail c numbers d is)))

-- n bytes that are read of the touched chunks, and the slice of all bytes
pub record SliceIs (at room n : ℕ) (buffer bytes : List ℕ) : Type 0 where
  pub count : n ≡ room
  pub same : take n buffer ≡ take n (drop at bytes)

pub slice_is : (at room n : ℕ) (buffer bytes all : List ℕ) → room ≤ length bytes - at → all ≡ take (CHUNK * span at room) (drop (CHUNK * (at / CHUNK)) bytes) → n ≡ min room (length all - at % CHUNK) → take n buffer ≡ take n (drop (at % CHUNK) all)
    → SliceIs at room n buffer bytes
slice_is at zero n buffer bytes all fits all_is count same = let none : n ≡ 0 = omega (arith, count) in rw none (record { count = refl; same = refl })
slice_is at (suc r) n buffer bytes all fits all_is count same =
    let first = at / CHUNK in
    let s = at % CHUNK in
    let m = (at + r) / CHUNK + 1 - first in
    let from = drop (CHUNK * first) bytes in
    let behind : length from ≡ length bytes - CHUNK * first = length-drop (CHUNK * first) bytes in
    let long : length all ≡ min (CHUNK * m) (length from) = ap (λ (l : List ℕ). length l) all_is ∙ length-take (CHUNK * m) from in
    let split : CHUNK * first + s ≡ at = omega arith in
    let reach : s + suc r ≤ CHUNK * m = omega arith in
    let whole : n ≡ suc r = omega (arith, count, long, behind, split, reach, fits) in
    let fewer : n ≤ CHUNK * m - s = omega (arith, whole, reach) in
    record {
      count = whole;
      same = same ∙ ap (λ (l : List ℕ). take n (drop s l)) all_is ∙ ap (λ (l : List ℕ). take n l) (drop_front s (CHUNK * m) from) ∙ take-take n (CHUNK * m - s) (drop s from) fewer
          ∙ ap (λ (l : List ℕ). take n l) (drop-drop s (CHUNK * first) bytes ∙ ap (λ (k : ℕ). drop k bytes) (omega (arith, split)));
    }

-- the touched chunks are of the bytes
pub touched_within : (at room size c : ℕ) → room ≤ size - at → Contains (touched at room) c → c < chunk_count size
touched_within at zero size c fits is = absurd (Contains-nil c is)
touched_within at (suc r) size c fits is =
    let high = range_high (at / CHUNK) ((at + r) / CHUNK + 1 - at / CHUNK) c is in
    omega (arith, high, fits)

-- and at most three
pub touched_few : (at room : ℕ) → room ≤ 32768 → length (touched at room) ≤ 3
touched_few at zero few = omega arith
touched_few at (suc r) few = let n = length-range_with_len (at / CHUNK) ((at + r) / CHUNK + 1 - at / CHUNK) in omega (arith, n, few)
