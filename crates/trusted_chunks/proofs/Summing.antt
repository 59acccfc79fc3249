-- The sums of chunks, of bytes that are taken slice by slice.
use Rattle.std.proofs.Common.{◌≡◌, ℕ, zero, suc, ◌+◌, ◌-◌, ◌*◌, ◌<◌, ◌≤◌, List, [], ◌∷◌, ◌++◌, length, take, drop, map, refl, ap, ◌∙◌, arith, length-append, length-drop}
use Rattle.std.proofs.Math.Seq.{drop-append-add}
use Rattle.std.proofs.lemmas.List.{take_all, take-append-le, map-append}
use Rattle.std.specs.List.{range_with_len}
use Rattle.sha2.specs.Sha256.{sha256}
use Rattle.trusted_chunks.specs.Chunks.{CHUNK, chunk, chunk_count, sums_of}
use Rattle.trusted_chunks.proofs.Lists.{drop_join}

-- numbers up to one, and then from there on
range_split : (a m n : ℕ) → range_with_len a (m + n) ≡ range_with_len a m ++ range_with_len (a + m) n
range_split a zero n = ap (λ (k : ℕ). range_with_len a k) (omega arith) ∙ ap (λ (k : ℕ). range_with_len k n) (omega arith)
range_split a (suc m) n =
    let one : suc m + n ≡ suc (m + n) = omega arith in
    ap (λ (k : ℕ). range_with_len a k) one ∙ ap (λ (l : List ℕ). a ∷ l) (range_split (a + 1) m n ∙ ap (λ (k : ℕ). range_with_len (a + 1) m ++ range_with_len k n) (omega arith))

-- the same at numbers that are as far apart
map_shift : {X : Type 0} (f g : ℕ → X) (a b n : ℕ) → ((i : ℕ) → i < n → f (a + i) ≡ g (b + i)) → map f (range_with_len a n) ≡ map g (range_with_len b n)
map_shift f g a b zero same = refl
map_shift f g a b (suc n) same =
    let first : f a ≡ g b = ap f (omega arith) ∙ same 0 (omega arith) ∙ ap g (omega arith) in
    let rest = map_shift f g (a + 1) (b + 1) n (λ i lt. ap f (omega arith) ∙ same (i + 1) (omega arith) ∙ ap g (omega arith)) in
    ap (λ x. x ∷ map f (range_with_len (a + 1) n)) first ∙ ap (λ l. g b ∷ l) rest

chunk_front : (k c : ℕ) (xs ys : List ℕ) → length xs ≡ CHUNK * k → c < k → chunk (xs ++ ys) c ≡ chunk xs c
chunk_front k c xs ys long lt =
    ap (λ (l : List ℕ). take CHUNK l) (drop_join (CHUNK * c) xs ys)
    ∙ take-append-le CHUNK (drop (CHUNK * c) xs) (drop (CHUNK * c - length xs) ys) (omega (arith, long, length-drop (CHUNK * c) xs))

chunk_behind : (k j : ℕ) (xs ys : List ℕ) → length xs ≡ CHUNK * k → chunk (xs ++ ys) (k + j) ≡ chunk ys j
chunk_behind k j xs ys long =
    let at : CHUNK * (k + j) ≡ length xs + CHUNK * j = omega (arith, long) in
    ap (λ (n : ℕ). take CHUNK (drop n (xs ++ ys))) at ∙ ap (λ (l : List ℕ). take CHUNK l) (drop-append-add xs ys (CHUNK * j))

-- behind whole chunks the sums go on
pub sums_append : (k : ℕ) (xs ys : List ℕ) → length xs ≡ CHUNK * k → sums_of (xs ++ ys) ≡ sums_of xs ++ sums_of ys
sums_append k xs ys long =
    let m = chunk_count (length ys) in
    let f = λ (c : ℕ). sha256 (chunk (xs ++ ys) c) in
    let count : chunk_count (length (xs ++ ys)) ≡ k + m = omega (arith, length-append xs ys, long) in
    let front : k ≡ chunk_count (length xs) = omega (arith, long) in
    ap (λ (n : ℕ). map f (range_with_len 0 n)) count
    ∙ ap (λ (l : List ℕ). map f l) (range_split 0 k m)
    ∙ map-append f (range_with_len 0 k) (range_with_len (0 + k) m)
    ∙ ap (λ (l : List (List ℕ)). l ++ map f (range_with_len (0 + k) m)) (map_shift f (λ c. sha256 (chunk xs c)) 0 0 k (λ i lt. ap sha256 (chunk_front k (0 + i) xs ys long (omega arith))))
    ∙ ap (λ (l : List (List ℕ)). map (λ c. sha256 (chunk xs c)) (range_with_len 0 k) ++ l)
    (map_shift f (λ c. sha256 (chunk ys c)) (0 + k) 0 m (λ i lt. ap (λ (c : ℕ). f c) (omega arith) ∙ ap sha256 (chunk_behind k i xs ys long) ∙ ap (λ (c : ℕ). sha256 (chunk ys c)) (omega arith)))
    ∙ ap (λ (n : ℕ). map (λ c. sha256 (chunk xs c)) (range_with_len 0 n) ++ sums_of ys) front

-- one chunk, and none
pub sums_one : (bytes : List ℕ) → 0 < length bytes → length bytes ≤ CHUNK → sums_of bytes ≡ sha256 bytes ∷ []
sums_one bytes some short =
    let count : chunk_count (length bytes) ≡ 1 = omega (arith, some, short) in
    ap (λ (n : ℕ). map (λ c. sha256 (chunk bytes c)) (range_with_len 0 n)) count ∙ ap (λ (l : List ℕ). sha256 l ∷ []) (take_all CHUNK bytes short)
