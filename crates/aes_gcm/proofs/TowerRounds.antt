-- The rounds of the cipher on states in the tower basis.
use Rattle.std.proofs.Common.{◌≡◌, ℕ, zero, suc, ◌+◌, ◌*◌, ◌/◌, ◌%◌, ◌<◌, refl, ap, ap₂, ◌∙◌, sym, arith, bit_xor, List, [], ◌∷◌, map, length, get_or}
use Rattle.std.proofs.lemmas.List.FromFn.{get_or-map-range_with_len}
use Rattle.std.proofs.lemmas.List.{get_or-map, length-map}
use Rattle.std.proofs.lemmas.Simd.{map-map}
use Rattle.std.specs.List.{range_with_len}
use lib.Lanes.{zip2}
use Rattle.aes_gcm.specs.Field.{times, sub_byte}
use Rattle.aes_gcm.specs.Cipher.{below, mix_columns, mixed, shift_rows, sub_bytes, xor_bytes}
use Rattle.aes_gcm.specs.Tower.{absorbed, standard, sub_linear}
use Rattle.aes_gcm.specs.KeptKey.{shifted_and_mixed}
use Rattle.aes_gcm.proofs.Lanes.{map_same}
use Rattle.aes_gcm.proofs.TowerSums.{last_byte, mixed_byte, standard-xor, xor_cancel}

pub cancelled : (c : ℕ) (xs : List ℕ) → map (bit_xor c) (map (bit_xor c) xs) ≡ xs
cancelled c [] = refl
cancelled c (x ∷ xs) = ap₂ ◌∷◌ (xor_cancel c x) (cancelled c xs)

pub standard-xor_bytes : (xs ys : List ℕ) → map standard (xor_bytes xs ys) ≡ xor_bytes (map standard xs) (map standard ys)
standard-xor_bytes [] ys = refl
standard-xor_bytes (x ∷ xs) [] = refl
standard-xor_bytes (x ∷ xs) (y ∷ ys) = ap₂ ◌∷◌ (standard-xor x y) (standard-xor_bytes xs ys)

shifted-map : (f : ℕ → ℕ) (xs : List ℕ) (j : ℕ) → length xs ≡ 16 → j < 16 → get_or (shift_rows (map f xs)) j 0 ≡ f (get_or (shift_rows xs) j 0)
shifted-map f xs j e h =
    let m : ℕ = (j + 4 * (j % 4)) % 16 in
    get_or-map-range_with_len (λ k. get_or (map f xs) ((k + 4 * (k % 4)) % 16) 0) 0 16 j j 0 h (omega arith)
    ∙ get_or-map f xs m 0 0 (omega arith)
    ∙ ap f (sym (get_or-map-range_with_len (λ k. get_or xs ((k + 4 * (k % 4)) % 16) 0) 0 16 j j 0 h (omega arith)))

below-map : (f : ℕ → ℕ) (xs : List ℕ) (k i : ℕ) → length xs ≡ 16 → k < 16 → below (shift_rows (map f xs)) k i ≡ f (below (shift_rows xs) k i)
below-map f xs k i e h = shifted-map f xs (k / 4 * 4 + (k + i) % 4) e (omega arith)

-- what stands for a function of a state's bytes, after the rows are shifted
below-standard : (f : ℕ → ℕ) (xs s : List ℕ) (k i : ℕ) → length xs ≡ 16 → length s ≡ 16 → k < 16 → map standard xs ≡ map f s
    → standard (below (shift_rows xs) k i) ≡ f (below (shift_rows s) k i)
below-standard f xs s k i long e h is =
    sym (below-map standard xs k i long h) ∙ ap (λ l. below (shift_rows l) k i) is ∙ below-map f s k i e h

places : (f g : ℕ → ℕ) (F G : ℕ → ℕ) (a n : ℕ) (ks : List ℕ) → ((i k : ℕ) → i < a + n → f (bit_xor (F i) k) ≡ bit_xor (G i) (g k))
    → map f (zip2 bit_xor (map F (range_with_len a n)) ks) ≡ zip2 bit_xor (map G (range_with_len a n)) (map g ks)
places f g F G a zero ks h = refl
places f g F G a (suc n) [] h = refl
places f g F G a (suc n) (k ∷ ks) h = ap₂ ◌∷◌ (h a k (omega arith)) (places f g F G (a + 1) n ks (λ i k l. h i k (omega arith)))

pub round_is : (xs once twice all key : List ℕ) → length xs ≡ 16 → length once ≡ 16 → length twice ≡ 16
    → map standard once ≡ map sub_linear (map standard xs) → map standard twice ≡ map (times 2) (map sub_linear (map standard xs))
    → all ≡ shifted_and_mixed once twice
    → map standard (xor_bytes all key) ≡ xor_bytes (mix_columns (shift_rows (sub_bytes (map standard xs)))) (map absorbed key)
unfolding shifted_and_mixed
round_is xs once twice all key e eo et o t is =
    let s : List ℕ = map standard xs in
    let long : length s ≡ 16 = omega (arith, length-map {A = ℕ} {B = ℕ}) in
    let twofold : map standard twice ≡ map (λ b. times 2 (sub_linear b)) s = t ∙ map-map (times 2) sub_linear s in
    ap (λ a. map standard (xor_bytes a key)) is
    ∙ places standard absorbed _ (mixed (shift_rows (sub_bytes s))) 0 16 key
    (λ i k h.
    mixed_byte (below (shift_rows s) i 0) (below (shift_rows s) i 1) (below (shift_rows s) i 2) (below (shift_rows s) i 3)
    (below (shift_rows twice) i 0) (below (shift_rows once) i 1) (below (shift_rows twice) i 1) (below (shift_rows once) i 2) (below (shift_rows once) i 3) k
    (below-standard (λ b. times 2 (sub_linear b)) twice s i 0 et long h twofold) (below-standard sub_linear once s i 1 eo long h o)
    (below-standard (λ b. times 2 (sub_linear b)) twice s i 1 et long h twofold)
    (below-standard sub_linear once s i 2 eo long h o) (below-standard sub_linear once s i 3 eo long h o)
    ∙ ap (λ m. bit_xor m (absorbed k)) (sym (ap₂ bit_xor (ap₂ bit_xor (ap (times 2) (below-map sub_byte s i 0 long h)) (ap (times 3) (below-map sub_byte s i 1 long h)))
    (ap₂ bit_xor (below-map sub_byte s i 2 long h) (below-map sub_byte s i 3 long h)))))

pub last_is : (s shifted key : List ℕ) → length s ≡ 16 → shifted ≡ shift_rows (map sub_linear s)
    → xor_bytes shifted key ≡ xor_bytes (shift_rows (sub_bytes s)) (map (bit_xor 99) key)
last_is s shifted key e is =
    ap (λ a. xor_bytes a key) is
    ∙ sym (map_same (xor_bytes (shift_rows (map sub_linear s)) key))
    ∙ places (λ b. b) (bit_xor 99) (λ k. get_or (map sub_linear s) ((k + 4 * (k % 4)) % 16) 0) (λ k. get_or (map sub_byte s) ((k + 4 * (k % 4)) % 16) 0) 0 16 key
    (λ i k h.
    let m : ℕ = (i + 4 * (i % 4)) % 16 in
    ap (λ b. bit_xor b k) (get_or-map sub_linear s m 0 0 (omega arith)) ∙ last_byte (get_or s m 0) k
    ∙ ap (λ b. bit_xor b (bit_xor 99 k)) (sym (get_or-map sub_byte s m 0 0 (omega arith))))
