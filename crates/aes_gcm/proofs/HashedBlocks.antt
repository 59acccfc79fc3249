-- The blocks of texts that are joined and padded.
use Rattle.std.proofs.Common.{◌≡◌, ℕ, zero, suc, ◌+◌, ◌-◌, ◌*◌, ◌/◌, ◌%◌, ◌^◌, ◌<◌, ◌≤◌, ap, ap₂, ◌∙◌, sym, arith, List, [], ◌∷◌, ◌++◌, map, length, take, drop, length-append, length-drop}
use Rattle.std.specs.Prelude.{replicate}
use Rattle.std.specs.Int.{to_be_bytes, w64, w128, from_be_bytes}
use Rattle.std.specs.Simd.{first_chunks}
use Rattle.std.proofs.lemmas.List.{take-append-le, drop-append-le, drop-drop, drop_all, take_all, map-append, length-replicate}
use Rattle.std.proofs.lemmas.Nat.{from_be_bytes-to_be_bytes_8}
use Rattle.aes_gcm.specs.Gcm.{blocks_of, padded}

-- q whole blocks, and then n of what is left
chunks-append : (q n m : ℕ) (a b : List ℕ) → q + n ≡ m → 16 * q ≤ length a → first_chunks 16 m (a ++ b) ≡ first_chunks 16 q a ++ first_chunks 16 n (drop (16 * q) a ++ b)
chunks-append zero n m a b e h = let same : m ≡ n = omega arith in ap (λ i. first_chunks 16 i (a ++ b)) same
chunks-append (suc q) n zero a b e h = absurd (omega arith)
chunks-append (suc q) n (suc m) a b e h =
    let long : 16 ≤ length a = omega arith in
    let left : 16 * q ≤ length (drop 16 a) = omega (arith, length-drop 16 a) in
    let place : 16 + 16 * q ≡ 16 * suc q = omega arith in
    ap₂ ◌∷◌ (take-append-le 16 a b long)
    (ap (first_chunks 16 m) (drop-append-le 16 a b long) ∙ chunks-append q n m (drop 16 a) b (omega arith) left
    ∙ ap (λ d. first_chunks 16 q (drop 16 a) ++ first_chunks 16 n (d ++ b)) (drop-drop (16 * q) 16 a ∙ ap (λ i. drop i a) place))

pub blocks-append : (a b : List ℕ) → length a % 16 ≡ 0 → blocks_of (a ++ b) ≡ blocks_of a ++ blocks_of b
blocks-append a b h =
    let q : ℕ = length a / 16 in
    let n : ℕ = length b / 16 in
    let m : ℕ = length (a ++ b) / 16 in
    let e : q + n ≡ m = omega (arith, length-append a b) in
    ap (map (from_be_bytes w128)) (chunks-append q n m a b e (omega arith) ∙ ap (λ d. first_chunks 16 q a ++ first_chunks 16 n (d ++ b)) (drop_all (16 * q) a (omega arith)))
    ∙ map-append (from_be_bytes w128) (first_chunks 16 q a) (first_chunks 16 n b)

pub padded_whole : (text : List ℕ) → length (padded text) % 16 ≡ 0
padded_whole text =
    let k : ℕ = (16 - length text % 16) % 16 in
    omega (arith, length-append text (replicate k 0), length-replicate {A = ℕ} k 0)

pub blocks_padded_rest : (text rest block : List ℕ) → rest ≡ drop (length text / 16 * 16) text → 0 < length rest → block ≡ rest ++ replicate (16 - length rest) 0
    → blocks_of (padded text) ≡ blocks_of text ++ (from_be_bytes w128 block ∷ [])
blocks_padded_rest text rest block er some eb =
    let k : ℕ = (16 - length text % 16) % 16 in
    let q : ℕ = length text / 16 in
    let m : ℕ = length (padded text) / 16 in
    let lr : length rest ≡ length text - q * 16 = ap length er ∙ length-drop (q * 16) text in
    let pad : k ≡ 16 - length rest = omega arith in
    let e : q + 1 ≡ m = omega (arith, length-append text (replicate k 0), length-replicate {A = ℕ} k 0) in
    let place : 16 * q ≡ q * 16 = omega arith in
    let last : drop (16 * q) text ++ replicate k 0 ≡ block = ap₂ (λ d k. d ++ replicate k 0) (ap (λ i. drop i text) place ∙ sym er) pad ∙ sym eb in
    let short : length block ≤ 16 = omega (arith, ap length eb, length-append rest (replicate (16 - length rest) 0), length-replicate {A = ℕ} (16 - length rest) 0) in
    ap (map (from_be_bytes w128)) (chunks-append q 1 m text (replicate k 0) e (omega arith) ∙ ap (λ b. first_chunks 16 q text ++ (take 16 b ∷ [])) last
    ∙ ap (λ b. first_chunks 16 q text ++ (b ∷ [])) (take_all 16 block short))
    ∙ map-append (from_be_bytes w128) (first_chunks 16 q text) (block ∷ [])

pub number_cat : (a b : ℕ) → a < 2 ^ 64 → b < 2 ^ 64 → from_be_bytes w128 (to_be_bytes w64 a ++ to_be_bytes w64 b) ≡ a * 2 ^ 64 + b
number_cat a b ha hb = omega (arith, from_be_bytes-to_be_bytes_8 a ha, from_be_bytes-to_be_bytes_8 b hb)
