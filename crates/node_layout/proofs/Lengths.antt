-- How long a metadata key and the tag under it are.
use Rattle.std.proofs.Common.{◌≡◌, ℕ, zero, suc, ◌+◌, ◌-◌, ◌/◌, ◌%◌, ◌*◌, ◌<◌, ◌==◌, true, false, List, [], ◌∷◌, length, get_or, map, take, drop, All, refl, sym, ◌∙◌, arith, bit_xor}
use Rattle.std.specs.Prelude.{if◌then◌else◌}
use Rattle.std.specs.Int.{to_be_bytes, w128}
use Rattle.std.proofs.lemmas.List.{length-append, length-map, length-take-le, length-drop}
use Rattle.std.proofs.lemmas.List.Elements.{All-nil, All-cons, All-get_or, All-push}
use Rattle.std.proofs.lemmas.List.FromFn.{length-map-range_with_len}
use Rattle.std.proofs.lemmas.Simd.{length-zip2}
use Rattle.aes_gcm.specs.Field.{sub_byte}
use Rattle.aes_gcm.specs.Cipher.{xor_bytes, shift_rows, rot_word, round_constant, schedule_core, schedule, round_key, cipher, sub_bytes, after_round}
use Rattle.aes_gcm.specs.Ghash.{ghash}
use Rattle.aes_gcm.specs.Gcm.{counter_block, crypted, hash_key, hashed_blocks, tag_of, seal}
use Rattle.cmac_kdf.specs.Cmac.{cmac}
use Rattle.cmac_kdf.specs.MetadataKey.{metadata_key}
use Rattle.node_layout.proofs.Rows.{length-piece}

length-xored : (n : ℕ) (a b : List ℕ) → length a ≡ n → length b ≡ n → length (xor_bytes a b) ≡ n
length-xored n a b l k = length-zip2 bit_xor a b (l ∙ sym k) ∙ l

-- a word of the key schedule has four bytes
abbrev IsWord : List ℕ → Type 0
IsWord word = length word ≡ 4

core_is_word : (i : ℕ) (word : List ℕ) → IsWord word → IsWord (schedule_core i word)
core_is_word i word h =
    let turned : length (map sub_byte (rot_word word)) ≡ 4 = omega (arith, length-map (rot_word word) sub_byte, length-append (drop 1 word) (take 1 word), length-drop 1 word, length-take-le 1 word) in
    elim (i % 4 == 0) as (λ b. IsWord (if b then xor_bytes (map sub_byte (rot_word word)) (round_constant (i / 4)) else word))
    [ true ↦ length-xored 4 _ _ turned refl | false ↦ h ]

four_words_are : (a b c d : List ℕ) → IsWord a → IsWord b → IsWord c → IsWord d → All IsWord (a ∷ b ∷ c ∷ d ∷ [])
four_words_are a b c d p q r s =
    All-cons IsWord a (b ∷ c ∷ d ∷ []) p (All-cons IsWord b (c ∷ d ∷ []) q (All-cons IsWord c (d ∷ []) r (All-cons IsWord d [] s (All-nil IsWord))))

schedule_words : (n : ℕ) (key : List ℕ) → length key ≡ 16 → (length (schedule n key) ≡ n + 4) × All IsWord (schedule n key)
unfolding schedule
schedule_words zero key h = (
  refl,
  four_words_are (take 4 key) (take 4 (drop 4 key)) (take 4 (drop 8 key)) (take 4 (drop 12 key))
      (length-take-le 4 key (omega arith)) (length-piece 4 4 key (omega arith)) (length-piece 8 4 key (omega arith)) (length-piece 12 4 key (omega arith)),
)
schedule_words (suc n) key h =
    let words = schedule n key in
    let before = schedule_words n key h in
    let long : length words ≡ n + 4 = before.0 in
    let is : (i : ℕ) → i < length words → IsWord (get_or words i []) = λ i lt. All-get_or IsWord words i [] lt before.1 in (
      omega (arith, length-append {A = List ℕ}),
      All-push IsWord words _ before.1
          (length-xored 4 _ _ (is (length words - 4) (omega arith)) (core_is_word (length words) _ (is (length words - 1) (omega arith)))),
    )

length-round_key : (key : List ℕ) → length key ≡ 16 → length (round_key key 10) ≡ 16
unfolding round_key
length-round_key key h =
    let words = schedule 40 key in
    let all = schedule_words 40 key h in
    let long : length words ≡ 44 = all.0 in
    let is : (i : ℕ) → i < 44 → IsWord (get_or words i []) = λ i lt. All-get_or IsWord words i [] (omega arith) all.1 in
    omega (arith, length-append {A = ℕ}, is 40 (omega arith), is 41 (omega arith), is 42 (omega arith), is 43 (omega arith))

length-cipher : (key block : List ℕ) → length key ≡ 16 → length (cipher key block) ≡ 16
unfolding cipher
length-cipher key block h =
    let state = sub_bytes (after_round key block 9) in
    length-xored 16 (shift_rows state) (round_key key 10) (length-map-range_with_len (λ k. get_or state ((k + 4 * (k % 4)) % 16) 0) 0 16) (length-round_key key h)

pub length-metadata_key : (user nonce : List ℕ) → length user ≡ 16 → length (metadata_key user nonce) ≡ 16
unfolding metadata_key cmac
length-metadata_key user nonce h = length-cipher user _ h

pub length-tag : (key aad text : List ℕ) → length key ≡ 16 → length (seal key aad text).1 ≡ 16
unfolding seal tag_of
length-tag key aad text h =
    let hash = ghash (hash_key key) (hashed_blocks aad (crypted key text)) in
    length-xored 16 (to_be_bytes w128 hash) (cipher key (counter_block 1)) refl (length-cipher key (counter_block 1) h)
