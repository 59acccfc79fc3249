-- The key schedule, word by word.
use Rattle.std.proofs.Common.{◌≡◌, ℕ, zero, suc, ◌+◌, ◌-◌, ◌/◌, ◌%◌, ◌<◌, List, [], ◌∷◌, ◌++◌, get_or, length, take, set, refl, ap, ◌∙◌, sym, arith, bit_xor, length-append}
use Rattle.std.specs.Int.Bits.{xor_zero_r}
use Rattle.std.proofs.lemmas.List.{get_or-take, get_or_append_left, take_more_set}
use Rattle.aes_gcm.specs.Field.{power, sub_byte}
use Rattle.aes_gcm.specs.Cipher.{round_key, schedule, schedule_core, with_next_word, xor_bytes}
use Rattle.aes_gcm.proofs.Lists.{written_out}

pub core_at_round : (i : ℕ) (word : List ℕ) (a b c d k : ℕ) → length word ≡ 4 → i % 4 ≡ 0
    → a ≡ sub_byte (get_or word 1 0) → b ≡ sub_byte (get_or word 2 0) → c ≡ sub_byte (get_or word 3 0) → d ≡ sub_byte (get_or word 0 0) → k ≡ power 2 (i / 4 - 1)
    → bit_xor a k ∷ b ∷ c ∷ d ∷ [] ≡ schedule_core i word
core_at_round i word a b c d k n h ea eb ec ed ek =
    rw (ea, eb, ec, ed, ek) (rw h (rw (written_out word 4 n) (simp xor_zero_r)))

length-schedule : (n : ℕ) (key : List ℕ) → length (schedule n key) ≡ n + 4
unfolding schedule
length-schedule zero key = refl
length-schedule (suc n) key = omega (arith, length-append {A = List ℕ}, length-schedule n key)

with_next_word-is : (words : List (List ℕ)) (i : ℕ) (word : List ℕ) → length words ≡ i → word ≡ xor_bytes (get_or words (i - 4) []) (schedule_core i (get_or words (i - 1) []))
    → words ++ word ∷ [] ≡ with_next_word words
with_next_word-is words i word h e = rw h (ap (λ w. words ++ w ∷ []) e)

-- a table of words grows by one
pub take-schedule : (words : List (List ℕ)) (key : List ℕ) (m i : ℕ) (core word : List ℕ) → i < length words → i ≡ m + 4 → take i words ≡ schedule m key
    → core ≡ schedule_core i (get_or words (i - 1) []) → word ≡ xor_bytes (get_or words (i - 4) []) core
    → take (i + 1) (set words i word) ≡ schedule (suc m) key
unfolding schedule
take-schedule words key m i core word lt at e c w =
    let long : length (schedule m key) ≡ i = omega (arith, length-schedule m key) in
    let fourth : get_or words (i - 4) [] ≡ get_or (schedule m key) (i - 4) [] = sym (get_or-take i words (i - 4) [] (omega arith)) ∙ ap (λ s. get_or s (i - 4) []) e in
    let last : get_or words (i - 1) [] ≡ get_or (schedule m key) (i - 1) [] = sym (get_or-take i words (i - 1) [] (omega arith)) ∙ ap (λ s. get_or s (i - 1) []) e in
    let is : word ≡ xor_bytes (get_or (schedule m key) (i - 4) []) (schedule_core i (get_or (schedule m key) (i - 1) [])) =
    w ∙ ap (λ k. xor_bytes k core) fourth ∙ ap (xor_bytes (get_or (schedule m key) (i - 4) [])) (c ∙ ap (schedule_core i) last) in
    take_more_set words i word lt ∙ ap (λ s. s ++ word ∷ []) e ∙ with_next_word-is (schedule m key) i word long is

first_words : (n : ℕ) (key : List ℕ) (i : ℕ) → i < 4 → get_or (schedule n key) i [] ≡ get_or (schedule 0 key) i []
unfolding schedule
first_words zero key i h = refl
first_words (suc n) key i h = get_or_append_left (schedule n key) _ [] i (omega (arith, length-schedule n key)) ∙ first_words n key i h

four_parts : (key : List ℕ) → length key ≡ 16 → get_or (schedule 0 key) 0 [] ++ get_or (schedule 0 key) 1 [] ++ get_or (schedule 0 key) 2 [] ++ get_or (schedule 0 key) 3 [] ≡ key
unfolding schedule
four_parts key h = rw (written_out key 16 h) refl

-- the key is its own round key 0
pub round_key-zero : (key : List ℕ) → length key ≡ 16 → round_key key 0 ≡ key
unfolding round_key
round_key-zero key h =
    rw (first_words 40 key 0 (omega arith), first_words 40 key 1 (omega arith), first_words 40 key 2 (omega arith), first_words 40 key 3 (omega arith)) (four_parts key h)
