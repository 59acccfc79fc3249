-- The key stream, added byte by byte.
use Rattle.std.proofs.Common.{◌≡◌, ℕ, ◌+◌, ◌-◌, ◌*◌, ◌/◌, ◌%◌, ◌<◌, ◌≤◌, ◌≢◌, List, length, get_or, map, set, length-set, refl, ap, ap₂, ◌∙◌, sym, subst, inl, inr, arith, bit_xor, below_more, get_or-set_other, get_or-set_same}
use Rattle.std.proofs.lemmas.Bool.{cases_lt}
use lib.Lanes.{zip2, chunk, put_chunk}
use Rattle.std.proofs.lemmas.Grind.{same_number_lists}
use Rattle.std.proofs.lemmas.List.FromFn.{get_or-map-range_with_len, length-map-range_with_len}
use Rattle.std.proofs.lemmas.Simd.{get_or-zip2, length-zip2, length-chunk, get_or-chunk, length-put_chunk, get_or-put_chunk_below, get_or-put_chunk_at, get_or-put_chunk_above}
use Rattle.std.specs.List.{range_with_len}
use Rattle.aes_gcm.specs.Cipher.{cipher}
use Rattle.aes_gcm.specs.Gcm.{counter_block, crypted, key_stream, key_stream_byte}

-- the first n bytes of a text have the key stream added, and the others not yet
pub record Added (key old text : List ℕ) (n : ℕ) : Type 0 where
  pub same_length : length text ≡ length old
  pub added : (k : ℕ) → k < n → get_or text k 0 ≡ bit_xor (get_or old k 0) (key_stream_byte key k)
  pub not_yet : (k : ℕ) → n ≤ k → get_or text k 0 ≡ get_or old k 0

pub none_added : (key text : List ℕ) → Added key text text 0
none_added key text = record { same_length = refl; added = λ k h. absurd (omega arith); not_yet = λ k h. refl }

-- a whole block more
pub block_added : (key old text pad new : List ℕ) (n i m : ℕ) → Added key old text n → n ≡ 16 * i → n + 16 ≡ m → m ≤ length old → length pad ≡ 16
    → pad ≡ cipher key (counter_block (2 + i)) → new ≡ put_chunk n text (zip2 bit_xor (chunk n 16 text) pad) → Added key old new m
block_added key old text pad new n i m before place next room long is e =
    let sum : List ℕ = zip2 bit_xor (chunk n 16 text) pad in
    let piece : length (chunk n 16 text) ≡ 16 = length-chunk n 16 text (omega (arith, before.same_length)) in
    let wide : length sum ≡ 16 = omega (arith, length-zip2 bit_xor (chunk n 16 text) pad (omega arith)) in
    let fits : n + length sum ≤ length text = omega (arith, before.same_length) in
    let here : (j : ℕ) → j < 16 → get_or (put_chunk n text sum) (n + j) 0 ≡ bit_xor (get_or old (n + j) 0) (key_stream_byte key (n + j)) =
    λ j h.
    let block : (n + j) / 16 ≡ i = omega arith in
    let within : (n + j) % 16 ≡ j = omega arith in
    get_or-put_chunk_at n text sum j 0 (omega arith) fits
    ∙ get_or-zip2 bit_xor (chunk n 16 text) pad j 0 0 0 (omega arith) (omega arith)
    ∙ ap₂ bit_xor (get_or-chunk n 16 text j 0 h ∙ before.not_yet (n + j) (omega arith))
    (ap (λ p. get_or p j 0) is ∙ sym (ap₂ (λ b m. get_or (cipher key (counter_block (2 + b))) m 0) block within)) in
    record {
      same_length = ap length e ∙ length-put_chunk n text sum ∙ before.same_length;
      added = λ k h. elim (cases_lt k n) [
        | inl less ↦ ap (λ l. get_or l k 0) e ∙ get_or-put_chunk_below n text sum k 0 less ∙ before.added k less
        | inr more ↦
            let at : n + (k - n) ≡ k = omega arith in
            ap (λ l. get_or l k 0) e ∙ subst (λ k. get_or (put_chunk n text sum) k 0 ≡ bit_xor (get_or old k 0) (key_stream_byte key k)) at (here (k - n) (omega arith))
      ];
      not_yet = λ k h. ap (λ l. get_or l k 0) e ∙ get_or-put_chunk_above n text sum k 0 (omega arith) ∙ before.not_yet k (omega arith);
    }

-- one byte more
pub byte_added : (key old text pad : List ℕ) (j : ℕ) → Added key old text j → j < length old → pad ≡ cipher key (counter_block (2 + j / 16))
    → Added key old (set text j (bit_xor (get_or text j 0) (get_or pad (j % 16) 0))) (j + 1)
byte_added key old text pad j before lt e = record {
  same_length = length-set text j _ ∙ before.same_length;
  added = below_more _ _
      (λ k h. let ne : k ≢ j = omega arith in rw get_or-set_other (before.added k h))
      (let room : j < length text = omega (arith, before.same_length) in
      rw get_or-set_same (ap₂ bit_xor (before.not_yet j (omega arith)) (ap (λ p. get_or p (j % 16) 0) e)));
  not_yet = λ k h. let ne : k ≢ j = omega arith in rw get_or-set_other (before.not_yet k (omega arith));
}

crypted_from_bytes : (key old text : List ℕ) → length text ≡ length old
    → ((k : ℕ) → k < length text → get_or text k 0 ≡ bit_xor (get_or old k 0) (key_stream_byte key k)) → text ≡ crypted key old
unfolding key_stream
crypted_from_bytes key old text e at =
    let stream = map (key_stream_byte key) (range_with_len 0 (length old)) in
    let long : length stream ≡ length old = length-map-range_with_len (key_stream_byte key) 0 (length old) in
    let same : length text ≡ length (crypted key old) = omega (arith, length-zip2 bit_xor old stream (omega arith)) in
    same_number_lists text (crypted key old) same
    (λ k h. at k h
    ∙ ap (bit_xor (get_or old k 0)) (sym (get_or-map-range_with_len (key_stream_byte key) 0 (length old) k k 0 (omega arith) (omega arith)))
    ∙ sym (get_or-zip2 bit_xor old stream k 0 0 0 (omega arith) (omega arith)))

pub crypted_when_added : (key old text : List ℕ) (n : ℕ) → Added key old text n → length old ≤ n → text ≡ crypted key old
crypted_when_added key old text n done all = crypted_from_bytes key old text done.same_length (λ k h. done.added k (omega (arith, done.same_length)))
