-- What was sealed opens.
use Rattle.std.proofs.Common.{◌≡◌, ℕ, refl, ap, ap₂, ◌∙◌, sym, arith, bit_xor, List, [], ◌∷◌, length, true, false, is_some}
use Rattle.std.specs.Prelude.{if◌then◌else◌, Some, None}
use Rattle.std.specs.Int.Bits.{xor_assoc, xor_self, xor_zero_r}
use Rattle.std.specs.Str.{bytes_eq}
use Rattle.std.proofs.lemmas.Slice.Eq.{bytes_eq-Decides}
use Rattle.std.proofs.lemmas.Simd.{length-zip2}
use Rattle.std.proofs.lemmas.List.FromFn.{length-map-range_with_len}
use Rattle.aes_gcm.specs.Cipher.{xor_bytes}
use Rattle.aes_gcm.specs.Gcm.{key_stream_byte, key_stream, crypted, tag_of, seal, opens}

xor_bytes_twice : (text pad : List ℕ) → length text ≡ length pad → xor_bytes (xor_bytes text pad) pad ≡ text
xor_bytes_twice [] pad h = refl
xor_bytes_twice (a ∷ text) [] h = absurd (omega arith)
xor_bytes_twice (a ∷ text) (b ∷ pad) h =
    ap₂ ◌∷◌ (xor_assoc a b b ∙ ap (bit_xor a) (xor_self b) ∙ xor_zero_r a) (xor_bytes_twice text pad (omega arith))

length-key_stream : (key : List ℕ) (n : ℕ) → length (key_stream key n) ≡ n
unfolding key_stream
length-key_stream key n = length-map-range_with_len (key_stream_byte key) 0 n

pub length-crypted : (key text : List ℕ) → length (crypted key text) ≡ length text
length-crypted key text = length-zip2 bit_xor text (key_stream key (length text)) (sym (length-key_stream key (length text)))

pub crypted_twice : (key text : List ℕ) → crypted key (crypted key text) ≡ text
crypted_twice key text =
    ap (λ n. xor_bytes (crypted key text) (key_stream key n)) (length-crypted key text)
    ∙ xor_bytes_twice text (key_stream key (length text)) (sym (length-key_stream key (length text)))

pub opens_where_same : (key aad text tag plain : List ℕ) → tag ≡ tag_of key aad text → plain ≡ crypted key text → opens key aad text tag ≡ Some plain
unfolding opens
opens_where_same key aad text tag plain same is =
    ap (λ t. if t then Some (crypted key text) else None) ((bytes_eq-Decides tag (tag_of key aad text)).1 same) ∙ ap Some (sym is)

pub same_where_opens : (key aad text tag : List ℕ) → is_some (opens key aad text tag) ≡ true → tag ≡ tag_of key aad text
unfolding opens
same_where_opens key aad text tag h =
    let t : List ℕ = tag_of key aad text in
    elim (bytes_eq tag t) as (λ b. bytes_eq tag t ≡ b → is_some (if b then Some (crypted key text) else None) ≡ true → tag ≡ t)
    [ true ↦ λ e k. (bytes_eq-Decides tag t).0 e | false ↦ λ e k. cc ] refl h

pub opens_sealed : (key aad text : List ℕ) → opens key aad (seal key aad text).0 (seal key aad text).1 ≡ Some text
unfolding seal
opens_sealed key aad text = opens_where_same key aad (crypted key text) (tag_of key aad (crypted key text)) text refl (sym (crypted_twice key text))

pub length-sealed : (key aad text : List ℕ) → length (seal key aad text).0 ≡ length text
unfolding seal
length-sealed key aad text = length-crypted key text
