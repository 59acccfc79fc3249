-- The rounds of the cipher over the key's round keys.
use Rattle.std.proofs.Common.{◌≡◌, ℕ, suc, ◌+◌, List, length, ap, ap₂, ◌∙◌, sym, arith}
use Rattle.aes_gcm.specs.Cipher.{after_round, cipher, mix_columns, round_key, shift_rows, sub_bytes, xor_bytes}
use Rattle.aes_gcm.proofs.Schedule.{round_key-zero}

pub started : (key block out : List ℕ) → length key ≡ 16 → out ≡ xor_bytes block key → out ≡ after_round key block 0
unfolding after_round
started key block out h e = e ∙ ap (xor_bytes block) (sym (round_key-zero key h))

pub next_round : (key block state k out : List ℕ) (m : ℕ) → state ≡ after_round key block m → k ≡ round_key key (m + 1)
    → out ≡ xor_bytes (mix_columns (shift_rows (sub_bytes state))) k → out ≡ after_round key block (m + 1)
unfolding after_round
next_round key block state k out m s r e =
    let next : m + 1 ≡ suc m = omega arith in
    e ∙ ap₂ (λ s k. xor_bytes (mix_columns (shift_rows (sub_bytes s))) k) s (r ∙ ap (round_key key) next) ∙ ap (after_round key block) (sym next)

pub ended : (key block state k out : List ℕ) → state ≡ after_round key block 9 → k ≡ round_key key 10
    → out ≡ xor_bytes (shift_rows (sub_bytes state)) k → out ≡ cipher key block
unfolding cipher
ended key block state k out s r e = e ∙ ap₂ (λ s k. xor_bytes (shift_rows (sub_bytes s)) k) s r
