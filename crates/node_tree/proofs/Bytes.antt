-- A content by its bytes.
use Rattle.std.proofs.Common.{◌≡◌, inl, inr, ℕ, ◌+◌, ◌-◌, ◌*◌, ◌/◌, ◌%◌, ◌<◌, ◌≤◌, List, length, take, drop, replicate, get_or, refl, ap, ◌∙◌, sym, arith, ltb}
use Rattle.std.specs.Prelude.{slice_get}
use Rattle.std.specs.Option.{unwrap_or}
use Rattle.std.proofs.lemmas.Bool.{cases_lt, cond-true, cond-false, lt-ltb, le-ltb}
use Rattle.std.proofs.lemmas.List.{length-take, length-take-le, length-drop, get_or-take, get_or-drop, get_or_append_left, get_or-append_right, get_or-replicate, ext_get_or}
use Rattle.std.proofs.lemmas.List.FromFn.{fill_by_all}
use Rattle.std.proofs.lemmas.Option.{unwrap_or-slice_get}
use Rattle.cmac_kdf.specs.MetadataKey.{zero_padded}
use Rattle.node_layout.specs.Places.{data_place, data_count}
use Rattle.node_tree.specs.Content.{first_text, data_text, byte_of, bytes_of}

pub same_get : (xs ys : List ℕ) (i : ℕ) → slice_get xs i ≡ slice_get ys i → get_or xs i 0 ≡ get_or ys i 0
same_get xs ys i e = sym (unwrap_or-slice_get xs i 0) ∙ ap (λ o. unwrap_or o 0) e ∙ unwrap_or-slice_get ys i 0

-- lists that agree on a piece have it alike
pub same_piece : (xs ys : List ℕ) (a n : ℕ) → a + n ≤ length xs → a + n ≤ length ys → ((i : ℕ) → a ≤ i → i < a + n → slice_get xs i ≡ slice_get ys i) → take n (drop a xs) ≡ take n (drop a ys)
same_piece xs ys a n le fits same =
    let here : length (take n (drop a xs)) ≡ n = length-take-le n (drop a xs) (omega (arith, length-drop a xs)) in
    let there : length (take n (drop a ys)) ≡ n = length-take-le n (drop a ys) (omega (arith, length-drop a ys)) in
    ext_get_or 0 (take n (drop a xs)) (take n (drop a ys)) (here ∙ sym there)
    (λ i lt. let below : i < n = omega (arith, here) in
    get_or-take n (drop a xs) i 0 below ∙ get_or-drop a xs i 0 ∙ same_get xs ys (a + i) (same (a + i) (omega arith) (omega arith)) ∙ sym (get_or-take n (drop a ys) i 0 below ∙ get_or-drop a ys i 0))

-- a byte that is not of the padding
padded_byte : (n i : ℕ) (bytes : List ℕ) → i < length bytes → get_or (zero_padded n bytes) i 0 ≡ get_or bytes i 0
padded_byte n i bytes lt = get_or_append_left bytes (replicate (n - length bytes) 0) 0 i lt

-- a byte of the padding
padding_byte : (n i : ℕ) (bytes : List ℕ) → length bytes ≤ i → i < n → get_or (zero_padded n bytes) i 0 ≡ 0
padding_byte n i bytes le lt = get_or-append_right bytes (replicate (n - length bytes) 0) (length bytes) i 0 refl le ∙ get_or-replicate (n - length bytes) (i - length bytes) 0 0 (omega arith)

pub first_padding : (content : List ℕ) (i : ℕ) → length content ≤ i → i < 3072 → get_or (first_text content) i 0 ≡ 0
first_padding content i le lt = padding_byte 3072 i (take 3072 content) (omega (arith, length-take 3072 content)) lt

pub data_padding : (content : List ℕ) (d r : ℕ) → length content ≤ 3072 + 4096 * d + r → r < 4096 → get_or (data_text content d) r 0 ≡ 0
data_padding content d r le lt =
    let slice = drop (3072 + 4096 * d) content in
    padding_byte 4096 r (take 4096 slice) (omega (arith, length-take 4096 slice, length-drop (3072 + 4096 * d) content)) lt

pub first_byte : (content : List ℕ) (i : ℕ) → i < 3072 → i < length content → get_or (first_text content) i 0 ≡ get_or content i 0
first_byte content i low lt = padded_byte 3072 i (take 3072 content) (omega (arith, length-take 3072 content)) ∙ get_or-take 3072 content i 0 low

pub data_byte : (content : List ℕ) (d r : ℕ) → r < 4096 → 3072 + 4096 * d + r < length content → get_or (data_text content d) r 0 ≡ get_or content (3072 + 4096 * d + r) 0
data_byte content d r low lt =
    let slice = drop (3072 + 4096 * d) content in
    padded_byte 4096 r (take 4096 slice) (omega (arith, length-take 4096 slice, length-drop (3072 + 4096 * d) content)) ∙ get_or-take 4096 slice r 0 low ∙ get_or-drop (3072 + 4096 * d) content r 0

module _ (content : List ℕ) (plain : ℕ → List ℕ) (slices : (d : ℕ) → d < data_count (length content) → plain (data_place d) ≡ data_text content d) where
  byte_is : (i : ℕ) → i < length content → get_or content i 0 ≡ byte_of (first_text content) plain i
  byte_is i lt =
      elim (cases_lt i 3072) [
        | inl low ↦ sym (first_byte content i low lt) ∙ sym (cond-true (ltb i 3072) _ _ (lt-ltb i 3072 low))
        | inr high ↦
            let d = (i - 3072) / 4096 in
            let r = (i - 3072) % 4096 in
            let is : 3072 + 4096 * d + r ≡ i = omega arith in
            ap (λ j. get_or content j 0) (sym is) ∙ sym (data_byte content d r (omega arith) (omega (arith, is)))
            ∙ ap (λ (t : List ℕ). get_or t r 0) (sym (slices d (omega (arith, is)))) ∙ sym (cond-false (ltb i 3072) _ _ (le-ltb i 3072 high))
      ]

  -- a content is its first bytes and its slices
  pub content_is : content ≡ bytes_of (first_text content) plain 0 (length content)
  content_is = fill_by_all (byte_of (first_text content) plain) content (length content) 0 refl byte_is
