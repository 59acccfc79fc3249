-- Blanks at the ends of a text.
use Rattle.std.proofs.Common.{◌≡◌, ◌∙◌, ℕ, zero, suc, ◌<◌, ◌≤◌, ◌+◌, ◌-◌, Bool, true, false, List, [], ◌∷◌, ◌++◌, length, get_or, take, drop, reverse, refl, sym, ap, subst, arith, inl, inr, IsCharBoundary, IsUtf8, ◌||◌, ◌==◌, slice_range}
use Rattle.std.proofs.lemmas.Bool.{or_cases, eqb-true}
use Rattle.std.proofs.lemmas.List.{drop_more, drop_at, take_more, length-append, get_or_append_left, reverse-append, reverse-reverse}
use Rattle.std.proofs.lemmas.Str.{IsCharBoundary-after_ascii}
use Rattle.template_text.specs.Parts.{is_blank, after_blanks, before_blanks}

pub blank_small : (byte : ℕ) → is_blank byte ≡ true → byte < 128
blank_small byte blank =
    elim (or_cases (byte == 32 || byte == 9 || byte == 10) (byte == 13) blank) [
      | inl first ↦ elim (or_cases (byte == 32 || byte == 9) (byte == 10) first) [
        | inl second ↦ elim (or_cases (byte == 32) (byte == 9) second) [
          | inl is ↦ omega (arith, eqb-true byte 32 is)
          | inr is ↦ omega (arith, eqb-true byte 9 is)
        ]
        | inr is ↦ omega (arith, eqb-true byte 10 is)
      ]
      | inr is ↦ omega (arith, eqb-true byte 13 is)
    ]

at_first : (byte : ℕ) (bytes : List ℕ) → is_blank byte ≡ false → after_blanks (byte ∷ bytes) ≡ byte ∷ bytes
at_first byte bytes other = rw other

past_first : (byte : ℕ) (bytes : List ℕ) → is_blank byte ≡ true → after_blanks (byte ∷ bytes) ≡ after_blanks bytes
past_first byte bytes blank = rw blank

-- a search for the first byte that is none
pub at_other : (bytes : List ℕ) (i : ℕ) → i < length bytes → is_blank (get_or bytes i 0) ≡ false → after_blanks (drop i bytes) ≡ drop i bytes
at_other bytes i l other = rw (drop_more bytes i 0 l) (at_first (get_or bytes i 0) (drop (i + 1) bytes) other)

pub past_blank : (bytes : List ℕ) (i : ℕ) → i < length bytes → is_blank (get_or bytes i 0) ≡ true → after_blanks (drop i bytes) ≡ after_blanks (drop (i + 1) bytes)
past_blank bytes i l blank = rw (drop_more bytes i 0 l) (past_first (get_or bytes i 0) (drop (i + 1) bytes) blank)

-- the blanks at the front
pub record HasBlanks (bytes : List ℕ) : Type 0 where
  pub blanks : List ℕ
  pub whole : bytes ≡ blanks ++ after_blanks bytes
  pub small : (i : ℕ) → i < length blanks → get_or blanks i 0 < 128

one_more : (byte : ℕ) (blanks : List ℕ) → byte < 128 → ((i : ℕ) → i < length blanks → get_or blanks i 0 < 128) → (i : ℕ) → i < length (byte ∷ blanks) → get_or (byte ∷ blanks) i 0 < 128
one_more byte blanks is small zero l = is
one_more byte blanks is small (suc i) l = small i (omega arith)

blanks_by : (byte : ℕ) (bytes : List ℕ) (b : Bool) → is_blank byte ≡ b → HasBlanks bytes → HasBlanks (byte ∷ bytes)
blanks_by byte bytes true blank has = record {
  blanks = byte ∷ has.blanks;
  whole = rw (past_first byte bytes blank) (ap (λ bs. byte ∷ bs) has.whole);
  small = one_more byte has.blanks (blank_small byte blank) has.small;
}
blanks_by byte bytes false other has = record { blanks = []; whole = sym (at_first byte bytes other); small = λ i l. absurd (omega arith) }

pub has_blanks : (bytes : List ℕ) → HasBlanks bytes
has_blanks [] = record { blanks = []; whole = refl; small = λ i l. absurd (omega arith) }
has_blanks (byte ∷ bytes) = blanks_by byte bytes (is_blank byte) refl (has_blanks bytes)

-- the blanks at the end, one less
pub before_blank : (bytes : List ℕ) (byte : ℕ) → is_blank byte ≡ true → before_blanks (bytes ++ byte ∷ []) ≡ before_blanks bytes
unfolding before_blanks
before_blank bytes byte blank = ap reverse (ap after_blanks (reverse-append bytes (byte ∷ [])) ∙ past_first byte (reverse bytes) blank)

pub before_other : (bytes : List ℕ) (byte : ℕ) → is_blank byte ≡ false → before_blanks (bytes ++ byte ∷ []) ≡ bytes ++ byte ∷ []
unfolding before_blanks
before_other bytes byte other =
    ap reverse (ap after_blanks (reverse-append bytes (byte ∷ [])) ∙ at_first byte (reverse bytes) other ∙ sym (reverse-append bytes (byte ∷ []))) ∙ reverse-reverse (bytes ++ byte ∷ [])

pub before_none : before_blanks [] ≡ []
unfolding before_blanks
before_none = refl

-- one step, from the end
pub before_more : (bytes : List ℕ) (end : ℕ) → 0 < end → end ≤ length bytes → is_blank (get_or bytes (end - 1) 0) ≡ true → before_blanks (take end bytes) ≡ before_blanks bytes → before_blanks (take (end - 1) bytes) ≡ before_blanks bytes
before_more bytes end some within blank so_far =
    let last : end ≡ end - 1 + 1 = omega arith in
    let split : take end bytes ≡ take (end - 1) bytes ++ get_or bytes (end - 1) 0 ∷ [] = ap (λ n. take n bytes) last ∙ take_more bytes (end - 1) 0 (omega arith) in
    sym (before_blank (take (end - 1) bytes) (get_or bytes (end - 1) 0) blank) ∙ ap before_blanks (sym split) ∙ so_far

pub before_last : (bytes : List ℕ) (end : ℕ) → 0 < end → end ≤ length bytes → is_blank (get_or bytes (end - 1) 0) ≡ false → before_blanks (take end bytes) ≡ take end bytes
before_last bytes end some within other =
    let last : end ≡ end - 1 + 1 = omega arith in
    let split : take end bytes ≡ take (end - 1) bytes ++ get_or bytes (end - 1) 0 ∷ [] = ap (λ n. take n bytes) last ∙ take_more bytes (end - 1) 0 (omega arith) in
    ap before_blanks split ∙ before_other (take (end - 1) bytes) (get_or bytes (end - 1) 0) other ∙ sym split

pub before_first : (bytes : List ℕ) (end : ℕ) → end ≤ 0 → before_blanks (take end bytes) ≡ take end bytes
before_first bytes end none = let zero_end : end ≡ 0 = omega arith in rw zero_end before_none

pub from_front : (bytes part : List ℕ) (end : ℕ) → part ≡ slice_range bytes 0 end → part ≡ take end bytes
from_front bytes part end is = let same : end - 0 ≡ end = omega arith in is ∙ ap (λ n. take n bytes) same

length_blanks : (bytes : List ℕ) → length bytes ≡ length (has_blanks bytes).blanks + length (after_blanks bytes)
length_blanks bytes = ap length (has_blanks bytes).whole ∙ length-append (has_blanks bytes).blanks (after_blanks bytes)

pub after_shorter : (bytes : List ℕ) → length (after_blanks bytes) ≤ length bytes
after_shorter bytes = omega (arith, length_blanks bytes)

pub drop_blanks : (bytes : List ℕ) → drop (length bytes - length (after_blanks bytes)) bytes ≡ after_blanks bytes
drop_blanks bytes =
    let has = has_blanks bytes in
    let count : length has.blanks ≡ length bytes - length (after_blanks bytes) = omega (arith, length_blanks bytes) in
    ap (drop (length bytes - length (after_blanks bytes))) has.whole ∙ drop_at has.blanks (after_blanks bytes) (length bytes - length (after_blanks bytes)) count

pub blanks_boundary : (bytes : List ℕ) (n : ℕ) → IsUtf8 bytes → n ≡ length bytes - length (after_blanks bytes) → 0 < n → IsCharBoundary bytes n
blanks_boundary bytes n text is some =
    let has = has_blanks bytes in
    let count : length has.blanks ≡ n = omega (arith, length_blanks bytes) in
    let within : n - 1 < length has.blanks = omega arith in
    let same : get_or bytes (n - 1) 0 ≡ get_or has.blanks (n - 1) 0 = ap (λ bs. get_or bs (n - 1) 0) has.whole ∙ get_or_append_left has.blanks (after_blanks bytes) 0 (n - 1) within in
    let at : IsCharBoundary bytes (n - 1 + 1) = IsCharBoundary-after_ascii bytes (n - 1) text (omega (arith, length_blanks bytes)) (rw same (has.small (n - 1) within)) in
    let back : n - 1 + 1 ≡ n = omega arith in
    subst (λ k. IsCharBoundary bytes k) back at
