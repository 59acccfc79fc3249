-- What std's parsing answers for a text without a sign or a leading zero.
use Rattle.std.proofs.Common.{◌≡◌, ◌≢◌, ◌↔◌, ℕ, zero, suc, ◌<◌, ◌^◌, List, [], ◌∷◌, length, get_or, Option, Some, None, Result, Ok, Err, OkIff, arith, sym, ap, subst, refl, ◌∙◌}
use Rattle.std.specs.Fmt.{decimal}
use Rattle.std.specs.Result.{result_ok}
use Rattle.std.specs.Str.{IsUtf8}
use Rattle.std.specs.Str.Parse.{ParsesUnsigned, AllDigits, digits_value}
use Rattle.std.proofs.lemmas.Fmt.{decimal-digits_value, parse-decimal, first_decimal, decimal_digit, IsAscii-decimal}
use Rattle.std.proofs.lemmas.Str.{IsUtf8-from_ascii}
use Rattle.std.proofs.lemmas.Str.Parse.{parse_plain, numerals_by_value, tells_digits}
use Rattle.pf_io.specs.Numbers.{Spells}

spelt_plain : (text : List ℕ) (number : ℕ) → text ≡ decimal number → number < 2 ^ 64 → (get_or text 0 0 ≢ 43) × (get_or text 0 0 ≡ 48 → length text ≡ 1)
spelt_plain text zero is small = let one : text ≡ 48 ∷ [] = is ∙ decimal_digit 0 (omega arith) in subst (λ t. (get_or t 0 0 ≢ 43) × (get_or t 0 0 ≡ 48 → length t ≡ 1)) (sym one) (λ e. omega (arith, e), λ _. refl)
spelt_plain text (suc n) is small = let first : 48 < get_or (decimal (suc n)) 0 0 = first_decimal (suc n) (omega arith) small in let same : get_or text 0 0 ≡ get_or (decimal (suc n)) 0 0 = ap (λ t. get_or t 0 0) is in (λ e. omega (arith, e, same, first), λ e. absurd (omega (arith, e, same, first)))

pub none_some : {A : Type 0} (x : A) → ◌≡◌ {A = Option A} None (Some x) → ⊥
none_some x e = cc

-- what spells a number has no sign and no leading zero
pub plain_from_number : (text : List ℕ) (number : ℕ) → Spells text number → (get_or text 0 0 ≢ 43) × (get_or text 0 0 ≡ 48 → length text ≡ 1)
plain_from_number text number spells = spelt_plain text number spells.digits spells.fits

-- and is a text
pub utf8_from_number : (text : List ℕ) (number : ℕ) → Spells text number → IsUtf8 text
utf8_from_number text number spells = subst IsUtf8 (sym spells.digits) (IsUtf8-from_ascii (decimal number) (IsAscii-decimal number spells.fits))

digits_parsed : {E : Type 0} (text : List ℕ) (r : Result ℕ E) (number : ℕ) → (get_or text 0 0 ≢ 43) × (get_or text 0 0 ≡ 48 → length text ≡ 1) → OkIff r (AllDigits 10 text × (0 < length text) × (digits_value 10 text < 2 ^ 64)) (digits_value 10 text) → result_ok r ≡ Some number → Spells text number
digits_parsed text (Ok n) number plain parses is =
    let value : n ≡ digits_value 10 text = parses.1 in
    let same : digits_value 10 text ≡ number = cc in
    record { digits = sym (decimal-digits_value (numerals_by_value (AllDigits 10) tells_digits) text parses.0.0 parses.0.1 plain.1 parses.0.2) ∙ ap decimal same; fits = rw (sym same) parses.0.2 }
digits_parsed text (Err e) number plain parses is = absurd (cc)

-- a text without a sign and a leading zero is parsed to the number that it spells
pub parses_number : {E : Type 0} (text parsed : List ℕ) (r : Result ℕ E) (o : Option ℕ) → (get_or text 0 0 ≢ 43) × (get_or text 0 0 ≡ 48 → length text ≡ 1) → parsed ≡ text → ParsesUnsigned 64 10 parsed r → o ≡ result_ok r → (number : ℕ) → (o ≡ Some number) ↔ Spells text number
parses_number text parsed r o plain same_text all is number =
    let parses = subst (λ t. ParsesUnsigned 64 10 t r) same_text all in (
      λ some. digits_parsed text r number plain (parse_plain (numerals_by_value (AllDigits 10) tells_digits) 64 text r parses plain.0) (sym is ∙ some),
      λ spells. is ∙ ap result_ok (parse-decimal 64 number text r spells.fits spells.fits spells.digits parses),
    )
