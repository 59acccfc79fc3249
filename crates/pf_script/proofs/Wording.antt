-- The words of a line: where they end, and that each spells one value.
use Rattle.std.proofs.Common.{◌≡◌, ◌≢◌, ◌∙◌, ℕ, ◌+◌, ◌*◌, ◌<◌, List, [], ◌∷◌, ◌++◌, length, take, drop, get_or, sym, ap, subst, arith, Result, Ok, Err, MatchResult, refl}
use Rattle.std.proofs.lemmas.List.{take-append-drop, drop_more}
use Rattle.std.proofs.lemmas.List.Elements.{All-head, All-tail, All-nil, All-cons, All-from_get_or}
use Rattle.std.proofs.lemmas.Fmt.{decimal_injective, decimal_is_IsNumeral}
use Rattle.std.proofs.lemmas.Str.Parse.{digit_at}
use Rattle.hex.specs.declared.error.FromHexError.{FromHexError}
use Rattle.hex.specs.Hex.{decode_of, decode_sized}
use Rattle.hex.proofs.HexLemmas.{decode_of-same, decode_of-ok, decode_sized-twice}
use Rattle.pf_io.specs.Numbers.{Spells}
use Rattle.pf_script.specs.Words.{SPACE, spaced, HasNoSpace, IsSeat, IsHex, IsByte, IsRest}
use Rattle.pf_script.specs.ScriptLines.{AfterSeat, AfterNumber}

abbrev pub IsOther : ℕ → Type 0
IsOther byte = byte ≢ SPACE

-- a text with a space has one word in front of the first one
pub same_word : (first second rest others : List ℕ) → HasNoSpace first → HasNoSpace second → spaced first rest ≡ spaced second others → (first ≡ second) × (rest ≡ others)
same_word [] [] rest others none none' same = (refl, cc)
same_word [] (byte ∷ second) rest others none none' same =
    let here : SPACE ≡ byte = ap (λ (t : List ℕ). get_or t 0 0) same in
    absurd (All-head IsOther byte second none' (sym here))
same_word (byte ∷ first) [] rest others none none' same =
    let here : byte ≡ SPACE = ap (λ (t : List ℕ). get_or t 0 0) same in
    absurd (All-head IsOther byte first none here)
same_word (byte ∷ first) (other ∷ second) rest others none none' same =
    let here : byte ≡ other = ap (λ (t : List ℕ). get_or t 0 0) same in
    let behind : spaced first rest ≡ spaced second others = ap (λ (t : List ℕ). drop 1 t) same in
    let more = same_word first second rest others (All-tail IsOther byte first none) (All-tail IsOther other second none') behind in
    (cc (here, more.0), more.1)

-- a text without a space is not two
pub no_second : (text first rest : List ℕ) → HasNoSpace text → text ≡ spaced first rest → ⊥
no_second [] [] rest none is = cc
no_second [] (byte ∷ first) rest none is = cc
no_second (byte ∷ text) [] rest none is =
    let here : byte ≡ SPACE = ap (λ (t : List ℕ). get_or t 0 0) is in
    All-head IsOther byte text none here
no_second (byte ∷ text) (other ∷ first) rest none is = no_second text first rest (All-tail IsOther byte text none) (ap (λ (t : List ℕ). drop 1 t) is)

-- the word ends before a space
pub word_at : (text : List ℕ) (i : ℕ) → i < length text → get_or text i 0 ≡ SPACE → text ≡ spaced (take i text) (drop (i + 1) text)
word_at text i l here = sym (take-append-drop i text) ∙ ap (λ (rest : List ℕ). take i text ++ rest) (drop_more text i 0 l) ∙ ap (λ byte. take i text ++ byte ∷ drop (i + 1) text) here

seat_spaceless : (word : List ℕ) (seat : ℕ) → IsSeat word seat → HasNoSpace word
seat_spaceless word seat is = subst HasNoSpace (sym is.digit) (All-cons IsOther (48 + seat) [] (λ e. omega (arith, e)) (All-nil IsOther))

number_spaceless : (word : List ℕ) (number : ℕ) → Spells word number → HasNoSpace word
number_spaceless word number is =
    let digits = (decimal_is_IsNumeral number is.fits).0 in
    subst HasNoSpace (sym is.digits) (All-from_get_or IsOther _ 0 (λ i l e. omega (arith, (digit_at _ i digits.1 l).0, e)))

pub one_seat : (word : List ℕ) (seat other : ℕ) → IsSeat word seat → IsSeat word other → seat ≡ other
one_seat word seat other is is' =
    let same : 48 + seat ≡ 48 + other = ap (λ (t : List ℕ). get_or t 0 0) (sym is.digit ∙ is'.digit) in
    omega (arith, same)

pub one_number : (word : List ℕ) (number other : ℕ) → Spells word number → Spells word other → number ≡ other
one_number word number other is is' = decimal_injective number other is.fits is'.fits (sym is.digits ∙ is'.digits)

pub one_hex : (word bytes others : List ℕ) → IsHex word bytes → IsHex word others → bytes ≡ others
one_hex word bytes others is is' = decode_of-same word bytes others is.decodes is'.decodes

pub one_byte : (word : List ℕ) (byte other : ℕ) → IsByte word byte → IsByte word other → byte ≡ other
one_byte word byte other is is' = ap (λ (t : List ℕ). get_or t 0 0) (decode_of-same word (byte ∷ []) (other ∷ []) is.decodes is'.decodes)

pub one_name : (rest name other : List ℕ) → IsRest rest name → IsRest rest other → name ≡ other
one_name rest name other is is' = is.whole ∙ sym is'.whole

pub one_after_seat : (fields : List ℕ) (seat other : ℕ) (rest others : List ℕ) → AfterSeat fields seat rest → AfterSeat fields other others → (seat ≡ other) × (rest ≡ others)
one_after_seat fields seat other rest others is is' =
    let both = same_word is.word is'.word rest others (seat_spaceless is.word seat is.seat_is) (seat_spaceless is'.word other is'.seat_is) (sym is.form ∙ is'.form) in
    (one_seat is.word seat other is.seat_is (subst (λ w. IsSeat w other) (sym both.0) is'.seat_is), both.1)

pub one_after_number : (fields : List ℕ) (number other : ℕ) (rest others : List ℕ) → AfterNumber fields number rest → AfterNumber fields other others → (number ≡ other) × (rest ≡ others)
one_after_number fields number other rest others is is' =
    let both = same_word is.word is'.word rest others (number_spaceless is.word number is.number_is) (number_spaceless is'.word other is'.number_is) (sym is.form ∙ is'.form) in
    (one_number is.word number other is.number_is (subst (λ w. Spells w other) (sym both.0) is'.number_is), both.1)

-- no digits spell no bytes
pub no_hex : (word bytes : List ℕ) → length word ≡ 0 → IsHex word bytes → ⊥
no_hex word [] none is = is.some refl
no_hex word (byte ∷ bytes) none is = omega (arith, none, (decode_of-ok word (byte ∷ bytes) is.decodes).2)

-- some digits spell some bytes
pub some_hex : (word made bytes : List ℕ) → ¬ (length word ≡ 0) → decode_of word ≡ Ok bytes → made ≡ bytes → IsHex word made
some_hex word made bytes some decodes is = record {
  decodes = decodes ∙ ap Ok (sym is);
  some = λ none. some ((decode_of-ok word bytes decodes).2 ∙ ap (λ (b : List ℕ). 2 * length b) (sym is ∙ none));
}

-- what is refused is no byte
pub refused_byte : (word out : List ℕ) (r : Result (Unit {0}) FromHexError) (fault : FromHexError) (byte : ℕ) → r ≡ Err fault → MatchResult (decode_sized word 1) (λ bytes. (r ≡ Ok tt) × (out ≡ bytes)) (λ e. r ≡ Err e) → IsByte word byte → ⊥
refused_byte word out r fault byte refused told is =
    let same : decode_sized word 1 ≡ Ok (byte ∷ []) = decode_sized-twice word 1 (decode_of-ok word (byte ∷ []) is.decodes).2 ∙ is.decodes in
    let h = subst (λ (d : Result (List ℕ) FromHexError). MatchResult d (λ bytes. (r ≡ Ok tt) × (out ≡ bytes)) (λ e. r ≡ Err e)) same told in
    cc (h.0, refused)

-- what holds of the text behind one word holds of it however it was found
pub past_seat : (P : List ℕ → Type 0) (fields : List ℕ) (seat other : ℕ) (rest others : List ℕ) → AfterSeat fields seat rest → AfterSeat fields other others → P others → P rest
past_seat P fields seat other rest others is is' p = subst P (sym (one_after_seat fields seat other rest others is is').1) p

pub past_number : (P : List ℕ → Type 0) (fields : List ℕ) (number other : ℕ) (rest others : List ℕ) → AfterNumber fields number rest → AfterNumber fields other others → P others → P rest
past_number P fields number other rest others is is' p = subst P (sym (one_after_number fields number other rest others is is').1) p

-- what stands in front of a space that has none before it is the first word
pub seat_in : (fields word rest : List ℕ) (seat : ℕ) (others : List ℕ) → fields ≡ spaced word rest → HasNoSpace word → AfterSeat fields seat others → IsSeat word seat
seat_in fields word rest seat others form none is = subst (λ w. IsSeat w seat) (same_word is.word word others rest (seat_spaceless is.word seat is.seat_is) none (sym is.form ∙ form)).0 is.seat_is

pub number_in : (fields word rest : List ℕ) (number : ℕ) (others : List ℕ) → fields ≡ spaced word rest → HasNoSpace word → AfterNumber fields number others → Spells word number
number_in fields word rest number others form none is = subst (λ w. Spells w number) (same_word is.word word others rest (number_spaceless is.word number is.number_is) none (sym is.form ∙ form)).0 is.number_is

-- a text without a space has no field behind another
pub no_seat : (fields : List ℕ) (seat : ℕ) (rest : List ℕ) → HasNoSpace fields → AfterSeat fields seat rest → ⊥
no_seat fields seat rest none is = no_second fields is.word rest none is.form

pub no_number : (fields : List ℕ) (number : ℕ) (rest : List ℕ) → HasNoSpace fields → AfterNumber fields number rest → ⊥
no_number fields number rest none is = no_second fields is.word rest none is.form
