-- Whether a line has a form is decided.
use Rattle.std.proofs.Common.{◌≡◌, ◌≢◌, ◌∙◌, ◌⊎◌, inl, inr, ℕ, ◌%◌, ◌^◌, ◌<◌, ◌≤◌, nat_le, nat_lt, ◌==◌, Bool, true, false, not, All, List, [], ◌∷◌, ◌++◌, length, drop, get_or, bytes_eq, refl, sym, ap, arith, subst, codes}
use Rattle.std.specs.Bool.{Decides}
use Rattle.std.specs.Fmt.{decimal}
use Rattle.std.specs.List.{list_all}
use Rattle.std.specs.Str.{IsUtf8, is_utf8}
use Rattle.std.specs.Str.Parse.{digits_value}
use Rattle.std.proofs.lemmas.Bool.{false≢true}
use Rattle.std.proofs.lemmas.Bool.Decides.{Decides-by_and, Decides-not, Decides-eqb, nat_tests}
use Rattle.std.proofs.lemmas.Fmt.{decimal_is_IsNumeral}
use Rattle.std.proofs.lemmas.Slice.Eq.{bytes_eq-Decides}
use Rattle.std.proofs.lemmas.Str.{IsUtf8-from_is_utf8, is_utf8-from_IsUtf8}
use Rattle.pf_io.specs.Names.{LONGEST, IsName}
use Rattle.pf_io.specs.Numbers.{Spells}
use Rattle.enclave_measure.specs.declared.page.Page.{Page}
use Rattle.enclave_measure.specs.declared.page.Permissions.{Permissions}
use Rattle.enclave_measure.specs.declared.page.PageType.{PageType}
use Rattle.enclave_measure.specs.declared.page.PageType.TheVariants as types
use Rattle.enclave_measure.specs.declared.page.Source.{Source}
use Rattle.enclave_measure.specs.declared.page.Source.TheVariants as sources
use Rattle.enclave_measure.specs.Hexadecimal.{is_hex_digit, hex_value, AreHexDigits, IsHex}
use Rattle.enclave_measure.specs.Pages.{PAGE, AreEnclaveWords, IsSize, letter_or, permissions_word, type_word, measured_word, IsSource, IsAllowed, ArePageWords}
use Rattle.enclave_measure.proofs.Unique.{hex_one, word_at, permissions_one, type_one}

abbrev pub Sure : Type 0 → Type 0
Sure P = P ⊎ (P → ⊥)

-- one has it, or none
abbrev pub Found : {A : Type 0} → (A → Type 0) → Type 0
Found {A} P = ((a : A) × P a) ⊎ ((a : A) → P a → ⊥)

from_test : {P : Type 0} (test : Bool) → Decides test P → Sure P
from_test true decides = inl (decides.0 refl)
from_test false decides = inr (λ p. false≢true (decides.1 p))

both_sure : {P Q : Type 0} → Sure P → Sure Q → Sure (P × Q)
both_sure (inl p) (inl q) = inl (p, q)
both_sure (inl p) (inr never) = inr (λ b. never b.1)
both_sure (inr never) q = inr (λ b. never b.0)

where_sure : {P Q : Type 0} → Sure P → Sure Q → Sure (P → Q)
where_sure (inl p) (inl q) = inl (λ _. q)
where_sure (inl p) (inr never) = inr (λ f. never (f p))
where_sure (inr never) q = inl (λ p. absurd (never p))

same_sure : {P Q : Type 0} → (P → Q) → (Q → P) → Sure P → Sure Q
same_sure to from (inl p) = inl (to p)
same_sure to from (inr never) = inr (λ q. never (from q))

-- where only one may have it
found_by : {A : Type 0} (P : A → Type 0) (candidate : A) → ((a : A) → P a → candidate ≡ a) → Sure (P candidate) → Found P
found_by P candidate only (inl p) = inl (candidate, p)
found_by P candidate only (inr never) = inr (λ a p. never (subst P (sym (only a p)) p))

text_sure : (xs ys : List ℕ) → Sure (xs ≡ ys)
text_sure xs ys = from_test (bytes_eq xs ys) (bytes_eq-Decides xs ys)

number_sure : (a b : ℕ) → Sure (a ≡ b)
number_sure a b = from_test (a == b) (Decides-eqb a b)

pub most_sure : (a b : ℕ) → Sure (a ≤ b)
most_sure a b = from_test (nat_le a b) (λ h. grind (arith, nat_tests, h), λ h. grind (arith, nat_tests, h))

below_sure : (a b : ℕ) → Sure (a < b)
below_sure a b = from_test (nat_lt a b) (λ h. grind (arith, nat_tests, h), λ h. grind (arith, nat_tests, h))

true_sure : (b : Bool) → Sure (b ≡ true)
true_sure b = from_test b (λ h. h, λ h. h)

hex_digits_sure : (digits : List ℕ) → Sure (AreHexDigits digits)
hex_digits_sure digits = same_sure (λ p. record { some = p.0; few = p.1.0; no_zero = p.1.1.0; each = p.1.1.1 }) (λ d. (d.some, (d.few, (d.no_zero, d.each))))
    (both_sure (most_sure 1 (length digits)) (both_sure (most_sure (length digits) 16) (both_sure (where_sure (number_sure (get_or digits 0 0) 48) (number_sure (length digits) 1)) (true_sure (list_all is_hex_digit digits)))))

hex_found : (text : List ℕ) → Found (IsHex text)
hex_found text = by (text_sure text (codes "0x" ++ drop 2 text)) (hex_digits_sure (drop 2 text))
  where
    digits_are : (number : ℕ) (hex : IsHex text number) → drop 2 text ≡ hex.digits
    digits_are number hex = ap (λ (t : List ℕ). drop 2 t) hex.spelled

    by : Sure (text ≡ codes "0x" ++ drop 2 text) → Sure (AreHexDigits (drop 2 text)) → Found (IsHex text)
    by (inl spelled) (inl are) = inl (hex_value (drop 2 text), record { digits = drop 2 text; are_digits = are; spelled = spelled; value = refl })
    by (inl spelled) (inr never) = inr (λ number hex. never (subst AreHexDigits (sym (digits_are number hex)) hex.are_digits))
    by (inr never) digits = inr (λ number hex. never (hex.spelled ∙ ap (λ (ds : List ℕ). codes "0x" ++ ds) (sym (digits_are number hex))))

-- the text spells a number below 2^32
abbrev SpellsFew : List ℕ → ℕ → Type 0
SpellsFew text number = Spells text number × (number < 2 ^ 32)

spells_found : (text : List ℕ) → Found (SpellsFew text)
spells_found text = found_by (SpellsFew text) (digits_value 10 text) (λ number few. ap (digits_value 10) few.0.digits ∙ (decimal_is_IsNumeral number few.0.fits).1)
    (both_sure (same_sure (λ p. record { digits = p.0; fits = p.1 }) (λ s. (s.digits, s.fits)) (both_sure (text_sure text (decimal (digits_value 10 text))) (below_sure (digits_value 10 text) (2 ^ 64)))) (below_sure (digits_value 10 text) (2 ^ 32)))

-- the form of a first line, with the numbers that it spells
pub enclave_found : (words : List (List ℕ)) → Found (λ (numbers : ℕ × ℕ). AreEnclaveWords words numbers.0 numbers.1)
enclave_found (name ∷ size_word ∷ ssa_word ∷ []) = by (text_sure name (codes "enclave")) (hex_found size_word) (spells_found ssa_word)
  where
    by : Sure (name ≡ codes "enclave") → Found (IsHex size_word) → Found (SpellsFew ssa_word) → Found (λ (numbers : ℕ × ℕ). AreEnclaveWords (name ∷ size_word ∷ ssa_word ∷ []) numbers.0 numbers.1)
    by (inl is) (inl size) (inl ssa) = inl ((size.0, ssa.0), record { size_word = size_word; ssa_word = ssa_word; form = ap (λ (w : List ℕ). w ∷ size_word ∷ ssa_word ∷ []) is; size_is = size.1; ssa_is = ssa.1.0; ssa_fits = ssa.1.1 })
    by (inl is) (inl size) (inr never) = inr (λ numbers form. never numbers.1 (subst (λ t. SpellsFew t numbers.1) (sym (word_at 2 _ _ form.form)) (form.ssa_is, form.ssa_fits)))
    by (inl is) (inr never) ssa = inr (λ numbers form. never numbers.0 (subst (λ t. IsHex t numbers.0) (sym (word_at 1 _ _ form.form)) form.size_is))
    by (inr never) size ssa = inr (λ numbers form. never (word_at 0 _ _ form.form))
enclave_found [] = inr (λ numbers form. omega (arith, ap (λ (ws : List (List ℕ)). length ws) form.form))
enclave_found (a ∷ []) = inr (λ numbers form. omega (arith, ap (λ (ws : List (List ℕ)). length ws) form.form))
enclave_found (a ∷ b ∷ []) = inr (λ numbers form. omega (arith, ap (λ (ws : List (List ℕ)). length ws) form.form))
enclave_found (a ∷ b ∷ c ∷ d ∷ rest) = inr (λ numbers form. omega (arith, ap (λ (ws : List (List ℕ)). length ws) form.form))

pub size_sure : (size : ℕ) → Sure (IsSize size)
size_sure size = same_sure (λ p. record { power = p.0; not_small = p.1.0; not_large = p.1.1 }) (λ s. (s.power, (s.not_small, s.not_large)))
    (both_sure (true_sure _) (both_sure (most_sure (2 ^ 12) size) (most_sure size (2 ^ 40))))

read_is : (b : Bool) → (letter_or 114 b == 114) ≡ b
read_is true = refl
read_is false = refl

write_is : (b : Bool) → (letter_or 119 b == 119) ≡ b
write_is true = refl
write_is false = refl

execute_is : (b : Bool) → (letter_or 120 b == 120) ≡ b
execute_is true = refl
execute_is false = refl

abbrev permissions_in : List ℕ → Permissions
permissions_in word = record { read = get_or word 0 0 == 114; write = get_or word 1 0 == 119; execute = get_or word 2 0 == 120 }

permissions_are : (p : Permissions) → permissions_in (permissions_word p) ≡ p
permissions_are p = λ i. record { read = read_is p.read i; write = write_is p.write i; execute = execute_is p.execute i }

permissions_found : (word : List ℕ) → Found (λ (p : Permissions). word ≡ permissions_word p)
permissions_found word = found_by (λ (p : Permissions). word ≡ permissions_word p) (permissions_in word) (λ p is. ap permissions_in is ∙ permissions_are p) (text_sure word (permissions_word (permissions_in word)))

type_found : (word : List ℕ) → Found (λ (t : PageType). word ≡ type_word t)
type_found word = by (text_sure word (codes "tcs")) (text_sure word (codes "reg"))
  where
    none : (word ≡ codes "tcs" → ⊥) → (word ≡ codes "reg" → ⊥) → (t : PageType) → word ≡ type_word t → ⊥
    none never other types.Tcs is = never is
    none never other types.Reg is = other is

    by : Sure (word ≡ codes "tcs") → Sure (word ≡ codes "reg") → Found (λ (t : PageType). word ≡ type_word t)
    by (inl is) other = inl (types.Tcs, is)
    by (inr never) (inl is) = inl (types.Reg, is)
    by (inr never) (inr other) = inr (none never other)

measured_found : (word : List ℕ) → Found (λ (m : Bool). word ≡ measured_word m)
measured_found word = by (text_sure word (codes "measured")) (text_sure word (codes "bare"))
  where
    none : (word ≡ codes "measured" → ⊥) → (word ≡ codes "bare" → ⊥) → (m : Bool) → word ≡ measured_word m → ⊥
    none never other true is = never is
    none never other false is = other is

    by : Sure (word ≡ codes "measured") → Sure (word ≡ codes "bare") → Found (λ (m : Bool). word ≡ measured_word m)
    by (inl is) other = inl (true, is)
    by (inr never) (inl is) = inl (false, is)
    by (inr never) (inr other) = inr (none never other)

tcs_sure : (t : PageType) → Sure (t ≡ types.Tcs)
tcs_sure types.Tcs = inl refl
tcs_sure types.Reg = inr (λ is. cc)

allowed_sure : (offset : ℕ) (p : Permissions) (t : PageType) → Sure (IsAllowed offset p t)
allowed_sure offset p t = same_sure (λ a. record { aligned = a.0; read_too = a.1.0; none_of_tcs = a.1.1 }) (λ a. (a.aligned, (a.read_too, a.none_of_tcs)))
    (both_sure (number_sure (offset % PAGE) 0) (both_sure (where_sure (true_sure p.write) (true_sure p.read)) (where_sure (tcs_sure t) (text_sure (permissions_word p) (codes "---")))))

name_sure : (name : List ℕ) → Sure (IsName name)
name_sure name =
    let zeros : Decides (list_all (λ byte. not (byte == 0)) name) (All (λ byte. byte ≢ 0) name) = Decides-by_and (λ byte. not (byte == 0)) (λ byte. byte ≢ 0) (list_all (λ byte. not (byte == 0))) (λ byte. Decides-not (byte == 0) (Decides-eqb byte 0)) refl (λ x xs. refl) name in
    same_sure (λ p. record { not_empty = p.0; not_long = p.1.0; no_zero = p.1.1 }) (λ n. (n.not_empty, (n.not_long, n.no_zero)))
    (both_sure (most_sure 1 (length name)) (both_sure (most_sure (length name) LONGEST) (from_test _ zeros)))

utf8_sure : (text : List ℕ) → Sure (IsUtf8 text)
utf8_sure text = from_test (is_utf8 text) (IsUtf8-from_is_utf8 text, is_utf8-from_IsUtf8 text)

-- no source has so many words
no_source : (words : List (List ℕ)) → (length words ≡ 1 → ⊥) → (length words ≡ 3 → ⊥) → (source : Source) → IsSource words source → ⊥
no_source words one three sources.Zero is = one (ap (λ (ws : List (List ℕ)). length ws) is)
no_source words one three (sources.File name at) is = three (ap (λ (ws : List (List ℕ)). length ws) is.1)

source_found : (words : List (List ℕ)) → Found (IsSource words)
source_found (word ∷ []) = by (text_sure word (codes "zero"))
  where
    none : (word ≡ codes "zero" → ⊥) → (source : Source) → IsSource (word ∷ []) source → ⊥
    none never sources.Zero is = never (word_at 0 _ _ is)
    none never (sources.File name at) is = omega (arith, ap (λ (ws : List (List ℕ)). length ws) is.1)

    by : Sure (word ≡ codes "zero") → Found (IsSource (word ∷ []))
    by (inl is) = inl (sources.Zero, ap (λ (w : List ℕ). w ∷ []) is)
    by (inr never) = inr (none never)
source_found (word ∷ name ∷ at_word ∷ []) = by (text_sure word (codes "file")) (both_sure (name_sure name) (utf8_sure name)) (spells_found at_word)
  where
    words : List (List ℕ)
    words = word ∷ name ∷ at_word ∷ []

    none : ((at : ℕ) → word ≡ codes "file" → IsName name → IsUtf8 name → SpellsFew at_word at → ⊥) → (source : Source) → IsSource words source → ⊥
    none never sources.Zero is = omega (arith, ap (λ (ws : List (List ℕ)). length ws) is)
    none never (sources.File named at) is =
        let same : name ≡ named = word_at 1 _ _ is.1 in
        let spelt : at_word ≡ is.0 = word_at 2 _ _ is.1 in
        never at (word_at 0 _ _ is.1) (subst IsName (sym same) is.2) (subst IsUtf8 (sym same) is.3) (subst (λ t. SpellsFew t at) (sym spelt) (is.4, is.5))

    by : Sure (word ≡ codes "file") → Sure (IsName name × IsUtf8 name) → Found (SpellsFew at_word) → Found (IsSource words)
    by (inl is) (inl named) (inl at) = inl (sources.File name at.0, (at_word, ap (λ (w : List ℕ). w ∷ name ∷ at_word ∷ []) is, named.0, named.1, at.1.0, at.1.1))
    by (inl is) (inl named) (inr never) = inr (none (λ at form name utf8 few. never at few))
    by (inl is) (inr never) at = inr (none (λ at form name utf8 few. never (name, utf8)))
    by (inr never) named at = inr (none (λ at form name utf8 few. never form))
source_found [] = inr (no_source [] (λ e. omega (arith, e)) (λ e. omega (arith, e)))
source_found (a ∷ b ∷ []) = inr (no_source (a ∷ b ∷ []) (λ e. omega (arith, e)) (λ e. omega (arith, e)))
source_found (a ∷ b ∷ c ∷ d ∷ rest) = inr (no_source (a ∷ b ∷ c ∷ d ∷ rest) (λ e. omega (arith, e)) (λ e. omega (arith, e)))

allowed_as : (o o' : ℕ) (p p' : Permissions) (t t' : PageType) → o ≡ o' → p ≡ p' → t ≡ t' → IsAllowed o' p' t' → IsAllowed o p t
allowed_as o o' p p' t t' one two three is = rw (one, two, three) is

-- no page has fewer than five words
no_page : (words : List (List ℕ)) → length words < 5 → (page : Page) → ArePageWords words page → ⊥
no_page words few page form = omega (arith, few, ap (λ (ws : List (List ℕ)). length ws) form.form)

-- the form of another line, with the page that it spells
pub page_found : (words : List (List ℕ)) → Found (ArePageWords words)
page_found (name ∷ offset_word ∷ access_word ∷ kind_word ∷ extent_word ∷ source_words) =
    by (text_sure name (codes "page")) (hex_found offset_word) (permissions_found access_word) (type_found kind_word) (measured_found extent_word) (source_found source_words)
  where
    words : List (List ℕ)
    words = name ∷ offset_word ∷ access_word ∷ kind_word ∷ extent_word ∷ source_words

    offset_of : (page : Page) → ArePageWords words page → IsHex offset_word page.offset
    offset_of page form = subst (λ t. IsHex t page.offset) (sym (word_at 1 _ _ form.form)) form.fields.offset_is

    access_of : (page : Page) → ArePageWords words page → access_word ≡ permissions_word page.permissions
    access_of page form = word_at 2 _ _ form.form ∙ form.fields.permissions_is

    kind_of : (page : Page) → ArePageWords words page → kind_word ≡ type_word page.page_type
    kind_of page form = word_at 3 _ _ form.form ∙ form.fields.type_is

    extent_of : (page : Page) → ArePageWords words page → extent_word ≡ measured_word page.measured
    extent_of page form = word_at 4 _ _ form.form ∙ form.fields.measured_is

    source_of : (page : Page) → ArePageWords words page → IsSource source_words page.source
    source_of page form = subst (λ ws. IsSource ws page.source) (sym (ap (λ (ws : List (List ℕ)). drop 5 ws) form.form)) form.source

    by_allowed : (name ≡ codes "page") → (offset : ℕ) → IsHex offset_word offset → (p : Permissions) → access_word ≡ permissions_word p → (t : PageType) → kind_word ≡ type_word t
        → (m : Bool) → extent_word ≡ measured_word m → (source : Source) → IsSource source_words source → Sure (IsAllowed offset p t) → Found (ArePageWords words)
    by_allowed is offset hex p access t kind m extent source from (inl allowed) = inl (
      record { offset = offset; permissions = p; page_type = t; measured = m; source = source },
      record {
        offset_word = offset_word;
        access_word = access_word;
        kind_word = kind_word;
        extent_word = extent_word;
        source_words = source_words;
        form = ap (λ (w : List ℕ). w ∷ offset_word ∷ access_word ∷ kind_word ∷ extent_word ∷ source_words) is;
        fields = record { offset_is = hex; permissions_is = access; type_is = kind; measured_is = extent; allowed = allowed };
        source = from;
      },
    )
    by_allowed is offset hex p access t kind m extent source from (inr never) = inr (λ page form. never (allowed_as offset page.offset p page.permissions t page.page_type
        (hex_one offset_word offset page.offset hex (offset_of page form)) (permissions_one p page.permissions (sym access ∙ access_of page form)) (type_one t page.page_type (sym kind ∙ kind_of page form)) form.fields.allowed))

    by : Sure (name ≡ codes "page") → Found (IsHex offset_word) → Found (λ (p : Permissions). access_word ≡ permissions_word p) → Found (λ (t : PageType). kind_word ≡ type_word t) → Found (λ (m : Bool). extent_word ≡ measured_word m) → Found (IsSource source_words) → Found (ArePageWords words)
    by (inl is) (inl offset) (inl p) (inl t) (inl m) (inl source) = by_allowed is offset.0 offset.1 p.0 p.1 t.0 t.1 m.0 m.1 source.0 source.1 (allowed_sure offset.0 p.0 t.0)
    by (inl is) (inl offset) (inl p) (inl t) (inl m) (inr never) = inr (λ page form. never page.source (source_of page form))
    by (inl is) (inl offset) (inl p) (inl t) (inr never) source = inr (λ page form. never page.measured (extent_of page form))
    by (inl is) (inl offset) (inl p) (inr never) m source = inr (λ page form. never page.page_type (kind_of page form))
    by (inl is) (inl offset) (inr never) t m source = inr (λ page form. never page.permissions (access_of page form))
    by (inl is) (inr never) p t m source = inr (λ page form. never page.offset (offset_of page form))
    by (inr never) offset p t m source = inr (λ page form. never (word_at 0 _ _ form.form))
page_found [] = inr (no_page [] (omega arith))
page_found (a ∷ []) = inr (no_page (a ∷ []) (omega arith))
page_found (a ∷ b ∷ []) = inr (no_page (a ∷ b ∷ []) (omega arith))
page_found (a ∷ b ∷ c ∷ []) = inr (no_page (a ∷ b ∷ c ∷ []) (omega arith))
page_found (a ∷ b ∷ c ∷ d ∷ []) = inr (no_page (a ∷ b ∷ c ∷ d ∷ []) (omega arith))
