-- A line spells one page, and lines list one list of pages.
use Rattle.std.proofs.Common.{◌≡◌, ◌≢◌, ◌∙◌, ℕ, Bool, true, false, List, [], ◌∷◌, length, drop, get_or, refl, sym, ap, arith, subst}
use Rattle.std.specs.List.{AllZip}
use Rattle.std.proofs.lemmas.Fmt.{decimal_injective}
use Rattle.pf_io.specs.Numbers.{Spells}
use Rattle.enclave_measure.specs.declared.page.Page.{Page}
use Rattle.enclave_measure.specs.declared.page.Permissions.{Permissions}
use Rattle.enclave_measure.specs.declared.page.PageType.{PageType}
use Rattle.enclave_measure.specs.declared.page.PageType.TheVariants as types
use Rattle.enclave_measure.specs.declared.page.Source.{Source}
use Rattle.enclave_measure.specs.declared.page.Source.TheVariants as sources
use Rattle.enclave_measure.specs.Lines.{Line}
use Rattle.enclave_measure.specs.Hexadecimal.{IsHex, hex_value}
use Rattle.enclave_measure.specs.Pages.{AreEnclaveWords, letter_or, permissions_word, type_word, measured_word, IsSource, ArePageWords}
use Rattle.enclave_measure.specs.Layouts.{IsLineOf}

pub hex_one : (text : List ℕ) (a b : ℕ) → IsHex text a → IsHex text b → a ≡ b
hex_one text a b one two =
    let same : one.digits ≡ two.digits = ap (λ (t : List ℕ). drop 2 t) (sym one.spelled ∙ two.spelled) in
    one.value ∙ ap hex_value same ∙ sym two.value

spells_one : (text : List ℕ) (a b : ℕ) → Spells text a → Spells text b → a ≡ b
spells_one text a b one two = decimal_injective a b one.fits two.fits (sym one.digits ∙ two.digits)

pub word_at : (n : ℕ) (xs ys : List (List ℕ)) → xs ≡ ys → get_or xs n [] ≡ get_or ys n []
word_at n xs ys same = ap (λ (ws : List (List ℕ)). get_or ws n []) same

pub enclave_one : (words : List (List ℕ)) (size ssa size' ssa' : ℕ) → AreEnclaveWords words size ssa → AreEnclaveWords words size' ssa' → (size ≡ size') × (ssa ≡ ssa')
enclave_one words size ssa size' ssa' one two =
    let same = sym one.form ∙ two.form in
    (hex_one two.size_word size size' (subst (λ t. IsHex t size) (word_at 1 _ _ same) one.size_is) two.size_is, spells_one two.ssa_word ssa ssa' (subst (λ t. Spells t ssa) (word_at 2 _ _ same) one.ssa_is) two.ssa_is)

-- a letter is no `-`
letter_one : (letter : ℕ) → letter ≢ 45 → (a b : Bool) → letter_or letter a ≡ letter_or letter b → a ≡ b
letter_one letter other true true same = refl
letter_one letter other false false same = refl
letter_one letter other true false same = absurd (other same)
letter_one letter other false true same = absurd (other (sym same))

abbrev made : Bool → Bool → Bool → Permissions
made read write execute = record { read = read; write = write; execute = execute }

made_same : (a a' b b' c c' : Bool) → a ≡ a' → b ≡ b' → c ≡ c' → made a b c ≡ made a' b' c'
made_same a a' b b' c c' one two three = rw (one, two, three) refl

pub permissions_one : (p q : Permissions) → permissions_word p ≡ permissions_word q → p ≡ q
permissions_one p q same =
    let read = letter_one 114 (λ e. omega (arith, e)) p.read q.read (ap (λ (w : List ℕ). get_or w 0 0) same) in
    let write = letter_one 119 (λ e. omega (arith, e)) p.write q.write (ap (λ (w : List ℕ). get_or w 1 0) same) in
    let execute = letter_one 120 (λ e. omega (arith, e)) p.execute q.execute (ap (λ (w : List ℕ). get_or w 2 0) same) in
    made_same p.read q.read p.write q.write p.execute q.execute read write execute

pub type_one : (a b : PageType) → type_word a ≡ type_word b → a ≡ b
type_one types.Tcs types.Tcs same = refl
type_one types.Reg types.Reg same = refl
type_one types.Tcs types.Reg same = absurd (omega (arith, ap (λ (w : List ℕ). get_or w 0 0) same))
type_one types.Reg types.Tcs same = absurd (omega (arith, ap (λ (w : List ℕ). get_or w 0 0) same))

measured_one : (a b : Bool) → measured_word a ≡ measured_word b → a ≡ b
measured_one true true same = refl
measured_one false false same = refl
measured_one true false same = absurd (omega (arith, ap (λ (w : List ℕ). get_or w 0 0) same))
measured_one false true same = absurd (omega (arith, ap (λ (w : List ℕ). get_or w 0 0) same))

source_one : (words : List (List ℕ)) (a b : Source) → IsSource words a → IsSource words b → a ≡ b
source_one words sources.Zero sources.Zero one two = refl
source_one words (sources.File name at) (sources.File name' at') one two =
    let same = sym one.1 ∙ two.1 in
    let names : name ≡ name' = word_at 1 _ _ same in
    let places : at ≡ at' = spells_one two.0 at at' (subst (λ t. Spells t at) (word_at 2 _ _ same) one.4) two.4 in
    cc
source_one words sources.Zero (sources.File name at) one two = absurd (omega (arith, ap (λ (ws : List (List ℕ)). length ws) (sym one ∙ two.1)))
source_one words (sources.File name at) sources.Zero one two = absurd (omega (arith, ap (λ (ws : List (List ℕ)). length ws) (sym one.1 ∙ two)))

abbrev page_of : ℕ → Permissions → PageType → Bool → Source → Page
page_of offset permissions page_type measured source = record { offset = offset; permissions = permissions; page_type = page_type; measured = measured; source = source }

page_same : (a a' : ℕ) (b b' : Permissions) (c c' : PageType) (d d' : Bool) (e e' : Source) → a ≡ a' → b ≡ b' → c ≡ c' → d ≡ d' → e ≡ e' → page_of a b c d e ≡ page_of a' b' c' d' e'
page_same a a' b b' c c' d d' e e' one two three four five = rw (one, two, three, four, five) refl

pub page_one : (words : List (List ℕ)) (p q : Page) → ArePageWords words p → ArePageWords words q → p ≡ q
page_one words p q one two =
    let same = sym one.form ∙ two.form in
    let offset = hex_one two.offset_word p.offset q.offset (subst (λ t. IsHex t p.offset) (word_at 1 _ _ same) one.fields.offset_is) two.fields.offset_is in
    let permissions = permissions_one p.permissions q.permissions (sym one.fields.permissions_is ∙ word_at 2 _ _ same ∙ two.fields.permissions_is) in
    let page_type = type_one p.page_type q.page_type (sym one.fields.type_is ∙ word_at 3 _ _ same ∙ two.fields.type_is) in
    let measured = measured_one p.measured q.measured (sym one.fields.measured_is ∙ word_at 4 _ _ same ∙ two.fields.measured_is) in
    let source = source_one two.source_words p.source q.source (subst (λ ws. IsSource ws p.source) (ap (λ (ws : List (List ℕ)). drop 5 ws) same) one.source) two.source in
    page_same p.offset q.offset p.permissions q.permissions p.page_type q.page_type p.measured q.measured p.source q.source offset permissions page_type measured source

pub pages_one : (lines : List Line) (pages others : List Page) → AllZip IsLineOf lines pages → AllZip IsLineOf lines others → pages ≡ others
pages_one [] [] [] one two = refl
pages_one (line ∷ lines) (p ∷ pages) (q ∷ others) one two = rw (page_one _ p q one.0 two.0, pages_one lines pages others one.1 two.1) refl
pages_one [] (p ∷ pages) others one two = absurd one
pages_one [] [] (q ∷ others) one two = absurd two
pages_one (line ∷ lines) [] others one two = absurd one
pages_one (line ∷ lines) (p ∷ pages) [] one two = absurd two
