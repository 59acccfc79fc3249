-- The forms of a layout's lines, word by word.
use Rattle.std.proofs.Common.{◌≡◌, ◌∙◌, ℕ, suc, ◌-◌, ◌<◌, ◌≤◌, List, [], ◌∷◌, length, take, drop, get_or, sym, ap, arith, subst, Option, Some, None, MatchOption, Result, Ok, Err, IfOk, codes}
use Rattle.std.proofs.lemmas.List.{take_all, length-take}
use Rattle.enclave_measure.specs.declared.page.Page.{Page}
use Rattle.enclave_measure.specs.declared.page.Source.{Source}
use Rattle.enclave_measure.specs.declared.page.Source.TheVariants as sources
use Rattle.enclave_measure.specs.Hexadecimal.{IsHex}
use Rattle.enclave_measure.specs.Words.{shown}
use Rattle.enclave_measure.specs.Pages.{AreEnclaveWords, AreFields, IsSource, ArePageWords}
use denote.Ref.{Bor}

-- the words that follow the first one
others : (words rest : List (Bor (List ℕ))) (word : List ℕ) (all : List (List ℕ)) → shown words ≡ word ∷ shown rest → shown words ≡ word ∷ all → shown rest ≡ all
others words rest word all is same = ap (λ (ws : List (List ℕ)). drop 1 ws) (sym is ∙ same)

pub size_word : (words rest : List (Bor (List ℕ))) (d : Bor (List ℕ)) (size ssa : ℕ) → shown words ≡ codes "enclave" ∷ shown rest → 1 ≤ length rest → AreEnclaveWords (shown words) size ssa → IsHex (get_or rest 0 d).now size
size_word words [] d size ssa is some form = absurd (omega (arith, some))
size_word words (first ∷ rest) d size ssa is some form =
    let same = others words (first ∷ rest) (codes "enclave") (form.size_word ∷ form.ssa_word ∷ []) is form.form in
    let here : first.now ≡ form.size_word = ap (λ (ws : List (List ℕ)). get_or ws 0 []) same in
    rw here form.size_is

-- the four words that follow `page`
pub field_words : (words rest : List (Bor (List ℕ))) (d : Bor (List ℕ)) (page : Page) → shown words ≡ codes "page" ∷ shown rest → 4 ≤ length rest → ArePageWords (shown words) page
    → AreFields (get_or rest 0 d).now (get_or rest 1 d).now (get_or rest 2 d).now (get_or rest 3 d).now page.offset page.permissions page.page_type page.measured
field_words words (a ∷ b ∷ c ∷ e ∷ rest) d page is some form =
    let same = others words (a ∷ b ∷ c ∷ e ∷ rest) (codes "page") (form.offset_word ∷ form.access_word ∷ form.kind_word ∷ form.extent_word ∷ form.source_words) is form.form in
    let first : a.now ≡ form.offset_word = ap (λ (ws : List (List ℕ)). get_or ws 0 []) same in
    let second : b.now ≡ form.access_word = ap (λ (ws : List (List ℕ)). get_or ws 1 []) same in
    let third : c.now ≡ form.kind_word = ap (λ (ws : List (List ℕ)). get_or ws 2 []) same in
    let fourth : e.now ≡ form.extent_word = ap (λ (ws : List (List ℕ)). get_or ws 3 []) same in
    rw (first, second, third, fourth) form.fields
field_words words [] d page is some form = absurd (omega (arith, some))
field_words words (a ∷ []) d page is some form = absurd (omega (arith, some))
field_words words (a ∷ b ∷ []) d page is some form = absurd (omega (arith, some))
field_words words (a ∷ b ∷ c ∷ []) d page is some form = absurd (omega (arith, some))

-- and those that follow them
pub source_words : (words rest : List (Bor (List ℕ))) (page : Page) → shown words ≡ codes "page" ∷ shown rest → 4 ≤ length rest → ArePageWords (shown words) page → IsSource (shown (take (length rest - 4) (drop 4 rest))) page.source
source_words words (a ∷ b ∷ c ∷ e ∷ rest) page is some form =
    let same = others words (a ∷ b ∷ c ∷ e ∷ rest) (codes "page") (form.offset_word ∷ form.access_word ∷ form.kind_word ∷ form.extent_word ∷ form.source_words) is form.form in
    let here : shown rest ≡ form.source_words = ap (λ (ws : List (List ℕ)). drop 4 ws) same in
    let all : take (suc (suc (suc (suc (length rest)))) - 4) rest ≡ rest = take_all _ rest (omega arith) in
    rw (all, here) form.source
source_words words [] page is some form = absurd (omega (arith, some))
source_words words (a ∷ []) page is some form = absurd (omega (arith, some))
source_words words (a ∷ b ∷ []) page is some form = absurd (omega (arith, some))
source_words words (a ∷ b ∷ c ∷ []) page is some form = absurd (omega (arith, some))

-- where fewer than nine words were taken, they are all
all_taken : (words : List (List ℕ)) → length (take 9 words) < 9 → take 9 words ≡ words
all_taken words few = take_all 9 words (omega (arith, few, length-take 9 words))

enclave_few : (words : List (List ℕ)) (size ssa : ℕ) → AreEnclaveWords words size ssa → length words < 9
enclave_few words size ssa form = omega (arith, ap (λ (ws : List (List ℕ)). length ws) form.form)

source_few : (words : List (List ℕ)) (source : Source) → IsSource words source → length words ≤ 3
source_few words sources.Zero is = omega (arith, ap (λ (ws : List (List ℕ)). length ws) is)
source_few words (sources.File name at) is = omega (arith, ap (λ (ws : List (List ℕ)). length ws) is.1)

page_few : (words : List (List ℕ)) (page : Page) → ArePageWords words page → length words < 9
page_few words page form = omega (arith, ap (λ (ws : List (List ℕ)). length ws) form.form, source_few form.source_words page.source form.source)

-- a form of fewer than nine words is that of the line where it is that of its first nine
untaken : (P : List (List ℕ) → Type 0) → ((words : List (List ℕ)) → P words → length words < 9) → (line words : List (List ℕ)) → words ≡ take 9 line → P words → P line
untaken P few line words is form = subst P (is ∙ all_taken line (subst (λ ws. length ws < 9) is (few words form))) form

taken : (P : List (List ℕ) → Type 0) → ((words : List (List ℕ)) → P words → length words < 9) → (line words : List (List ℕ)) → words ≡ take 9 line → P line → P words
taken P few line words is form = subst P (sym (is ∙ take_all 9 line (omega (arith, few line form)))) form

pub enclave_of_line : (line words : List (List ℕ)) (found : Option (ℕ × ℕ)) → words ≡ take 9 line
    → MatchOption found ((size ssa : ℕ) → ¬ (AreEnclaveWords words size ssa)) (λ numbers. AreEnclaveWords words numbers.0 numbers.1)
    → MatchOption found ((size ssa : ℕ) → ¬ (AreEnclaveWords line size ssa)) (λ numbers. AreEnclaveWords line numbers.0 numbers.1)
enclave_of_line line words (Some numbers) is form = untaken (λ ws. AreEnclaveWords ws numbers.0 numbers.1) (λ ws. enclave_few ws numbers.0 numbers.1) line words is form
enclave_of_line line words None is none = λ size ssa form. none size ssa (taken (λ ws. AreEnclaveWords ws size ssa) (λ ws. enclave_few ws size ssa) line words is form)

pub page_of_line : {E : Type 0} (line words : List (List ℕ)) (result : Result (Option Page) E) → words ≡ take 9 line
    → IfOk result (λ found. MatchOption found ((page : Page) → ¬ (ArePageWords words page)) (ArePageWords words))
    → IfOk result (λ found. MatchOption found ((page : Page) → ¬ (ArePageWords line page)) (ArePageWords line))
page_of_line line words (Ok (Some page)) is form = untaken (λ ws. ArePageWords ws page) (λ ws. page_few ws page) line words is form
page_of_line line words (Ok None) is none = λ page form. none page (taken (λ ws. ArePageWords ws page) (λ ws. page_few ws page) line words is form)
page_of_line line words (Err fault) is fact = fact
