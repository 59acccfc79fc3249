-- A text has one outcome.
use Rattle.std.proofs.Common.{◌≡◌, ◌∙◌, ◌⊎◌, inl, inr, ℕ, ◌+◌, ◌==◌, false, List, [], ◌∷◌, ◌++◌, length, refl, sym, ap, arith, subst, Result, Ok, Err}
use Rattle.std.specs.List.{AllByRecursion, AllZip}
use Rattle.std.proofs.lemmas.Bool.{both_ways}
use Rattle.std.proofs.lemmas.List.Folds.{list_any-append}
use Rattle.enclave_measure.specs.declared.page.Page.{Page}
use Rattle.enclave_measure.specs.declared.fault.LayoutFault.{LayoutFault}
use Rattle.enclave_measure.specs.declared.fault.LayoutFault.TheVariants as faults
use Rattle.enclave_measure.specs.Lines.{Line, lines_of, read_lines}
use Rattle.enclave_measure.specs.Pages.{Listed, IsInside, IsSize, IsEnclaveLine, IsPageLine}
use Rattle.enclave_measure.specs.Layouts.{has_offset, AreApart, IsLineOf, ListPages, RefusesEnclave, NoEnclaveLine, NoSize, RefusesPage, NoPageLine, Outside, Again, FirstRefused, ReadsTo, Whole, NoLines, NoEnclave, NoPage}
use Rattle.enclave_measure.proofs.Places.{Places, Same, Before, After, places, head_same, tail_same}
use Rattle.enclave_measure.proofs.Listing.{neither, either_none, unlike}
use Rattle.enclave_measure.proofs.Unique.{enclave_one, page_one, pages_one}

-- a line among others, and its page among theirs
pub record Among (front : List Line) (line : Line) (pages : List Page) : Type 0 where
  pub earlier : List Page
  pub page : Page
  pub later : List Page
  pub whole : pages ≡ earlier ++ page ∷ later
  pub spelled : AllZip IsLineOf front earlier
  pub is : IsLineOf line page

among : (front : List Line) (line : Line) (others : List Line) (pages : List Page) → AllZip IsLineOf (front ++ line ∷ others) pages → Among front line pages
among [] line others (p ∷ pages) is = record { earlier = []; page = p; later = pages; whole = refl; spelled = tt; is = is.0 }
among (l ∷ front) line others (p ∷ pages) is =
    let rest = among front line others pages is.1 in
    record { earlier = p ∷ rest.earlier; page = rest.page; later = rest.later; whole = ap (λ ps. p ∷ ps) rest.whole; spelled = (is.0, rest.spelled); is = rest.is }
among [] line others [] is = absurd is
among (l ∷ front) line others [] is = absurd is

all_at : (P : Page → Type 0) (earlier : List Page) (page : Page) (later : List Page) → AllByRecursion P (earlier ++ page ∷ later) → P page
all_at P [] page later is = is.0
all_at P (p ∷ earlier) page later is = all_at P earlier page later is.1

apart_at : (earlier : List Page) (page : Page) (later : List Page) → AreApart (earlier ++ page ∷ later) → has_offset page.offset earlier ≡ false
apart_at [] page later is = refl
apart_at (p ∷ earlier) page later is =
    let none = neither (has_offset p.offset earlier) (has_offset p.offset (page ∷ later)) (sym (list_any-append (λ q. q.offset == p.offset) earlier (page ∷ later)) ∙ is.0) in
    let here = neither (page.offset == p.offset) (has_offset p.offset later) none.1 in
    either_none (p.offset == page.offset) (has_offset page.offset earlier) (unlike page.offset p.offset here.0) (apart_at earlier page later is.1)

refuses_not : (size : ℕ) (earlier : List Page) (line : Line) (fault : LayoutFault) (page : Page) → RefusesPage size earlier line fault → IsPageLine line.1 page → IsInside size page → has_offset page.offset earlier ≡ false → ⊥
refuses_not size earlier line fault page (NoPageLine none e) is inside fresh = none page is
refuses_not size earlier line fault page (Outside other form past e) is inside fresh = omega (arith, past, inside, ap (λ (p : Page). p.offset) (page_one _ other page form is))
refuses_not size earlier line fault page (Again other form within again e) is inside fresh = both_ways (has_offset other.offset earlier) (rw (page_one _ other page form is) fresh) again

-- what lists pages is not refused
listed_not : (size : ℕ) (lines : List Line) (pages : List Page) (fault : LayoutFault) → ListPages size lines pages → FirstRefused size lines fault → ⊥
listed_not size lines pages fault listed refused =
    let at = among refused.front refused.line refused.others pages (subst (λ ls. AllZip IsLineOf ls pages) refused.whole listed.spelled) in
    let same : at.earlier ≡ refused.pages = pages_one refused.front at.earlier refused.pages at.spelled refused.listed.spelled in
    let inside = all_at (IsInside size) at.earlier at.page at.later (subst (AllByRecursion (IsInside size)) at.whole listed.inside) in
    let fresh = apart_at at.earlier at.page at.later (subst AreApart at.whole listed.apart) in
    refuses_not size refused.pages refused.line fault at.page refused.refused at.is inside (subst (λ ps. has_offset at.page.offset ps ≡ false) same fresh)

page_refused_one : (size : ℕ) (earlier : List Page) (line : Line) (f g : LayoutFault) → RefusesPage size earlier line f → RefusesPage size earlier line g → f ≡ g
page_refused_one size earlier line f g (NoPageLine none e) (NoPageLine none' e') = e ∙ sym e'
page_refused_one size earlier line f g (Outside p is past e) (Outside p' is' past' e') = e ∙ sym e'
page_refused_one size earlier line f g (Again p is inside again e) (Again p' is' inside' again' e') = e ∙ sym e'
page_refused_one size earlier line f g (NoPageLine none e) (Outside p is past e') = absurd (none p is)
page_refused_one size earlier line f g (NoPageLine none e) (Again p is inside again e') = absurd (none p is)
page_refused_one size earlier line f g (Outside p is past e) (NoPageLine none e') = absurd (none p is)
page_refused_one size earlier line f g (Again p is inside again e) (NoPageLine none e') = absurd (none p is)
page_refused_one size earlier line f g (Outside p is past e) (Again p' is' inside again e') = absurd (omega (arith, past, inside, ap (λ (q : Page). q.offset) (page_one _ p p' is is')))
page_refused_one size earlier line f g (Again p' is' inside again e) (Outside p is past e') = absurd (omega (arith, past, inside, ap (λ (q : Page). q.offset) (page_one _ p p' is is')))

refused_one : (size : ℕ) (lines : List Line) (f g : LayoutFault) → FirstRefused size lines f → FirstRefused size lines g → f ≡ g
refused_one size lines f g one two = by_places (places one.front two.front one.line two.line one.others two.others (sym one.whole ∙ two.whole))
  where
    by_places : Places one.front two.front one.line two.line → f ≡ g
    by_places (Same fronts line) =
        let pages : one.pages ≡ two.pages = pages_one two.front one.pages two.pages (subst (λ ls. AllZip IsLineOf ls one.pages) fronts one.listed.spelled) two.listed.spelled in
        page_refused_one size two.pages two.line f g (subst (λ l. RefusesPage size two.pages l f) line (subst (λ ps. RefusesPage size ps one.line f) pages one.refused)) two.refused
    by_places (Before more e) =
        absurd (listed_not size two.front two.pages f two.listed (record { front = one.front; line = one.line; others = more; pages = one.pages; whole = e; listed = one.listed; refused = one.refused }))
    by_places (After more e) =
        absurd (listed_not size one.front one.pages g one.listed (record { front = two.front; line = two.line; others = more; pages = two.pages; whole = e; listed = two.listed; refused = two.refused }))

enclave_not : (line : Line) (size ssa : ℕ) (fault : LayoutFault) → IsEnclaveLine line.1 size ssa → IsSize size → RefusesEnclave line fault → ⊥
enclave_not line size ssa fault is good (NoEnclaveLine none e) = none size ssa is
enclave_not line size ssa fault is good (NoSize size' ssa' is' bad e) = bad (subst IsSize (enclave_one _ size ssa size' ssa' is is').0 good)

enclave_refused_one : (line : Line) (f g : LayoutFault) → RefusesEnclave line f → RefusesEnclave line g → f ≡ g
enclave_refused_one line f g (NoEnclaveLine none e) (NoEnclaveLine none' e') = e ∙ sym e'
enclave_refused_one line f g (NoSize size ssa is bad e) (NoSize size' ssa' is' bad' e') = e ∙ sym e'
enclave_refused_one line f g (NoEnclaveLine none e) (NoSize size ssa is bad e') = absurd (none size ssa is)
enclave_refused_one line f g (NoSize size ssa is bad e) (NoEnclaveLine none e') = absurd (none size ssa is)

-- what follows a first line that lists no layout
pub data Tail (first : Line) (lines : List Line) (outcome : Result Listed LayoutFault) : Type 0 where
  Lists : (size ssa : ℕ) (pages : List Page) → IsEnclaveLine first.1 size ssa → IsSize size → ListPages size lines pages → outcome ≡ Ok (record { size = size; ssa = ssa; pages = pages }) → Tail first lines outcome
  BadFirst : (fault : LayoutFault) → RefusesEnclave first fault → outcome ≡ Err fault → Tail first lines outcome
  BadOther : (size ssa : ℕ) (fault : LayoutFault) → IsEnclaveLine first.1 size ssa → IsSize size → FirstRefused size lines fault → outcome ≡ Err fault → Tail first lines outcome

tail_one : (first : Line) (lines : List Line) (a b : Result Listed LayoutFault) → Tail first lines a → Tail first lines b → a ≡ b
tail_one first lines a b (Lists size ssa pages is good listed e) (Lists size' ssa' pages' is' good' listed' e') =
    let same = enclave_one _ size ssa size' ssa' is is' in
    let all = pages_one lines pages pages' listed.spelled listed'.spelled in
    e ∙ rw (same.0, same.1, all) refl ∙ sym e'
tail_one first lines a b (BadFirst f bad e) (BadFirst g bad' e') = e ∙ ap Err (enclave_refused_one first f g bad bad') ∙ sym e'
tail_one first lines a b (BadOther size ssa f is good bad e) (BadOther size' ssa' g is' good' bad' e') =
    let same = (enclave_one _ size ssa size' ssa' is is').0 in
    e ∙ ap Err (refused_one size' lines f g (subst (λ n. FirstRefused n lines f) same bad) bad') ∙ sym e'
tail_one first lines a b (Lists size ssa pages is good listed e) (BadFirst f bad e') = absurd (enclave_not first size ssa f is good bad)
tail_one first lines a b (BadFirst f bad e') (Lists size ssa pages is good listed e) = absurd (enclave_not first size ssa f is good bad)
tail_one first lines a b (BadOther size ssa g is good refused e) (BadFirst f bad e') = absurd (enclave_not first size ssa f is good bad)
tail_one first lines a b (BadFirst f bad e') (BadOther size ssa g is good refused e) = absurd (enclave_not first size ssa f is good bad)
tail_one first lines a b (Lists size ssa pages is good listed e) (BadOther size' ssa' g is' good' refused e') =
    absurd (listed_not size lines pages g listed (subst (λ n. FirstRefused n lines g) (sym (enclave_one _ size ssa size' ssa' is is').0) refused))
tail_one first lines a b (BadOther size' ssa' g is' good' refused e') (Lists size ssa pages is good listed e) =
    absurd (listed_not size lines pages g listed (subst (λ n. FirstRefused n lines g) (sym (enclave_one _ size ssa size' ssa' is is').0) refused))

-- no line is read, or some are
data Split (text : List ℕ) (outcome : Result Listed LayoutFault) : Type 0 where
  Empty : read_lines text ≡ [] → outcome ≡ Err (faults.BadLine (length (lines_of text) + 1)) → Split text outcome
  Some : (first : Line) (lines : List Line) → read_lines text ≡ first ∷ lines → Tail first lines outcome → Split text outcome

split : (text : List ℕ) (outcome : Result Listed LayoutFault) → ReadsTo text outcome → Split text outcome
split text outcome (NoLines none e) = Empty none e
split text outcome (Whole first lines size ssa pages read is good listed e) = Some first lines read (Lists size ssa pages is good listed e)
split text outcome (NoEnclave first lines fault read bad e) = Some first lines read (BadFirst fault bad e)
split text outcome (NoPage first lines size ssa fault read is good bad e) = Some first lines read (BadOther size ssa fault is good bad e)

no_lines : (first : Line) (lines : List Line) → [] ≡ first ∷ lines → ⊥
no_lines first lines same = omega (arith, ap (λ (ls : List Line). length ls) same)

split_one : (text : List ℕ) (a b : Result Listed LayoutFault) → Split text a → Split text b → a ≡ b
split_one text a b (Empty none e) (Empty none' e') = e ∙ sym e'
split_one text a b (Some first lines read tail) (Some first' lines' read' tail') =
    let same = sym read ∙ read' in
    tail_one first' lines' a b (subst (λ ls. Tail first' ls a) (tail_same first first' lines lines' same) (subst (λ l. Tail l lines a) (head_same first first' lines lines' same) tail)) tail'
split_one text a b (Empty none e) (Some first lines read tail) = absurd (no_lines first lines (sym none ∙ read))
split_one text a b (Some first lines read tail) (Empty none e) = absurd (no_lines first lines (sym none ∙ read))

pub reads_one : (text : List ℕ) (a b : Result Listed LayoutFault) → ReadsTo text a → ReadsTo text b → a ≡ b
reads_one text a b one two = split_one text a b (split text a one) (split text b two)

-- the two clauses of a result that is the text's outcome
pub no_other : (text : List ℕ) (result : Result Listed LayoutFault) → (result ≡ Err faults.Memory) ⊎ ReadsTo text result → (outcome : Result Listed LayoutFault) → ReadsTo text outcome → (result ≡ Err faults.Memory) ⊎ (result ≡ outcome)
no_other text result (inl want) outcome reads = inl want
no_other text result (inr is) outcome reads = inr (reads_one text result outcome is reads)
