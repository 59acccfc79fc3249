-- What a text lists as a layout, or why it is refused.
use Rattle.std.specs.Prelude.{◌≡◌, ℕ, ◌+◌, ◌<◌, ◌==◌, Bool, true, false, List, [], ◌∷◌, ◌++◌, length, Result, Ok, Err, ⊤}
use Rattle.std.specs.List.{AllByRecursion, AllZip, list_any}
use Rattle.enclave_measure.specs.declared.page.Page.{Page}
use Rattle.enclave_measure.specs.declared.fault.LayoutFault.{LayoutFault}
use Rattle.enclave_measure.specs.declared.fault.LayoutFault.TheVariants as faults
use Rattle.enclave_measure.specs.Lines.{Line, lines_of, read_lines}
use Rattle.enclave_measure.specs.Pages.{PAGE, Listed, IsInside, IsEnclaveLine, IsSize, IsPageLine}

-- a page has this offset
abbrev pub has_offset : ℕ → List Page → Bool
has_offset offset pages = list_any (λ page. page.offset == offset) pages

-- no two pages have one offset
abbrev pub AreApart : List Page → Type 0
AreApart [] = ⊤
AreApart (page ∷ pages) = (has_offset page.offset pages ≡ false) × AreApart pages

abbrev pub IsLineOf : Line → Page → Type 0
IsLineOf line page = IsPageLine line.1 page

-- the lines list these pages in an enclave of this size
pub record ListPages (size : ℕ) (lines : List Line) (pages : List Page) : Type 0 where
  pub spelled : AllZip IsLineOf lines pages
  pub inside : AllByRecursion (IsInside size) pages
  pub apart : AreApart pages

-- why the first line that is read is refused
pub data RefusesEnclave (line : Line) (fault : LayoutFault) : Type 0 where
  NoEnclaveLine : ((size ssa : ℕ) → ¬ (IsEnclaveLine line.1 size ssa)) → fault ≡ faults.BadLine line.0 → RefusesEnclave line fault
  NoSize : (size ssa : ℕ) → IsEnclaveLine line.1 size ssa → ¬ (IsSize size) → fault ≡ faults.BadSize line.0 → RefusesEnclave line fault

-- why a line after those of some pages is refused
pub data RefusesPage (size : ℕ) (earlier : List Page) (line : Line) (fault : LayoutFault) : Type 0 where
  NoPageLine : ((page : Page) → ¬ (IsPageLine line.1 page)) → fault ≡ faults.BadLine line.0 → RefusesPage size earlier line fault
  Outside : (page : Page) → IsPageLine line.1 page → size < page.offset + PAGE → fault ≡ faults.OutOfRange line.0 → RefusesPage size earlier line fault
  Again : (page : Page) → IsPageLine line.1 page → IsInside size page → has_offset page.offset earlier ≡ true → fault ≡ faults.Repeated line.0 → RefusesPage size earlier line fault

-- the first of the lines that is refused, after those of some pages
pub record FirstRefused (size : ℕ) (lines : List Line) (fault : LayoutFault) : Type 0 where
  pub front : List Line
  pub line : Line
  pub others : List Line
  pub pages : List Page
  pub whole : lines ≡ front ++ line ∷ others
  pub listed : ListPages size front pages
  pub refused : RefusesPage size pages line fault

-- The text lists a layout; or none of its lines is read, and it is refused after the last one; or the first line that is
-- read is refused, or the first of the others that is.
pub data ReadsTo (text : List ℕ) (outcome : Result Listed LayoutFault) : Type 0 where
  Whole : (first : Line) (lines : List Line) (size ssa : ℕ) (pages : List Page)
      → read_lines text ≡ first ∷ lines → IsEnclaveLine first.1 size ssa → IsSize size → ListPages size lines pages
      → outcome ≡ Ok (record { size = size; ssa = ssa; pages = pages }) → ReadsTo text outcome
  NoLines : read_lines text ≡ [] → outcome ≡ Err (faults.BadLine (length (lines_of text) + 1)) → ReadsTo text outcome
  NoEnclave : (first : Line) (lines : List Line) (fault : LayoutFault)
      → read_lines text ≡ first ∷ lines → RefusesEnclave first fault → outcome ≡ Err fault → ReadsTo text outcome
  NoPage : (first : Line) (lines : List Line) (size ssa : ℕ) (fault : LayoutFault)
      → read_lines text ≡ first ∷ lines → IsEnclaveLine first.1 size ssa → IsSize size → FirstRefused size lines fault
      → outcome ≡ Err fault → ReadsTo text outcome
