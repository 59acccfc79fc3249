-- A text has an outcome.
use Rattle.std.proofs.Common.{◌≡◌, ◌⊎◌, inl, inr, ℕ, ◌+◌, ◌<◌, ◌≤◌, Bool, true, false, List, [], ◌∷◌, ◌++◌, length, refl, sym, arith, subst, Result, Ok, Err}
use Rattle.std.proofs.lemmas.List.{append_assoc, append-nil}
use Rattle.enclave_measure.specs.declared.page.Page.{Page}
use Rattle.enclave_measure.specs.declared.fault.LayoutFault.{LayoutFault}
use Rattle.enclave_measure.specs.declared.fault.LayoutFault.TheVariants as faults
use Rattle.enclave_measure.specs.Lines.{Line, lines_of, read_lines, words_of}
use Rattle.enclave_measure.specs.Pages.{PAGE, Listed, IsInside, IsSize, IsEnclaveLine, IsPageLine}
use Rattle.enclave_measure.specs.Layouts.{has_offset, ListPages, NoEnclaveLine, NoSize, RefusesPage, NoPageLine, Outside, Again, FirstRefused, ReadsTo, Whole, NoLines, NoEnclave, NoPage}
use Rattle.enclave_measure.proofs.Deciding.{Sure, Found, most_sure, enclave_found, size_sure, page_found}
use Rattle.enclave_measure.proofs.Listing.{list_none, list_more}

-- the lines list pages, or one of them is the first that is refused
abbrev Ends : ℕ → List Line → Type 0
Ends size lines = ((pages : List Page) × ListPages size lines pages) ⊎ ((fault : LayoutFault) × FirstRefused size lines fault)

ends_at : (size : ℕ) (front : List Line) (line : Line) (others : List Line) (pages : List Page) (fault : LayoutFault) → ListPages size front pages → RefusesPage size pages line fault → Ends size (front ++ line ∷ others)
ends_at size front line others pages fault listed refused = inr (fault, record { front = front; line = line; others = others; pages = pages; whole = refl; listed = listed; refused = refused })

above : (a b : ℕ) → (a ≤ b → ⊥) → b < a
above a b past = omega (arith, past)

-- lines after some that list pages
pages_there : (size : ℕ) (front lines : List Line) (pages : List Page) → ListPages size front pages → Ends size (front ++ lines)
pages_there size front [] pages listed = inl (pages, subst (λ (ls : List Line). ListPages size ls pages) (sym (append-nil front)) listed)
pages_there size front (line ∷ lines) pages listed = by_form (page_found (words_of line.1)) (λ page more. pages_there size (front ++ line ∷ []) lines (pages ++ page ∷ []) more)
  where
    More : Type 0
    More = (page : Page) → ListPages size (front ++ line ∷ []) (pages ++ page ∷ []) → Ends size ((front ++ line ∷ []) ++ lines)

    by_offset : (page : Page) → IsPageLine line.1 page → IsInside size page → (again : Bool) → has_offset page.offset pages ≡ again → More → Ends size (front ++ line ∷ lines)
    by_offset page is inside true again more = ends_at size front line lines pages (faults.Repeated line.0) listed (Again page is inside again refl)
    by_offset page is inside false fresh more = subst (Ends size) (append_assoc front (line ∷ []) lines) (more page (list_more size front pages line page listed is inside fresh))

    by_place : (page : Page) → IsPageLine line.1 page → Sure (IsInside size page) → More → Ends size (front ++ line ∷ lines)
    by_place page is (inl inside) more = by_offset page is inside (has_offset page.offset pages) refl more
    by_place page is (inr past) more = ends_at size front line lines pages (faults.OutOfRange line.0) listed (Outside page is (above (page.offset + PAGE) size past) refl)

    by_form : Found (IsPageLine line.1) → More → Ends size (front ++ line ∷ lines)
    by_form (inl found) more = by_place found.0 found.1 (most_sure (found.0.offset + PAGE) size) more
    by_form (inr none) more = ends_at size front line lines pages (faults.BadLine line.0) listed (NoPageLine none refl)

module _ (text : List ℕ) where
  abbrev Outcome : Type 0
  Outcome = (outcome : Result Listed LayoutFault) × ReadsTo text outcome

  by_pages : (first : Line) (lines : List Line) (size ssa : ℕ) → read_lines text ≡ first ∷ lines → IsEnclaveLine first.1 size ssa → IsSize size → Ends size lines → Outcome
  by_pages first lines size ssa read is good (inl all) = (Ok (record { size = size; ssa = ssa; pages = all.0 }), Whole first lines size ssa all.0 read is good all.1 refl)
  by_pages first lines size ssa read is good (inr bad) = (Err bad.0, NoPage first lines size ssa bad.0 read is good bad.1 refl)

  by_size : (first : Line) (lines : List Line) (size ssa : ℕ) → read_lines text ≡ first ∷ lines → IsEnclaveLine first.1 size ssa → Sure (IsSize size) → Outcome
  by_size first lines size ssa read is (inl good) = by_pages first lines size ssa read is good (pages_there size [] lines [] (list_none size))
  by_size first lines size ssa read is (inr bad) = (Err (faults.BadSize first.0), NoEnclave first lines (faults.BadSize first.0) read (NoSize size ssa is bad refl) refl)

  by_first : (first : Line) (lines : List Line) → read_lines text ≡ first ∷ lines → Found (λ (numbers : ℕ × ℕ). IsEnclaveLine first.1 numbers.0 numbers.1) → Outcome
  by_first first lines read (inl found) = by_size first lines found.0.0 found.0.1 read found.1 (size_sure found.0.0)
  by_first first lines read (inr none) = (Err (faults.BadLine first.0), NoEnclave first lines (faults.BadLine first.0) read (NoEnclaveLine (λ size ssa is. none (size, ssa) is) refl) refl)

  by_lines : (lines : List Line) → read_lines text ≡ lines → Outcome
  by_lines [] none = (Err (faults.BadLine (length (lines_of text) + 1)), NoLines none refl)
  by_lines (first ∷ lines) read = by_first first lines read (enclave_found (words_of first.1))

  pub reads_there : Outcome
  reads_there = by_lines (read_lines text) refl
