-- Which answers have that a file is absent.
use Rattle.std.proofs.Common.{◌≡◌, ◌∙◌, ◌↔◌, inl, inr, ℕ, Bool, true, false, ◌||◌, List, [], ◌∷◌, ◌++◌, length, ap, Result, Ok, Err}
use Rattle.std.specs.List.{list_any}
use Rattle.std.proofs.lemmas.Bool.{both_ways}
use Rattle.std.proofs.lemmas.List.Folds.{list_any-append}
use Rattle.pf_io.specs.Host.{Answer}
use Rattle.enclave_measure.specs.declared.page.Page.{Page}
use Rattle.enclave_measure.specs.declared.page.Source.{Source}
use Rattle.enclave_measure.specs.declared.page.Source.TheVariants as sources
use Rattle.enclave_measure.specs.declared.fault.MeasureFault.{MeasureFault}
use Rattle.enclave_measure.specs.declared.fault.MeasureFault.TheVariants as faults
use Rattle.enclave_measure.specs.Pages.{Listed}
use Rattle.enclave_measure.specs.Measuring.{SourceGives, GivesWhere, Gives, EndsAt, Measures, Whole, Ended, is_absence}
use Rattle.enclave_measure.proofs.Listing.{either_none}

both_none : (xs ys : List Answer) → list_any is_absence xs ≡ false → list_any is_absence ys ≡ false → list_any is_absence (xs ++ ys) ≡ false
both_none xs ys one two = list_any-append is_absence xs ys ∙ either_none (list_any is_absence xs) (list_any is_absence ys) one two

source_there : (source : Source) (these : List Answer) (bytes : List ℕ) → SourceGives source these bytes → list_any is_absence these ≡ false
source_there sources.Zero these bytes gives = ap (list_any is_absence) gives.0
source_there (sources.File name at) these bytes gives = ap (list_any is_absence) gives.2

page_there : (measured : Bool) (source : Source) (these : List Answer) (bytes : List ℕ) → GivesWhere measured source these bytes → list_any is_absence these ≡ false
page_there true source these bytes gives = source_there source these bytes gives
page_there false source these bytes gives = ap (list_any is_absence) gives.0

pub pages_there : (pages : List Page) (these : List Answer) (given : List (List ℕ)) → Gives pages these given → list_any is_absence these ≡ false
pages_there [] these given gives = ap (list_any is_absence) gives.0
pages_there (page ∷ pages) these given gives =
    ap (list_any is_absence) gives.6 ∙ both_none gives.0 gives.1 (page_there page.measured page.source gives.0 gives.2 gives.4) (pages_there pages gives.1 gives.3 gives.5)

ok_not : (outcome : Result (List ℕ) MeasureFault) (bytes : List ℕ) (page : ℕ) → outcome ≡ Ok bytes → outcome ≡ Err (faults.NotFound page) → ⊥
ok_not outcome bytes page is refused = absurd (cc)

host_not : (outcome : Result (List ℕ) MeasureFault) (page : ℕ) → outcome ≡ Err faults.Host → outcome ≡ Err (faults.NotFound page) → ⊥
host_not outcome page is refused = absurd (cc)

pub absent_exactly : (layout : Listed) (these : List Answer) (outcome : Result (List ℕ) MeasureFault) → Measures layout these outcome → ((page : ℕ) × (outcome ≡ Err (faults.NotFound page))) ↔ (list_any is_absence these ≡ true)
absent_exactly layout these outcome (Whole given gives is) =
    ((λ refused. absurd (ok_not outcome _ refused.0 is refused.1)), (λ some. absurd (both_ways _ (pages_there layout.pages these given gives) some)))
absent_exactly layout these outcome (Ended front page others asked last given name at fault whole gives of ends said is) = by_fault fault is ends
  where
    by_fault : (f : MeasureFault) → outcome ≡ Err f → EndsAt (length front) name last f → ((k : ℕ) × (outcome ≡ Err (faults.NotFound k))) ↔ (list_any is_absence these ≡ true)
    by_fault (faults.NotFound k) same at_end =
        ((λ refused. ap (list_any is_absence) said ∙ list_any-append is_absence asked last ∙ ap (λ b. list_any is_absence asked || b) (ap (list_any is_absence) at_end.1) ∙ ap (λ b. b || true) (pages_there front asked given gives)), (λ some. (k, same)))
    by_fault faults.Host same (inl none) =
        ((λ refused. absurd (host_not outcome refused.0 same refused.1)), (λ some. absurd (both_ways _ (ap (list_any is_absence) said ∙ both_none asked last (pages_there front asked given gives) (ap (list_any is_absence) none)) some)))
    by_fault faults.Host same (inr length_told) =
        ((λ refused. absurd (host_not outcome refused.0 same refused.1)), (λ some. absurd (both_ways _ (ap (list_any is_absence) said ∙ both_none asked last (pages_there front asked given gives) (ap (list_any is_absence) length_told.1)) some)))
