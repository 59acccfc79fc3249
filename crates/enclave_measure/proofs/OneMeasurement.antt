-- The same answers lead to one outcome.
use Rattle.std.proofs.Common.{◌≡◌, ◌∙◌, ℕ, Bool, true, false, List, [], ◌∷◌, ◌++◌, length, refl, sym, ap, subst, Result, Ok, Err, Some, None}
use Rattle.std.proofs.lemmas.List.{append_assoc}
use Rattle.pf_io.specs.Host.{Name, Answer, LengthWas, Gave}
use Rattle.enclave_measure.specs.declared.page.Page.{Page}
use Rattle.enclave_measure.specs.declared.page.Source.{Source}
use Rattle.enclave_measure.specs.declared.page.Source.TheVariants as sources
use Rattle.enclave_measure.specs.declared.fault.MeasureFault.{MeasureFault}
use Rattle.enclave_measure.specs.declared.fault.MeasureFault.TheVariants as faults
use Rattle.enclave_measure.specs.Pages.{PAGE, Listed}
use Rattle.enclave_measure.specs.Records.{padded, measurement}
use Rattle.enclave_measure.specs.Measuring.{SourceGives, GivesWhere, PageGives, Gives, IsOfFile, Measures, Whole, Ended, IsDecided}
use Rattle.enclave_measure.proofs.Places.{Places, Same, Before, After, places}
use Rattle.enclave_measure.proofs.Absent.{absent_exactly}

given_same : (name : Name) (at size size' : ℕ) (given given' : List ℕ) (u v : List Answer) → LengthWas name (Some size) ∷ Gave name at PAGE given ∷ u ≡ LengthWas name (Some size') ∷ Gave name at PAGE given' ∷ v → (given ≡ given') × (u ≡ v)
given_same name at size size' given given' u v same =
    let first : given ≡ given' = cc in
    let rest : u ≡ v = cc in
    (first, rest)

source_gives_one : (source : Source) (f g u v : List Answer) (bytes bytes' : List ℕ) → SourceGives source f bytes → SourceGives source g bytes' → f ++ u ≡ g ++ v → (bytes ≡ bytes') × (u ≡ v)
source_gives_one sources.Zero f g u v bytes bytes' one two same =
    (one.1 ∙ sym two.1, ap (λ (ts : List Answer). ts ++ u) (sym one.0) ∙ same ∙ ap (λ (ts : List Answer). ts ++ v) two.0)
source_gives_one (sources.File name at) f g u v bytes bytes' one two same =
    let all = ap (λ (ts : List Answer). ts ++ u) (sym one.2) ∙ same ∙ ap (λ (ts : List Answer). ts ++ v) two.2 in
    let both = given_same name at one.0 two.0 one.1 two.1 u v all in
    (one.4 ∙ ap padded both.0 ∙ sym two.4, both.1)

page_gives_one : (measured : Bool) (source : Source) (f g u v : List Answer) (bytes bytes' : List ℕ) → GivesWhere measured source f bytes → GivesWhere measured source g bytes' → f ++ u ≡ g ++ v → (bytes ≡ bytes') × (u ≡ v)
page_gives_one true source f g u v bytes bytes' one two same = source_gives_one source f g u v bytes bytes' one two same
page_gives_one false source f g u v bytes bytes' one two same =
    (one.1 ∙ sym two.1, ap (λ (ts : List Answer). ts ++ u) (sym one.0) ∙ same ∙ ap (λ (ts : List Answer). ts ++ v) two.0)

gives_one : (pages : List Page) (f g u v : List Answer) (given given' : List (List ℕ)) → Gives pages f given → Gives pages g given' → f ++ u ≡ g ++ v → (given ≡ given') × (u ≡ v)
gives_one [] f g u v given given' one two same =
    (one.1 ∙ sym two.1, ap (λ (ts : List Answer). ts ++ u) (sym one.0) ∙ same ∙ ap (λ (ts : List Answer). ts ++ v) two.0)
gives_one (page ∷ pages) f g u v given given' one two same =
    let left : one.0 ++ (one.1 ++ u) ≡ f ++ u = sym (append_assoc one.0 one.1 u) ∙ ap (λ (ts : List Answer). ts ++ u) (sym one.6) in
    let right : g ++ v ≡ two.0 ++ (two.1 ++ v) = ap (λ (ts : List Answer). ts ++ v) two.6 ∙ append_assoc two.0 two.1 v in
    let first = page_gives_one page.measured page.source one.0 two.0 (one.1 ++ u) (two.1 ++ v) one.2 two.2 one.4 two.4 (left ∙ same ∙ right) in
    let rest = gives_one pages one.1 two.1 u v one.3 two.3 one.5 two.5 first.1 in
    (one.7 ∙ rw (first.0, rest.0) refl ∙ sym two.7, rest.1)

-- the answers up to a page, those for it, and the others
record Around (front : List Page) (page : Page) (these : List Answer) : Type 0 where
  first : List Answer
  given : List (List ℕ)
  middle : List Answer
  bytes : List ℕ
  last : List Answer
  gives : Gives front first given
  here : PageGives page middle bytes
  whole : these ≡ first ++ (middle ++ last)

around : (front : List Page) (page : Page) (more : List Page) (these : List Answer) (given : List (List ℕ)) → Gives (front ++ page ∷ more) these given → Around front page these
around [] page more these given gives = record { first = []; given = []; middle = gives.0; bytes = gives.2; last = gives.1; gives = (refl, refl); here = gives.4; whole = gives.6 }
around (p ∷ front) page more these given gives =
    let rest = around front page more gives.1 gives.3 gives.5 in
    record {
      first = gives.0 ++ rest.first;
      given = gives.2 ∷ rest.given;
      middle = rest.middle;
      bytes = rest.bytes;
      last = rest.last;
      gives = (gives.0, rest.first, gives.2, rest.given, gives.4, rest.gives, refl, refl);
      here = rest.here;
      whole = gives.6 ∙ ap (λ (ts : List Answer). gives.0 ++ ts) rest.whole ∙ sym (append_assoc gives.0 rest.first (rest.middle ++ rest.last));
    }

there_not : (name other : Name) (at size : ℕ) (given : List ℕ) (z : List Answer) → LengthWas name (Some size) ∷ Gave name at PAGE given ∷ z ≡ LengthWas other None ∷ [] → ⊥
there_not name other at size given z same = absurd (cc)

source_there_not : (source : Source) (name other : Name) (at : ℕ) (middle z : List Answer) (bytes : List ℕ) → source ≡ sources.File name at → SourceGives source middle bytes → middle ++ z ≡ LengthWas other None ∷ [] → ⊥
source_there_not sources.Zero name other at middle z bytes is gives same = absurd (cc)
source_there_not (sources.File name' at') name other at middle z bytes is gives same = there_not name' other at' gives.0 gives.1 z (ap (λ (ts : List Answer). ts ++ z) (sym gives.2) ∙ same)

page_there_not : (measured : Bool) (source : Source) (name other : Name) (at : ℕ) (middle z : List Answer) (bytes : List ℕ) → measured ≡ true → source ≡ sources.File name at → GivesWhere measured source middle bytes → middle ++ z ≡ LengthWas other None ∷ [] → ⊥
page_there_not true source name other at middle z bytes yes_measured is gives same = source_there_not source name other at middle z bytes is gives same
page_there_not false source name other at middle z bytes yes_measured is gives same = absurd (cc)

-- where the answers for a page are that its file is absent, no later page was asked for
not_before : (f g : List Page) (page : Page) (more : List Page) (asked asked' these : List Answer) (given given' : List (List ℕ)) (name other name' : Name) (at : ℕ)
    → g ≡ f ++ page ∷ more → Gives f asked given → Gives g asked' given' → IsOfFile page name at → these ≡ asked ++ (LengthWas other None ∷ []) → these ≡ asked' ++ (LengthWas name' None ∷ []) → ⊥
not_before f g page more asked asked' these given given' name other name' at e one two of first second =
    let at_page = around f page more asked' given' (subst (λ (ps : List Page). Gives ps asked' given') e two) in
    let whole : at_page.first ++ (at_page.middle ++ (at_page.last ++ (LengthWas name' None ∷ []))) ≡ asked ++ (LengthWas other None ∷ []) =
    ap (λ (ts : List Answer). at_page.first ++ ts) (sym (append_assoc at_page.middle at_page.last (LengthWas name' None ∷ []))) ∙ sym (append_assoc at_page.first (at_page.middle ++ at_page.last) (LengthWas name' None ∷ []))
    ∙ ap (λ (ts : List Answer). ts ++ (LengthWas name' None ∷ [])) (sym at_page.whole) ∙ sym second ∙ first in
    let rest = gives_one f at_page.first asked (at_page.middle ++ (at_page.last ++ (LengthWas name' None ∷ []))) (LengthWas other None ∷ []) at_page.given given at_page.gives one whole in
    page_there_not page.measured page.source name other at at_page.middle (at_page.last ++ (LengthWas name' None ∷ [])) at_page.bytes of.measured of.source at_page.here rest.1

ok_or : (outcome : Result (List ℕ) MeasureFault) (bytes : List ℕ) (page : ℕ) → outcome ≡ Ok bytes → outcome ≡ Err (faults.NotFound page) → ⊥
ok_or outcome bytes page is refused = absurd (cc)

decided_not : {X : Type 0} (outcome : Result (List ℕ) MeasureFault) → outcome ≡ Err faults.Host → IsDecided outcome → X
decided_not outcome is decided = absurd (subst IsDecided is decided)

pub measures_one : (layout : Listed) (these : List Answer) (outcome other : Result (List ℕ) MeasureFault) → Measures layout these outcome → Measures layout these other → IsDecided outcome → IsDecided other → outcome ≡ other
measures_one layout these outcome other (Whole given gives is) (Whole given' gives' is') d d' =
    is ∙ ap (λ (cs : List (List ℕ)). Ok (measurement layout cs)) (gives_one layout.pages these these [] [] given given' gives gives' refl).0 ∙ sym is'
measures_one layout these outcome other (Whole given gives is) (Ended front page others asked last given' name at (faults.NotFound k) whole gives' of ends said is') d d' =
    let some = (absent_exactly layout these other (Ended front page others asked last given' name at (faults.NotFound k) whole gives' of ends said is')).0 (k, is') in
    let none = (absent_exactly layout these outcome (Whole given gives is)).1 some in
    absurd (ok_or outcome (measurement layout given) none.0 is none.1)
measures_one layout these outcome other (Ended front page others asked last given' name at (faults.NotFound k) whole gives' of ends said is') (Whole given gives is) d d' =
    let some = (absent_exactly layout these outcome (Ended front page others asked last given' name at (faults.NotFound k) whole gives' of ends said is')).0 (k, is') in
    let none = (absent_exactly layout these other (Whole given gives is)).1 some in
    absurd (ok_or other (measurement layout given) none.0 is none.1)
measures_one layout these outcome other (Ended f p o asked last given name at (faults.NotFound k) whole gives of ends said is) (Ended g q r asked' last' given' name' at' (faults.NotFound k') whole' gives' of' ends' said' is') d d' =
    by_places (places f g p q o r (sym whole ∙ whole'))
  where
    first : these ≡ asked ++ (LengthWas name None ∷ [])
    first = said ∙ ap (λ (ts : List Answer). asked ++ ts) ends.1

    second : these ≡ asked' ++ (LengthWas name' None ∷ [])
    second = said' ∙ ap (λ (ts : List Answer). asked' ++ ts) ends'.1

    by_places : Places f g p q → outcome ≡ other
    by_places (Same fronts pages) = is ∙ ap (λ (n : ℕ). Err (faults.NotFound n)) (ends.0 ∙ ap (λ (ps : List Page). length ps) fronts ∙ sym ends'.0) ∙ sym is'
    by_places (Before more e) = absurd (not_before f g p more asked asked' these given given' name name name' at e gives gives' of first second)
    by_places (After more e) = absurd (not_before g f q more asked' asked these given' given name' name' name at' e gives' gives of' second first)
measures_one layout these outcome other (Ended f p o asked last given name at faults.Host whole gives of ends said is) two d d' = decided_not outcome is d
measures_one layout these outcome other one (Ended f p o asked last given name at faults.Host whole gives of ends said is) d d' = decided_not other is d'
