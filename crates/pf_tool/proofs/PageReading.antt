-- The measurement of a layout's pages, from its calls.
use Rattle.std.proofs.Common.{◌≡◌, inl, inr, ℕ, Bool, true, false, List, [], ◌∷◌, ◌++◌, length, refl, subst, ap, ◌∙◌, sym, arith, append_assoc, Option, Some, None, Ok, Err}
use Rattle.std.specs.Prelude.{slice_get, replicate, if◌then◌else◌}
use Rattle.std.specs.List.{AllByRecursion}
use Rattle.std.proofs.lemmas.List.{append-nil}
use Rattle.std.proofs.lemmas.List.Sums.{fold-append}
use Rattle.pf_io.specs.Counts.{counted}
use Rattle.pf_io.specs.Disk.{Name}
use Rattle.pf_io.specs.Host.{Answer, LengthWas, Gave, HostState, Both, IsMore, OnHonest}
use Rattle.pf_io.specs.Answered.{Answered, IsAnswerOf}
use Rattle.pf_io.specs.Unchanged.{KeepsDisk}
use Rattle.enclave_measure.specs.declared.page.Page.{Page}
use Rattle.enclave_measure.specs.declared.page.Source.{Source}
use Rattle.enclave_measure.specs.declared.page.Source.TheVariants as sources
use Rattle.enclave_measure.specs.declared.fault.MeasureFault.{MeasureFault}
use Rattle.enclave_measure.specs.declared.fault.MeasureFault.TheVariants as measures
use Rattle.enclave_measure.specs.Pages.{PAGE, Listed}
use Rattle.enclave_measure.specs.Records.{padded, measurement}
use Rattle.enclave_measure.specs.Measuring.{file_at, SourceGives, GivesWhere, PageGives, Gives, IsOfFile, EndsAt, Measures, Whole, Ended, is_length, CountsReads, IsMeasured}
use Rattle.enclave_measure.specs.Measuring as measuring
use Rattle.pf_tool.specs.World.{World, with_host}
use Rattle.pf_tool.specs.Events.{Event, Answers, Puts, reads_after, writes_after}
use Rattle.pf_tool.specs.Endings.{Done, Refused, Absent, Stop}
use Rattle.pf_tool.specs.Faults.{fault_line, fault_status}
use Rattle.pf_tool.specs.Happened.{HostPassed}
use Rattle.pf_tool.specs.InputFiles.{asked}
use Rattle.pf_tool.specs.Measuring.{sum_line, IsPageFile, PagesLead, page_absent, pages_measured, PagesMeasured, NamesFile, file_named, no_room}
use Rattle.pf_tool.specs.Outcomes.{Falls}
use Rattle.pf_tool.specs.declared.fault.Fault.{Fault}
use Rattle.pf_tool.specs.declared.fault.Fault.TheVariants as faults
use Rattle.pf_tool.proofs.Asking.{asked_then, passed_asked}
use Rattle.pf_tool.proofs.Composing.{reads_then, writes_then, failed_host}
use Rattle.pf_tool.proofs.PieceRuns.{same_given}
use Rattle.pf_tool.proofs.Stopping.{refused, host_fails, starves_at}

abbrev Kept : List Event → Stop → HostState → HostState → Type 0
Kept tried stop old new = KeepsDisk old new

-- one read is counted for each length that came, so for each that bytes were given for
pub record Counted (these : List Answer) : Type 0 where
  pub reads : (n : ℕ) → measuring.reads_after n these ≡ reads_after these n
  pub writes : (n : ℕ) → writes_after these n ≡ n

counted_none : Counted []
counted_none = record { reads = λ n. refl; writes = λ n. refl }

counted_then : (xs ys : List Answer) → Counted xs → Counted ys → Counted (xs ++ ys)
counted_then xs ys first second = record {
  reads = λ n. fold-append (λ count answer. if is_length answer then counted count else count) n xs ys ∙ second.reads (measuring.reads_after n xs) ∙ ap (λ (k : ℕ). reads_after ys k) (first.reads n) ∙ sym (reads_then xs ys n);
  writes = λ n. writes_then xs ys n ∙ second.writes (writes_after xs n) ∙ first.writes n;
}

source_counted : (source : Source) (these : List Answer) (bytes : List ℕ) → SourceGives source these bytes → Counted these
source_counted sources.Zero these bytes gives = subst Counted (sym gives.0) counted_none
source_counted (sources.File name at) these bytes gives = subst Counted (sym gives.2) (record { reads = λ n. refl; writes = λ n. refl })

page_counted : (measured : Bool) (source : Source) (these : List Answer) (bytes : List ℕ) → GivesWhere measured source these bytes → Counted these
page_counted true source these bytes gives = source_counted source these bytes gives
page_counted false source these bytes gives = subst Counted (sym gives.0) counted_none

pages_counted : (pages : List Page) (these : List Answer) (contents : List (List ℕ)) → Gives pages these contents → Counted these
pages_counted [] these contents gives = subst Counted (sym gives.0) counted_none
pages_counted (page ∷ pages) these contents gives =
    subst Counted (sym gives.6) (counted_then gives.0 gives.1 (page_counted page.measured page.source gives.0 gives.2 gives.4) (pages_counted pages gives.1 gives.3 gives.5))

absent_counted : (name : Name) → Counted (LengthWas name None ∷ [])
absent_counted name = record { reads = λ n. refl; writes = λ n. refl }

-- these answers came, and no call failed
came_passed : (these : List Answer) (old new : HostState) → Answered these old new → CountsReads these old new → Counted these → new.faults ≡ old.faults → (these ≡ [] → new ≡ old) → HostPassed these old new
came_passed these old new answered counts agree calm untouched = record {
  told = answered.told;
  calm = calm;
  reads = counts.reads ∙ agree.reads old.reads;
  writes = counts.writes ∙ sym (agree.writes old.writes);
  untouched = untouched;
  honest = answered.honest;
}

-- some answers for pages, whatever they are
source_some : (source : Source) → (these : List Answer) × (bytes : List ℕ) × SourceGives source these bytes
source_some sources.Zero = ([], replicate PAGE 0, (refl, refl))
source_some (sources.File name at) = (LengthWas name (Some 0) ∷ Gave name at PAGE [] ∷ [], padded [], (0, [], refl, omega arith, refl))

page_some : (measured : Bool) (source : Source) → (these : List Answer) × (bytes : List ℕ) × GivesWhere measured source these bytes
page_some true source = source_some source
page_some false source = ([], [], (refl, refl))

pub gives_some : (pages : List Page) → (these : List Answer) × (contents : List (List ℕ)) × Gives pages these contents
gives_some [] = ([], [], (refl, refl))
gives_some (page ∷ pages) =
    let first = page_some page.measured page.source in
    let rest = gives_some pages in
    (first.0 ++ rest.0, first.1 ∷ rest.1, (first.0, rest.0, first.1, rest.1, first.2, rest.2, refl, refl))

-- pages behind a page
gives_join : (front : List Page) (page : Page) (others : List Page) (a m b : List Answer) (c : List (List ℕ)) (bytes : List ℕ) (d : List (List ℕ)) → Gives front a c → PageGives page m bytes → Gives others b d → Gives (front ++ page ∷ others) (a ++ (m ++ b)) (c ++ bytes ∷ d)
gives_join [] page others a m b c bytes d gives here rest =
    (m, b, bytes, d, here, rest, ap (λ (l : List Answer). l ++ (m ++ b)) gives.0, ap (λ (l : List (List ℕ)). l ++ bytes ∷ d) gives.1)
gives_join (first ∷ front) page others a m b c bytes d gives here rest = (
  gives.0,
  gives.1 ++ (m ++ b),
  gives.2,
  gives.3 ++ bytes ∷ d,
  gives.4,
  gives_join front page others gives.1 m b gives.3 bytes d gives.5 here rest,
  ap (λ (l : List Answer). l ++ (m ++ b)) gives.6 ∙ append_assoc gives.0 gives.1 (m ++ b),
  ap (λ (l : List (List ℕ)). l ++ bytes ∷ d) gives.7,
)

-- nothing given of the page's file
page_empty : (page : Page) (name : Name) (at size : ℕ) → IsOfFile page name at → PageGives page (LengthWas name (Some size) ∷ Gave name at PAGE [] ∷ []) (padded [])
page_empty page name at size of =
    let Given : List Answer = LengthWas name (Some size) ∷ Gave name at PAGE [] ∷ [] in
    subst (λ (b : Bool). GivesWhere b page.source Given (padded [])) (sym of.measured) (subst (λ (s : Source). SourceGives s Given (padded [])) (sym of.source) (size, [], refl, omega arith, refl))

-- the page at a place
page_at : (front : List Page) (page : Page) (others : List Page) → slice_get (front ++ page ∷ others) (length front) ≡ Some page
page_at [] page others = refl
page_at (first ∷ front) page others = page_at front page others

file_is : (pages front : List Page) (page : Page) (others : List Page) (name : Name) (at : ℕ) → pages ≡ front ++ page ∷ others → IsOfFile page name at → file_at (slice_get pages (length front)) ≡ Some name
file_is pages front page others name at whole of =
    ap (λ (l : List Page). file_at (slice_get l (length front))) whole ∙ ap (λ (p : Option Page). file_at p) (page_at front page others) ∙ ap (λ (s : Source). measuring.file_of s) of.source

module _ (layout : Listed) (old new : HostState) where
  -- a state of the host between two calls, by what it told
  abbrev Between : List Answer → HostState
  Between these = record { faults = old.faults; reads = reads_after these old.reads; writes = old.writes; widest = old.widest; given = new.given; honest = old.honest }

  untouched : (these : List Answer) → Both old.given new.given (IsMore these) → these ≡ [] → Between these ≡ old
  untouched these told none =
      let given : new.given ≡ old.given = same_given old.given new.given (subst (λ (l : List Answer). Both old.given new.given (IsMore l)) none told) in
      let reads : reads_after these old.reads ≡ old.reads = ap (λ (l : List Answer). reads_after l old.reads) none in
      rw (given, reads) refl

  came_before : (these : List Answer) → Both old.given new.given (IsMore these) → Counted these → OnHonest old (λ files. AllByRecursion (IsAnswerOf files) these) → HostPassed these old (Between these)
  came_before these told agree honest = record {
    told = told;
    calm = refl;
    reads = refl;
    writes = sym (agree.writes old.writes);
    untouched = untouched these told;
    honest = honest;
  }

  module _ (world : World) (front : List Page) (page : Page) (others : List Page) (before : List Answer) (contents : List (List ℕ)) (name : Name) (at : ℕ) (whole : layout.pages ≡ front ++ page ∷ others) (gives : Gives front before contents) (of : IsOfFile page name at) where
    -- without a length the page's file is absent
    length_next : PagesLead layout (asked before ++ Answers (LengthWas name None) ∷ []) (Refused (Absent name))
    length_next =
        page_absent (before ++ LengthWas name None ∷ []) (length front) name
        (Ended front page others before (LengthWas name None ∷ []) contents name at (measures.NotFound (length front)) whole gives of (refl, refl) refl refl)
        (file_is layout.pages front page others name at whole of) (sym (asked_then before (LengthWas name None ∷ []))) refl

    -- without bytes the run goes on
    bytes_next : (size : ℕ) → (rest : List Event) × PagesLead layout (asked (before ++ LengthWas name (Some size) ∷ []) ++ Answers (Gave name at PAGE []) ∷ rest) Done
    bytes_next size =
        let some = gives_some others in
        let here : List Answer = LengthWas name (Some size) ∷ Gave name at PAGE [] ∷ [] in
        let all : List Answer = before ++ (here ++ some.0) in
        let given = contents ++ padded [] ∷ some.1 in
        let sum = measurement layout given in
        let gives_all : Gives layout.pages all given = subst (λ (l : List Page). Gives l all given) (sym whole) (gives_join front page others before here some.0 contents (padded []) some.1 gives (page_empty page name at size of) some.2) in
        let rest : List Event = asked some.0 ++ Puts (sum_line sum) ∷ [] in
        let parts : asked all ≡ asked (before ++ LengthWas name (Some size) ∷ []) ++ Answers (Gave name at PAGE []) ∷ asked some.0 =
        ap asked (sym (append_assoc before (LengthWas name (Some size) ∷ []) (Gave name at PAGE [] ∷ some.0))) ∙ asked_then (before ++ LengthWas name (Some size) ∷ []) (Gave name at PAGE [] ∷ some.0) in
        let joined : asked all ++ Puts (sum_line sum) ∷ [] ≡ asked (before ++ LengthWas name (Some size) ∷ []) ++ Answers (Gave name at PAGE []) ∷ rest =
        ap (λ (l : List Event). l ++ Puts (sum_line sum) ∷ []) parts ∙ append_assoc (asked (before ++ LengthWas name (Some size) ∷ [])) (Answers (Gave name at PAGE []) ∷ asked some.0) (Puts (sum_line sum) ∷ []) in
        (rest, pages_measured all sum (Whole given gives_all refl) (sym joined) refl)

    -- the call for the length failed, or the one for the bytes
    call_failed : (last : List Answer) → EndsAt (length front) name last measures.Host → Answered (before ++ last) old new → CountsReads (before ++ last) old new → new.faults ≡ counted old.faults → KeepsDisk old new
        → Falls (PagesLead layout) (λ _ _. KeepsDisk) faults.Host (with_host world old) (with_host world new)
    call_failed last (inl none) answered counts once kept =
        let these : before ++ last ≡ before = ap (λ (l : List Answer). before ++ l) none ∙ append-nil before in
        let agree = pages_counted front before contents gives in
        let told = subst (λ (l : List Answer). Both old.given new.given (IsMore l)) these answered.told in
        let honest = subst (λ (l : List Answer). OnHonest old (λ files. AllByRecursion (IsAnswerOf files) l)) these answered.honest in
        host_fails (PagesLead layout) Kept (asked before) [] (Refused (Absent name)) faults.Host (with_host world old) (with_host world (Between before)) (with_host world new) (LengthWas name None) refl length_next
        (passed_asked before world old (Between before) (came_before before told agree honest))
        (failed_host (LengthWas name None) world (Between before) new (record {
          told = refl;
          once = once;
          reads = counts.reads ∙ ap (λ (l : List Answer). measuring.reads_after old.reads l) these ∙ agree.reads old.reads;
          writes = counts.writes;
        })) kept
    call_failed last (inr ends) answered counts once kept =
        let size = ends.0 in
        let these : before ++ last ≡ before ++ LengthWas name (Some size) ∷ [] = ap (λ (l : List Answer). before ++ l) ends.1 in
        let all : List Answer = before ++ LengthWas name (Some size) ∷ [] in
        let agree = pages_counted front before contents gives in
        let told = subst (λ (l : List Answer). Both old.given new.given (IsMore l)) these answered.told in
        let honest = subst (λ (l : List Answer). OnHonest old (λ files. AllByRecursion (IsAnswerOf files) l)) these answered.honest in
        let on = bytes_next size in
        let writes : writes_after all old.writes ≡ old.writes = writes_then before (LengthWas name (Some size) ∷ []) old.writes ∙ agree.writes old.writes in
        let reads : measuring.reads_after old.reads all ≡ counted (reads_after all old.reads) =
        fold-append (λ count answer. if is_length answer then counted count else count) old.reads before (LengthWas name (Some size) ∷ []) ∙ ap counted (agree.reads old.reads ∙ sym (reads_then before (LengthWas name (Some size) ∷ []) old.reads)) in
        host_fails (PagesLead layout) Kept (asked all) on.0 Done faults.Host (with_host world old) (with_host world (Between all)) (with_host world new) (Gave name at PAGE []) refl on.1
        (passed_asked all world old (Between all) (record { told = told; calm = refl; reads = refl; writes = sym writes; untouched = untouched all told; honest = honest }))
        (failed_host (Gave name at PAGE []) world (Between all) new (record {
          told = refl;
          once = once;
          reads = counts.reads ∙ ap (λ (l : List Answer). measuring.reads_after old.reads l) these ∙ reads;
          writes = counts.writes;
        })) kept

  -- a call of the host failed
  pub host_failed : (world : World) → IsMeasured (Err measures.Host) layout old new → new.faults ≡ counted old.faults → KeepsDisk old new → Falls (PagesLead layout) (λ _ _. KeepsDisk) faults.Host (with_host world old) (with_host world new)
  host_failed world came once kept = by_end came.these came.measures came.answered came.counted where
    by_end : (these : List Answer) → Measures layout these (Err measures.Host) → Answered these old new → CountsReads these old new → Falls (PagesLead layout) (λ _ _. KeepsDisk) faults.Host (with_host world old) (with_host world new)
    by_end these (Whole contents gives is) answered counts = absurd (cc)
    by_end these (Ended front page others before last contents name at fault whole gives of ends said is) answered counts =
        let same : fault ≡ measures.Host = cc in
        call_failed world front page others before contents name at whole gives of last (subst (λ (f : MeasureFault). EndsAt (length front) name last f) same ends)
        (subst (λ (l : List Answer). Answered l old new) said answered) (subst (λ (l : List Answer). CountsReads l old new) said counts) once kept

  -- the file of a page is absent
  pub record FileAbsent (page : ℕ) : Type 0 where
    pub these : List Answer
    pub name : Name
    pub measured : Measures layout these (Err (measures.NotFound page))
    pub named : IsPageFile layout page name
    pub passed : HostPassed these old new

  pub file_absent_at : (page : ℕ) → IsMeasured (Err (measures.NotFound page)) layout old new → new.faults ≡ old.faults → FileAbsent page
  file_absent_at page came calm = by_end came.these came.measures came.answered came.counted where
    by_end : (these : List Answer) → Measures layout these (Err (measures.NotFound page)) → Answered these old new → CountsReads these old new → FileAbsent page
    by_end these (Whole contents gives is) answered counts = absurd (cc)
    by_end these (Ended front here others before last contents name at fault whole gives of ends said is) answered counts =
        let same : fault ≡ measures.NotFound page = cc in
        let at_end : (page ≡ length front) × (last ≡ LengthWas name None ∷ []) = subst (λ (f : MeasureFault). EndsAt (length front) name last f) same ends in
        let all : these ≡ before ++ LengthWas name None ∷ [] = said ∙ ap (λ (l : List Answer). before ++ l) at_end.1 in
        let agree = counted_then before (LengthWas name None ∷ []) (pages_counted front before contents gives) (absent_counted name) in
        record {
          these = these;
          name = name;
          measured = Ended front here others before last contents name at fault whole gives of ends said is;
          named = subst (λ (k : ℕ). IsPageFile layout k name) (sym at_end.0) (file_is layout.pages front here others name at whole of);
          passed = came_passed these old new answered counts (subst Counted (sym all) agree) calm (λ none. absurd (not_none before (LengthWas name None) (sym all ∙ none)));
        }
      where
        not_none : (xs : List Answer) (x : Answer) → xs ++ x ∷ [] ≡ [] → ⊥
        not_none [] x none = absurd (cc)
        not_none (y ∷ xs) x none = absurd (cc)

  pub absent_falls : (world : World) (page : ℕ) (fault : Fault) → FileAbsent page → NamesFile layout page fault → KeepsDisk old new → Falls (PagesLead layout) (λ _ _. KeepsDisk) fault (with_host world old) (with_host world new)
  absent_falls world page fault absent (file_named name named is) kept =
      refused (PagesLead layout) Kept (asked absent.these) (Refused (Absent name)) fault (with_host world old) (with_host world new) (ap fault_line is) (ap fault_status is)
      (page_absent absent.these page name absent.measured named refl refl) (passed_asked absent.these world old new absent.passed) kept
  absent_falls world page fault absent (no_room is) kept =
      starves_at (PagesLead layout) Kept (asked absent.these) [] (Refused (Absent absent.name)) fault (with_host world old) (with_host world new) is tt
      (page_absent absent.these page absent.name absent.measured absent.named (append-nil (asked absent.these)) refl) (passed_asked absent.these world old new absent.passed) kept

  -- all pages were measured
  pub all_measured : (sum : List ℕ) → IsMeasured (Ok sum) layout old new → new.faults ≡ old.faults → PagesMeasured layout sum old new
  all_measured sum came calm = by_end came.measures where
    by_end : Measures layout came.these (Ok sum) → PagesMeasured layout sum old new
    by_end (Whole contents gives is) = record {
      these = came.these;
      measures = Whole contents gives is;
      passed = came_passed came.these old new came.answered came.counted (pages_counted layout.pages came.these contents gives) calm came.untouched;
    }
    by_end (Ended front page others before last contents name at fault whole gives of ends said is) = absurd (cc)
