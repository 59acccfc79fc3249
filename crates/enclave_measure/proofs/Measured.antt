-- Pages measured one after another, and what their answers say of an honest host's files.
use Rattle.std.proofs.Common.{◌≡◌, ◌≢◌, ◌∙◌, ℕ, zero, suc, ◌<◌, ◌≤◌, ◌^◌, Bool, true, false, List, [], ◌∷◌, ◌++◌, length, get_or, map, refl, sym, ap, arith, subst, Result, Ok, Err, Option, Some, None}
use Rattle.std.specs.List.{AllByRecursion}
use Rattle.std.proofs.lemmas.List.{append_assoc, append-nil}
use Rattle.std.proofs.lemmas.Option.{IfSome_then}
use Rattle.pf_io.specs.Counts.{HasCause}
use Rattle.pf_io.specs.Host.{Name, Files, Answer, HostState, length_of, contents, files_of}
use Rattle.pf_io.specs.Answered.{IsAnswerOf}
use Rattle.pf_io.proofs.Answering.{all_split, answered_none, answered_then}
use Rattle.pf_io.proofs.Unchanged.{kept_then}
use Rattle.sha2.specs.Sha256.{sha256}
use Rattle.enclave_measure.specs.declared.page.Page.{Page}
use Rattle.enclave_measure.specs.declared.page.Source.{Source}
use Rattle.enclave_measure.specs.declared.page.Source.TheVariants as sources
use Rattle.enclave_measure.specs.declared.fault.MeasureFault.{MeasureFault}
use Rattle.enclave_measure.specs.declared.fault.MeasureFault.TheVariants as faults
use Rattle.enclave_measure.specs.Pages.{IsInside, Listed}
use Rattle.enclave_measure.specs.Records.{creation, padded, page_records, records, measured_bytes, measurement}
use Rattle.enclave_measure.specs.Measuring.{SourceGives, GivesWhere, PageGives, Gives, EndsAt, Measures, Whole, Ended, host_part, source_in, bytes_in, IsThere, MeasuresFiles, IsMeasured, IsOfFiles}
use Rattle.enclave_measure.specs.Hashing.{Asking, PageHashed, PageEnded, PagesHashed, PagesEnded}
use Rattle.enclave_measure.proofs.Asked.{counts_none, counts_then}

gives_push : (pages : List Page) (page : Page) (these last : List Answer) (contents : List (List ℕ)) (bytes : List ℕ) → Gives pages these contents → PageGives page last bytes → Gives (pages ++ page ∷ []) (these ++ last) (contents ++ bytes ∷ [])
gives_push [] page these last contents bytes so_far gives =
    (last, [], bytes, [], gives, (refl, refl), ap (λ ts. ts ++ last) so_far.0 ∙ sym (append-nil last), ap (λ cs. cs ++ bytes ∷ []) so_far.1)
gives_push (p ∷ pages) page these last contents bytes so_far gives =
    let others = so_far.1 in
    let rest = gives_push pages page so_far.1 last so_far.3 bytes so_far.5 gives in
    (so_far.0, so_far.1 ++ last, so_far.2, so_far.3 ++ bytes ∷ [], so_far.4, rest, ap (λ ts. ts ++ last) so_far.6 ∙ append_assoc so_far.0 so_far.1 last, ap (λ cs. cs ++ bytes ∷ []) so_far.7)

records_push : (pages : List Page) (page : Page) (these : List Answer) (contents : List (List ℕ)) (bytes : List ℕ) → Gives pages these contents → records (pages ++ page ∷ []) (contents ++ bytes ∷ []) ≡ records pages contents ++ page_records page bytes
records_push [] page these contents bytes gives = ap (λ (cs : List (List ℕ)). page_records page (get_or (cs ++ bytes ∷ []) 0 []) ++ []) gives.1 ∙ append-nil (page_records page bytes)
records_push (p ∷ pages) page these contents bytes gives =
    let first = gives.2 in
    let rest = gives.3 in
    let more = records_push pages page gives.1 rest bytes gives.5 in
    ap (λ (cs : List (List ℕ)). records (p ∷ (pages ++ page ∷ [])) (cs ++ bytes ∷ [])) gives.7
    ∙ ap (λ (rs : List ℕ). page_records p first ++ rs) more ∙ sym (append_assoc (page_records p first) (records pages rest) (page_records page bytes))
    ∙ ap (λ (cs : List (List ℕ)). records (p ∷ pages) cs ++ page_records page bytes) (sym gives.7)

pub hashed_none : (held : List ℕ → Type 0) (state : HostState) → PagesHashed [] held held state state
hashed_none held state = record { these = []; contents = []; answered = answered_none state; counted = counts_none state; untouched = λ none. refl; gives = (refl, refl); hashed = λ message holds. subst held (sym (append-nil message)) holds }

both_none : (xs ys : List Answer) → xs ++ ys ≡ [] → (xs ≡ []) × (ys ≡ [])
both_none [] ys none = (refl, none)
both_none (x ∷ xs) ys none = absurd (cc)

-- one page more
pub hashed_more : (pages : List Page) (page : Page) (held mid_held new_held : List ℕ → Type 0) (old mid new : HostState) → PagesHashed pages held mid_held old mid → PageHashed page mid_held new_held mid new → PagesHashed (pages ++ page ∷ []) held new_held old new
hashed_more pages page held mid_held new_held old mid new so_far this = record {
  these = so_far.these ++ this.these;
  contents = so_far.contents ++ this.bytes ∷ [];
  answered = answered_then so_far.these this.these old mid new so_far.answered this.answered;
  counted = counts_then so_far.these this.these old mid new so_far.counted this.counted;
  untouched = λ none. let parts = both_none so_far.these this.these none in this.untouched parts.1 ∙ so_far.untouched parts.0;
  gives = gives_push pages page so_far.these this.these so_far.contents this.bytes so_far.gives this.gives;
  hashed = λ message holds. subst new_held (append_assoc message (records pages so_far.contents) (page_records page this.bytes) ∙ ap (λ (rs : List ℕ). message ++ rs) (sym (records_push pages page so_far.these so_far.contents this.bytes so_far.gives)))
      (this.hashed (message ++ records pages so_far.contents) (so_far.hashed message holds));
}

-- the run ended at a page after some
pub ended_at : (pages front : List Page) (page : Page) (others : List Page) (place : ℕ) (fault : MeasureFault) (held mid_held : List ℕ → Type 0) (old mid new : HostState) → pages ≡ front ++ page ∷ others → length front ≡ place
    → PagesHashed front held mid_held old mid → PageEnded place page fault mid new → PagesEnded pages fault old new
ended_at pages front page others place fault held mid_held old mid new whole long so_far this = record {
  front = front;
  page = page;
  others = others;
  asked = so_far.these;
  last = this.these;
  contents = so_far.contents;
  name = this.name;
  at = this.at;
  whole = whole;
  gives = so_far.gives;
  of_file = this.of_file;
  ends = subst (λ n. EndsAt n this.name this.these fault) (sym long) this.ends;
  answered = answered_then so_far.these this.these old mid new so_far.answered this.answered;
  counted = counts_then so_far.these this.these old mid new so_far.counted this.counted;
}

-- more calls that only ask
pub asking_then : {S T : Type 0} (value : S) (result : Result T MeasureFault) (old mid new : HostState) → Asking (Ok value) old mid → Asking result mid new → Asking result old new
asking_then value result old mid new first second = record {
  cause = caused result second.cause;
  disk = kept_then old mid new first.disk second.disk;
}
  where
    caused : {T : Type 0} (r : Result T MeasureFault) → HasCause mid.faults new.faults (host_part r) → HasCause old.faults new.faults (host_part r)
    caused r cause = subst (λ n. HasCause n new.faults (host_part r)) first.cause.still cause

is_there : (file : Option (List ℕ)) (size : ℕ) → Some size ≡ length_of file → file ≢ None
is_there file size is none = absurd (let e : Some size ≡ None = is ∙ ap length_of none in cc)

is_absent : (file : Option (List ℕ)) → None ≡ length_of file → file ≡ None
is_absent None is = refl
is_absent (Some bytes) is = absurd (cc)

-- the source's bytes are those of the files
source_given : (files : Files) (source : Source) (these : List Answer) (bytes : List ℕ) → SourceGives source these bytes → AllByRecursion (IsAnswerOf files) these
    → ((name : Name) (at : ℕ) → source ≡ sources.File name at → files name ≢ None) × (bytes ≡ source_in files source)
source_given files sources.Zero these bytes gives all = ((λ name at is. absurd (cc)), gives.1)
source_given files (sources.File name at) these bytes gives all =
    let told = subst (AllByRecursion (IsAnswerOf files)) gives.2 all in
    ((λ name' at' is. let same : name ≡ name' = cc in subst (λ n. files n ≢ None) same (is_there (files name) gives.0 told.0)), gives.4 ∙ ap padded told.1.0)

page_given : (files : Files) (page : Page) (these : List Answer) (bytes : List ℕ) → PageGives page these bytes → AllByRecursion (IsAnswerOf files) these → IsThere files page × (bytes ≡ bytes_in files page)
page_given files page these bytes gives all = by_measured page.measured refl
  where
    by_measured : (b : Bool) → page.measured ≡ b → IsThere files page × (bytes ≡ bytes_in files page)
    by_measured true is =
        let given = source_given files page.source these bytes (subst (λ b. GivesWhere b page.source these bytes) is gives) all in
        ((λ name at of. given.0 name at of.source), given.1 ∙ sym (rw is refl))
    by_measured false is =
        let bare = subst (λ b. GivesWhere b page.source these bytes) is gives in
        ((λ name at of. let e : true ≡ false = sym of.measured ∙ is in absurd (cc)), bare.1 ∙ sym (rw is refl))

pages_given : (files : Files) (pages : List Page) (these : List Answer) (given : List (List ℕ)) → Gives pages these given → AllByRecursion (IsAnswerOf files) these → AllByRecursion (IsThere files) pages × (given ≡ map (bytes_in files) pages)
pages_given files [] these given gives all = (tt, gives.1)
pages_given files (page ∷ pages) these given gives all =
    let parts = all_split (IsAnswerOf files) gives.0 gives.1 (subst (AllByRecursion (IsAnswerOf files)) gives.6 all) in
    let first = page_given files page gives.0 gives.2 gives.4 parts.0 in
    let rest = pages_given files pages gives.1 gives.3 gives.5 parts.1 in
    ((first.0, rest.0), gives.7 ∙ rw (first.1, rest.1) refl)

pub of_files : (files : Files) (layout : Listed) (these : List Answer) (outcome : Result (List ℕ) MeasureFault) → AllByRecursion (IsAnswerOf files) these → Measures layout these outcome → MeasuresFiles files layout outcome
of_files files layout these outcome all (Whole given gives is) =
    let all_given = pages_given files layout.pages these given gives all in
    subst (MeasuresFiles files layout) (sym is) (all_given.0, ap (measurement layout) all_given.1)
of_files files layout these outcome all (Ended front page others asked last given name at fault whole gives of ends said is) =
    subst (MeasuresFiles files layout) (sym is) (by_fault fault ends)
  where
    parts : AllByRecursion (IsAnswerOf files) asked × AllByRecursion (IsAnswerOf files) last
    parts = all_split (IsAnswerOf files) asked last (subst (AllByRecursion (IsAnswerOf files)) said all)

    by_fault : (f : MeasureFault) → EndsAt (length front) name last f → MeasuresFiles files layout (Err f)
    by_fault (faults.NotFound place) ends = record {
      front = front;
      page = page;
      others = others;
      name = name;
      at = at;
      whole = whole;
      there = (pages_given files front asked given gives parts.0).0;
      of_file = of;
      absent = is_absent (files name) (subst (AllByRecursion (IsAnswerOf files)) ends.1 parts.1).0;
      place_is = ends.0;
    }
    by_fault faults.Host ends = tt

-- what an honest host answered is what its files have
pub honest_of : (layout : Listed) (outcome : Result (List ℕ) MeasureFault) (old new : HostState) → IsMeasured outcome layout old new → IsOfFiles outcome layout old
honest_of layout outcome old new came = IfSome_then (files_of old) came.answered.honest (λ files all. of_files files layout came.these outcome all came.measures)

pub ended_came : (layout : Listed) (fault : MeasureFault) (old new : HostState) → PagesEnded layout.pages fault old new → IsMeasured (Err fault) layout old new
ended_came layout fault old new ended = record {
  these = ended.asked ++ ended.last;
  answered = ended.answered;
  counted = ended.counted;
  untouched = tt;
  measures = Ended ended.front ended.page ended.others ended.asked ended.last ended.contents ended.name ended.at fault ended.whole ended.gives ended.of_file ended.ends refl refl;
}

pub inside_all : (size : ℕ) (pages : List Page) → size ≤ 2 ^ 40 → AllByRecursion (IsInside size) pages → AllByRecursion (IsInside (2 ^ 40)) pages
inside_all size [] few all = tt
inside_all size (page ∷ pages) few all = (omega (arith, few, all.0), inside_all size pages few all.1)

pub inside_at : (pages : List Page) (i : ℕ) (d : Page) → i < length pages → AllByRecursion (IsInside (2 ^ 40)) pages → IsInside (2 ^ 40) (get_or pages i d)
inside_at [] i d l all = absurd (omega (arith, l))
inside_at (page ∷ pages) zero d l all = all.0
inside_at (page ∷ pages) (suc i) d l all = inside_at pages i d (omega (arith, l)) all.1

-- all pages were hashed after the creation
pub hashed_came : (layout : Listed) (digest : List ℕ) (created hashed : List ℕ → Type 0) (old new : HostState) → PagesHashed layout.pages created hashed old new → created (creation layout.size layout.ssa)
    → ((message : List ℕ) → hashed message → digest ≡ sha256 message) → IsMeasured (Ok digest) layout old new
hashed_came layout digest created hashed old new all first ends = record {
  these = all.these;
  answered = all.answered;
  counted = all.counted;
  untouched = all.untouched;
  measures = Whole all.contents all.gives (ap Ok (ends (measured_bytes layout all.contents) (all.hashed (creation layout.size layout.ssa) first)));
}
