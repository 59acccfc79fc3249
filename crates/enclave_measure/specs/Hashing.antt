-- What the parts of a measurement ask and hash.
use Rattle.std.specs.Prelude.{◌≡◌, ℕ, List, [], ◌∷◌, ◌++◌, length, Result, Ok, Err}
use Rattle.pf_io.specs.Counts.{HasCause}
use Rattle.pf_io.specs.Host.{Name, Answer, HostState}
use Rattle.pf_io.specs.Answered.{Answered}
use Rattle.pf_io.specs.Unchanged.{KeepsDisk}
use Rattle.enclave_measure.specs.declared.page.Source.{Source}
use Rattle.enclave_measure.specs.declared.page.Source.TheVariants as sources
use Rattle.enclave_measure.specs.declared.page.Page.{Page}
use Rattle.enclave_measure.specs.declared.fault.MeasureFault.{MeasureFault}
use Rattle.enclave_measure.specs.Records.{page_records, records}
use Rattle.enclave_measure.specs.Measuring.{SourceGives, PageGives, Gives, IsOfFile, EndsAt, CountsReads, host_part}

-- calls that only ask
pub record Asking {T : Type 0} (result : Result T MeasureFault) (old new : HostState) : Type 0 where
  pub cause : HasCause old.faults new.faults (host_part result)
  pub disk : KeepsDisk old new

-- the bytes of a source came
pub record SourceCame (source : Source) (bytes : List ℕ) (old new : HostState) : Type 0 where
  pub these : List Answer
  pub answered : Answered these old new
  pub counted : CountsReads these old new
  pub untouched : these ≡ [] → new ≡ old
  pub gives : SourceGives source these bytes

-- the run ended at a source of a file
pub record SourceEnded (place : ℕ) (source : Source) (fault : MeasureFault) (old new : HostState) : Type 0 where
  pub name : Name
  pub at : ℕ
  pub these : List Answer
  pub of_file : source ≡ sources.File name at
  pub answered : Answered these old new
  pub counted : CountsReads these old new
  pub ends : EndsAt place name these fault

abbrev pub SourceEnds : Result (List ℕ) MeasureFault → ℕ → Source → HostState → HostState → Type 0
SourceEnds (Ok bytes) place source old new = SourceCame source bytes old new
SourceEnds (Err fault) place source old new = SourceEnded place source fault old new

-- The bytes of a page came, where it is measured, and its records were hashed.
pub record PageHashed (page : Page) (held held_now : List ℕ → Type 0) (old new : HostState) : Type 0 where
  pub these : List Answer
  pub bytes : List ℕ
  pub answered : Answered these old new
  pub counted : CountsReads these old new
  pub untouched : these ≡ [] → new ≡ old
  pub gives : PageGives page these bytes
  pub hashed : (message : List ℕ) → held message → held_now (message ++ page_records page bytes)

-- the run ended at a page
pub record PageEnded (place : ℕ) (page : Page) (fault : MeasureFault) (old new : HostState) : Type 0 where
  pub name : Name
  pub at : ℕ
  pub these : List Answer
  pub of_file : IsOfFile page name at
  pub answered : Answered these old new
  pub counted : CountsReads these old new
  pub ends : EndsAt place name these fault

abbrev pub PageEnds : {T : Type 0} → Result T MeasureFault → ℕ → Page → (List ℕ → Type 0) → (List ℕ → Type 0) → HostState → HostState → Type 0
PageEnds (Ok value) place page held held_now old new = PageHashed page held held_now old new
PageEnds (Err fault) place page held held_now old new = PageEnded place page fault old new

-- The bytes of pages came, and their records were hashed.
pub record PagesHashed (pages : List Page) (held held_now : List ℕ → Type 0) (old new : HostState) : Type 0 where
  pub these : List Answer
  pub contents : List (List ℕ)
  pub answered : Answered these old new
  pub counted : CountsReads these old new
  pub untouched : these ≡ [] → new ≡ old
  pub gives : Gives pages these contents
  pub hashed : (message : List ℕ) → held message → held_now (message ++ records pages contents)

-- the run ended at one of the pages
pub record PagesEnded (pages : List Page) (fault : MeasureFault) (old new : HostState) : Type 0 where
  pub front : List Page
  pub page : Page
  pub others : List Page
  pub asked : List Answer
  pub last : List Answer
  pub contents : List (List ℕ)
  pub name : Name
  pub at : ℕ
  pub whole : pages ≡ front ++ page ∷ others
  pub gives : Gives front asked contents
  pub of_file : IsOfFile page name at
  pub ends : EndsAt (length front) name last fault
  pub answered : Answered (asked ++ last) old new
  pub counted : CountsReads (asked ++ last) old new

abbrev pub PagesEnd : {T : Type 0} → Result T MeasureFault → List Page → (List ℕ → Type 0) → (List ℕ → Type 0) → HostState → HostState → Type 0
PagesEnd (Ok value) pages held held_now old new = PagesHashed pages held held_now old new
PagesEnd (Err fault) pages held held_now old new = PagesEnded pages fault old new
