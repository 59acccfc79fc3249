-- What a measurement asks of a host, and what it comes to.
use Rattle.std.specs.Prelude.{◌≡◌, ◌≢◌, ◌⊎◌, ℕ, ◌≤◌, Bool, true, false, if◌then◌else◌, max, List, [], ◌∷◌, ◌++◌, length, take, drop, map, fold, Option, Some, None, Result, Ok, Err, OnOk, ⊤}
use Rattle.std.specs.List.{AllByRecursion}
use Rattle.pf_io.specs.Counts.{counted}
use Rattle.pf_io.specs.Host.{Name, Files, Answer, LengthWas, Gave, Wrote, WasCut, Synced, Made, Swapped, Removed, HostState, OnHonest, contents}
use Rattle.pf_io.specs.Answered.{Answered}
use Rattle.enclave_measure.specs.declared.page.Source.{Source}
use Rattle.enclave_measure.specs.declared.page.Source.TheVariants as sources
use Rattle.enclave_measure.specs.declared.page.Page.{Page}
use Rattle.enclave_measure.specs.declared.fault.MeasureFault.{MeasureFault}
use Rattle.enclave_measure.specs.declared.fault.MeasureFault.TheVariants as faults
use Rattle.enclave_measure.specs.Pages.{PAGE, Listed}
use Rattle.enclave_measure.specs.Records.{zeros, padded, measurement}

-- the file of a source
abbrev pub file_of : Source → Option Name
file_of sources.Zero = None
file_of (sources.File name at) = Some name

-- the file of a page that is there
abbrev pub file_at : Option Page → Option Name
file_at (Some page) = file_of page.source
file_at None = None

-- The host answered this, in order, for the bytes of a source: nothing is asked for zeros; of a file the length, and
-- then a page's bytes from its place on.
abbrev pub SourceGives : Source → List Answer → List ℕ → Type 0
SourceGives sources.Zero these bytes = (these ≡ []) × (bytes ≡ zeros PAGE)
SourceGives (sources.File name at) these bytes = (size : ℕ) × (given : List ℕ) × (these ≡ LengthWas name (Some size) ∷ Gave name at PAGE given ∷ []) × (length given ≤ PAGE) × (bytes ≡ padded given)

-- where a page is not measured, nothing is asked for it
abbrev pub GivesWhere : Bool → Source → List Answer → List ℕ → Type 0
GivesWhere true source these bytes = SourceGives source these bytes
GivesWhere false source these bytes = (these ≡ []) × (bytes ≡ [])

abbrev pub PageGives : Page → List Answer → List ℕ → Type 0
PageGives page these bytes = GivesWhere page.measured page.source these bytes

-- so for each page, in order
abbrev pub Gives : List Page → List Answer → List (List ℕ) → Type 0
Gives [] these contents = (these ≡ []) × (contents ≡ [])
Gives (page ∷ pages) these contents = (first others : List Answer) × (bytes : List ℕ) × (rest : List (List ℕ)) × PageGives page first bytes × Gives pages others rest × (these ≡ first ++ others) × (contents ≡ bytes ∷ rest)

-- the page is measured, and its bytes are those of a file
pub record IsOfFile (page : Page) (name : Name) (at : ℕ) : Type 0 where
  pub measured : page.measured ≡ true
  pub source : page.source ≡ sources.File name at

-- What the answers for a page are, where it ends the run: no length, or a call that failed and answered nothing.
abbrev pub EndsAt : ℕ → Name → List Answer → MeasureFault → Type 0
EndsAt place name these (faults.NotFound page) = (page ≡ place) × (these ≡ LengthWas name None ∷ [])
EndsAt place name these faults.Host = (these ≡ []) ⊎ ((size : ℕ) × (these ≡ LengthWas name (Some size) ∷ []))

-- The answers give the bytes of all pages; or those of the pages before the one at which the run ends, and nothing is
-- asked after it.
pub data Measures (layout : Listed) (these : List Answer) (outcome : Result (List ℕ) MeasureFault) : Type 0 where
  Whole : (contents : List (List ℕ)) → Gives layout.pages these contents → outcome ≡ Ok (measurement layout contents) → Measures layout these outcome
  Ended : (front : List Page) (page : Page) (others : List Page) (asked last : List Answer) (contents : List (List ℕ)) (name : Name) (at : ℕ) (fault : MeasureFault)
      → layout.pages ≡ front ++ page ∷ others → Gives front asked contents → IsOfFile page name at → EndsAt (length front) name last fault
      → these ≡ asked ++ last → outcome ≡ Err fault → Measures layout these outcome

-- a result, of which only a fault of the host counts as a fault
abbrev pub host_part : {T : Type 0} → Result T MeasureFault → Result (Unit {0}) (Unit {0})
host_part (Ok value) = Ok tt
host_part (Err (faults.NotFound page)) = Ok tt
host_part (Err faults.Host) = Err tt

-- it ended by its answers, and no call failed
abbrev pub IsDecided : Result (List ℕ) MeasureFault → Type 0
IsDecided (Ok measured) = ⊤
IsDecided (Err (faults.NotFound page)) = ⊤
IsDecided (Err faults.Host) = ⊥

-- the bytes of a source in files
abbrev pub source_in : Files → Source → List ℕ
source_in files sources.Zero = zeros PAGE
source_in files (sources.File name at) = padded (take PAGE (drop at (contents (files name))))

-- the bytes of a page in files, where it is measured
abbrev pub bytes_in : Files → Page → List ℕ
bytes_in files page = if page.measured then source_in files page.source else []

-- the file of a page that is measured is there
abbrev pub IsThere : Files → Page → Type 0
IsThere files page = (name : Name) (at : ℕ) → IsOfFile page name at → files name ≢ None

-- the first page that is measured and has no file
pub record IsFirstAbsent (files : Files) (pages : List Page) (place : ℕ) : Type 0 where
  pub front : List Page
  pub page : Page
  pub others : List Page
  pub name : Name
  pub at : ℕ
  pub whole : pages ≡ front ++ page ∷ others
  pub there : AllByRecursion (IsThere files) front
  pub of_file : IsOfFile page name at
  pub absent : files name ≡ None
  pub place_is : place ≡ length front

-- what the files are measured to
abbrev pub MeasuresFiles : Files → Listed → Result (List ℕ) MeasureFault → Type 0
MeasuresFiles files layout (Ok measured) = AllByRecursion (IsThere files) layout.pages × (measured ≡ measurement layout (map (bytes_in files) layout.pages))
MeasuresFiles files layout (Err (faults.NotFound page)) = IsFirstAbsent files layout.pages page
MeasuresFiles files layout (Err faults.Host) = ⊤

-- the host had a length of a file
abbrev pub is_length : Answer → Bool
is_length (LengthWas name None) = false
is_length (LengthWas name (Some length)) = true
is_length (Gave name place room bytes) = false
is_length (Wrote name place bytes) = false
is_length (WasCut name length) = false
is_length (Synced name) = false
is_length (Made name) = false
is_length (Swapped from to) = false
is_length (Removed name) = false

-- the reads that are counted after some answers: one for each length
abbrev pub reads_after : ℕ → List Answer → ℕ
reads_after reads these = fold (λ count answer. if is_length answer then counted count else count) reads these

-- One read was made for each file that had a length, also the read that failed, and no other call that is counted.
pub record CountsReads (these : List Answer) (old new : HostState) : Type 0 where
  pub reads : new.reads ≡ reads_after old.reads these
  pub writes : new.writes ≡ old.writes
  pub widest : new.widest ≤ max old.widest PAGE

-- Some answers came, which lead to the result, of calls that are all counted. Where there are none and no call failed,
-- none was made.
pub record IsMeasured (result : Result (List ℕ) MeasureFault) (layout : Listed) (old new : HostState) : Type 0 where
  pub these : List Answer
  pub answered : Answered these old new
  pub counted : CountsReads these old new
  pub untouched : OnOk result (these ≡ [] → new ≡ old)
  pub measures : Measures layout these result

-- over an honest host the result is that of its files
abbrev pub IsOfFiles : Result (List ℕ) MeasureFault → Listed → HostState → Type 0
IsOfFiles result layout old = OnHonest old (λ files. MeasuresFiles files layout result)

-- the host had no length of a file
abbrev pub is_absence : Answer → Bool
is_absence (LengthWas name None) = true
is_absence (LengthWas name (Some length)) = false
is_absence (Gave name place room bytes) = false
is_absence (Wrote name place bytes) = false
is_absence (WasCut name length) = false
is_absence (Synced name) = false
is_absence (Made name) = false
is_absence (Swapped from to) = false
is_absence (Removed name) = false
