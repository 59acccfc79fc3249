-- How the summing of all trusted files ends.
use Rattle.std.specs.Prelude.{◌≡◌, ℕ, ◌+◌, Bool, true, false, List, [], ◌∷◌, ◌++◌, Option, Some, None, Result, Ok, Err, OnOk}
use Rattle.std.specs.List.{count_by}
use Rattle.pf_io.specs.Host.{Name, Files, Answer, LengthWas, Gave, Wrote, WasCut, Synced, Made, Swapped, Removed, HostState, OnHonest}
use Rattle.pf_io.specs.Answered.{Answered}
use Rattle.manifest_model.specs.declared.entries.Trusted.{Trusted}
use Rattle.pf_io.specs.Slices.{ReadsSlices}
use Rattle.file_sums.specs.Summing.{IsSumOf, SumEnds, slices_asked, IsSummed, SumsFile}
use Rattle.file_sums.specs.declared.fault.SumFault.{SumFault}
use Rattle.file_sums.specs.declared.fault.SumFault.TheVariants as sum_faults
use Rattle.file_sums.specs.declared.fault.AllFault.{AllFault}
use Rattle.file_sums.specs.declared.fault.AllFault.TheVariants as faults

-- a result, of which only a fault of the host counts as a fault
abbrev pub all_host_part : {T : Type 0} → Result T AllFault → Result (Unit {0}) (Unit {0})
all_host_part (Ok value) = Ok tt
all_host_part (Err (faults.At name sum_faults.NotFound)) = Ok tt
all_host_part (Err (faults.At name sum_faults.TooLarge)) = Ok tt
all_host_part (Err (faults.At name sum_faults.Host)) = Err tt
all_host_part (Err faults.Memory) = Ok tt

-- The answers give a sum: where one is listed, nothing is asked and it is that one; else it is that of the file.
abbrev pub GivesSum : Option (List ℕ) → Name → List Answer → List ℕ → Type 0
GivesSum (Some listed) name these sum = (these ≡ []) × (sum ≡ listed)
GivesSum None name these sum = IsSumOf sum name these

-- so for each entry, in order
abbrev pub Gives : List Trusted → List Answer → List (List ℕ) → Type 0
Gives [] these sums = (these ≡ []) × (sums ≡ [])
Gives (entry ∷ entries) these sums =
    (first others : List Answer) × (sum : List ℕ) × (rest : List (List ℕ)) × GivesSum entry.sum entry.name first sum × Gives entries others rest × (these ≡ first ++ others) × (sums ≡ sum ∷ rest)

-- the host gave bytes of a file
abbrev pub is_slice : Answer → Bool
is_slice (LengthWas name length) = false
is_slice (Gave name place room bytes) = true
is_slice (Wrote name place bytes) = false
is_slice (WasCut name length) = false
is_slice (Synced name) = false
is_slice (Made name) = false
is_slice (Swapped from to) = false
is_slice (Removed name) = false

-- The answers give all sums; or those before the first file that is refused, after which nothing is asked; or, where
-- memory is wanting, those before an entry that is left. So many slices are asked for.
pub data AllEnd (entries : List Trusted) (these : List Answer) (slices : ℕ) (outcome : Result (List (List ℕ)) AllFault) : Type 0 where
  Whole : (sums : List (List ℕ)) → Gives entries these sums → slices ≡ count_by is_slice these → outcome ≡ Ok sums → AllEnd entries these slices outcome
  Refused : (front : List Trusted) (entry : Trusted) (others : List Trusted) (asked last : List Answer) (sums : List (List ℕ)) (why : SumFault)
      → entries ≡ front ++ entry ∷ others → Gives front asked sums → entry.sum ≡ None → SumEnds (Err why) entry.name last
      → these ≡ asked ++ last → slices ≡ count_by is_slice asked + slices_asked {T = List ℕ} (Err why) last → outcome ≡ Err (faults.At entry.name why) → AllEnd entries these slices outcome
  Starved : (front : List Trusted) (entry : Trusted) (others : List Trusted) (sums : List (List ℕ)) → entries ≡ front ++ entry ∷ others → Gives front these sums → slices ≡ count_by is_slice these → outcome ≡ Err faults.Memory → AllEnd entries these slices outcome

-- Some answers came, and by them the summing ends. Where there are none and no call failed, none was made.
pub record AreSummed (result : Result (List (List ℕ)) AllFault) (entries : List Trusted) (before after : HostState) : Type 0 where
  pub these : List Answer
  pub answered : Answered these before after
  pub slices : ℕ
  pub counts : ReadsSlices slices before after
  pub untouched : OnOk (all_host_part result) (these ≡ [] → after ≡ before)
  pub ends : AllEnd entries these slices result

-- over files: the listed sum, or else that of the file
abbrev pub IsSumIn : Option (List ℕ) → Option (List ℕ) → List ℕ → Type 0
IsSumIn (Some listed) there sum = sum ≡ listed
IsSumIn None there sum = SumsFile (Ok sum) there

-- so for each entry, in order
abbrev pub AreSumsIn : Files → List Trusted → List (List ℕ) → Type 0
AreSumsIn files [] sums = sums ≡ []
AreSumsIn files (entry ∷ entries) sums = (sum : List ℕ) × (rest : List (List ℕ)) × IsSumIn entry.sum (files entry.name) sum × AreSumsIn files entries rest × (sums ≡ sum ∷ rest)

-- the first entry without a listed sum whose file is refused
pub record IsFirstRefused (files : Files) (entries : List Trusted) (name : Name) (why : SumFault) : Type 0 where
  pub front : List Trusted
  pub entry : Trusted
  pub others : List Trusted
  pub sums : List (List ℕ)
  pub whole : entries ≡ front ++ entry ∷ others
  pub before : AreSumsIn files front sums
  pub unlisted : entry.sum ≡ None
  pub refused : SumsFile (Err why) (files entry.name)
  pub name_is : name ≡ entry.name

abbrev pub SumsFiles : Files → List Trusted → Result (List (List ℕ)) AllFault → Type 0
SumsFiles files entries (Ok sums) = AreSumsIn files entries sums
SumsFiles files entries (Err (faults.At name why)) = IsFirstRefused files entries name why
SumsFiles files entries (Err faults.Memory) = Unit {0}

-- over an honest host the sums are those of its files
abbrev pub AreOfFiles : Result (List (List ℕ)) AllFault → List Trusted → HostState → Type 0
AreOfFiles result entries before = OnHonest before (λ files. SumsFiles files entries result)

-- how the summing of one entry ends
pub data EntryEnds (result : Result (List ℕ) SumFault) (entry : Trusted) (before after : HostState) : Type 0 where
  Listed : (listed : List ℕ) → entry.sum ≡ Some listed → result ≡ Ok listed → after ≡ before → EntryEnds result entry before after
  Unlisted : entry.sum ≡ None → IsSummed result entry.name before after → EntryEnds result entry before after
