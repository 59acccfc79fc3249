-- What was asked of a host and of random words, and what came.
use Rattle.std.specs.Prelude.{◌≡◌, ℕ, suc, ◌<◌, ◌≤◌, max, List, [], ◌∷◌, ◌++◌, length}
use Rattle.pf_io.specs.Counts.{counted, counted_times}
use Rattle.pf_io.specs.Host.{Answer, LengthWas, Gave, Wrote, WasCut, Synced, Made, Swapped, Removed, HostState, Both, IsMore}
use Rattle.pf_io.specs.Words.{WordsState}

-- the call that failed, if one did
pub data Failing : Type 0 where
  NoCall : Failing
  AReading : Failing
  AWriting : Failing
  AnotherCall : Failing

-- how many of some answers, and of the call that failed after them, are of `read_at`
abbrev pub reads_in : List Answer → Failing → ℕ
reads_in [] NoCall = 0
reads_in [] AReading = 1
reads_in [] AWriting = 0
reads_in [] AnotherCall = 0
reads_in (Gave name place room bytes ∷ these) failing = suc (reads_in these failing)
reads_in (answer ∷ these) failing = reads_in these failing

-- how many are of `write_at`
abbrev pub writes_in : List Answer → Failing → ℕ
writes_in [] NoCall = 0
writes_in [] AReading = 0
writes_in [] AWriting = 1
writes_in [] AnotherCall = 0
writes_in (Wrote name place bytes ∷ these) failing = suc (writes_in these failing)
writes_in (answer ∷ these) failing = writes_in these failing

abbrev pub faults_after : Failing → ℕ → ℕ
faults_after NoCall count = count
faults_after AReading count = counted count
faults_after AWriting count = counted count
faults_after AnotherCall count = counted count

-- These answers came, in order. Where a call failed, it is the one after them, and the last. None has more bytes than a node.
pub record Asked (these : List Answer) (failing : Failing) (old new : HostState) : Type 0 where
  pub told : Both old.given new.given (IsMore these)
  pub faults : new.faults ≡ faults_after failing old.faults
  pub reads : new.reads ≡ counted_times (reads_in these failing) old.reads
  pub writes : new.writes ≡ counted_times (writes_in these failing) old.writes
  pub widest : new.widest ≤ max old.widest 4096

-- these words were taken
abbrev pub IsTaken : List (List ℕ) → List (List ℕ) → List (List ℕ) → Type 0
IsTaken words before now = before ≡ words ++ now

pub record Took (words : List (List ℕ)) (old new : WordsState) : Type 0 where
  pub told : Both old.left new.left (IsTaken words)
  pub calm : new.faults ≡ old.faults
  pub untouched : words ≡ [] → new ≡ old

-- these words were taken, fewer than were wanted, and then none came
pub record TookFewer (wanted : ℕ) (old new : WordsState) : Type 0 where
  pub words : List (List ℕ)
  pub fewer : length words < wanted
  pub told : Both old.left new.left (IsTaken words)
  pub once : new.faults ≡ counted old.faults

-- what fails where a call was to give this answer
abbrev pub kind_of : Answer → Failing
kind_of (LengthWas name length) = AnotherCall
kind_of (Gave name place room bytes) = AReading
kind_of (Wrote name place bytes) = AWriting
kind_of (WasCut name length) = AnotherCall
kind_of (Synced name) = AnotherCall
kind_of (Made name) = AnotherCall
kind_of (Swapped from to) = AnotherCall
kind_of (Removed name) = AnotherCall

-- Of these steps the first ones were answered, the next one failed, and none after it was asked.
pub record Stopped (steps : List Answer) (old new : HostState) : Type 0 where
  pub answered : List Answer
  pub failed : Answer
  pub left : List Answer
  pub in_order : steps ≡ answered ++ failed ∷ left
  pub asked : Asked answered (kind_of failed) old new
