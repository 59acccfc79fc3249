-- Counts that rise and stand still at their last value, and the causes that rest on them.
use Rattle.std.specs.Prelude.{◌≡◌, ℕ, zero, suc, ◌+◌, ◌-◌, ◌^◌, ◌≤◌, min, Result, OnOk, OnErr}

-- the last value of a count, at which it stands still
abbrev pub LAST : ℕ
LAST = 2 ^ 64 - 1

-- a count after n more
abbrev pub counted_by : ℕ → ℕ → ℕ
counted_by n count = min (count + n) LAST

-- a count after one more
abbrev pub counted : ℕ → ℕ
counted count = counted_by 1 count

-- a count after n more, one after another
abbrev pub counted_times : ℕ → ℕ → ℕ
counted_times zero count = count
counted_times (suc n) count = counted_times n (counted count)

-- The count of faults never falls. At Ok it is as before, so no fault was passed over, and one that is answered is counted once, so none was passed over before it.
pub record HasCause {T E : Type 0} (before now : ℕ) (result : Result T E) : Type 0 where
  pub later : before ≤ now
  pub still : OnOk result (now ≡ before)
  pub once : OnErr result (now ≡ counted before)
