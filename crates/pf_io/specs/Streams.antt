-- What a source and a sink of bytes tell.
use Rattle.std.specs.Prelude.{◌≡◌, ℕ, ◌<◌, List, [], ◌++◌, length, take, Option, Result, Ok, Err}
use Rattle.pf_io.specs.Counts.{counted_by}
use Rattle.pf_io.specs.Host.{Both, IsMore}

-- `taken` counts the bytes that were answered; `left` has the bytes that are left, where the source tells them
pub record SourceState : Type 0 where
  pub faults : ℕ
  pub taken : ℕ
  pub left : Option (List ℕ)

-- `bytes` has all that the sink has taken, where it tells them
pub record SinkState : Type 0 where
  pub faults : ℕ
  pub bytes : Option (List ℕ)

-- the count of bytes taken, before and after an answer
abbrev pub CountsTaken : {E : Type 0} → Result ℕ E → ℕ → ℕ → Type 0
CountsTaken (Ok n) before now = now ≡ counted_by n before
CountsTaken (Err fault) before now = now ≡ before

-- The answer n gives the first n of the bytes left, and leaves the others. It is 0 for room only where none is left.
pub record GivesFirst (n : ℕ) (buffer before now : List ℕ) : Type 0 where
  pub first : before ≡ take n buffer ++ now
  pub ended : n ≡ 0 → 0 < length buffer → before ≡ []

-- what an answer takes of the bytes left; a fault takes none
abbrev pub Gives : {E : Type 0} → Result ℕ E → List ℕ → Option (List ℕ) → Option (List ℕ) → Type 0
Gives (Ok n) buffer before now = Both before now (GivesFirst n buffer)
Gives (Err fault) buffer before now = now ≡ before

-- a front of the bytes was taken
pub record TakesFront (from before now : List ℕ) : Type 0 where
  pub count : ℕ
  pub taken : now ≡ before ++ take count from

-- all bytes are taken, or after a fault a front of them
abbrev pub Takes : {T E : Type 0} → Result T E → List ℕ → Option (List ℕ) → Option (List ℕ) → Type 0
Takes (Ok value) from before now = Both before now (IsMore from)
Takes (Err fault) from before now = Both before now (TakesFront from)
