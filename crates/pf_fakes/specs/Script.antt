-- A host that answers by a script: each call takes the next answer.
use Rattle.std.specs.Prelude.{◌≡◌, ℕ, min, List, [], ◌∷◌, length, take, drop, Option, Some, None, Result, Ok, Err}
use Rattle.pf_io.specs.Counts.{counted}
use Rattle.pf_io.specs.Host.{Answer, HostState}
use Rattle.pf_fakes.specs.Recording.{answers_of}
use Rattle.pf_fakes.specs.declared.answer.Answer.{Answer as Scripted}
use Rattle.pf_fakes.specs.declared.answer.Answer.TheVariants.{Len, Given, Done, Fail}
use Rattle.pf_fakes.specs.declared.script.ScriptHost.{ScriptHost}

-- `given` has the answers so far, `left` those of the script that were not taken, and `starved` counts the calls that found no memory
pub record ScriptState : Type 0 where
  pub faults : ℕ
  pub reads : ℕ
  pub writes : ℕ
  pub widest : ℕ
  pub given : List Answer
  pub left : List Scripted
  pub starved : ℕ

abbrev pub script_of : ScriptHost → ScriptState
script_of host = record {
  faults = host.faults;
  reads = host.reads;
  writes = host.writes;
  widest = host.widest;
  given = answers_of host.told.items;
  left = host.script.items;
  starved = host.starved;
}

-- what it tells as a host: its answers, and no disk
abbrev pub host_of : ScriptState → HostState
host_of state = record { faults = state.faults; reads = state.reads; writes = state.writes; widest = state.widest; given = Some state.given; honest = None }

-- the next answer; a script that has ended fails
abbrev pub next : List Scripted → Scripted
next [] = Fail
next (answer ∷ answers) = answer

-- what an answer says to a call of `len`, of `read_at`, and of a change, if it is of that form
abbrev pub length_said : Scripted → Option (Option ℕ)
length_said (Len length) = Some length
length_said (Given bytes) = None
length_said Done = None
length_said Fail = None

abbrev pub bytes_said : Scripted → Option (List ℕ)
bytes_said (Len length) = None
bytes_said (Given bytes) = Some bytes
bytes_said Done = None
bytes_said Fail = None

abbrev pub done_said : Scripted → Option (Unit {0})
done_said (Len length) = None
done_said (Given bytes) = None
done_said Done = Some tt
done_said Fail = None

-- What was said is answered, or for want of memory a fault, which alone is counted apart. Where nothing was said there is a fault.
abbrev pub AnswersBy : {A T E : Type 0} → Option A → (A → T → Type 0) → Result T E → ℕ → ℕ → Type 0
AnswersBy (Some said) P (Ok value) starved starved' = P said value × (starved' ≡ starved)
AnswersBy (Some said) P (Err fault) starved starved' = starved' ≡ counted starved
AnswersBy None P (Ok value) starved starved' = ⊥
AnswersBy None P (Err fault) starved starved' = starved' ≡ starved

-- a call takes the next answer of the script, and answers by what that says to it
pub record TakesNext {A T E : Type 0} (said : Scripted → Option A) (P : A → T → Type 0) (result : Result T E) (old new : ScriptState) : Type 0 where
  pub left : new.left ≡ drop 1 old.left
  pub answers : AnswersBy (said (next old.left)) P result old.starved new.starved

-- the bytes that were said, as far as there is room, stand at the front of the buffer
pub record Gives (buffer bytes : List ℕ) (n : ℕ) : Type 0 where
  pub count : n ≡ min (length buffer) (length bytes)
  pub filled : take n buffer ≡ take n bytes

-- nothing was asked of a host without answers, and nothing is counted
abbrev pub unused : ScriptState
unused = record { faults = 0; reads = 0; writes = 0; widest = 0; given = []; left = []; starved = 0 }
