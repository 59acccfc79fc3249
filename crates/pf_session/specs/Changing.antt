-- What a change of a session's content comes to.
use Rattle.std.specs.Prelude.{◌≡◌, ℕ, ◌+◌, ◌^◌, ◌<◌, ◌≤◌, Bool, true, false, List, [], length, Result, Ok, Err}
use Rattle.node_tree.specs.Applying.{Step, Write, Size, from_of, to_of}
use Rattle.node_tree.specs.Fetching.{host_part}
use Rattle.node_tree.specs.Marks.{IsChangedCount, MayChange}
use Rattle.node_tree.specs.State.{TreeState, MOST_DIRTY}
use Rattle.node_tree.specs.Sheet.{Sheet, Stands}
use Rattle.node_tree.specs.Stepping.{Steps, StepsFew, StepDamageComes, BackedStep, StandingStep}
use Rattle.node_tree.specs.declared.fault.TreeFault.{TreeFault}
use Rattle.pf_io.specs.Counts.{HasCause}
use Rattle.pf_io.specs.Host.{HostState, OnHonest, contents}
use Rattle.pf_io.specs.Unchanged.{KeepsDisk}
use Rattle.pf_io.specs.Words.{WordsState}
use Rattle.pf_session.specs.State.{SessionState, file_of}
use Rattle.pf_session.specs.Faults.{write_of_flush, write_of_tree, size_of_flush, size_of_tree}
use Rattle.pf_session.specs.Backing.{IsBacked}
use Rattle.pf_session.specs.Flushing.{FlushGoes, UndamagedFlush}
use Rattle.pf_session.specs.declared.fault.FlushFault.{FlushFault}
use Rattle.pf_session.specs.declared.fault.WriteFault.{WriteFault}
use Rattle.pf_session.specs.declared.fault.WriteFault.TheVariants as writes
use Rattle.pf_session.specs.declared.fault.SizeFault.{SizeFault}
use Rattle.pf_session.specs.declared.fault.SizeFault.TheVariants as sizes
use Rattle.pf_session.specs.declared.fault.Written.{Written}

-- The dirty nodes and those that a step touches are more than may be dirty: the session is to be flushed first.
pub record IsFlushedFirst (step : Step) (tree : TreeState) : Type 0 where
  pub count : ℕ
  pub is_count : IsChangedCount tree.dirty (from_of step tree.size) (to_of step tree.size) count
  pub many : MOST_DIRTY < count

-- they are not
abbrev pub IsRoomy : Step → TreeState → Type 0
IsRoomy step tree = MayChange tree.dirty (from_of step tree.size) (to_of step tree.size)

-- a step that was made marks the session as changed, and one that failed breaks it
abbrev pub StepState : Result (Unit {0}) TreeFault → SessionState → SessionState → Type 0
StepState (Ok done) old new = new ≡ record old { tree = new.tree; changed = true }
StepState (Err fault) old new = new ≡ record old { tree = new.tree; broken = true }

-- the session was marked
abbrev pub Marked : Result (Unit {0}) TreeFault → SessionState → SessionState → Type 0
Marked (Ok done) old new = new ≡ record old { changed = true }
Marked (Err fault) old new = new ≡ record old { broken = true }

-- over an honest host whose file stands for a sheet that backs the session, the step is made of the content and meets no damage
abbrev pub StandingGoes : Result (Unit {0}) TreeFault → Step → SessionState → SessionState → HostState → Type 0
StandingGoes one step old new before = OnHonest before (λ files. (sheet : Sheet) → Stands (contents (files (file_of old))) old.key sheet → IsBacked sheet old → StandingStep one step sheet old.tree new.tree)

-- one step on the session's tree
pub record StepGoes (one : Result (Unit {0}) TreeFault) (step : Step) (old new : SessionState) (before after : HostState) : Type 0 where
  pub state : StepState one old new
  pub steps : Steps one (file_of old) step old.tree new.tree before after
  pub cause : HasCause before.faults after.faults (host_part one)
  pub few : StepsFew step old.tree before after
  pub disk : KeepsDisk before after
  pub damage : StepDamageComes one (file_of old) step old.tree before after
  pub backed : BackedStep one (file_of old) step old.tree new.tree before after
  pub standing : StandingGoes one step old new before

-- whether there is room for a step: there is, or the session was flushed, or the flush failed
pub data RoomGoes (result : Result Bool FlushFault) (step : Step) (old new : SessionState) (before after : HostState) (random random' : WordsState) : Type 0 where
  was_roomy : IsRoomy step old.tree → new ≡ old → after ≡ before → random' ≡ random → result ≡ Ok false → RoomGoes result step old new before after random random'
  was_flushed : IsFlushedFirst step old.tree → FlushGoes (Ok tt) old new before after random random' → result ≡ Ok true → RoomGoes result step old new before after random random'
  no_room : (fault : FlushFault) → IsFlushedFirst step old.tree → FlushGoes (Err fault) old new before after random random' → UndamagedFlush (Err fault) old before → result ≡ Err fault → RoomGoes result step old new before after random random'

-- a change that was made, or the fault of its step
abbrev pub stepped : {E : Type 0} → (TreeFault → E) → Bool → Result (Unit {0}) TreeFault → Result Written E
stepped of_tree flushed (Ok done) = Ok (record { flushed_before = flushed })
stepped of_tree flushed (Err fault) = Err (of_tree fault)

-- A change is refused by a rule, or is none, or is a step; where too many nodes would be dirty, the session is flushed before. Flush and step may fail.
pub data ChangeGoes (E : Type 0) (Refused : E → Type 0) (Nothing : Type 0) (of_flush : FlushFault → E) (of_tree : TreeFault → E) (step : Step) (result : Result Written E) (old new : SessionState) (before after : HostState) (random random' : WordsState) : Type 0 where
  refused : (fault : E) → Refused fault → new ≡ old → after ≡ before → random' ≡ random → result ≡ Err fault → ChangeGoes E Refused Nothing of_flush of_tree step result old new before after random random'
  unchanged : ((fault : E) → ¬ (Refused fault)) → Nothing → new ≡ old → after ≡ before → random' ≡ random → result ≡ Ok (record { flushed_before = false })
      → ChangeGoes E Refused Nothing of_flush of_tree step result old new before after random random'
  changed : (one : Result (Unit {0}) TreeFault) → ((fault : E) → ¬ (Refused fault)) → ¬ Nothing → IsRoomy step old.tree → StepGoes one step old new before after → random' ≡ random → result ≡ stepped of_tree false one
      → ChangeGoes E Refused Nothing of_flush of_tree step result old new before after random random'
  not_flushed : (fault : FlushFault) → ((fault : E) → ¬ (Refused fault)) → ¬ Nothing → IsFlushedFirst step old.tree → FlushGoes (Err fault) old new before after random random' → UndamagedFlush (Err fault) old before
      → result ≡ Err (of_flush fault) → ChangeGoes E Refused Nothing of_flush of_tree step result old new before after random random'
  flushed_and_changed : (mid : SessionState) (between : HostState) (one : Result (Unit {0}) TreeFault) → ((fault : E) → ¬ (Refused fault)) → ¬ Nothing → IsFlushedFirst step old.tree → FlushGoes (Ok tt) old mid before between random random'
      → StepGoes one step mid new between after → result ≡ stepped of_tree true one → ChangeGoes E Refused Nothing of_flush of_tree step result old new before after random random'

-- the first rule that refuses a write of n bytes
abbrev pub WriteRefused : ℕ → ℕ → ℕ → WriteFault → Type 0
WriteRefused at n size writes.TooLong = 32768 < n
WriteRefused at n size writes.TooLarge = (n ≤ 32768) × (2 ^ 32 < at + n)
WriteRefused at n size (writes.PastEnd said) = (n ≤ 32768) × (at + n ≤ 2 ^ 32) × (size < at) × (said ≡ size)
WriteRefused at n size writes.Words = ⊥
WriteRefused at n size (writes.Damaged damage) = ⊥
WriteRefused at n size writes.Host = ⊥
WriteRefused at n size writes.Memory = ⊥

-- the first rule that refuses a size
abbrev pub SizeRefused : ℕ → ℕ → SizeFault → Type 0
SizeRefused n size sizes.TooLarge = 2 ^ 32 < n
SizeRefused n size (sizes.TooFar said) = (n ≤ 2 ^ 32) × (size + 32768 < n) × (said ≡ size)
SizeRefused n size sizes.Words = ⊥
SizeRefused n size (sizes.Damaged damage) = ⊥
SizeRefused n size sizes.Host = ⊥
SizeRefused n size sizes.Memory = ⊥

-- a write; an empty one changes nothing
abbrev pub WriteGoes : Result Written WriteFault → ℕ → List ℕ → SessionState → SessionState → HostState → HostState → WordsState → WordsState → Type 0
WriteGoes result at bytes old new before after random random' =
    ChangeGoes WriteFault (WriteRefused at (length bytes) old.tree.size) (bytes ≡ []) write_of_flush write_of_tree (Write at bytes) result old new before after random random'

-- a change of size; the present one changes nothing
abbrev pub SizeGoes : Result Written SizeFault → ℕ → SessionState → SessionState → HostState → HostState → WordsState → WordsState → Type 0
SizeGoes result n old new before after random random' =
    ChangeGoes SizeFault (SizeRefused n old.tree.size) (n ≡ old.tree.size) size_of_flush size_of_tree (Size n) result old new before after random random'
