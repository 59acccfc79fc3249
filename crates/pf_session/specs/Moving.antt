-- What the move of a session's file to another name comes to.
use Rattle.std.specs.Prelude.{◌≡◌, ◌≢◌, ℕ, ◌+◌, Bool, true, false, List, [], length, None, Some, Result, Ok, Err}
use Rattle.node_layout.specs.Places.{node_count}
use Rattle.node_tree.specs.Next.{NextSheet}
use Rattle.node_tree.specs.Sheet.{Sheet, IsLinked, Stands}
use Rattle.pf_io.specs.Disk.{Name, Disk, Image}
use Rattle.pf_io.specs.Host.{HostState, OnDisk, OnHonest, ReadsAsImage, contents}
use Rattle.pf_io.specs.Moments.{Ran, Ends, Where}
use Rattle.pf_io.specs.Names.{IsTarget}
use Rattle.pf_io.specs.Words.{WordsState}
use Rattle.pf_session.specs.State.{SessionState}
use Rattle.pf_session.specs.Aside.{Aside, AsideBoth}
use Rattle.pf_session.specs.Asking.{TookFewer}
use Rattle.pf_session.specs.Backing.{IsBacked, RestsOn}
use Rattle.pf_session.specs.Copying.{clean_below}
use Rattle.pf_session.specs.Creating.{LooksUp, LookUpFails}
use Rattle.pf_session.specs.Drawing.{IsDrawn, WordsCame, nonce_words}
use Rattle.pf_session.specs.Flushing.{SealGoes, IsUndamaged}
use Rattle.pf_session.specs.Relocating.{RelocateGoes}
use Rattle.pf_session.specs.Reopening.{LeftAs, ReadsAs, Stood, HasSheet}
use Rattle.pf_session.specs.Steps.{node_of}
use Rattle.pf_session.specs.Faults.{move_of_flush}
use Rattle.pf_session.specs.declared.fault.FlushFault.{FlushFault}
use Rattle.pf_session.specs.declared.fault.FlushFault.TheVariants as flushes
use Rattle.pf_session.specs.declared.fault.MoveFault.{MoveFault}
use Rattle.pf_session.specs.declared.fault.MoveFault.TheVariants as faults

-- the session under a new name and path, with the nonce of its new node 0
abbrev pub renamed : Name → List ℕ → SessionState → SessionState
renamed to nonce session = record session { name = to; path = to; nonce = nonce }

-- At every moment an image has the old name with the sheet, the new one with the next sheet, or both.
pub data MovedAs (key : List ℕ) (from : Name) (base : Sheet) (to : Name) (next : Sheet) (image : Image) : Type 0 where
  still_there : LeftAs key from base image → image to ≡ None → MovedAs key from base to next image
  was_moved : image from ≡ None → LeftAs key to next image → MovedAs key from base to next image
  both_there : LeftAs key from base image → LeftAs key to next image → MovedAs key from base to next image

-- in the end the old name is absent, and the new one has the next sheet
abbrev pub MovedIf : Bool → List ℕ → Name → Name → Sheet → Disk → Disk → Type 0
MovedIf true key from to next old new = (new from ≡ None) × Stood key to next new
MovedIf false key from to next old new = Unit {0}

abbrev pub IsMoved : List ℕ → Name → Name → Sheet → Disk → Disk → Type 0
IsMoved key from to next old new = (new from ≡ None) × HasSheet key to next new

-- On a sheet on which the session rests, a move seals the next one: the same content under the new name as path, and a nonce of its own.
pub record MovesOn (done : Bool) (to : Name) (nonce : List ℕ) (base : Sheet) (session : SessionState) (before after : HostState) : Type 0 where
  pub next : Sheet
  pub is_next : NextSheet base session.tree to nonce [] next
  pub same_content : next.content ≡ base.content
  pub on_next : RestsOn next (renamed to nonce session)
  pub moved : OnDisk before after (Where (λ disk. Stood session.key session.name base disk × (disk to ≡ None)) (Ran (λ disk. MovedAs session.key session.name base to next) (MovedIf done session.key session.name to next)))
  pub stands : done ≡ true → OnDisk before after (Where (λ disk. ReadsAs session.key session.name base disk × (disk to ≡ None)) (Ends (IsMoved session.key session.name to next)))

-- a name is absent in the end
abbrev pub IsGone : Name → HostState → HostState → Type 0
IsGone name before after = OnDisk before after (λ old new. new.now name ≡ None)

-- The file of a session of which nothing is to be sealed is moved. Where this is done, the old name is absent.
pub record Carries (done : Bool) (to : Name) (nonce : List ℕ) (session : SessionState) (before after : HostState) : Type 0 where
  pub gone : done ≡ true → IsGone session.name before after
  pub aside : AsideBoth session.name to before after
  pub each : (base : Sheet) → IsLinked base → RestsOn base session → MovesOn done to nonce base session before after

-- So it is to another name, which was absent.
pub record Moves (done : Bool) (to : Name) (nonce : List ℕ) (session : SessionState) (before after : HostState) : Type 0 where
  pub absent : session.name ≢ to → OnDisk before after (λ old new. old.now to ≡ None)
  pub carries : Carries done to nonce session before after

-- the calls of a move
abbrev pub CarryGoes : Result (Unit {0}) FlushFault → Name → List ℕ → SessionState → HostState → HostState → Type 0
CarryGoes result to nonce session before after = RelocateGoes result session.name to (node_of session.key to nonce session.tree) (clean_below [] (node_count session.tree.size)) before after

-- the session afterwards
abbrev pub after_carry : Result (Unit {0}) FlushFault → List ℕ → SessionState → SessionState
after_carry (Ok done) nonce session = record session { nonce = nonce }
after_carry (Err fault) nonce session = record session { broken = true }

-- A session that is changed is flushed first. All words are taken before: those of the flush, and then the two of the move. Where the host is honest, the disk in between reads as one of its images.
pub data FlushesFirst (old mid : SessionState) (nonce : List ℕ) (before after : HostState) (random random' : WordsState) : Type 0 where
  as_it_is : old.changed ≡ false → mid ≡ old → after ≡ before → IsDrawn nonce random random' → FlushesFirst old mid nonce before after random random'
  flushed : (sealed : List ℕ) (keys : List (List ℕ)) (between : WordsState) → old.changed ≡ true → WordsCame old.drawn (length old.tree.dirty) sealed keys random between → IsDrawn nonce between random'
      → SealGoes (Ok tt) sealed keys old mid before after → Aside old.name before after → ReadsAsImage after → FlushesFirst old mid nonce before after random random'

-- it was not flushed
pub record FlushFails (fault : FlushFault) (old new : SessionState) (before after : HostState) (random random' : WordsState) : Type 0 where
  pub sealed : List ℕ
  pub keys : List (List ℕ)
  pub nonce : List ℕ
  pub between : WordsState
  pub is_changed : old.changed ≡ true
  pub came : WordsCame old.drawn (length old.tree.dirty) sealed keys random between
  pub drawn : IsDrawn nonce between random'
  pub goes : SealGoes (Err fault) sealed keys old new before after
  pub aside : Aside old.name before after

-- how many words the flush takes, where there is one
abbrev pub flush_words : Bool → SessionState → ℕ
flush_words true session = nonce_words session.drawn + length session.tree.dirty
flush_words false session = 0

abbrev pub MoveLacksWords : SessionState → WordsState → WordsState → Type 0
MoveLacksWords session random random' = TookFewer (flush_words session.changed session + 2) random random'

-- How a move ends whose new name was found to be free. Its new node 0 has the session's nonce.
pub data CarryEnds (result : Result (Unit {0}) FlushFault) (to : Name) (old new : SessionState) (before after : HostState) (random random' : WordsState) : Type 0 where
  lacked_words : MoveLacksWords old random random' → new ≡ old → after ≡ before → result ≡ Err flushes.Words → CarryEnds result to old new before after random random'
  flush_failed : (fault : FlushFault) → FlushFails fault old new before after random random' → result ≡ Err fault → CarryEnds result to old new before after random random'
  carry_failed : (between : HostState) (mid : SessionState) (nonce : List ℕ) (fault : FlushFault) → FlushesFirst old mid nonce before between random random' → CarryGoes (Err fault) to nonce mid between after → Carries false to nonce mid between after
      → new ≡ record mid { broken = true } → result ≡ Err fault → CarryEnds result to old new before after random random'
  carried : (between : HostState) (mid : SessionState) (nonce : List ℕ) → FlushesFirst old mid nonce before between random random' → CarryGoes (Ok tt) to nonce mid between after → Carries true to nonce mid between after
      → new ≡ record mid { nonce = nonce } → result ≡ Ok tt → CarryEnds result to old new before after random random'

-- the new name may be that of a protected file, and is absent
pub record IsFree (to : Name) (before after : HostState) : Type 0 where
  pub is_target : IsTarget to
  pub looks : LooksUp to None before after
  pub absent : OnDisk before after (λ old new. new.now to ≡ None)

-- how a move ends, in the order of its refusals; up to the want of words the session stays, and when a later call fails it is broken
pub data MoveGoes (result : Result (Unit {0}) MoveFault) (to : Name) (old new : SessionState) (before after : HostState) (random random' : WordsState) : Type 0 where
  misnamed : ¬ (IsTarget to) → new ≡ old → after ≡ before → random' ≡ random → result ≡ Err faults.BadName → MoveGoes result to old new before after random random'
  no_memory : IsTarget to → new ≡ old → after ≡ before → random' ≡ random → result ≡ Err faults.Memory → MoveGoes result to old new before after random random'
  look_up_failed : IsTarget to → LookUpFails before after → new ≡ old → random' ≡ random → result ≡ Err faults.Host → MoveGoes result to old new before after random random'
  was_there : (size : ℕ) → IsTarget to → LooksUp to (Some size) before after → new ≡ old → random' ≡ random → result ≡ Err faults.TargetExists → MoveGoes result to old new before after random random'
  no_words : IsFree to before after → MoveLacksWords old random random' → new ≡ old → result ≡ Err faults.Words → MoveGoes result to old new before after random random'
  not_flushed : (start : HostState) (fault : FlushFault) → IsFree to before start → FlushFails fault old new start after random random' → result ≡ Err (move_of_flush fault) → MoveGoes result to old new before after random random'
  not_moved : (start between : HostState) (mid : SessionState) (nonce : List ℕ) (fault : FlushFault) → IsFree to before start → FlushesFirst old mid nonce start between random random' → CarryGoes (Err fault) to nonce mid between after
      → Moves false to nonce mid between after → new ≡ record mid { broken = true } → result ≡ Err (move_of_flush fault) → MoveGoes result to old new before after random random'
  moved : (start between : HostState) (mid : SessionState) (nonce : List ℕ) → IsFree to before start → FlushesFirst old mid nonce start between random random' → CarryGoes (Ok tt) to nonce mid between after → Moves true to nonce mid between after
      → new ≡ renamed to nonce mid → result ≡ Ok tt → MoveGoes result to old new before after random random'

-- a result, of which only a fault of the host counts as a fault
abbrev pub move_host_part : Result (Unit {0}) MoveFault → Result (Unit {0}) (Unit {0})
move_host_part (Ok done) = Ok tt
move_host_part (Err faults.BadName) = Ok tt
move_host_part (Err faults.Memory) = Ok tt
move_host_part (Err faults.Host) = Err tt
move_host_part (Err faults.TargetExists) = Ok tt
move_host_part (Err faults.Words) = Ok tt
move_host_part (Err (faults.Damaged damage)) = Ok tt

-- of which only a fault of the random words does
abbrev pub move_words_part : Result (Unit {0}) MoveFault → Result (Unit {0}) (Unit {0})
move_words_part (Ok done) = Ok tt
move_words_part (Err faults.BadName) = Ok tt
move_words_part (Err faults.Memory) = Ok tt
move_words_part (Err faults.Host) = Ok tt
move_words_part (Err faults.TargetExists) = Ok tt
move_words_part (Err faults.Words) = Err tt
move_words_part (Err (faults.Damaged damage)) = Ok tt

abbrev pub IsUndamagedMove : Result (Unit {0}) MoveFault → Type 0
IsUndamagedMove (Ok done) = Unit {0}
IsUndamagedMove (Err faults.BadName) = Unit {0}
IsUndamagedMove (Err faults.Memory) = Unit {0}
IsUndamagedMove (Err faults.Host) = Unit {0}
IsUndamagedMove (Err faults.TargetExists) = Unit {0}
IsUndamagedMove (Err faults.Words) = Unit {0}
IsUndamagedMove (Err (faults.Damaged damage)) = ⊥

-- the sheet backs the session, which rests on it where it is not changed
pub record IsKeptOn (sheet : Sheet) (session : SessionState) : Type 0 where
  pub backed : IsBacked sheet session
  pub rests : session.changed ≡ false → RestsOn sheet session

-- so of its parts, of a session that rests on the sheet, and where the new name is absent
abbrev pub UndamagedAtRest : Result (Unit {0}) FlushFault → SessionState → HostState → Type 0
UndamagedAtRest result session before = OnHonest before (λ files. (sheet : Sheet) → RestsOn sheet session → Stands (contents (files session.name)) session.key sheet → IsUndamaged result)

abbrev pub UndamagedCarry : Result (Unit {0}) FlushFault → Name → SessionState → HostState → Type 0
UndamagedCarry result to old before = OnHonest before (λ files. (sheet : Sheet) → IsKeptOn sheet old → Stands (contents (files old.name)) old.key sheet → files to ≡ None → IsUndamaged result)

-- on an honest host, where the session's file stands for such a sheet, no node is damaged
abbrev pub UndamagedMove : Result (Unit {0}) MoveFault → SessionState → HostState → Type 0
UndamagedMove result old before = OnHonest before (λ files. (sheet : Sheet) → IsKeptOn sheet old → Stands (contents (files old.name)) old.key sheet → IsUndamagedMove result)
