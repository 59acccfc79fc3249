-- What the publishing and the closing of a session come to.
use Rattle.std.specs.Prelude.{◌≡◌, ◌⊎◌, ℕ, Bool, true, false, List, [], ◌∷◌, length, Result, Ok, Err}
use Rattle.node_tree.specs.Sheet.{Sheet, IsLinked}
use Rattle.node_tree.specs.Next.{NextSheet}
use Rattle.pf_io.specs.Disk.{Disk, Image}
use Rattle.pf_io.specs.Host.{Swapped, HostState, OnDisk}
use Rattle.pf_io.specs.Moments.{Ran, Where}
use Rattle.pf_io.specs.Names.{side_of}
use Rattle.pf_io.specs.Words.{WordsState}
use Rattle.pf_session.specs.State.{SessionState}
use Rattle.pf_session.specs.Backing.{IsBacked}
use Rattle.pf_session.specs.Aside.{LeavesNamed, ChangesTwo}
use Rattle.pf_session.specs.Restored.{KeepsBeside}
use Rattle.pf_session.specs.Reopening.{LeftAs, HasSheet}
use Rattle.pf_session.specs.Asking.{NoCall, AnotherCall, Asked}
use Rattle.pf_session.specs.Drawing.{WordsCame}
use Rattle.pf_session.specs.Flushing.{SealGoes, FlushGoes}
use Rattle.pf_session.specs.declared.fault.FlushFault.{FlushFault}
use Rattle.pf_session.specs.declared.fault.FlushFault.TheVariants as faults

-- the name and its recovery file are as before in an image, or reopen as the sheet
abbrev pub KeptOr : SessionState → Sheet → Disk → Image → Type 0
KeptOr session next disk image = LeavesNamed session.name disk image ⊎ LeftAs session.key session.name next image

-- in the end the name has the sheet, or where the publishing is not done it is as before or has it
abbrev pub PublishedIf : Bool → SessionState → Sheet → Disk → Disk → Type 0
PublishedIf true session next old new = HasSheet session.key session.name next new
PublishedIf false session next old new = (new session.name ≡ old session.name) ⊎ HasSheet session.key session.name next new

-- where the side file stood for a sheet that backs the session, and nothing was pending at it, the next one is what takes the name
abbrev pub Publishes : Bool → Sheet → Sheet → SessionState → HostState → HostState → Type 0
Publishes done sheet next session before after = OnDisk before after (Where (HasSheet session.key (side_of session.name) sheet) (Ran (KeptOr session next) (PublishedIf done session next)))

-- so for each sheet that backs it
abbrev pub PublishesEach : Bool → List ℕ → List (List ℕ) → SessionState → HostState → HostState → Type 0
PublishesEach done nonce keys session before after =
    (sheet : Sheet) → IsLinked sheet → IsBacked sheet session → (next : Sheet) × NextSheet sheet session.tree session.path nonce keys next × Publishes done sheet next session before after

-- A publishing flushes the side file, which alone is changed until it takes the name.
pub data PublishGoes (result : Result (Unit {0}) FlushFault) (session : SessionState) (before after : HostState) (random random' : WordsState) : Type 0 where
  not_flushed : (fault : FlushFault) (mid : SessionState) → FlushGoes (Err fault) session mid before after random random' → KeepsBeside session.name before after → result ≡ Err fault → PublishGoes result session before after random random'
  not_named : (mid : SessionState) (between : HostState) (nonce : List ℕ) (keys : List (List ℕ)) → WordsCame session.drawn (length session.tree.dirty) nonce keys random random' → SealGoes (Ok tt) nonce keys session mid before between
      → KeepsBeside session.name before between → Asked [] AnotherCall between after → ChangesTwo (side_of session.name) session.name between after → PublishesEach false nonce keys session before after → result ≡ Err faults.Host
      → PublishGoes result session before after random random'
  published : (mid : SessionState) (between : HostState) (nonce : List ℕ) (keys : List (List ℕ)) → WordsCame session.drawn (length session.tree.dirty) nonce keys random random' → SealGoes (Ok tt) nonce keys session mid before between
      → KeepsBeside session.name before between → Asked (Swapped (side_of session.name) session.name ∷ []) NoCall between after → ChangesTwo (side_of session.name) session.name between after → PublishesEach true nonce keys session before after
      → result ≡ Ok tt → PublishGoes result session before after random random'

-- A closing flushes a session that is changed and not broken, and else makes no call.
pub data CloseGoes (result : Result (Unit {0}) FlushFault) (session : SessionState) (before after : HostState) (random random' : WordsState) : Type 0 where
  let_go : (session.changed ≡ false) ⊎ (session.broken ≡ true) → after ≡ before → random' ≡ random → result ≡ Ok tt → CloseGoes result session before after random random'
  flushed_last : (mid : SessionState) → session.changed ≡ true → session.broken ≡ false → FlushGoes result session mid before after random random' → CloseGoes result session before after random random'
