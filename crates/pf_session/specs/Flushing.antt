-- What a flush of a session comes to.
use Rattle.std.specs.Prelude.{◌≡◌, ◌≢◌, ℕ, Bool, true, false, List, length, None, Result, Ok, Err}
use Rattle.node_layout.specs.declared.damage.Damage.{Damage}
use Rattle.node_tree.specs.Next.{NextSheet, KeepsShape, IsSealedAs, IsSettled}
use Rattle.node_tree.specs.Sheet.{Sheet, IsLinked, Stands}
use Rattle.node_tree.specs.State.{TreeState}
use Rattle.pf_io.specs.Host.{Swapped, HostState, OnHonest, contents}
use Rattle.pf_io.specs.Names.{side_of}
use Rattle.pf_io.specs.Words.{WordsState}
use Rattle.pf_session.specs.State.{SessionState, file_of}
use Rattle.pf_session.specs.Backing.{IsBacked, StandsOn}
use Rattle.pf_session.specs.Restored.{KeepsBeside}
use Rattle.pf_session.specs.Asking.{NoCall, Asked, Stopped}
use Rattle.pf_session.specs.Drawing.{WordsCame, WordsLacked}
use Rattle.pf_session.specs.Copying.{AreBlocksOf}
use Rattle.pf_session.specs.Steps.{clean_nodes, flush_steps}
use Rattle.pf_session.specs.Sealing.{ChangesAlone, HasNext, Replaces, StandsNext}
use Rattle.pf_session.specs.Making.{ReplaceShort}
use Rattle.pf_session.specs.declared.fault.FlushFault.{FlushFault}
use Rattle.pf_session.specs.declared.fault.FlushFault.TheVariants as faults

-- On a sheet that backs the session a flush seals the next one. Where it is done, the session stands on it, and a file that stood for the sheet stands for the next one, also where something was pending.
pub record Seals (done : Bool) (sheet : Sheet) (nonce : List ℕ) (keys : List (List ℕ)) (old new : SessionState) (before after : HostState) : Type 0 where
  pub next : Sheet
  pub is_next : NextSheet sheet old.tree old.path nonce keys next
  pub on_next : done ≡ true → StandsOn next new
  pub named : old.beside ≡ false → Replaces done old.key old.name sheet next before after
  pub stands : done ≡ true → StandsNext old.key (file_of old) sheet next before after

-- so for each sheet that backs it
abbrev pub SealsEach : Bool → List ℕ → List (List ℕ) → SessionState → SessionState → HostState → HostState → Type 0
SealsEach done nonce keys old new before after = (sheet : Sheet) → IsLinked sheet → IsBacked sheet old → Seals done sheet nonce keys old new before after

-- Those before a node were copied, and of it too few bytes were given. Nothing but the side file was changed.
abbrev pub FlushShort : SessionState → Damage → HostState → HostState → Type 0
FlushShort session damage before after = ReplaceShort session.name (side_of session.name) (clean_nodes session) damage before after

-- One of the calls failed. Before the last of them, by which the side file takes the name, nothing but the side file was changed.
pub record FlushStopped (session : SessionState) (nonce : List ℕ) (keys : List (List ℕ)) (tree : TreeState) (before after : HostState) : Type 0 where
  pub blocks : List (List ℕ)
  pub are_blocks : AreBlocksOf (clean_nodes session) blocks
  pub stopped : Stopped (flush_steps session nonce keys blocks tree) before after
  pub alone : stopped.failed ≢ Swapped (side_of session.name) session.name → ChangesAlone (side_of session.name) before after

-- for each next sheet, the tree is as it is sealed there
abbrev pub SealedAll : List ℕ → List (List ℕ) → SessionState → TreeState → Type 0
SealedAll nonce keys old tree = (sheet next : Sheet) → HasNext sheet old.tree old.path nonce keys next → IsSealedAs next tree

-- All calls were answered. `mid` is the tree as it was sealed, and it is the sheet's: its first bytes, its root and the nodes that it holds are those of the next sheet of each linked sheet on which the session stood.
pub record FlushDone (session : SessionState) (nonce : List ℕ) (keys : List (List ℕ)) (mid : TreeState) (before after : HostState) : Type 0 where
  pub blocks : List (List ℕ)
  pub are_blocks : AreBlocksOf (clean_nodes session) blocks
  pub shape : KeepsShape session.tree mid
  pub sealed : SealedAll nonce keys session mid
  pub asked : Asked (flush_steps session nonce keys blocks mid) NoCall before after

-- a session whose file stands at the side name until it is published changes nothing else
abbrev pub KeepsName : SessionState → HostState → HostState → Type 0
KeepsName old before after = old.beside ≡ true → KeepsBeside old.name before after

-- The calls of a flush that had its words are made, up to the first that fails or that gives too few bytes of a node. The session is then broken, and has the same nodes as before.
pub data SealGoes (result : Result (Unit {0}) FlushFault) (nonce : List ℕ) (keys : List (List ℕ)) (old new : SessionState) (before after : HostState) : Type 0 where
  node_short : (damage : Damage) → old.beside ≡ false → FlushShort old damage before after → SealsEach false nonce keys old new before after → new ≡ record old { broken = true } → result ≡ Err (faults.Damaged damage)
      → SealGoes result nonce keys old new before after
  call_failed : FlushStopped old nonce keys new.tree before after → KeepsName old before after → SealsEach false nonce keys old new before after → KeepsShape old.tree new.tree → new ≡ record old { tree = new.tree; broken = true }
      → result ≡ Err faults.Host → SealGoes result nonce keys old new before after
  flushed : (mid : TreeState) → FlushDone old nonce keys mid before after → KeepsName old before after → IsSettled mid new.tree → SealsEach true nonce keys old new before after
      → new ≡ record old { nonce = nonce; drawn = None; tree = new.tree; changed = false } → result ≡ Ok tt → SealGoes result nonce keys old new before after

-- A flush first takes its words: the nonce, unless it was drawn, and a key for each dirty node. Where they do not come, nothing is changed.
pub data FlushGoes (result : Result (Unit {0}) FlushFault) (old new : SessionState) (before after : HostState) (random random' : WordsState) : Type 0 where
  no_words : WordsLacked old.drawn (length old.tree.dirty) random random' → new ≡ old → after ≡ before → result ≡ Err faults.Words → FlushGoes result old new before after random random'
  had_words : (nonce : List ℕ) (keys : List (List ℕ)) → WordsCame old.drawn (length old.tree.dirty) nonce keys random random' → SealGoes result nonce keys old new before after → FlushGoes result old new before after random random'

-- a result, of which only a fault of the host counts as a fault
abbrev pub host_part : Result (Unit {0}) FlushFault → Result (Unit {0}) (Unit {0})
host_part (Ok done) = Ok tt
host_part (Err faults.Words) = Ok tt
host_part (Err (faults.Damaged damage)) = Ok tt
host_part (Err faults.Host) = Err tt

-- of which only a fault of the random words does
abbrev pub words_part : Result (Unit {0}) FlushFault → Result (Unit {0}) (Unit {0})
words_part (Ok done) = Ok tt
words_part (Err faults.Words) = Err tt
words_part (Err (faults.Damaged damage)) = Ok tt
words_part (Err faults.Host) = Ok tt

abbrev pub IsUndamaged : Result (Unit {0}) FlushFault → Type 0
IsUndamaged (Ok done) = Unit {0}
IsUndamaged (Err faults.Words) = Unit {0}
IsUndamaged (Err (faults.Damaged damage)) = ⊥
IsUndamaged (Err faults.Host) = Unit {0}

-- on an honest host, where the session's file stands for a sheet that backs the session, no node is damaged
abbrev pub UndamagedFlush : Result (Unit {0}) FlushFault → SessionState → HostState → Type 0
UndamagedFlush result old before = OnHonest before (λ files. (sheet : Sheet) → IsBacked sheet old → Stands (contents (files (file_of old))) old.key sheet → IsUndamaged result)
