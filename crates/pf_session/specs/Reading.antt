-- What a read of a session comes to.
use Rattle.std.specs.Prelude.{◌≡◌, ℕ, List, Contains, Result}
use Rattle.pf_io.specs.Host.{HostState, WhereTold, OnHonest, contents}
use Rattle.pf_io.specs.Answered.{Came}
use Rattle.node_tree.specs.Sheet.{Sheet, Stands}
use Rattle.node_tree.specs.Opened.{AtNodes, Given}
use Rattle.node_tree.specs.Unforged.{Unforged, GivenOf}
use Rattle.node_tree.specs.Backing.{now}
use Rattle.node_tree.specs.Reading.{IsSlice, DamageIsForeign, IsUndamaged}
use Rattle.node_tree.specs.declared.fault.TreeFault.{TreeFault}
use Rattle.pf_session.specs.State.{SessionState, file_of}
use Rattle.pf_session.specs.Backing.{IsBacked}

-- only the tree changed
abbrev pub KeepsFields : SessionState → SessionState → Type 0
KeepsFields old new = record new { tree = old.tree } ≡ old

-- The session stands on the sheet as before, its content stays, and the read gave the slice of it, or met a block that is none of the sheet's.
pub record StaysRead (result : Result ℕ TreeFault) (sheet : Sheet) (given : AtNodes) (at : ℕ) (buffer : List ℕ) (old new : SessionState) : Type 0 where
  pub backed : IsBacked sheet new
  pub same : now sheet new.tree ≡ now sheet old.tree
  pub slice : IsSlice result at buffer (now sheet old.tree)
  pub damage : DamageIsForeign result sheet given

-- for each sheet on which the session stands and of which the answers are
abbrev pub BackedRead : Result ℕ TreeFault → ℕ → List ℕ → SessionState → SessionState → HostState → HostState → Type 0
BackedRead result at buffer old new before after =
    Came (λ these. (sheet : Sheet) → GivenOf sheet (Given (file_of old) these) → IsBacked sheet old → StaysRead result sheet (Given (file_of old) these) at buffer old new) before after

-- where nothing is forged, for each sheet of the list
abbrev pub UnforgedRead : Result ℕ TreeFault → ℕ → List ℕ → SessionState → SessionState → HostState → HostState → Type 0
UnforgedRead result at buffer old new before after =
    WhereTold before after
    (λ these. (key : List ℕ) (sheets : List Sheet) (sheet : Sheet) → Unforged key sheets these → Contains sheets sheet → IsBacked sheet old → StaysRead result sheet (Given (file_of old) these) at buffer old new)

-- Over an honest host whose file stands for the sheet, the read gives the slice of the content, and meets no damage.
pub record StandingRead (result : Result ℕ TreeFault) (sheet : Sheet) (at : ℕ) (buffer : List ℕ) (old new : SessionState) : Type 0 where
  pub backed : IsBacked sheet new
  pub same : now sheet new.tree ≡ now sheet old.tree
  pub slice : IsSlice result at buffer (now sheet old.tree)
  pub undamaged : IsUndamaged result

abbrev pub ReadsStanding : Result ℕ TreeFault → ℕ → List ℕ → SessionState → SessionState → HostState → Type 0
ReadsStanding result at buffer old new before =
    OnHonest before (λ files. (sheet : Sheet) → Stands (contents (files (file_of old))) old.key sheet → IsBacked sheet old → StandingRead result sheet at buffer old new)
