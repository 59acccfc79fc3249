-- A file that stands for a sheet gives no damage.
use Rattle.std.proofs.Common.{◌≡◌, ℕ, List, length, ◌∙◌, Result, Ok, Err}
use Rattle.std.specs.List.{AllByRecursion}
use Rattle.std.proofs.lemmas.Option.{IfSome_then}
use Rattle.pf_io.specs.Host.{Name, Files, Answer, HostState, contents, files_of}
use Rattle.pf_io.specs.Answered.{IsAnswerOf}
use Rattle.node_tree.specs.Sheet.{Sheet, Stands}
use Rattle.node_tree.specs.Opened.{Given}
use Rattle.node_tree.specs.State.{TreeState}
use Rattle.node_tree.specs.Reading.{Reads, IsForeign, DamageIsForeign, IsUndamaged, ReadsStanding}
use Rattle.node_tree.specs.declared.fault.TreeFault.{TreeFault}
use Rattle.node_tree.specs.declared.fault.TreeFault.TheVariants as faults
use Rattle.node_tree.proofs.Standing.{block_is}
use Rattle.node_tree.proofs.Giving.{file_block, file_gives}
use Rattle.node_tree.proofs.Unforging.{stays_backed}

module _ (user : List ℕ) (files : Files) (name : Name) (sheet : Sheet) (these : List Answer) (user_length : length user ≡ 16) (all : AllByRecursion (IsAnswerOf files) these) (stands : Stands (contents (files name)) user sheet) where
  pub none_foreign : (k : ℕ) → IsForeign sheet (Given name these) k → ⊥
  none_foreign k foreign = foreign.other (file_block files name these all k foreign.block foreign.gave ∙ block_is sheet stands.linked (contents (files name)) user user_length stands k foreign.node foreign.there)

  undamaged : (result : Result ℕ TreeFault) → DamageIsForeign result sheet (Given name these) → IsUndamaged result
  undamaged (Ok n) damage = tt
  undamaged (Err (faults.Damaged damage)) foreign = none_foreign damage.node foreign
  undamaged (Err faults.Host) damage = tt
  undamaged (Err faults.Memory) damage = tt

pub standing_read : (result : Result ℕ TreeFault) (name : Name) (at : ℕ) (buffer : List ℕ) (s s' : TreeState) (before after : HostState) → Reads result name at buffer s s' before after → ReadsStanding result name at buffer s s' before
standing_read result name at buffer s s' before after reads =
    IfSome_then (files_of before) reads.answered.honest (λ files all user sheet user_length stands backs.
    let stays = stays_backed result name at buffer s s' before after reads sheet (file_gives user files name sheet reads.these user_length all stands).nodes backs in
    record { backs = stays.backs; same = stays.same; slice = stays.slice; undamaged = undamaged user files name sheet reads.these user_length all stands result stays.damage })
