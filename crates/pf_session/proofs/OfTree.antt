-- A read of a session, from that of its tree: one clause, from which those of each host come.
use Rattle.std.proofs.Common.{◌≡◌, ℕ, List, length, Result}
use Rattle.std.specs.Prelude.{Contains}
use Rattle.std.proofs.lemmas.Option.{IfSome_then}
use Rattle.pf_io.specs.Host.{HostState, files_of}
use Rattle.pf_io.proofs.Telling.{told_by}
use Rattle.node_tree.specs.Sheet.{Sheet}
use Rattle.node_tree.specs.Opened.{Given}
use Rattle.node_tree.specs.Unforged.{Unforged}
use Rattle.node_tree.specs.State.{TreeState}
use Rattle.node_tree.specs.Reading.{BackedRead as TreeBacked, ReadsStanding as TreeStanding}
use Rattle.node_tree.specs.declared.fault.TreeFault.{TreeFault}
use Rattle.node_tree.proofs.Giving.{unforged_gives}
use Rattle.pf_session.specs.State.{SessionState, file_of}
use Rattle.pf_session.specs.Backing.{IsBacked}
use Rattle.pf_session.specs.Reading.{StaysRead, BackedRead, UnforgedRead, ReadsStanding}

module _ (result : Result ℕ TreeFault) (at : ℕ) (buffer : List ℕ) (before after : HostState) where
  pub backed_read : (old : SessionState) (tree : TreeState) → TreeBacked result (file_of old) at buffer old.tree tree before after → BackedRead result at buffer old (record old { tree = tree }) before after
  backed_read old tree came = record {
    these = came.these;
    answered = came.answered;
    holds = λ sheet given backed.
        let stays = came.holds sheet given backed.backs in
        record { backed = record { path_is = backed.path_is; nonce_is = backed.nonce_is; backs = stays.backs }; same = stays.same; slice = stays.slice; damage = stays.damage };
  }

  pub unforged_read : (old new : SessionState) → BackedRead result at buffer old new before after → UnforgedRead result at buffer old new before after
  unforged_read old new came =
      told_by (λ these. (key : List ℕ) (sheets : List Sheet) (sheet : Sheet) → Unforged key sheets these → Contains sheets sheet → IsBacked sheet old → StaysRead result sheet (Given (file_of old) these) at buffer old new)
      came.these before after came.answered.told (λ key sheets sheet unforged among backed. came.holds sheet ((unforged_gives key sheets came.these unforged).nodes (file_of old) sheet among) backed)

  pub standing_read : (old : SessionState) (tree : TreeState) → length old.key ≡ 16 → TreeStanding result (file_of old) at buffer old.tree tree before → ReadsStanding result at buffer old (record old { tree = tree }) before
  standing_read old tree long stands =
      IfSome_then (files_of before) stands (λ files reads sheet standing backed.
      let stays = reads old.key sheet long standing backed.backs in
      record { backed = record { path_is = backed.path_is; nonce_is = backed.nonce_is; backs = stays.backs }; same = stays.same; slice = stays.slice; undamaged = stays.undamaged })
