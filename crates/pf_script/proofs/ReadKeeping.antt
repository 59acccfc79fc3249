-- What reads and drawings keep of a book, from their contracts.
use Rattle.std.proofs.Common.{◌≡◌, List, ℕ, sym, ◌∙◌, ap, subst, Option, Some, Result}
use Rattle.std.specs.Prelude.{IfSome, option_map}
use Rattle.pf_io.specs.Disk.{reading}
use Rattle.pf_io.specs.Moments.{Honest}
use Rattle.pf_io.specs.Host.{HostState, OnDisk, contents}
use Rattle.pf_io.specs.Unchanged.{KeepsDisk}
use Rattle.pf_io.specs.Words.{WordsState}
use Rattle.pf_io.specs.declared.faults.WordsFault.{WordsFault}
use Rattle.node_tree.specs.Backing.{Backs, now}
use Rattle.node_tree.specs.Sheet.{Sheet, Stands}
use Rattle.node_tree.specs.declared.fault.TreeFault.{TreeFault}
use Rattle.pf_session.specs.Backing.{IsBacked, RestsOn}
use Rattle.pf_session.specs.Drawing.{DrawGoes, drawn_before, drawn_now, not_drawn}
use Rattle.pf_session.specs.Moving.{IsKeptOn}
use Rattle.pf_session.specs.Reading.{KeepsFields, ReadsStanding, StandingRead}
use Rattle.pf_session.specs.Reopening.{Stood}
use Rattle.pf_session.specs.State.{SessionState, file_of}
use Rattle.pf_script.specs.BookDebts.{Unchanged}
use Rattle.pf_script.specs.BookSeats.{IsOfScript, Covers, KeepsUnder}
use Rattle.pf_script.proofs.ActKeeping.{Idles, idle_keeps, unchanged_now}
use Rattle.pf_script.proofs.CallKeeping.{both_with, stands_there}

module _ (old : SessionState) (mine : IsOfScript old) (new : SessionState) where
  -- the session has the content and the dirty nodes that it had
  kept_on : (result : Result ℕ TreeFault) (at : ℕ) (buffer : List ℕ) → KeepsFields old new → new.tree.dirty ≡ old.tree.dirty → (base : Sheet) → StandingRead result base at buffer old new → IsKeptOn base old → IsKeptOn base new
  kept_on result at buffer fields dirty base reads kept = record {
    backed = reads.backed;
    rests = λ calm.
        let was : RestsOn base old = kept.rests (sym (ap (λ (s : SessionState). s.changed) fields) ∙ calm) in
        record { stands = record { backed = reads.backed; now_is = reads.same ∙ was.stands.now_is }; clean = dirty ∙ was.clean };
  }

  -- on the sheet that the file stands for
  pub stood_read : (result : Result ℕ TreeFault) (at : ℕ) (buffer : List ℕ) (before : HostState) (a : Honest) → before.honest ≡ Some a → ReadsStanding result at buffer old new before → (base : Sheet) → Stood old.key old.name base a.now → IsBacked base old
      → StandingRead result base at buffer old new
  stood_read result at buffer before a is reads base stood backed =
      subst (λ (o : Option Honest). IfSome (option_map (λ host. reading host.now) o) (λ files. (sheet : Sheet) → Stands (contents (files (file_of old))) old.key sheet → IsBacked sheet old → StandingRead result sheet at buffer old new)) is
      reads base (stands_there old mine a base stood) backed

  pub read_keeps : (result : Result ℕ TreeFault) (at : ℕ) (buffer : List ℕ) (before after : HostState) → KeepsFields old new → new.tree.dirty ≡ old.tree.dirty → ReadsStanding result at buffer old new before → KeepsDisk before after
      → OnDisk before after (KeepsUnder (Covers old) (Covers new) (λ name. name ≡ old.name))
  read_keeps result at buffer before after fields dirty reads keeps =
      both_with Unchanged (KeepsUnder (Covers old) (Covers new) (λ name. name ≡ old.name)) before.honest after.honest keeps
      (λ a b is is2 only. idle_keeps old new a b (λ name. name ≡ old.name) (record {
        unchanged = only;
        key_is = ap (λ (s : SessionState). s.key) fields;
        name_is = ap (λ (s : SessionState). s.name) fields;
        whole = λ whole. sym (ap (λ (s : SessionState). s.broken) fields) ∙ whole;
        kept = λ base kept stood whole. kept_on result at buffer fields dirty base (stood_read result at buffer before a is reads base stood kept.backed) kept;
      }))

  -- a drawing makes no call of a host
  pub draw_keeps : (result : Result (List ℕ) WordsFault) (random random' : WordsState) (host : Honest) → DrawGoes result old new random random' → KeepsUnder (Covers old) (Covers new) (λ name. name ≡ old.name) host host
  draw_keeps result random random' host goes = idle_keeps old new host host (λ name. name ≡ old.name) (drawn goes)
    where
      stays : new ≡ old → Idles old new host host
      stays same = record {
        unchanged = unchanged_now host;
        key_is = ap (λ (s : SessionState). s.key) same;
        name_is = ap (λ (s : SessionState). s.name) same;
        whole = λ whole. sym (ap (λ (s : SessionState). s.broken) same) ∙ whole;
        kept = λ base kept stood whole. subst (λ (s : SessionState). IsKeptOn base s) (sym same) kept;
      }

      drawn : DrawGoes result old new random random' → Idles old new host host
      drawn (drawn_before nonce was same words said) = stays same
      drawn (drawn_now nonce none words same said) = record {
        unchanged = unchanged_now host;
        key_is = ap (λ (s : SessionState). s.key) same;
        name_is = ap (λ (s : SessionState). s.name) same;
        whole = λ whole. sym (ap (λ (s : SessionState). s.broken) same) ∙ whole;
        kept = λ base kept stood whole.
            let is_backed : IsBacked base new = record {
              path_is = ap (λ (s : SessionState). s.path) same ∙ kept.backed.path_is;
              nonce_is = ap (λ (s : SessionState). s.nonce) same ∙ kept.backed.nonce_is;
              backs = subst (λ (s : SessionState). Backs base s.tree) (sym same) kept.backed.backs;
            } in record {
              backed = is_backed;
              rests = λ calm.
                  let was : RestsOn base old = kept.rests (sym (ap (λ (s : SessionState). s.changed) same) ∙ calm) in record {
                    stands = record { backed = is_backed; now_is = ap (λ (s : SessionState). now base s.tree) same ∙ was.stands.now_is };
                    clean = ap (λ (s : SessionState). s.tree.dirty) same ∙ was.clean;
                  };
            };
      }
      drawn (not_drawn fault none fewer same said) = stays same
