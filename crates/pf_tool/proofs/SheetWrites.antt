-- Behind the pieces that were written a session made beside a name stands on a sheet, holds all nodes and has the pieces as content. What this takes of the host and of the words.
use Rattle.std.proofs.Common.{◌≡◌, ℕ, ◌+◌, suc, ◌≤◌, max, true, false, List, [], ◌++◌, length, drop, refl, sym, ap, subst, ◌∙◌, arith, length-append, None, Result, Ok, Err}
use Rattle.std.specs.List.{concat}
use Rattle.std.proofs.lemmas.List.{append-nil, drop_all}
use Rattle.std.proofs.Math.Seq.{take-length}
use Rattle.node_layout.specs.Places.{node_count}
use Rattle.node_tree.specs.Applying.{Write, applied}
use Rattle.node_tree.specs.Backing.{now}
use Rattle.node_tree.specs.Sheet.{Sheet, IsLinked}
use Rattle.node_tree.specs.declared.fault.TreeFault.{TreeFault}
use Rattle.pf_io.specs.Disk.{Name, Disk}
use Rattle.pf_io.specs.Host.{HostState, Both, OnDisk}
use Rattle.pf_io.specs.Moments.{Ran, Where, Ends}
use Rattle.pf_io.specs.Names.{side_of}
use Rattle.pf_io.specs.Steps.{KeepsOthers}
use Rattle.pf_io.specs.Words.{WordsState}
use Rattle.pf_io.proofs.Runs.{started, goes_on_ran}
use Rattle.pf_io.proofs.Telling.{both_then, both_weaker, both_same}
use Rattle.pf_session.specs.Asking.{Took}
use Rattle.pf_session.specs.Aside.{LeavesOthers}
use Rattle.pf_session.specs.Backing.{IsBacked}
use Rattle.pf_session.specs.Changing.{StepGoes, WriteGoes, refused, unchanged, changed, not_flushed, flushed_and_changed}
use Rattle.pf_session.specs.Faults.{write_of_flush}
use Rattle.pf_session.specs.Flushing.{SealGoes, node_short, call_failed, flushed, FlushGoes, no_words, had_words}
use Rattle.pf_session.specs.Reopening.{HasSheet, ReadsAs}
use Rattle.pf_session.specs.Restored.{KeepsBeside}
use Rattle.pf_session.specs.Sealing.{StandsNext}
use Rattle.pf_session.specs.State.{SessionState, file_of}
use Rattle.pf_session.specs.declared.fault.WriteFault.{WriteFault}
use Rattle.pf_session.specs.declared.fault.Written.{Written}
use Rattle.pf_session.proofs.Disks.{leaves_others}
use Rattle.pf_session.proofs.Published.{has_reads}
use Rattle.pf_session.proofs.Versions.{file_beside}
use Rattle.pf_session.proofs.Words.{took_none, took_then}
use Rattle.pf_tool.proofs.HeldTree.{HoldsAll, step_still, step_holds, step_backs, step_size}
use Rattle.pf_tool.proofs.PieceAnswers.{TellsPieces, tells_none, tells_same, tells_then, none_of_flush}
use Rattle.pf_tool.proofs.SessionWrites.{step_was_made}

pub record Standing (user : List ℕ) (output : Name) (sheet : Sheet) (content : List ℕ) (session : SessionState) : Type 0 where
  pub key_is : session.key ≡ user
  pub name_is : session.name ≡ output
  pub path_is : session.path ≡ output
  pub drawn_is : session.drawn ≡ None
  pub beside_is : session.beside ≡ true
  pub linked : IsLinked sheet
  pub backed : IsBacked sheet session
  pub now_is : now sheet session.tree ≡ content
  pub size_is : session.tree.size ≡ length content
  pub holds : HoldsAll session.tree

-- Nothing failed, these words were taken, and nothing but the side file was changed; where it stood for the one sheet, it stands for the other.
pub record Went (input : Name) (user : List ℕ) (output : Name) (sheet next : Sheet) (at : ℕ) (pieces : List (List ℕ)) (before after : HostState) (random random' : WordsState) : Type 0 where
  pub calm : after.faults ≡ before.faults
  pub drew : List (List ℕ)
  pub took : Took drew random random'
  pub told : Both before.given after.given (TellsPieces input at pieces)
  pub alone : KeepsBeside output before after
  pub stands : OnDisk before after (Where (HasSheet user (side_of output) sheet) (Ends (λ _. HasSheet user (side_of output) next)))

-- where the host is as before, a file that stood for a sheet stands for it
pub same_stands : (user : List ℕ) (name : Name) (sheet : Sheet) (before after : HostState) → after ≡ before → OnDisk before after (Where (HasSheet user name sheet) (Ends (λ _. HasSheet user name sheet)))
same_stands user name sheet before after same = both_same (Where (HasSheet user name sheet) (Ends (λ _. HasSheet user name sheet))) before.honest after.honest (ap (λ (s : HostState). s.honest) same) (λ a has. has)

pub same_alone : (output : Name) (before after : HostState) → after ≡ before → KeepsBeside output before after
same_alone output before after same =
    subst (λ (s : HostState). KeepsBeside output before s) (sym same)
    (both_weaker (Ran (LeavesOthers (side_of output)) (λ old new. new ≡ old)) (Ran (LeavesOthers (side_of output)) (KeepsOthers (side_of output))) before.honest before.honest
    (started (LeavesOthers (side_of output)) before.honest (λ d image is other apart. is other)) (λ a b ran. record { leaves = ran.leaves; ends = λ other apart. ap (λ (d : Disk). d other) ran.ends }))

pub alone_then : (output : Name) (before mid after : HostState) → KeepsBeside output before mid → KeepsBeside output mid after → KeepsBeside output before after
alone_then output before mid after first second =
    let side = side_of output in
    goes_on_ran (LeavesOthers side) (LeavesOthers side) (KeepsOthers side) (KeepsOthers side) (KeepsOthers side) before.honest mid.honest after.honest first second (λ d e kept image left. leaves_others side d e image kept left)
    (λ d e f one two other apart. two other apart ∙ one other apart)

module _ (input : Name) (user : List ℕ) (output : Name) where
  pub went_same : (sheet : Sheet) (at : ℕ) (before after : HostState) (random random' : WordsState) → after ≡ before → random' ≡ random → Went input user output sheet sheet at [] before after random random'
  went_same sheet at before after random random' same words = record {
    calm = ap (λ (s : HostState). s.faults) same;
    drew = [];
    took = subst (λ (r : WordsState). Took [] random r) (sym words) (took_none random);
    told = tells_same input at before after same;
    alone = same_alone output before after same;
    stands = same_stands user (side_of output) sheet before after same;
  }

  pub went_then : (sheet mid_sheet next : Sheet) (at : ℕ) (xs ys : List (List ℕ)) (before mid after : HostState) (random words random' : WordsState) → Went input user output sheet mid_sheet at xs before mid random words
      → Went input user output mid_sheet next (at + length (concat xs)) ys mid after words random' → Went input user output sheet next at (xs ++ ys) before after random random'
  went_then sheet mid_sheet next at xs ys before mid after random words random' one two = record {
    calm = two.calm ∙ one.calm;
    drew = one.drew ++ two.drew;
    took = took_then one.drew two.drew random words random' one.took two.took;
    told = tells_then input at xs ys before mid after one.told two.told;
    alone = alone_then output before mid after one.alone two.alone;
    stands = both_then (Where (HasSheet user (side_of output) sheet) (Ends (λ _. HasSheet user (side_of output) mid_sheet))) (Where (HasSheet user (side_of output) mid_sheet) (Ends (λ _. HasSheet user (side_of output) next)))
        (Where (HasSheet user (side_of output) sheet) (Ends (λ _. HasSheet user (side_of output) next))) before.honest mid.honest after.honest one.stands two.stands (λ a b c first second has. second (first has));
  }

apart : {E : Type 0} (fault : E) → ◌≡◌ {A = Result (Unit {0}) E} (Ok tt) (Err fault) → ⊥
apart fault same = cc

not_written : {w : Written} (fault : WriteFault) → ◌≡◌ {A = Result Written WriteFault} (Ok w) (Err fault) → ⊥
not_written fault same = cc

applied_end : (content bytes : List ℕ) → applied (Write (length content) bytes) content ≡ content ++ bytes
applied_end content bytes =
    ap (λ (l : List ℕ). l ++ bytes ++ drop (length content + length bytes) content) (take-length content)
    ∙ ap (λ (l : List ℕ). content ++ bytes ++ l) (drop_all (length content + length bytes) content (omega arith))
    ∙ append-nil (content ++ bytes)

-- a step at the content's end
step_stands : (user : List ℕ) (output : Name) (sheet : Sheet) (content : List ℕ) (bytes : List ℕ) (old new : SessionState) (before after : HostState) → Standing user output sheet content old → StepGoes (Ok tt) (Write (length content) bytes) old new before after → Standing user output sheet (content ++ bytes) new × (after ≡ before)
step_stands user output sheet content bytes old new before after stands goes =
    let state = goes.state in
    let steps = goes.steps in
    let made = step_backs (file_of old) (Write (length content) bytes) old.tree new.tree before after stands.holds steps sheet stands.linked stands.backed.backs in (
      record {
        key_is = ap (λ (s : SessionState). s.key) state ∙ stands.key_is;
        name_is = ap (λ (s : SessionState). s.name) state ∙ stands.name_is;
        path_is = ap (λ (s : SessionState). s.path) state ∙ stands.path_is;
        drawn_is = ap (λ (s : SessionState). s.drawn) state ∙ stands.drawn_is;
        beside_is = ap (λ (s : SessionState). s.beside) state ∙ stands.beside_is;
        linked = stands.linked;
        backed = record { path_is = ap (λ (s : SessionState). s.path) state ∙ stands.backed.path_is; nonce_is = ap (λ (s : SessionState). s.nonce) state ∙ stands.backed.nonce_is; backs = made.backs };
        now_is = made.content_is ∙ ap (applied (Write (length content) bytes)) stands.now_is ∙ applied_end content bytes;
        size_is =
            let longer = step_size (file_of old) (Write (length content) bytes) old.tree new.tree before after steps in
            let was = stands.size_is in
            longer ∙ (let e : max old.tree.size (length content + length bytes) ≡ length content + length bytes = omega (arith, was) in e) ∙ sym (length-append content bytes);
        holds = step_holds (file_of old) (Write (length content) bytes) old.tree new.tree before after stands.holds steps;
      },
      step_still (file_of old) (Write (length content) bytes) old.tree new.tree before after stands.holds (Ok tt) steps,
    )

module _ (input : Name) (user : List ℕ) (output : Name) (sheet : Sheet) (content : List ℕ) where
  -- a flush
  module _ (old new : SessionState) (stands : Standing user output sheet content old) (before after : HostState) (random random' : WordsState) where
    seal_stands : (nonce : List ℕ) (keys drew : List (List ℕ)) → Took drew random random' → SealGoes (Ok tt) nonce keys old new before after
        → (next : Sheet) × Standing user output next content new × ((at : ℕ) → Went input user output sheet next at [] before after random random')
    seal_stands nonce keys drew took (node_short damage named short each state is) = absurd (apart _ is)
    seal_stands nonce keys drew took (call_failed stopped keeps each shape state is) = absurd (apart _ is)
    seal_stands nonce keys drew took (flushed mid done keeps settled each state is) =
        let seals = each sheet stands.linked stands.backed in
        let on = seals.on_next refl in
        let size : new.tree.size ≡ old.tree.size = settled.size ∙ done.shape.size in (
          seals.next,
          record {
            key_is = ap (λ (s : SessionState). s.key) state ∙ stands.key_is;
            name_is = ap (λ (s : SessionState). s.name) state ∙ stands.name_is;
            path_is = ap (λ (s : SessionState). s.path) state ∙ stands.path_is;
            drawn_is = ap (λ (s : SessionState). s.drawn) state;
            beside_is = ap (λ (s : SessionState). s.beside) state ∙ stands.beside_is;
            linked = seals.is_next.linked;
            backed = on.backed;
            now_is = on.now_is ∙ seals.is_next.content_is ∙ stands.now_is;
            size_is = size ∙ stands.size_is;
            holds = λ k low live.
                let was = stands.holds k low (subst (λ (n : ℕ). suc k ≤ node_count n) size live) in
                let shaped = done.shape.held k was in
                (shaped.0, settled.held k ∙ shaped.1);
          },
          λ at. record {
            calm = done.asked.faults;
            drew = drew;
            took = took;
            told = tells_none input at _ before after (none_of_flush input old nonce keys done.blocks mid stands.beside_is) done.asked.told;
            alone = subst (λ (n : Name). KeepsBeside n before after) stands.name_is (keeps stands.beside_is);
            stands =
                let goes = subst (λ (u : List ℕ). StandsNext u (side_of output) sheet seals.next before after) stands.key_is
                (subst (λ (n : Name). StandsNext old.key n sheet seals.next before after) (file_beside old stands.beside_is ∙ ap side_of stands.name_is) (seals.stands refl)) in
                both_weaker (Where (ReadsAs user (side_of output) sheet) (Ends (λ _. HasSheet user (side_of output) seals.next))) (Where (HasSheet user (side_of output) sheet) (Ends (λ _. HasSheet user (side_of output) seals.next)))
                before.honest after.honest goes (λ a b go has. go (has_reads user (side_of output) sheet a.now has));
          },
        )

    pub flush_stands : FlushGoes (Ok tt) old new before after random random' → (next : Sheet) × Standing user output next content new × ((at : ℕ) → Went input user output sheet next at [] before after random random')
    flush_stands (no_words lacked same still is) = absurd (apart _ is)
    flush_stands (had_words nonce keys came goes) = seal_stands nonce keys (came.words ++ keys) came.took goes

  -- a write at the content's end
  pub write_stands : (w : Written) (bytes : List ℕ) (old new : SessionState) (before after : HostState) (random random' : WordsState) → Standing user output sheet content old → WriteGoes (Ok w) (length content) bytes old new before after random random'
      → (next : Sheet) × Standing user output next (content ++ bytes) new × ((at : ℕ) → Went input user output sheet next at [] before after random random')
  write_stands w bytes old new before after random random' stands (refused fault rule same still words is) = absurd (not_written fault is)
  write_stands w bytes old new before after random random' stands (unchanged never none same still words is) = (
    sheet,
    subst (λ (s : SessionState). Standing user output sheet (content ++ bytes) s) (sym same) (subst (λ (l : List ℕ). Standing user output sheet l old) (sym (append-nil content) ∙ ap (λ (l : List ℕ). content ++ l) (sym none)) stands),
    λ at. went_same input user output sheet at before after random random' still words,
  )
  write_stands w bytes old new before after random random' stands (changed one never some room goes words is) =
      let made = step_stands user output sheet content bytes old new before after stands (subst (λ (r : Result (Unit {0}) TreeFault). StepGoes r (Write (length content) bytes) old new before after) (step_was_made false one is) goes) in
      (sheet, made.0, λ at. went_same input user output sheet at before after random random' made.1 words)
  write_stands w bytes old new before after random random' stands (not_flushed fault never some many goes undamaged is) = absurd (not_written (write_of_flush fault) is)
  write_stands w bytes old new before after random random' stands (flushed_and_changed mid between one never some many flush goes is) =
      let sealed = flush_stands old mid stands before between random random' flush in
      let made = step_stands user output sealed.0 content bytes mid new between after sealed.1 (subst (λ (r : Result (Unit {0}) TreeFault). StepGoes r (Write (length content) bytes) mid new between after) (step_was_made true one is) goes) in
      (sealed.0, made.0, λ at. went_then input user output sheet sealed.0 sealed.0 at [] [] before between after random random' random' (sealed.2 at) (went_same input user output sealed.0 (at + 0) between after random' random' made.1 refl))
