-- A new version of a session's content, from the writing of its parts.
use Rattle.std.proofs.Common.{◌≡◌, ℕ, ◌+◌, ◌-◌, ◌*◌, ◌≤◌, Bool, true, false, cond, List, length, refl, ap, ◌∙◌, sym, subst, arith, Option, Some, None, IfSome, Result, Ok, Err, OnOk}
use Rattle.std.specs.Prelude.{Contains}
use Rattle.std.proofs.lemmas.Bool.{false≢true}
use Rattle.std.proofs.lemmas.Option.{IfSome_then}
use Rattle.pf_io.specs.Disk.{Name, Files, File, read_of}
use Rattle.pf_io.specs.Host.{HostState, Both, contents, files_of}
use Rattle.pf_io.specs.Moments.{Ends, Where}
use Rattle.pf_io.specs.Names.{side_of}
use Rattle.pf_io.proofs.Telling.{both_weaker}
use Rattle.node_layout.specs.Places.{node_count}
use Rattle.node_tree.specs.Backing.{Backs}
use Rattle.node_tree.specs.Next.{KeepsShape, IsSealedAs}
use Rattle.node_tree.specs.Sheet.{Sheet, Stands, image_of}
use Rattle.node_tree.specs.State.{TreeState}
use Rattle.node_tree.proofs.Standing.{within}
use Rattle.pf_session.specs.State.{SessionState, file_of}
use Rattle.pf_session.specs.Asking.{NoCall, Asked, Stopped}
use Rattle.pf_session.specs.Copying.{clean_below}
use Rattle.pf_session.specs.Reopening.{ReadsAs, HasSheet}
use Rattle.pf_session.specs.Steps.{seal_steps, clean_nodes, steps_by}
use Rattle.pf_session.specs.Sealing.{ChangesAlone, HasNext, HasSealed, SealsFile, Replaces, StandsNext}
use Rattle.pf_session.specs.Making.{ReplaceGoes, ReplacesNexts, StandsNexts, ReplaceUndamaged, done_of}
use Rattle.pf_session.specs.Flushing.{SealedAll, UndamagedFlush}
use Rattle.pf_session.specs.Versions.{VersionGoes, SealsOn, SealsOns}
use Rattle.pf_session.specs.declared.fault.FlushFault.{FlushFault}
use Rattle.pf_session.specs.declared.fault.FlushFault.TheVariants as faults
use Rattle.pf_session.proofs.Calls.{same_asked, same_stopped}
use Rattle.pf_session.proofs.Copied.{any_blocks}
use Rattle.pf_session.proofs.Lists.{clean_member}
use Rattle.pf_session.proofs.Standing.{length-image, stands_next}

-- the nodes of a sheet that a tree on it has not changed are in its file
module _ (key : List ℕ) (sheet : Sheet) (tree : TreeState) (file : List ℕ) (key_length : length key ≡ 16) (backs : Backs sheet tree) (stands : Stands file key sheet) where
  pub clean_whole : (k : ℕ) → Contains (clean_below tree.dirty (node_count tree.size)) k → 4096 * k + 4096 ≤ length file
  clean_whole k among =
      let m = clean_member tree.dirty 1 (node_count tree.size - 1) k among in
      let low = m.0 in
      let high = m.1 in
      let node = backs.clean k low (omega arith) m.2 in
      let inside = within sheet k node.0 node.1 in
      let long = stands.long in
      omega (arith, inside, long, length-image key sheet stands.linked key_length)

pub stands_in_place : (key path nonce : List ℕ) (sheet : Sheet) (tree mid : TreeState) (keys : List (List ℕ)) (next : Sheet) (file new : List ℕ) → length key ≡ 16 → HasNext sheet tree path nonce keys next → IsSealedAs next mid → KeepsShape tree mid
    → Stands file key sheet → HasSealed key next tree.dirty file new → Stands new key next
stands_in_place key path nonce sheet tree mid keys next file new key_length has as_sealed shape stands sealed =
    stands_next key path nonce sheet tree keys next file file new key_length has stands (as_sealed.size ∙ shape.size) sealed.longer
    (λ k i among low high. (clean_whole key sheet tree file key_length has.backs stands k among, refl)) sealed

module _ (s : SessionState) (nonce : List ℕ) (keys : List (List ℕ)) (mid : TreeState) (old new : HostState) where
  pub beside_stopped : (fault : FlushFault) → fault ≡ faults.Host → s.beside ≡ true → Stopped (seal_steps s.key s.path nonce (side_of s.name) s.tree.dirty keys mid) old new → ChangesAlone (side_of s.name) old new
      → VersionGoes (Err fault) nonce keys s mid old new
  beside_stopped fault is beside stopped alone =
      let any = any_blocks (clean_nodes s) in
      subst (λ (f : FlushFault). VersionGoes (Err f) nonce keys s mid old new) (sym is) (record {
        blocks = any.0;
        are_blocks = any.1;
        stopped = same_stopped _ _ old new (ap (λ (b : Bool). steps_by b s nonce keys any.0 mid) (sym beside)) stopped;
        alone = λ other. alone;
      })

  pub beside_done : s.beside ≡ true → KeepsShape s.tree mid → SealedAll nonce keys s mid → Asked (seal_steps s.key s.path nonce (side_of s.name) s.tree.dirty keys mid) NoCall old new → VersionGoes (Ok tt) nonce keys s mid old new
  beside_done beside shape sealed asked =
      let any = any_blocks (clean_nodes s) in
      record { blocks = any.0; are_blocks = any.1; shape = shape; sealed = sealed; asked = same_asked _ _ NoCall old new (ap (λ (b : Bool). steps_by b s nonce keys any.0 mid) (sym beside)) asked }

  pub named_goes : (r : Result (Unit {0}) FlushFault) → s.beside ≡ false → KeepsShape s.tree mid → OnOk r (SealedAll nonce keys s mid) → ReplaceGoes r s.key s.path nonce s.name (side_of s.name) (clean_nodes s) s.tree.dirty keys mid old new → VersionGoes r nonce keys s mid old new
  named_goes (Ok done) beside shape sealed goes = record {
    blocks = goes.blocks;
    are_blocks = goes.are_blocks;
    shape = shape;
    sealed = sealed;
    asked = same_asked _ _ NoCall old new (ap (λ (b : Bool). steps_by b s nonce keys goes.blocks mid) (sym beside)) goes.asked;
  }
  named_goes (Err faults.Words) beside shape sealed goes = goes
  named_goes (Err (faults.Damaged damage)) beside shape sealed goes = (beside, goes)
  named_goes (Err faults.Host) beside shape sealed goes = record {
    blocks = goes.blocks;
    are_blocks = goes.are_blocks;
    stopped = record {
      answered = goes.stopped.answered;
      failed = goes.stopped.failed;
      left = goes.stopped.left;
      in_order = ap (λ (b : Bool). steps_by b s nonce keys goes.blocks mid) beside ∙ goes.stopped.in_order;
      asked = goes.stopped.asked;
    };
    alone = goes.alone;
  }

-- the names by which they were called
pub renamed : (r : Result (Unit {0}) FlushFault) (key path nonce : List ℕ) (name name' side side' : Name) (clean dirty : List ℕ) (keys : List (List ℕ)) (tree : TreeState) (old new : HostState) → name ≡ name' → side ≡ side' → ReplaceGoes r key path nonce name side clean dirty keys tree old new
    → ReplaceGoes r key path nonce name' side' clean dirty keys tree old new
renamed r key path nonce name name' side side' clean dirty keys tree old new is is' goes =
    subst (λ (n : Name). ReplaceGoes r key path nonce n side' clean dirty keys tree old new) is (subst (λ (n : Name). ReplaceGoes r key path nonce name n clean dirty keys tree old new) is' goes)

-- where the file of a session stands
pub file_beside : (s : SessionState) → s.beside ≡ true → file_of s ≡ side_of s.name
file_beside s is = ap (λ (b : Bool). cond b (side_of s.name) s.name) is

file_named : (s : SessionState) → s.beside ≡ false → file_of s ≡ s.name
file_named s is = ap (λ (b : Bool). cond b (side_of s.name) s.name) is

-- what reads as a sheet is there
read_there : (key : List ℕ) (sheet : Sheet) (o : Option File) → length key ≡ 16 → Stands (contents (read_of o)) key sheet → (file : File) × (o ≡ Some file) × Stands file.bytes key sheet
read_there key sheet (Some file) key_length stands = (file, refl, stands)
read_there key sheet None key_length stands = let long : length (image_of key sheet) ≤ 0 = stands.long in absurd (omega (arith, long, length-image key sheet stands.linked key_length))

when_done : {P : Type 0} (r : Result (Unit {0}) FlushFault) → OnOk r P → done_of r ≡ true → P
when_done (Ok done) holds is = holds
when_done (Err fault) holds is = absurd (false≢true is)

-- the name has the next sheet
pub seals_named : (r : Result (Unit {0}) FlushFault) (s : SessionState) (nonce : List ℕ) (keys : List (List ℕ)) (name : Name) (old new : HostState) → s.beside ≡ false → name ≡ s.name → ReplacesNexts r s.key s.path nonce name s.tree keys old new
    → OnOk r (StandsNexts s.key s.path nonce name s.tree keys old new) → SealsOns r nonce keys s old new
seals_named r s nonce keys name old new beside is replaces stands sheet next has = record {
  named = λ _. subst (λ (n : Name). Replaces (done_of r) s.key n sheet next old new) is (replaces sheet next has);
  stands = λ done. subst (λ (n : Name). StandsNext s.key n sheet next old new) (is ∙ sym (file_named s beside)) (when_done r stands done sheet next has);
}

-- a side file that was not sealed
pub seals_failed : (fault : FlushFault) (s : SessionState) (nonce : List ℕ) (keys : List (List ℕ)) (old new : HostState) → s.beside ≡ true → SealsOns (Err fault) nonce keys s old new
seals_failed fault s nonce keys old new beside sheet next has = record { named = λ named. absurd (false≢true (sym named ∙ beside)); stands = λ done. absurd (false≢true done) }

-- the side file stands for the next sheet
pub seals_beside : (s : SessionState) (nonce : List ℕ) (keys : List (List ℕ)) (mid : TreeState) (sheet next : Sheet) (old new : HostState) → s.beside ≡ true → length s.key ≡ 16 → HasNext sheet s.tree s.path nonce keys next → IsSealedAs next mid → KeepsShape s.tree mid
    → Both old.honest new.honest (Ends (SealsFile s.key next s.tree.dirty (side_of s.name))) → SealsOn true sheet next s old new
seals_beside s nonce keys mid sheet next old new beside key_length has as_sealed shape ends = record {
  named = λ named. absurd (false≢true (sym named ∙ beside));
  stands = λ done.
      subst (λ (n : Name). StandsNext s.key n sheet next old new) (sym (file_beside s beside))
      (both_weaker (Ends (SealsFile s.key next s.tree.dirty (side_of s.name))) (Where (ReadsAs s.key (side_of s.name) sheet) (Ends (λ _. HasSheet s.key (side_of s.name) next))) old.honest new.honest ends
      (λ a b sealed reads.
      let f = read_there s.key sheet (a.now (side_of s.name)) key_length reads in
      let q = sealed.there f.0 f.1 in
      record { file = q.0; there = q.1; settled = q.2; stands = stands_in_place s.key s.path nonce sheet s.tree mid keys next f.0.bytes q.0.bytes key_length has as_sealed shape f.2 q.3 }));
}

pub for_all : (P : Files → Type 0) (o : Option Files) → ((files : Files) → P files) → IfSome o P
for_all P (Some files) each = each files
for_all P None each = tt

-- where the file stands for a sheet, no node of it is short
pub undamaged_by : (r : Result (Unit {0}) FlushFault) (s : SessionState) (before : HostState) → s.beside ≡ false → length s.key ≡ 16 → ReplaceUndamaged r s.name (clean_nodes s) before → UndamagedFlush r s before
undamaged_by (Ok done) s before beside key_length short = for_all _ (files_of before) (λ files sheet backed stands. tt)
undamaged_by (Err faults.Words) s before beside key_length short = for_all _ (files_of before) (λ files sheet backed stands. tt)
undamaged_by (Err (faults.Damaged damage)) s before beside key_length short =
    IfSome_then (files_of before) short
    (λ files broken sheet backed stands.
    let there : Stands (contents (files s.name)) s.key sheet = subst (λ (b : Bool). Stands (contents (files (cond b (side_of s.name) s.name))) s.key sheet) beside stands in
    let whole = clean_whole s.key sheet s.tree (contents (files s.name)) key_length backed.backs there damage.node broken.0 in
    let few = broken.1 in
    absurd (omega arith))
undamaged_by (Err faults.Host) s before beside key_length short = for_all _ (files_of before) (λ files sheet backed stands. tt)
