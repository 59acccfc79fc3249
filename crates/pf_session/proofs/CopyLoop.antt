-- The copying of the clean nodes, one after the other.
use Rattle.std.proofs.Common.{◌≡◌, ◌≢◌, inl, inr, ℕ, suc, ◌+◌, ◌-◌, ◌<◌, ◌≤◌, List, [], ◌++◌, refl, ap, ◌∙◌, sym, subst, arith, append_assoc, Result, Ok, Err}
use Rattle.std.specs.Prelude.{Contains}
use Rattle.std.proofs.lemmas.List.{append-nil}
use Rattle.std.proofs.lemmas.List.Elements.{Contains-append_cases}
use Rattle.node_tree.proofs.Order.{no_member}
use Rattle.pf_io.specs.Counts.{HasCause}
use Rattle.pf_io.specs.Disk.{Name, Disk}
use Rattle.pf_io.specs.Host.{HostState, Both}
use Rattle.pf_io.specs.Moments.{Ran}
use Rattle.pf_io.specs.Steps.{KeepsOthers}
use Rattle.pf_io.proofs.Images.{others_then}
use Rattle.pf_session.specs.Copying.{clean_from, clean_below, Copied, CopyGoes, CopyLeaves, CopiesInto}
use Rattle.pf_session.specs.Sealing.{LeavesOthers}
use Rattle.pf_session.specs.declared.fault.FlushFault.{FlushFault}
use Rattle.pf_session.specs.declared.fault.FlushFault.TheVariants as faults
use Rattle.pf_session.proofs.Copied.{copied_none, copied_then, goes_then, goes_more}
use Rattle.pf_session.proofs.Copies.{copies_none, copies_then, breaks_then, breaks_more}
use Rattle.pf_session.proofs.Disks.{alone_none, next_changes, ends_weaker}
use Rattle.pf_session.proofs.Lists.{clean_split, clean_one}

-- the clean nodes below a number were copied
pub record CopiedTo (from to : Name) (dirty : List ℕ) (count k : ℕ) (old new : HostState) : Type 0 where
  pub done : List ℕ
  pub split : done ++ clean_from dirty k (count - k) ≡ clean_below dirty count
  pub below : (x : ℕ) → Contains done x → x < k
  pub copied : Copied from to done old new
  pub disk : Both old.honest new.honest (Ran (LeavesOthers to) (CopiesInto from to done))

pub copied_to_first : (from to : Name) (dirty : List ℕ) (count : ℕ) (s : HostState) → CopiedTo from to dirty count 1 s s
copied_to_first from to dirty count s = record {
  done = [];
  split = refl;
  below = λ x there. absurd (no_member x there);
  copied = copied_none from to s;
  disk = ends_weaker (LeavesOthers to) _ _ s.honest s.honest (alone_none to s.honest) (copies_none from to);
}

module _ (from to : Name) (dirty : List ℕ) (count k : ℕ) (old mid new : HostState) (apart : from ≢ to) (lt : k < count) (so_far : CopiedTo from to dirty count k old mid) where
  rest_is : clean_from dirty k (count - k) ≡ clean_from dirty k 1 ++ clean_from dirty (k + 1) (count - (k + 1))
  rest_is = ap (λ (n : ℕ). clean_from dirty k n) (let e : count - k ≡ suc (count - (k + 1)) = omega arith in e) ∙ clean_split dirty k (count - (k + 1))

  all_is : (so_far.done ++ clean_from dirty k 1) ++ clean_from dirty (k + 1) (count - (k + 1)) ≡ clean_below dirty count
  all_is = append_assoc so_far.done (clean_from dirty k 1) (clean_from dirty (k + 1) (count - (k + 1))) ∙ ap (λ (l : List ℕ). so_far.done ++ l) (sym rest_is) ∙ so_far.split

  before_it : (x y : ℕ) → Contains so_far.done x → Contains (clean_from dirty k 1) y → x < y
  before_it x y in_done in_one = let a = so_far.below x in_done in let b = clean_one dirty k y in_one in omega arith

  pub copied_to_next : Copied from to (clean_from dirty k 1) mid new → Both mid.honest new.honest (Ran (LeavesOthers to) (CopiesInto from to (clean_from dirty k 1))) → CopiedTo from to dirty count (k + 1) old new
  copied_to_next one disk = record {
    done = so_far.done ++ clean_from dirty k 1;
    split = all_is;
    below = λ x there. elim (Contains-append_cases so_far.done (clean_from dirty k 1) x there) [
      | inl here ↦ let a = so_far.below x here in omega arith
      | inr here ↦ let b = clean_one dirty k x here in omega arith
    ];
    copied = copied_then from to so_far.done (clean_from dirty k 1) old mid new so_far.copied one;
    disk = next_changes to (CopiesInto from to so_far.done) (CopiesInto from to (clean_from dirty k 1)) (CopiesInto from to (so_far.done ++ clean_from dirty k 1)) old.honest mid.honest new.honest so_far.disk disk
        (λ d e copies. copies.others) (λ d e f first second. copies_then from to so_far.done (clean_from dirty k 1) d e f apart before_it first second);
  }

  pub copy_stops : (fault : FlushFault) → CopyGoes (Err fault) from to (clean_from dirty k 1) mid new → CopyGoes (Err fault) from to (clean_below dirty count) old new
  copy_stops fault goes =
      subst (λ (l : List ℕ). CopyGoes (Err fault) from to l old new) all_is
      (goes_more from to (so_far.done ++ clean_from dirty k 1) (clean_from dirty (k + 1) (count - (k + 1))) fault old new (goes_then from to so_far.done (clean_from dirty k 1) (Err fault) old mid new so_far.copied goes))

  leaves_stop : (fault : FlushFault) (d e f : Disk) → CopiesInto from to so_far.done d e → CopyLeaves (Err fault) from to (clean_from dirty k 1) e f
      → CopyLeaves (Err fault) from to ((so_far.done ++ clean_from dirty k 1) ++ clean_from dirty (k + 1) (count - (k + 1))) d f
  leaves_stop faults.Words d e f first keeps = others_then to d e f first.others keeps
  leaves_stop (faults.Damaged damage) d e f first breaks =
      breaks_more from to (so_far.done ++ clean_from dirty k 1) (clean_from dirty (k + 1) (count - (k + 1))) damage d f (breaks_then from to so_far.done (clean_from dirty k 1) damage d e f apart first.others breaks)
  leaves_stop faults.Host d e f first keeps = others_then to d e f first.others keeps

  pub copy_stops_disk : (fault : FlushFault) → Both mid.honest new.honest (Ran (LeavesOthers to) (CopyLeaves (Err fault) from to (clean_from dirty k 1))) → Both old.honest new.honest (Ran (LeavesOthers to) (CopyLeaves (Err fault) from to (clean_below dirty count)))
  copy_stops_disk fault disk =
      subst (λ (l : List ℕ). Both old.honest new.honest (Ran (LeavesOthers to) (CopyLeaves (Err fault) from to l))) all_is
      (next_changes to (CopiesInto from to so_far.done) (CopyLeaves (Err fault) from to (clean_from dirty k 1)) _ old.honest mid.honest new.honest so_far.disk disk (λ d e copies. copies.others) (leaves_stop fault))

module _ (from to : Name) (dirty : List ℕ) (count k : ℕ) (old new : HostState) (past : count ≤ k) (so_far : CopiedTo from to dirty count k old new) where
  all_done : so_far.done ≡ clean_below dirty count
  all_done = sym (append-nil so_far.done) ∙ ap (λ (n : ℕ). so_far.done ++ clean_from dirty k n) (let e : 0 ≡ count - k = omega arith in e) ∙ so_far.split

  pub copied_all : Copied from to (clean_below dirty count) old new
  copied_all = subst (λ (l : List ℕ). Copied from to l old new) all_done so_far.copied

  pub copied_all_disk : Both old.honest new.honest (Ran (LeavesOthers to) (CopiesInto from to (clean_below dirty count)))
  copied_all_disk = subst (λ (l : List ℕ). Both old.honest new.honest (Ran (LeavesOthers to) (CopiesInto from to l))) all_done so_far.disk

pub copy_keeps : (fault : FlushFault) (from to : Name) (numbers : List ℕ) (d e : Disk) → CopyLeaves (Err fault) from to numbers d e → KeepsOthers to d e
copy_keeps faults.Words from to numbers d e keeps = keeps
copy_keeps (faults.Damaged damage) from to numbers d e breaks = breaks.others
copy_keeps faults.Host from to numbers d e keeps = keeps

-- a fault of the host is counted once since the start
pub copy_cause : (r : Result (Unit {0}) (Unit {0})) (from to : Name) (dirty : List ℕ) (count k : ℕ) (old mid new : HostState) → CopiedTo from to dirty count k old mid → HasCause mid.faults new.faults r → HasCause old.faults new.faults r
copy_cause r from to dirty count k old mid new so_far cause = subst (λ (n : ℕ). HasCause n new.faults r) so_far.copied.asked.faults cause

pub copied_cause : (from to : Name) (dirty : List ℕ) (count k : ℕ) (old new : HostState) → CopiedTo from to dirty count k old new → HasCause {T = Unit {0}} {E = Unit {0}} old.faults new.faults (Ok tt)
copied_cause from to dirty count k old new so_far = let same = so_far.copied.asked.faults in record { later = omega (arith, same); still = same; once = tt }
