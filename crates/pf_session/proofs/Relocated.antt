-- A file that is copied to a new name and taken away from the old one.
use Rattle.std.proofs.Common.{◌≡◌, ◌≢◌, ℕ, List, ◌∙◌, sym, subst, Option, Result, Ok, Err}
use Rattle.pf_io.specs.Disk.{Name, File, Disk, Image, IsImageAt}
use Rattle.pf_io.specs.Host.{HostState, Both}
use Rattle.pf_io.specs.Moments.{Honest, Ran}
use Rattle.pf_io.specs.Names.{IsTarget, side_of}
use Rattle.pf_io.specs.Steps.{KeepsOthers}
use Rattle.pf_io.proofs.Runs.{goes_on_ran}
use Rattle.pf_session.specs.Aside.{KeepsApartBoth, LeavesOthers}
use Rattle.pf_session.specs.Asking.{NoCall, Asked, Stopped}
use Rattle.pf_session.specs.Relocating.{copy_steps, name_steps, HasCopy, CopyMade, CopyFileGoes, NamedAs, not_yet, both, new_alone, NameImage, NameLeaves, RelocatedAs, RelocateImage, RelocateLeaves, Relocated, RelocateStopped, RelocateGoes}
use Rattle.pf_session.specs.declared.fault.FlushFault.{FlushFault}
use Rattle.pf_session.specs.declared.fault.FlushFault.TheVariants as faults
use Rattle.pf_session.proofs.Apartness.{no_side}
use Rattle.pf_session.proofs.Calls.{asked_then, stopped_then, stopped_more}
use Rattle.pf_session.proofs.Placing.{ran_weaker}
use Rattle.pf_session.proofs.Names.{side_apart}

module _ (from to : Name) (target : IsTarget from) (node numbers : List ℕ) where
  from_side : from ≢ side_of to
  from_side same = no_side to from same target

  to_side : to ≢ side_of to
  to_side same = side_apart to (sym same)

  -- the disk

  left_image : (d : Disk) (image : Image) → LeavesOthers (side_of to) d image → RelocateImage from to node numbers d image
  left_image d image left = record { apart = λ other apart. left other apart.of_new.side; names = λ ne. not_yet (left from from_side) (left to to_side) }

  copied_image : (d e : Disk) → HasCopy from (side_of to) node numbers d e → (image : Image) → NameImage from to e image → RelocateImage from to node numbers d image
  copied_image d e copy image is = record { apart = λ other apart. here other apart.of_new.side (is.apart other apart); names = λ ne. by_name (is.names copy.file ne copy.there copy.settled) }
    where
      here : (other : Name) → other ≢ side_of to → IsImageAt (e other) (image other) → IsImageAt (d other) (image other)
      here other ne left = subst (λ (o : Option File). IsImageAt o (image other)) (copy.others other ne) left

      by_name : NamedAs from to copy.file e image → RelocatedAs from to node numbers d image
      by_name (not_yet old new) = not_yet (here from from_side old) (here to to_side new)
      by_name (both old new) = both copy.file.bytes copy.copy (here from from_side old) new
      by_name (new_alone gone new) = new_alone copy.file.bytes copy.copy gone new

  ends : {T E : Type 0} (r : Result T E) (d e f : Disk) → HasCopy from (side_of to) node numbers d e → NameLeaves r from to e f → RelocateLeaves r from to node numbers d f
  ends (Ok x) d e f copy name = record {
    apart = λ other apart. name.apart other apart ∙ copy.others other apart.of_new.side;
    gone = name.gone;
    recovery = name.recovery;
    named = λ ne. (copy.file, name.named copy.file ne copy.there, copy.settled, copy.copy);
  }
  ends (Err x) d e f copy keeps = λ other apart. keeps other apart ∙ copy.others other apart.of_new.side

  module _ (side : Name) (side_is : side ≡ side_of to) where
    pub not_copied_run : (o p : Option Honest) → Both o p (Ran (LeavesOthers side) (KeepsOthers side)) → Both o p (Ran (RelocateImage from to node numbers) (KeepsApartBoth from to))
    not_copied_run o p ran =
        ran_weaker (LeavesOthers (side_of to)) (RelocateImage from to node numbers) (KeepsOthers (side_of to)) (KeepsApartBoth from to) o p left_image (λ d e keeps other apart. keeps other apart.of_new.side)
        (subst (λ (n : Name). Both o p (Ran (LeavesOthers n) (KeepsOthers n))) side_is ran)

    pub relocated_run : {T E : Type 0} (r : Result T E) (o p q : Option Honest) → Both o p (Ran (LeavesOthers side) (HasCopy from side node numbers)) → Both p q (Ran (NameImage from to) (NameLeaves r from to))
        → Both o q (Ran (RelocateImage from to node numbers) (RelocateLeaves r from to node numbers))
    relocated_run r o p q copies names =
        goes_on_ran (RelocateImage from to node numbers) (NameImage from to) (HasCopy from (side_of to) node numbers) (NameLeaves r from to) (RelocateLeaves r from to node numbers) o p q
        (ran_weaker (LeavesOthers (side_of to)) (RelocateImage from to node numbers) (HasCopy from (side_of to) node numbers) (HasCopy from (side_of to) node numbers) o p left_image (λ d e copy. copy)
        (subst (λ (n : Name). Both o p (Ran (LeavesOthers n) (HasCopy from n node numbers))) side_is copies))
        names copied_image (ends r)

    -- the calls

    pub not_copied : (fault : FlushFault) (s0 s1 : HostState) → CopyFileGoes (Err fault) from side node numbers s0 s1 → RelocateGoes (Err fault) from to node numbers s0 s1
    not_copied fault s0 s1 goes = by_fault fault (subst (λ (n : Name). CopyFileGoes (Err fault) from n node numbers s0 s1) side_is goes)
      where
        by_fault : (f : FlushFault) → CopyFileGoes (Err f) from (side_of to) node numbers s0 s1 → RelocateGoes (Err f) from to node numbers s0 s1
        by_fault faults.Words fails = fails
        by_fault (faults.Damaged damage) fails = fails
        by_fault faults.Host fails = record { blocks = fails.blocks; are_blocks = fails.are_blocks; stopped = stopped_more (copy_steps from (side_of to) node numbers fails.blocks) (name_steps from to) s0 s1 fails.stopped }

    module _ (s0 s1 s2 : HostState) (made : CopyMade from side node numbers s0 s1) where
      copies : CopyMade from (side_of to) node numbers s0 s1
      copies = subst (λ (n : Name). CopyMade from n node numbers s0 s1) side_is made

      pub not_named : (fault : FlushFault) → fault ≡ faults.Host → Stopped (name_steps from to) s1 s2 → RelocateGoes (Err fault) from to node numbers s0 s2
      not_named fault is stopped =
          let stops : RelocateStopped from to node numbers s0 s2 = record {
            blocks = copies.blocks;
            are_blocks = copies.are_blocks;
            stopped = stopped_then (copy_steps from (side_of to) node numbers copies.blocks) (name_steps from to) s0 s1 s2 copies.asked stopped;
          } in
          subst (λ (f : FlushFault). RelocateGoes (Err f) from to node numbers s0 s2) (sym is) stops

      pub all_relocated : Asked (name_steps from to) NoCall s1 s2 → Relocated from to node numbers s0 s2
      all_relocated asked = record { blocks = copies.blocks; are_blocks = copies.are_blocks; asked = asked_then (copy_steps from (side_of to) node numbers copies.blocks) (name_steps from to) NoCall s0 s1 s2 copies.asked asked }
