-- A new version that takes the place of the last one, on an honest disk.
use Rattle.std.proofs.Common.{◌≡◌, ◌≢◌, inl, inr, ℕ, List, ap, ◌∙◌, sym, subst, Option, Some, Result, Ok, Err}
use Rattle.pf_io.specs.Disk.{Name, File, Disk, Image, IsImage, IsImageAt, IsSettledFile, IsSettledAt, read_of}
use Rattle.pf_io.specs.Host.{Both, contents}
use Rattle.pf_io.specs.Moments.{Honest, Does, Ran, Ends, Where}
use Rattle.pf_io.specs.Names.{recovery_of}
use Rattle.pf_io.specs.Steps.{KeepsOthers, Swaps, AtOnce}
use Rattle.pf_io.proofs.Images.{settled_at, settled_reads}
use Rattle.pf_io.proofs.Runs.{goes_on, ran_leaves, ran_ends, ran_by, weaker}
use Rattle.pf_io.proofs.Telling.{both_then, both_weaker}
use Rattle.node_tree.specs.Sheet.{Sheet, Stands}
use Rattle.pf_session.specs.Reopening.{LeftAs, AsEither, Stood, ReadsAs, HasSheet}
use Rattle.pf_session.specs.Sealing.{LeavesOthers, StoodOrKept, StoodIf}
use Rattle.pf_session.specs.Making.{done_of}
use Rattle.pf_session.proofs.Names.{recovery_apart}

-- the name as it was leaves the sheet that it stood for
pub kept_left : (key : List ℕ) (name : Name) (sheet : Sheet) (d : Disk) (image : Image) → Stood key name sheet d → IsImageAt (d name) (image name) → LeftAs key name sheet image
kept_left key name sheet d image stood is = record { file = stood.as_sheet.file; whole = settled_reads (d name) (image name) stood.settled.file is ∙ stood.as_sheet.whole; stands = stood.as_sheet.stands }

-- and it reads as the sheet
stood_reads : (key : List ℕ) (name : Name) (sheet : Sheet) (d : Disk) → Stood key name sheet d → ReadsAs key name sheet d
stood_reads key name sheet d stood = subst (λ (o : Option (List ℕ)). Stands (contents o) key sheet) (sym stood.as_sheet.whole) stood.as_sheet.stands

-- a whole file at the name leaves its sheet
pub new_left : (key : List ℕ) (name : Name) (next : Sheet) (file : File) (e : Disk) (image : Image) → e name ≡ Some file → IsSettledFile file → Stands file.bytes key next → IsImageAt (e name) (image name) → LeftAs key name next image
new_left key name next file e image there settled stands is = record { file = file.bytes; whole = settled_at file (e name) (image name) there settled is; stands = stands }

pub settled_there : (file : File) (o : Option File) → o ≡ Some file → IsSettledFile file → IsSettledAt o
settled_there file o there settled = subst (λ (p : Option File). IsSettledAt p) (sym there) settled

pub new_stood : (key : List ℕ) (name : Name) (next : Sheet) (file : File) (d e : Disk) → IsSettledAt (d (recovery_of name)) → e (recovery_of name) ≡ d (recovery_of name) → e name ≡ Some file → IsSettledFile file → Stands file.bytes key next → Stood key name next e
new_stood key name next file d e recovery same there settled stands = record {
  settled = record { file = settled_there file (e name) there settled; recovery = subst (λ (o : Option File). IsSettledAt o) (sym same) recovery };
  as_sheet = record { file = file.bytes; whole = ap read_of there; stands = stands };
}

-- where the name stood for a sheet, the rest holds of a run that holds it so
pub where_stood : (key : List ℕ) (name : Name) (base : Sheet) (P : Disk → Image → Type 0) (Q : Disk → Disk → Type 0) (o p : Option Honest)
    → Both o p (Ran (λ d image. Stood key name base d → P d image) (λ d e. Stood key name base d → Q d e)) → Both o p (Where (Stood key name base) (Ran P Q))
where_stood key name base P Q o p ran =
    both_weaker (Ran (λ d image. Stood key name base d → P d image) (λ d e. Stood key name base d → Q d e)) (Where (Stood key name base) (Ran P Q)) o p ran
    (λ a b run stood. record {
      leaves = record {
        later = run.leaves.later;
        each = λ image left. run.leaves.each image left stood;
        earlier = λ t image le left. elim (run.leaves.earlier t image le left) [ inl was ↦ inl was | inr now ↦ inr (now stood) ];
      };
      ends = run.ends stood;
    })

module _ (key : List ℕ) (name side : Name) (base next : Sheet) (apart : side ≢ name) where
  name_kept : name ≢ side
  name_kept same = apart (sym same)

  others_left : (d : Disk) (image : Image) → LeavesOthers side d image → Stood key name base d → AsEither key name base next d image
  others_left d image left stood = inl (kept_left key name base d image stood (left name name_kept))

  -- as long as only the side file was changed
  pub not_replaced : (o p : Option Honest) → Both o p (Ran (LeavesOthers side) (KeepsOthers side)) → Both o p (Where (Stood key name base) (Ran (AsEither key name base next) (StoodOrKept key name next)))
  not_replaced o p ran =
      where_stood key name base (AsEither key name base next) (StoodOrKept key name next) o p
      (both_weaker (Ran (LeavesOthers side) (KeepsOthers side)) _ o p ran
      (λ a b run. record {
        leaves = record {
          later = run.leaves.later;
          each = λ image left. others_left a.now image (run.leaves.each image left);
          earlier = λ t image le left. elim (run.leaves.earlier t image le left) [ inl was ↦ inl was | inr now ↦ inr (others_left a.now image now) ];
        };
        ends = λ stood. inl (run.ends name name_kept);
      }))

  -- the side file stands for the next sheet, where the name read as the base
  pub record SideStands (d e : Disk) : Type 0 where
    pub others : KeepsOthers side d e
    pub stands : ReadsAs key name base d → (file : File) × (e side ≡ Some file) × IsSettledFile file × Stands file.bytes key next

  module _ (not_recovery : recovery_of name ≢ side) where
    swapped_to : (d e f : Disk) → SideStands d e → Swaps side name e f → ReadsAs key name base d → (file : File) × (f name ≡ Some file) × IsSettledFile file × Stands file.bytes key next
    swapped_to d e f made swap reads = let s = made.stands reads in (s.0, swap.moved s.0 apart s.1, s.2, s.3)

    recovery_still : (d e f : Disk) → SideStands d e → Swaps side name e f → f (recovery_of name) ≡ d (recovery_of name)
    recovery_still d e f made swap = swap.others (recovery_of name) not_recovery (recovery_apart name) ∙ made.others (recovery_of name) not_recovery

    stood_swapped : (d e f : Disk) → SideStands d e → Swaps side name e f → Stood key name base d → Stood key name next f
    stood_swapped d e f made swap stood =
        let s = swapped_to d e f made swap (stood_reads key name base d stood) in
        new_stood key name next s.0 d f stood.settled.recovery (recovery_still d e f made swap) s.1 s.2 s.3

    left_swapped : (d e f : Disk) (image : Image) → SideStands d e → Swaps side name e f → IsImage f image → Stood key name base d → AsEither key name base next d image
    left_swapped d e f image made swap is stood = let s = swapped_to d e f made swap (stood_reads key name base d stood) in inr (new_left key name next s.0 f image s.1 s.2 s.3 (is name))

    swap_step : {T E : Type 0} (r : Result T E) (d e f : Disk) → SideStands d e → AtOnce r (Swaps side name) e f
        → (Stood key name base d → StoodIf (done_of r) key name next d f) × ((image : Image) → IsImage f image → Stood key name base d → AsEither key name base next d image)
    swap_step (Ok value) d e f made swap = (stood_swapped d e f made swap, λ image is. left_swapped d e f image made swap is)
    swap_step (Err fault) d e f made (inl swap) = (λ stood. inr (stood_swapped d e f made swap stood), λ image is. left_swapped d e f image made swap is)
    swap_step (Err fault) d e f made (inr same) =
        let kept : f name ≡ d name = ap (λ (x : Disk). x name) same ∙ made.others name name_kept in
        (λ stood. inl kept, λ image is stood. inl (kept_left key name base d image stood (subst (λ (o : Option File). IsImageAt o (image name)) kept (is name))))

    -- the side file takes the name, or the swap failed
    pub replaced : {T E : Type 0} (r : Result T E) (o p q : Option Honest) → Both o p (Ran (LeavesOthers side) SideStands) → Both p q (Does (AtOnce r (Swaps side name)))
        → Both o q (Where (Stood key name base) (Ran (AsEither key name base next) (StoodIf (done_of r) key name next)))
    replaced r o p q ran does =
        where_stood key name base (AsEither key name base next) (StoodIf (done_of r) key name next) o q
        (goes_on (λ d image. Stood key name base d → AsEither key name base next d image) SideStands (λ d e. Stood key name base d → StoodIf (done_of r) key name next d e) (AtOnce r (Swaps side name)) o p q
        (ran_by (λ d image. Stood key name base d → AsEither key name base next d image) SideStands o p
        (weaker (LeavesOthers side) (λ d image. Stood key name base d → AsEither key name base next d image) o p (ran_leaves (LeavesOthers side) SideStands o p ran) others_left)
        (ran_ends (LeavesOthers side) SideStands o p ran))
        does (swap_step r))

    -- where it took the name, the next sheet stands there
    pub stands_replaced : (T E : Type 0) (value : T) (o p q : Option Honest) → Both o p (Ran (LeavesOthers side) SideStands) → Both p q (Does (AtOnce {T = T} {E = E} (Ok value) (Swaps side name)))
        → Both o q (Where (ReadsAs key name base) (Ends (λ _. HasSheet key name next)))
    stands_replaced T E value o p q ran does =
        both_then (Ran (LeavesOthers side) SideStands) (Does (AtOnce {T = T} {E = E} (Ok value) (Swaps side name))) (Where (ReadsAs key name base) (Ends (λ _. HasSheet key name next))) o p q ran does
        (λ a b c run step reads.
        let s = swapped_to a.now b.now c.now run.ends step.disk reads in
        record { file = s.0; there = s.1; settled = s.2; stands = s.3 })
