-- What a crash may leave at one name or two, from what it may leave of a disk.
use Rattle.std.proofs.Common.{◌≡◌, ◌≢◌, ◌⊎◌, inl, inr, List, ℕ, sym, ◌∙◌, subst, Option}
use Rattle.pf_io.specs.Disk.{Name, Disk, Image, IsImage, IsImageAt, Settled, reading}
use Rattle.pf_io.specs.Names.{recovery_of, IsTarget}
use Rattle.pf_io.specs.Replay.{set_at}
use Rattle.node_tree.specs.Sheet.{Sheet}
use Rattle.pf_session.specs.Reopening.{ReopensAs, LeftAt, Stood}
use Rattle.pf_script.specs.Book.{HasAt}
use Rattle.pf_io.proofs.Images.{settled_reads}
use Rattle.pf_session.proofs.Apartness.{apart_recovery}
use Rattle.pf_session.proofs.Names.{recovery_apart}
use Rattle.pf_script.proofs.NameMaps.{name_or, set_at-same, set_at-other}

-- an image with other bytes at one name
image_with : (disk : Disk) (image : Image) (name : Name) (here : Option (List ℕ)) → IsImage disk image → IsImageAt (disk name) here → IsImage disk (set_at name here image)
image_with disk image name here is at n = by_name (name_or n name)
  where
    by_name : (n ≡ name) ⊎ (n ≢ name) → IsImageAt (disk n) (set_at name here image n)
    by_name (inl same) = subst (λ (m : Name). IsImageAt (disk m) (set_at name here image m)) (sym same) (subst (λ (o : Option (List ℕ)). IsImageAt (disk name) o) (sym (set_at-same name here image)) at)
    by_name (inr apart) = subst (λ (o : Option (List ℕ)). IsImageAt (disk n) o) (sym (set_at-other name n here image apart)) (is n)

-- an image with what may be left at a name and its recovery name
abbrev with_left : Name → Option (List ℕ) → Option (List ℕ) → Image → Image
with_left name here log image = set_at name here (set_at (recovery_of name) log image)

is_with_left : (disk : Disk) (image : Image) (name : Name) (here log : Option (List ℕ)) → IsImage disk image → LeftAt disk name here log → IsImage disk (with_left name here log image)
is_with_left disk image name here log is left = image_with disk (set_at (recovery_of name) log image) name here (image_with disk image (recovery_of name) log is left.recovery) left.file

has_left : (image : Image) (name : Name) (here log : Option (List ℕ)) → HasAt (with_left name here log image) name here log
has_left image name here log = record {
  file = sym (set_at-same name here (set_at (recovery_of name) log image));
  recovery = sym (set_at-other name (recovery_of name) here (set_at (recovery_of name) log image) (recovery_apart name) ∙ set_at-same (recovery_of name) log image);
}

-- what each image of a disk has at a name
pub of_images : (disk : Disk) → IsImage disk (reading disk) → (name : Name) (Q : Option (List ℕ) → Option (List ℕ) → Type 0)
    → ((image : Image) → IsImage disk image → Q (image name) (image (recovery_of name)))
    → (here log : Option (List ℕ)) → LeftAt disk name here log → Q here log
of_images disk reads name Q each here log left =
    let image = with_left name here log (reading disk) in
    let has = has_left (reading disk) name here log in
    subst (λ (o : Option (List ℕ)). Q o log) (sym has.file) (subst (λ (o : Option (List ℕ)). Q (image name) o) (sym has.recovery)
    (each image (is_with_left disk (reading disk) name here log reads left)))

-- the other of two names keeps what it has
has_kept : (image : Image) (name other : Name) (here log here2 log2 : Option (List ℕ)) → IsTarget other → IsTarget name → other ≢ name → HasAt image other here2 log2 → HasAt (with_left name here log image) other here2 log2
has_kept image name other here log here2 log2 target of_name apart has =
    let far = apart_recovery name other of_name target (λ same. apart (sym same)) in
    let near = apart_recovery other name target of_name apart in
    record {
      file = has.file ∙ sym (set_at-other name other here (set_at (recovery_of name) log image) apart ∙ set_at-other (recovery_of name) other log image (λ same. far.here (sym same)));
      recovery = has.recovery ∙ sym (set_at-other name (recovery_of other) here (set_at (recovery_of name) log image) near.here ∙ set_at-other (recovery_of name) (recovery_of other) log image near.recovery);
    }

-- what each image of a disk has at two names
pub of_images_two : (disk : Disk) → IsImage disk (reading disk) → (name other : Name) → IsTarget name → IsTarget other → other ≢ name → (Q : Option (List ℕ) → Option (List ℕ) → Option (List ℕ) → Option (List ℕ) → Type 0)
    → ((image : Image) → IsImage disk image → Q (image name) (image (recovery_of name)) (image other) (image (recovery_of other)))
    → (here log here2 log2 : Option (List ℕ)) → LeftAt disk name here log → LeftAt disk other here2 log2 → Q here log here2 log2
of_images_two disk reads name other of_name of_other apart Q each here log here2 log2 left left2 =
    let first = with_left other here2 log2 (reading disk) in
    let image = with_left name here log first in
    let has = has_left first name here log in
    let has2 = has_kept first name other here log here2 log2 of_other of_name apart (has_left (reading disk) other here2 log2) in
    subst (λ (o : Option (List ℕ)). Q o log here2 log2) (sym has.file) (subst (λ (o : Option (List ℕ)). Q (image name) o here2 log2) (sym has.recovery)
    (subst (λ (o : Option (List ℕ)). Q (image name) (image (recovery_of name)) o log2) (sym has2.file) (subst (λ (o : Option (List ℕ)). Q (image name) (image (recovery_of name)) (image other) o) (sym has2.recovery)
    (each image (is_with_left disk first name here log (is_with_left disk (reading disk) other here2 log2 reads left2) left)))))

-- what an image has at a name
pub of_image : (image : Image) (name : Name) (Q : Option (List ℕ) → Option (List ℕ) → Type 0) → Q (image name) (image (recovery_of name)) → (here log : Option (List ℕ)) → HasAt image name here log → Q here log
of_image image name Q is here log has = subst (λ (o : Option (List ℕ)). Q o log) (sym has.file) (subst (λ (o : Option (List ℕ)). Q (image name) o) (sym has.recovery) is)

-- where nothing is pending, a crash leaves what is read
pub left_reading : (disk : Disk) (name : Name) (here log : Option (List ℕ)) → Settled disk name → LeftAt disk name here log → (here ≡ reading disk name) × (log ≡ reading disk (recovery_of name))
left_reading disk name here log settled left = (settled_reads (disk name) here settled.file left.file, settled_reads (disk (recovery_of name)) log settled.recovery left.recovery)

pub stood_as : (key : List ℕ) (name : Name) (sheet : Sheet) (disk : Disk) (here log : Option (List ℕ)) → Stood key name sheet disk → LeftAt disk name here log → ReopensAs key sheet here log
stood_as key name sheet disk here log stood left =
    let same = left_reading disk name here log stood.settled left in
    subst (λ (o : Option (List ℕ)). ReopensAs key sheet o log) (sym same.0) (subst (λ (o : Option (List ℕ)). ReopensAs key sheet (reading disk name) o) (sym same.1) stood.as_sheet)
