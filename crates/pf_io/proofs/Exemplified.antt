-- What a crash leaves of two files after one of them was swapped over the other, or made anew.
use Rattle.std.proofs.Common.{◌≡◌, ◌∙◌, ◌⊎◌, inl, inr, ℕ, List, [], ◌∷◌, get_or, refl, ap, subst, Option, Some, Result, Ok, Err, arith}
use Rattle.pf_io.specs.Disk.{File, Disk, Image, IsFileImage, IsImageAt, IsImage}
use Rattle.pf_io.specs.Steps.{Swaps, Makes, AtOnce}
use Rattle.pf_io.specs.Replay.{settled, written, file_of}
use Rattle.pf_io.specs.Examples.{A, B, two_files_disk, SwapLeaves}
use Rattle.pf_io.proofs.Images.{settled_at, image_at, absent_at, empty_settled}
use Rattle.pf_io.proofs.Stepping.{settled_is}

abbrev written_file : File
written_file = file_of (written 1 (9 ∷ []) (settled (1 ∷ 2 ∷ [])))

abbrev settled_file : File
settled_file = file_of (settled (5 ∷ []))

-- a file of two bytes of which the second was written over
first_stays : (bytes : List ℕ) → IsFileImage written_file bytes → (x : ℕ) × (bytes ≡ 1 ∷ x ∷ [])
first_stays [] image = absurd (omega (arith, image.no_shorter))
first_stays (a ∷ []) image = absurd (omega (arith, image.no_shorter))
first_stays (a ∷ x ∷ []) image = let e : Some a ≡ Some 1 = image.kept 0 refl in (x, cc)
first_stays (a ∷ x ∷ y ∷ rest) image = absurd (omega (arith, image.no_longer))

leaves_written : (o : Option File) (image : Option (List ℕ)) → o ≡ Some written_file → IsImageAt o image → (x : ℕ) × (image ≡ Some (1 ∷ x ∷ []))
leaves_written o image is left =
    let there = image_at written_file o image is left in
    let first = first_stays there.0 there.2 in
    (first.0, cc)

unswapped : (image : Image) → IsImage two_files_disk image → SwapLeaves image
unswapped image is = record { before_or_after = inl (leaves_written (two_files_disk A) (image A) refl (is A), settled_at settled_file (two_files_disk B) (image B) refl (settled_is (5 ∷ [])) (is B)) }

apart : A ≡ B → ⊥
apart same = let e : 97 ≡ 98 = ap (λ (l : List ℕ). get_or l 0 0) same in absurd (omega (arith, e))

swapped : (new : Disk) (image : Image) → Swaps A B two_files_disk new → IsImage new image → SwapLeaves image
swapped new image swap is = record {
  before_or_after = inr (absent_at (new A) (image A) (swap.gone apart) (is A), leaves_written (new B) (image B) (swap.moved written_file apart refl) (is B));
}

pub swap_leaves : (result : Result (Unit {0}) (Unit {0})) (new : Disk) (image : Image) → AtOnce result (Swaps A B) two_files_disk new → IsImage new image → SwapLeaves image
swap_leaves (Ok x) new image swap is = swapped new image swap is
swap_leaves (Err x) new image (inl swap) is = swapped new image swap is
swap_leaves (Err x) new image (inr same) is = unswapped image (subst (λ (d : Disk). IsImage d image) same is)

made : (new : Disk) (image : Image) → Makes B two_files_disk new → IsImage new image → image B ≡ Some []
made new image make is =
    settled_at make.there.0 (new B) (image B) make.there.1 (empty_settled make.there.0 make.there.2) (is B) ∙ ap (λ (l : List ℕ). Some l) make.there.2.bytes

pub make_leaves : (result : Result (Unit {0}) (Unit {0})) (new : Disk) (image : Image) → AtOnce result (Makes B) two_files_disk new → IsImage new image → (image B ≡ Some (5 ∷ [])) ⊎ (image B ≡ Some [])
make_leaves (Ok x) new image make is = inr (made new image make is)
make_leaves (Err x) new image (inl make) is = inr (made new image make is)
make_leaves (Err x) new image (inr same) is = inl (settled_at settled_file (two_files_disk B) (image B) refl (settled_is (5 ∷ [])) (subst (λ (d : Disk). IsImage d image) same is B))
