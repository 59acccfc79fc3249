-- What a crash leaves of a file after one call, and what stays.
use Rattle.std.proofs.Common.{◌≡◌, ◌≢◌, ◌⊎◌, inl, inr, ℕ, suc, ◌+◌, ◌<◌, ◌≤◌, min, List, [], ◌∷◌, ◌++◌, length, take, slice_get, refl, sym, ◌∙◌, ap, subst, Option, Some, None, Result, Ok, Err, arith}
use Rattle.std.proofs.lemmas.List.{drop_all, append-nil}
use Rattle.pf_io.specs.Disk.{Name, File, Disk, Image, IsFileImage, IsImageAt, IsImage, IsSettledFile, IsSettledAt, read_of}
use Rattle.pf_io.specs.Steps.{Follows, KeepsOthers, overwrite, Torn, CutShort, RisksWrite, RisksNoMore, Writes, Cuts, Syncs, Makes, Removes, Swaps, AtOnce, IsEmptyFile}
use Rattle.pf_io.specs.SplicingProofs.{get_take, overwrite-length, overwrite-front, overwrite-gap, overwrite-back}

-- two lists of one length with the same element at each place
pub same_elements : (xs ys : List ℕ) → length xs ≡ length ys → ((i : ℕ) → i < length ys → slice_get xs i ≡ slice_get ys i) → xs ≡ ys
same_elements [] [] len each = refl
same_elements [] (y ∷ ys) len each = absurd (omega arith)
same_elements (x ∷ xs) [] len each = absurd (omega arith)
same_elements (x ∷ xs) (y ∷ ys) len each =
    let head : Some x ≡ Some y = each 0 (omega arith) in
    let tail : xs ≡ ys = same_elements xs ys (omega arith) (λ i h. each (suc i) (omega arith)) in
    cc

-- a settled file leaves what it reads
pub settled_image : (file : File) (bytes : List ℕ) → IsSettledFile file → IsFileImage file bytes → bytes ≡ file.bytes
settled_image file bytes settled image = same_elements bytes file.bytes (omega arith) (λ i lt. image.kept i (settled.keeps i lt))

-- the file at a name, where it is known
pub settled_at : (file : File) (o : Option File) (image : Option (List ℕ)) → o ≡ Some file → IsSettledFile file → IsImageAt o image → image ≡ Some file.bytes
settled_at file (Some f) (Some bytes) is settled image =
    let same : f ≡ file = cc in
    ap (λ (b : List ℕ). Some b) (settled_image file bytes settled (subst (λ f. IsFileImage f bytes) same image))
settled_at file (Some f) None is settled image = absurd image
settled_at file None image is settled left = absurd (cc)

-- where nothing is pending a crash leaves what a read gives
pub settled_reads : (o : Option File) (image : Option (List ℕ)) → IsSettledAt o → IsImageAt o image → image ≡ read_of o
settled_reads (Some file) (Some bytes) settled image = ap (λ (b : List ℕ). Some b) (settled_image file bytes settled image)
settled_reads (Some file) None settled image = absurd image
settled_reads None (Some bytes) settled image = absurd image
settled_reads None None settled image = refl

pub absent_at : (o : Option File) (image : Option (List ℕ)) → o ≡ None → IsImageAt o image → image ≡ None
absent_at None None is image = refl
absent_at None (Some bytes) is image = absurd image
absent_at (Some file) image is left = absurd (cc)

pub image_at : (file : File) (o : Option File) (image : Option (List ℕ)) → o ≡ Some file → IsImageAt o image → (bytes : List ℕ) × (image ≡ Some bytes) × IsFileImage file bytes
image_at file (Some f) (Some bytes) is image = let same : f ≡ file = cc in (bytes, refl, subst (λ f. IsFileImage f bytes) same image)
image_at file (Some f) None is image = absurd image
image_at file None image is left = absurd (cc)

-- the other names leave what they left before
pub others_image : (name : Name) (old new : Disk) (image : Image) → KeepsOthers name old new → IsImage new image → (other : Name) → other ≢ name → IsImageAt (old other) (image other)
others_image name old new image keeps is other apart = subst (λ o. IsImageAt o (image other)) (keeps other apart) (is other)

pub others_then : (name : Name) (d e f : Disk) → KeepsOthers name d e → KeepsOthers name e f → KeepsOthers name d f
others_then name d e f first second other apart = second other apart ∙ first other apart

-- a call on a file that is there
pub follows_at : (step : File → File → Type 0) (o p : Option File) (file : File) → o ≡ Some file → Follows step o p → (new : File) × (p ≡ Some new) × step file new
follows_at step (Some f) (Some g) file is does = let same : f ≡ file = cc in (g, refl, subst (λ f. step f g) same does)
follows_at step (Some f) None file is does = absurd does
follows_at step None p file is does = absurd (cc)

-- and on an absent one
pub follows_none : (step : File → File → Type 0) (o p : Option File) → o ≡ None → Follows step o p → p ≡ None
follows_none step None None is does = refl
follows_none step None (Some g) is does = absurd does
follows_none step (Some f) p is does = absurd (cc)

-- writing into an empty file from its front on
pub written_empty : (bytes : List ℕ) → overwrite 0 bytes [] ≡ bytes
written_empty [] = refl
written_empty (b ∷ bytes) = ap (λ (l : List ℕ). (b ∷ bytes) ++ l) (drop_all (0 + length (b ∷ bytes)) [] (omega arith)) ∙ append-nil (b ∷ bytes)

-- a whole write is one that was cut short nowhere
pub overwrite_cut_short : (at : ℕ) (bytes old : List ℕ) → CutShort at (length bytes) old (overwrite at bytes old)
overwrite_cut_short at bytes old = record {
  torn = record {
    no_shorter = omega (arith, overwrite-length at bytes old);
    no_longer = omega (arith, overwrite-length at bytes old);
    before = λ i lt inside. overwrite-front at bytes old i lt inside;
    after = λ i le inside. overwrite-back at bytes old i le;
  };
  gap = λ i past lt inside. overwrite-gap at bytes old i past lt inside;
}

-- what a file reads after a write, done or not
pub written_cut_short : {T E : Type 0} (r : Result T E) (at : ℕ) (bytes : List ℕ) (f g : File) → Writes at bytes r f g → CutShort at (length bytes) f.bytes g.bytes
written_cut_short (Ok x) at bytes f g writes = subst (λ (l : List ℕ). CutShort at (length bytes) f.bytes l) (sym writes.reads) (overwrite_cut_short at bytes f.bytes)
written_cut_short (Err x) at bytes f g writes = writes.reads

-- what a crash leaves of a settled file that was written to, done or not: a torn write
pub torn_image : (at n : ℕ) (f g : File) (bytes : List ℕ) → IsSettledFile f → Torn at n f.bytes g.bytes → RisksWrite at n f g → IsFileImage g bytes → Torn at n f.bytes bytes
torn_image at n f g bytes settled torn risks image = record {
  no_shorter = omega (arith, settled.no_shorter, risks.no_shorter, image.no_shorter);
  no_longer = omega (arith, settled.no_longer, risks.no_longer, image.no_longer);
  before = λ i lt inside. image.kept i (risks.before i (settled.keeps i inside) lt) ∙ torn.before i lt inside;
  after = λ i le inside. image.kept i (risks.after i (settled.keeps i inside) le) ∙ torn.after i le inside;
}

-- a file that risks no more leaves no more
pub image_no_more : (f g : File) (bytes : List ℕ) → g.bytes ≡ f.bytes → RisksNoMore f g → IsFileImage g bytes → IsFileImage f bytes
image_no_more f g bytes same risks image = record {
  no_shorter = omega (arith, risks.no_shorter, image.no_shorter);
  no_longer = omega (arith, risks.no_longer, image.no_longer);
  kept = λ i keeps. image.kept i (risks.keeps i keeps) ∙ ap (λ (l : List ℕ). slice_get l i) same;
}

-- What a crash leaves after a sync, done or not, is the file as it reads or what it left before the sync.
pub synced_image : {T E : Type 0} (r : Result T E) (P : List ℕ → Type 0) (g h : File) (bytes : List ℕ) → P g.bytes → ((bytes : List ℕ) → IsFileImage g bytes → P bytes) → Syncs r g h → IsFileImage h bytes → P bytes
synced_image (Ok x) P g h bytes reads before sync image = subst P (sym (settled_image h bytes sync.settled image ∙ sync.reads)) reads
synced_image (Err x) P g h bytes reads before sync image = before bytes (image_no_more g h bytes sync.reads sync.risks image)

taken_front : (len l : ℕ) (xs : List ℕ) (i : ℕ) → len ≤ l → i < len → slice_get (take l xs) i ≡ slice_get xs i
taken_front len l xs i le lt = get_take l xs i (omega arith)

-- the front of a file that was cut, done or not
pub cut_front : {T E : Type 0} (r : Result T E) (len : ℕ) (f g : File) (i : ℕ) → Cuts len r f g → i < len → slice_get g.bytes i ≡ slice_get f.bytes i
cut_front (Ok x) len f g i cuts lt = ap (λ (l : List ℕ). slice_get l i) cuts.reads ∙ taken_front len len f.bytes i (omega arith) lt
cut_front (Err x) len f g i cuts lt = ap (λ (l : List ℕ). slice_get l i) cuts.reads.2 ∙ taken_front len cuts.reads.0 f.bytes i cuts.reads.1 lt

-- a cut tore: any bytes from `len` on, and any length between the old one and the one that the whole cut makes
pub record TornEnd (len : ℕ) (old new : List ℕ) : Type 0 where
  pub no_shorter : min (length old) len ≤ length new
  pub no_longer : length new ≤ length old
  pub front : (i : ℕ) → i < len → i < length old → slice_get new i ≡ slice_get old i

-- what a crash leaves of a settled file that was cut, done or not
pub cut_image : {T E : Type 0} (r : Result T E) (len : ℕ) (f g : File) (bytes : List ℕ) → IsSettledFile f → Cuts len r f g → IsFileImage g bytes → TornEnd len f.bytes bytes
cut_image r len f g bytes settled cuts image = record {
  no_shorter = omega (arith, settled.no_shorter, cuts.risks.no_shorter, image.no_shorter);
  no_longer = omega (arith, settled.no_longer, cuts.risks.no_longer, image.no_longer);
  front = λ i lt inside. image.kept i (cuts.risks.front i (settled.keeps i inside) lt) ∙ cut_front r len f g i cuts lt;
}

-- after a swap of a settled file, done or not, `to` leaves it or what it left before
pub swapped_image : {T E : Type 0} (r : Result T E) (from to : Name) (file : File) (d e : Disk) (image : Image) → from ≢ to → d from ≡ Some file → IsSettledFile file → AtOnce r (Swaps from to) d e → IsImage e image
    → (image to ≡ Some file.bytes) ⊎ IsImageAt (d to) (image to)
swapped_image (Ok x) from to file d e image apart there settled swap is = inl (settled_at file (e to) (image to) (swap.moved file apart there) settled (is to))
swapped_image (Err x) from to file d e image apart there settled (inl swap) is = inl (settled_at file (e to) (image to) (swap.moved file apart there) settled (is to))
swapped_image (Err x) from to file d e image apart there settled (inr same) is = inr (subst (λ (d : Disk). IsImageAt (d to) (image to)) same (is to))

-- names that a swap does not speak of
pub swapped_others : {T E : Type 0} (r : Result T E) (from to : Name) (d e : Disk) (other : Name) → AtOnce r (Swaps from to) d e → other ≢ from → other ≢ to → e other ≡ d other
swapped_others (Ok x) from to d e other swap not_from not_to = swap.others other not_from not_to
swapped_others (Err x) from to d e other (inl swap) not_from not_to = swap.others other not_from not_to
swapped_others (Err x) from to d e other (inr same) not_from not_to = ap (λ (d : Disk). d other) same

-- names that a call on one name does not speak of
pub made_others : {T E : Type 0} (r : Result T E) (name : Name) (d e : Disk) → AtOnce r (Makes name) d e → KeepsOthers name d e
made_others (Ok x) name d e made = made.others
made_others (Err x) name d e (inl made) = made.others
made_others (Err x) name d e (inr same) = λ other apart. ap (λ (d : Disk). d other) same

pub removed_others : {T E : Type 0} (r : Result T E) (name : Name) (d e : Disk) → AtOnce r (Removes name) d e → KeepsOthers name d e
removed_others (Ok x) name d e removed = removed.others
removed_others (Err x) name d e (inl removed) = removed.others
removed_others (Err x) name d e (inr same) = λ other apart. ap (λ (d : Disk). d other) same

-- an empty file is settled
pub empty_settled : (file : File) → IsEmptyFile file → IsSettledFile file
empty_settled file empty = record {
  no_shorter = omega (arith, ap (λ (l : List ℕ). length l) empty.bytes);
  no_longer = omega (arith, empty.no_longer);
  keeps = λ i lt. absurd (omega (arith, lt, ap (λ (l : List ℕ). length l) empty.bytes));
}
