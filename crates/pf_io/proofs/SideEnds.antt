-- How the writing of a plain file ends.
use Rattle.std.proofs.Common.{◌≡◌, ◌≢◌, inl, inr, ◌⊎◌, ℕ, List, [], ◌∷◌, ◌++◌, length, refl, sym, ◌∙◌, ap, subst, Option, Some, Result, Ok, Err, OnOk, OnErr}
use Rattle.std.proofs.lemmas.List.{append-nil}
use Rattle.pf_io.specs.Disk.{Name, File, Disk, Image, IsImageAt, IsImage}
use Rattle.pf_io.specs.Moments.{Honest, Does, Ran}
use Rattle.pf_io.specs.Steps.{KeepsOthers, Changes, Makes, Swaps, Syncs, AtOnce}
use Rattle.pf_io.specs.Host.{Answer, Made, Synced, Swapped, HostState, Both, IsMore, Tells, OnDisk, CountsNeither}
use Rattle.pf_io.specs.SideFile.{pieces, wrote_pieces, side_steps, file_steps, OthersLeft, IsWhole, IsReplaced, IsDone, IsTried, WroteFile, FailedFile}
use Rattle.pf_io.specs.SideSteps.{Beside, Advanced, IsMade, IsWritten, Fills, WritesPieces, FailedPieces, WroteSide, FailedSide}
use Rattle.pf_io.proofs.Images.{follows_at, made_others, swapped_image, swapped_others}
use Rattle.pf_io.proofs.Runs.{goes_on, ran_leaves, ran_ends, ran_by, weaker}
use Rattle.pf_io.proofs.Telling.{told_on, told_none, both_weaker}
use Rattle.pf_io.proofs.SideFiles.{counts_neither, counts_then, advanced_call, advanced_then, halted_call, halted_then, halted_front}

abbrev pub all_pieces : Name → List ℕ → List Answer
all_pieces side bytes = wrote_pieces side bytes (pieces (length bytes))

pub make_done : (T E : Type 0) (x : T) (side : Name) (old new : HostState) → Both old.given new.given (IsMore (Made side ∷ [])) → CountsNeither old new → OnDisk old new (Does (AtOnce {T = T} {E = E} (Ok x) (Makes side)))
    → Advanced side (Made side ∷ []) (λ o p. IsMade p) old new
make_done T E x side old new told counts disk =
    advanced_call side (Made side) (Makes side) (λ o p. IsMade p) old new told (counts_neither (Made side) old new (λ n. refl) counts) disk
    (λ d e made. record { file = made.there; others = made.others })

pub make_failed : (T E : Type 0) (e : E) (side : Name) (bytes : List ℕ) (old new : HostState) → new.given ≡ old.given → CountsNeither old new → OnDisk old new (Does (AtOnce {T = T} {E = E} (Err e) (Makes side))) → FailedSide side bytes old new
make_failed T E e side bytes old new told counts disk =
    halted_front side (Made side ∷ []) (all_pieces side bytes ++ Synced side ∷ []) (side_steps side bytes) old new refl
    (halted_call side (Made side) (AtOnce {T = T} {E = E} (Err e) (Makes side)) old new told (counts_neither (Made side) old new (λ n. refl) counts) disk
    (λ d f made. made_others {T = T} {E = E} (Err e) side d f made))

pub piece_failed : (side : Name) (bytes : List ℕ) (old mid new : HostState) → Advanced side (Made side ∷ []) (λ o p. IsMade p) old mid → FailedPieces side bytes mid new → FailedSide side bytes old new
piece_failed side bytes old mid new made failed =
    halted_front side (Made side ∷ all_pieces side bytes) (Synced side ∷ []) (side_steps side bytes) old new refl
    (halted_then side (Made side ∷ []) (all_pieces side bytes) (λ o p. IsMade p) old mid new made failed)

pub write_done : (side : Name) (bytes : List ℕ) (old mid new : HostState) → Advanced side (Made side ∷ []) (λ o p. IsMade p) old mid → WritesPieces side bytes mid new → Advanced side (Made side ∷ all_pieces side bytes) (λ o p. IsWritten bytes p) old new
write_done side bytes old mid new made wrote = advanced_then side (Made side ∷ []) (all_pieces side bytes) (λ o p. IsMade p) (Fills bytes) (λ o p. IsWritten bytes p) old mid new made wrote (λ o p q was fills. fills was)

pub sync_done : {T E : Type 0} (r : Result T E) (side : Name) (bytes : List ℕ) (old mid new : HostState) → Advanced side (Made side ∷ all_pieces side bytes) (λ o p. IsWritten bytes p) old mid
    → Tells r (λ _. Synced side) mid new → CountsNeither mid new → OnDisk mid new (Does (Changes side (Syncs r))) → OnOk r (WroteSide side bytes old new)
sync_done {T} {E} (Ok x) side bytes old mid new wrote told counts disk =
    advanced_then side (Made side ∷ all_pieces side bytes) (Synced side ∷ []) (λ o p. IsWritten bytes p) settles (λ o p. IsWhole bytes p) old mid new wrote
    (advanced_call side (Synced side) (Changes side (Syncs {T = T} {E = E} (Ok x))) settles mid new told (counts_neither (Synced side) mid new (λ n. refl) counts) disk
    (λ d e does. record { file = λ file was. follows_at _ _ _ file was does.there; others = does.others }))
    (λ o p q was goes. let next = goes was.0 was.1 in (next.0, next.1, next.2.reads ∙ was.2, next.2.settled))
  where
    settles : Option File → Option File → Type 0
    settles o p = (file : File) → o ≡ Some file → (new : File) × (p ≡ Some new) × Syncs {T = T} {E = E} (Ok x) file new
sync_done (Err e) side bytes old mid new wrote told counts disk = tt

pub sync_failed : {T E : Type 0} (r : Result T E) (side : Name) (bytes : List ℕ) (old mid new : HostState) → Advanced side (Made side ∷ all_pieces side bytes) (λ o p. IsWritten bytes p) old mid
    → Tells r (λ _. Synced side) mid new → CountsNeither mid new → OnDisk mid new (Does (Changes side (Syncs r))) → OnErr r (FailedSide side bytes old new)
sync_failed (Ok x) side bytes old mid new wrote told counts disk = tt
sync_failed {T} {E} (Err e) side bytes old mid new wrote told counts disk =
    halted_then side (Made side ∷ all_pieces side bytes) (Synced side ∷ []) (λ o p. IsWritten bytes p) old mid new wrote
    (halted_call side (Synced side) (Changes side (Syncs {T = T} {E = E} (Err e))) mid new told (counts_neither (Synced side) mid new (λ n. refl) counts) disk
    (λ d f does. does.others))

module _ (name side : Name) (bytes : List ℕ) (apart : side ≢ name) where
  -- as long as only the side file changes
  replaced_left : (d : Disk) (image : Image) → OthersLeft side d image → IsReplaced name side bytes d image
  replaced_left d image left = record { here = inl (left name (λ same. apart (sym same))); others = λ other not_name not_side. left other not_side }

  tried_kept : (d e : Disk) → KeepsOthers side d e → IsTried name side bytes d e
  tried_kept d e keeps = record { here = inl (keeps name (λ same. apart (sym same))); others = λ other not_name not_side. keeps other not_side }

  replaced_run : (Q : Disk → Disk → Type 0) (o p : Option Honest) → Both o p (Ran (OthersLeft side) Q) → Both o p (Ran (IsReplaced name side bytes) Q)
  replaced_run Q o p run = ran_by (IsReplaced name side bytes) Q o p (weaker (OthersLeft side) (IsReplaced name side bytes) o p (ran_leaves (OthersLeft side) Q o p run) replaced_left) (ran_ends (OthersLeft side) Q o p run)

  replaced : (d e f : Disk) → Beside side (λ was is. IsWhole bytes is) d e → Swaps side name e f → IsDone name side bytes d f
  replaced d e f was swap = record {
    here = (was.file.0, swap.moved was.file.0 apart was.file.1, was.file.2, was.file.3);
    gone = swap.gone apart;
    others = λ other not_name not_side. swap.others other not_side not_name ∙ was.others other not_side;
  }

  tried : {T E : Type 0} (r : Result T E) (d e f : Disk) → Beside side (λ was is. IsWhole bytes is) d e → AtOnce r (Swaps side name) e f → IsTried name side bytes d f
  tried (Ok x) d e f was swap = let all = replaced d e f was swap in record { here = inr all.here; others = all.others }
  tried (Err x) d e f was (inl swap) = let all = replaced d e f was swap in record { here = inr all.here; others = all.others }
  tried (Err x) d e f was (inr same) = tried_kept d f (subst (λ (e : Disk). KeepsOthers side d e) (sym same) was.others)

  swapped : {T E : Type 0} (r : Result T E) (d e f : Disk) → Beside side (λ was is. IsWhole bytes is) d e → AtOnce r (Swaps side name) e f → (image : Image) → IsImage f image → IsReplaced name side bytes d image
  swapped r d e f was swap image is = record {
    here = by_side (swapped_image r side name was.file.0 e f image apart was.file.1 was.file.3 swap is);
    others = λ other not_name not_side. subst (λ o. IsImageAt o (image other)) (swapped_others r side name e f other swap not_side not_name ∙ was.others other not_side) (is other);
  }
    where
      by_side : (image name ≡ Some was.file.0.bytes) ⊎ IsImageAt (e name) (image name) → IsImageAt (d name) (image name) ⊎ (image name ≡ Some bytes)
      by_side (inl there) = inr (there ∙ ap (λ (b : List ℕ). Some b) was.file.2)
      by_side (inr before) = inl (subst (λ o. IsImageAt o (image name)) (was.others name (λ same. apart (sym same))) before)

  pub swap_done : {T E : Type 0} (r : Result T E) (old mid new : HostState) → WroteSide side bytes old mid
      → Tells r (λ _. Swapped side name) mid new → CountsNeither mid new → OnDisk mid new (Does (AtOnce r (Swaps side name))) → OnOk r (WroteFile name side bytes old new)
  swap_done {T} {E} (Ok x) old mid new wrote told counts disk = record {
    steps = record {
      told = told_on (side_steps side bytes) (Swapped side name ∷ []) old mid new wrote.stepped.told told;
      counts = counts_then (side_steps side bytes) (Swapped side name ∷ []) old mid new wrote.stepped.counts (counts_neither (Swapped side name) mid new (λ n. refl) counts);
    };
    disk = goes_on (IsReplaced name side bytes) (Beside side (λ was is. IsWhole bytes is)) (IsDone name side bytes) (AtOnce {T = T} {E = E} (Ok x) (Swaps side name)) old.honest mid.honest new.honest
        (replaced_run (Beside side (λ was is. IsWhole bytes is)) old.honest mid.honest wrote.disk) disk
        (λ d e f was swap. (replaced d e f was swap, swapped {T = T} {E = E} (Ok x) d e f was swap));
  }
  swap_done (Err e) old mid new wrote told counts disk = tt

  pub swap_failed : {T E : Type 0} (r : Result T E) (old mid new : HostState) → WroteSide side bytes old mid
      → Tells r (λ _. Swapped side name) mid new → CountsNeither mid new → OnDisk mid new (Does (AtOnce r (Swaps side name))) → OnErr r (FailedFile name side bytes old new)
  swap_failed (Ok x) old mid new wrote told counts disk = tt
  swap_failed {T} {E} (Err x) old mid new wrote told counts disk = record {
    answered = side_steps side bytes;
    failed = Swapped side name;
    left = [];
    steps = record {
      in_order = refl;
      told = subst (λ (l : List Answer). Both old.given new.given (IsMore l)) (append-nil (side_steps side bytes)) (told_on (side_steps side bytes) [] old mid new wrote.stepped.told (told_none mid new told));
      counts = counts_then (side_steps side bytes) (Swapped side name ∷ []) old mid new wrote.stepped.counts (counts_neither (Swapped side name) mid new (λ n. refl) counts);
    };
    before_the_swap = λ other. absurd (other refl);
    at_most_swapped = goes_on (IsReplaced name side bytes) (Beside side (λ was is. IsWhole bytes is)) (IsTried name side bytes) (AtOnce {T = T} {E = E} (Err x) (Swaps side name)) old.honest mid.honest new.honest
        (replaced_run (Beside side (λ was is. IsWhole bytes is)) old.honest mid.honest wrote.disk) disk
        (λ d e f was swap. (tried {T = T} {E = E} (Err x) d e f was swap, swapped {T = T} {E = E} (Err x) d e f was swap));
  }

  -- the side file was not made whole
  pub side_failed : (old new : HostState) → FailedSide side bytes old new → FailedFile name side bytes old new
  side_failed old new failed =
      let all = halted_front side (side_steps side bytes) (Swapped side name ∷ []) (file_steps name side bytes) old new refl failed in
      record {
        answered = all.answered;
        failed = all.failed;
        left = all.left;
        steps = all.stopped;
        before_the_swap = λ other. all.disk;
        at_most_swapped = both_weaker (Ran (IsReplaced name side bytes) (KeepsOthers side)) (Ran (IsReplaced name side bytes) (IsTried name side bytes)) old.honest new.honest
            (replaced_run (KeepsOthers side) old.honest new.honest all.disk)
            (λ a b run. record { leaves = run.leaves; ends = tried_kept a.now b.now run.ends });
      }
