-- A side file that takes a new name, and the old name that is taken away.
use Rattle.std.proofs.Common.{◌≡◌, ◌≢◌, inl, inr, [], ◌∷◌, refl, ap, ◌∙◌, sym, subst, Option, Some, Result, Ok, Err}
use Rattle.pf_io.specs.Counts.{HasCause, counted}
use Rattle.pf_io.specs.Disk.{Name, File, Disk, Image, IsImage, IsImageAt, IsSettledAt}
use Rattle.pf_io.specs.Host.{Synced, Swapped, Removed, HostState, Both, IsMore, Tells, CountsNeither}
use Rattle.pf_io.specs.Moments.{Honest, Does, Ran}
use Rattle.pf_io.specs.Names.{IsTarget, recovery_of, side_of}
use Rattle.pf_io.specs.Steps.{Changes, Syncs, Swaps, Removes, AtOnce, Stays}
use Rattle.pf_io.proofs.Images.{settled_at, absent_at}
use Rattle.pf_io.proofs.Runs.{started, goes_on}
use Rattle.pf_session.specs.Aside.{KeepsApartBoth}
use Rattle.pf_session.specs.Asking.{NoCall, Asked, Stopped}
use Rattle.pf_session.specs.Making.{StepsGo}
use Rattle.pf_session.specs.Relocating.{name_steps, not_yet, both, new_alone, NameImage, IsNamed, NameLeaves}
use Rattle.pf_session.proofs.Apartness.{no_side, no_recovery}
use Rattle.pf_session.proofs.Calls.{asked_then, asked_neither, failed_neither, stopped_first, stopped_then}
use Rattle.pf_session.proofs.Placing.{settled_follow}
use Rattle.pf_session.proofs.Names.{side_apart, recovery_apart, recovery_not_side}

module _ (from to : Name) (target : IsTarget from) where
  from_side : from ≢ side_of to
  from_side same = no_side to from same target

  from_recovery : from ≢ recovery_of to
  from_recovery same = no_recovery to from same target

  side_recovery : side_of to ≢ recovery_of to
  side_recovery same = recovery_not_side to (sym same)

  -- the disk

  -- nothing but the recovery file was changed, and that at most synced
  record IsStill (d e : Disk) : Type 0 where
    others : (other : Name) → other ≢ recovery_of to → e other ≡ d other

  record IsSynced (d e : Disk) : Type 0 where
    still : IsStill d e
    recovery : IsSettledAt (e (recovery_of to))

  -- the new name has the side file, and the old one is still there
  record IsSwapped (d e : Disk) : Type 0 where
    apart : KeepsApartBoth from to d e
    old : from ≢ to → e from ≡ d from
    recovery : IsSettledAt (e (recovery_of to))
    named : (file : File) → d (side_of to) ≡ Some file → e to ≡ Some file

  still_image : (d e : Disk) → IsStill d e → (image : Image) → IsImage e image → NameImage from to d image
  still_image d e still image is = record {
    apart = λ other apart. here other apart.of_new.recovery;
    names = λ file ne there settled. not_yet (here from from_recovery) (here to (λ same. recovery_apart to (sym same)));
  }
    where
      here : (other : Name) → other ≢ recovery_of to → IsImageAt (d other) (image other)
      here other ne = subst (λ (o : Option File). IsImageAt o (image other)) (still.others other ne) (is other)

  swapped_image : (d e : Disk) → IsSwapped d e → (image : Image) → IsImage e image → NameImage from to d image
  swapped_image d e was image is = record {
    apart = λ other apart. subst (λ (o : Option File). IsImageAt o (image other)) (was.apart other apart) (is other);
    names = λ file ne there settled. both (subst (λ (o : Option File). IsImageAt o (image from)) (was.old ne) (is from)) (settled_at file (e to) (image to) (was.named file there) settled (is to));
  }

  named_image : (d e : Disk) → IsNamed from to d e → (image : Image) → IsImage e image → NameImage from to d image
  named_image d e was image is = record {
    apart = λ other apart. subst (λ (o : Option File). IsImageAt o (image other)) (was.apart other apart) (is other);
    names = λ file ne there settled. new_alone (absent_at (e from) (image from) was.gone (is from)) (settled_at file (e to) (image to) (was.named file ne there) settled (is to));
  }

  swaps : (d e f : Disk) → IsSynced d e → Swaps (side_of to) to e f → IsSwapped d f
  swaps d e f was swap = record {
    apart = λ other apart. swap.others other apart.of_new.side apart.of_new.here ∙ was.still.others other apart.of_new.recovery;
    old = λ ne. swap.others from from_side ne ∙ was.still.others from from_recovery;
    recovery = subst (λ (o : Option File). IsSettledAt o) (sym (swap.others (recovery_of to) (recovery_not_side to) (recovery_apart to))) was.recovery;
    named = λ file there. swap.moved file (side_apart to) (was.still.others (side_of to) side_recovery ∙ there);
  }

  removes : (d e f : Disk) → IsSwapped d e → Removes from e f → IsNamed from to d f
  removes d e f was removed = record {
    apart = λ other apart. removed.others other apart.of_old.here ∙ was.apart other apart;
    gone = removed.gone;
    recovery = subst (λ (o : Option File). IsSettledAt o) (sym (removed.others (recovery_of to) (λ same. from_recovery (sym same)))) was.recovery;
    named = λ file ne there. removed.others to (λ same. ne (sym same)) ∙ was.named file there;
  }

  still_apart : (d e : Disk) → IsStill d e → KeepsApartBoth from to d e
  still_apart d e still other apart = still.others other apart.of_new.recovery

  at_same : (P : Disk → Type 0) (e f : Disk) → f ≡ e → P e → P f
  at_same P e f same is = subst P (sym same) is

  -- each call, done or not
  abbrev SyncLeaves : {T E : Type 0} → Result T E → Disk → Disk → Type 0
  SyncLeaves (Ok x) d e = IsSynced d e
  SyncLeaves (Err x) d e = IsStill d e

  sync_step : {T E : Type 0} (r : Result T E) (d e f : Disk) → e ≡ d → Changes (recovery_of to) (Syncs r) e f → SyncLeaves r d f × ((image : Image) → IsImage f image → NameImage from to d image)
  sync_step {T} {E} (Ok x) d e f same change =
      let still : IsStill d f = record { others = λ other ne. change.others other ne ∙ ap (λ (g : Disk). g other) same } in
      (record { still = still; recovery = settled_follow T E x (e (recovery_of to)) (f (recovery_of to)) change.there }, still_image d f still)
  sync_step (Err x) d e f same change =
      let still : IsStill d f = record { others = λ other ne. change.others other ne ∙ ap (λ (g : Disk). g other) same } in
      (still, still_image d f still)

  abbrev SwapLeaves : {T E : Type 0} → Result T E → Disk → Disk → Type 0
  SwapLeaves (Ok x) d e = IsSwapped d e
  SwapLeaves (Err x) d e = KeepsApartBoth from to d e

  swap_step : {T E : Type 0} (r : Result T E) (d e f : Disk) → IsSynced d e → AtOnce r (Swaps (side_of to) to) e f → SwapLeaves r d f × ((image : Image) → IsImage f image → NameImage from to d image)
  swap_step (Ok x) d e f was swap = let is = swaps d e f was swap in (is, swapped_image d f is)
  swap_step (Err x) d e f was (inl swap) = let is = swaps d e f was swap in (is.apart, swapped_image d f is)
  swap_step (Err x) d e f was (inr same) = let is = at_same (λ g. IsStill d g) e f same was.still in (still_apart d f is, still_image d f is)

  remove_step : {T E : Type 0} (r : Result T E) (d e f : Disk) → IsSwapped d e → AtOnce r (Removes from) e f → NameLeaves r from to d f × ((image : Image) → IsImage f image → NameImage from to d image)
  remove_step (Ok x) d e f was removed = let is = removes d e f was removed in (is, named_image d f is)
  remove_step (Err x) d e f was (inl removed) = let is = removes d e f was removed in (is.apart, named_image d f is)
  remove_step (Err x) d e f was (inr same) = let is = at_same (λ g. IsSwapped d g) e f same was in (is.apart, swapped_image d f is)

  module _ (side recovery : Name) (side_is : side ≡ side_of to) (recovery_is : recovery ≡ recovery_of to) where
    sync_run : {T E : Type 0} (r : Result T E) (o p : Option Honest) → Both o p (Does (Changes recovery (Syncs r))) → Both o p (Ran (NameImage from to) (SyncLeaves r))
    sync_run r o p does =
        goes_on (NameImage from to) Stays (SyncLeaves r) (Changes (recovery_of to) (Syncs r)) o o p
        (started (NameImage from to) o (λ d image is. still_image d d (record { others = λ other ne. refl }) image is))
        (subst (λ (n : Name). Both o p (Does (Changes n (Syncs r)))) recovery_is does) (sync_step r)

    pub unsynced_run : (T E : Type 0) (x : E) (o p : Option Honest) → Both o p (Does (Changes recovery (Syncs {T = T} (Err x)))) → Both o p (Ran (NameImage from to) (KeepsApartBoth from to))
    unsynced_run T E x o p does =
        goes_on (NameImage from to) Stays (KeepsApartBoth from to) (Changes (recovery_of to) (Syncs {T = T} (Err x))) o o p
        (started (NameImage from to) o (λ d image is. still_image d d (record { others = λ other ne. refl }) image is))
        (subst (λ (n : Name). Both o p (Does (Changes n (Syncs {T = T} (Err x))))) recovery_is does)
        (λ d e f same change. let is = sync_step {T = T} (Err x) d e f same change in (still_apart d f is.0, is.1))

    swap_run : {T E : Type 0} (r : Result T E) (U F : Type 0) (x : U) (o p q : Option Honest) → Both o p (Does (Changes recovery (Syncs {T = U} {E = F} (Ok x)))) → Both p q (Does (AtOnce r (Swaps side to))) → Both o q (Ran (NameImage from to) (SwapLeaves r))
    swap_run r U F x o p q sync does =
        goes_on (NameImage from to) IsSynced (SwapLeaves r) (AtOnce r (Swaps (side_of to) to)) o p q (sync_run {T = U} {E = F} (Ok x) o p sync)
        (subst (λ (n : Name). Both p q (Does (AtOnce r (Swaps n to)))) side_is does) (swap_step r)

    pub unswapped_run : (T E : Type 0) (y : E) (U F : Type 0) (x : U) (o p q : Option Honest) → Both o p (Does (Changes recovery (Syncs {T = U} {E = F} (Ok x)))) → Both p q (Does (AtOnce {T = T} (Err y) (Swaps side to)))
        → Both o q (Ran (NameImage from to) (KeepsApartBoth from to))
    unswapped_run T E y U F x o p q sync does = swap_run {T = T} {E = E} (Err y) U F x o p q sync does

    pub removed_run : {T E : Type 0} (r : Result T E) (V G : Type 0) (y : V) (U F : Type 0) (x : U) (o p q s : Option Honest) → Both o p (Does (Changes recovery (Syncs {T = U} {E = F} (Ok x))))
        → Both p q (Does (AtOnce {T = V} {E = G} (Ok y) (Swaps side to))) → Both q s (Does (AtOnce r (Removes from))) → Both o s (Ran (NameImage from to) (NameLeaves r from to))
    removed_run r V G y U F x o p q s sync swap does =
        goes_on (NameImage from to) IsSwapped (NameLeaves r from to) (AtOnce r (Removes from)) o q s (swap_run {T = V} {E = G} (Ok y) U F x o p q sync swap) does (remove_step r)

    -- the calls

    sync_asked : (old new : HostState) → Both old.given new.given (IsMore (Synced recovery ∷ [])) → new.faults ≡ old.faults → CountsNeither old new → Asked (Synced (recovery_of to) ∷ []) NoCall old new
    sync_asked old new told calm counts = subst (λ (n : Name). Asked (Synced n ∷ []) NoCall old new) recovery_is (asked_neither (Synced recovery) old new refl refl told calm counts)

    swap_asked : (old new : HostState) → Both old.given new.given (IsMore (Swapped side to ∷ [])) → new.faults ≡ old.faults → CountsNeither old new → Asked (Swapped (side_of to) to ∷ []) NoCall old new
    swap_asked old new told calm counts = subst (λ (n : Name). Asked (Swapped n to ∷ []) NoCall old new) side_is (asked_neither (Swapped side to) old new refl refl told calm counts)

    pub unsynced_goes : (old new : HostState) → new.given ≡ old.given → new.faults ≡ counted old.faults → CountsNeither old new → Stopped (name_steps from to) old new
    unsynced_goes old new told once counts = stopped_first (Synced (recovery_of to)) (Swapped (side_of to) to ∷ Removed from ∷ []) old new (failed_neither old new told once counts)

    module _ (s0 s1 : HostState) (told1 : Both s0.given s1.given (IsMore (Synced recovery ∷ []))) (calm1 : s1.faults ≡ s0.faults) (counts1 : CountsNeither s0 s1) where
      pub unswapped_goes : (s2 : HostState) → s2.given ≡ s1.given → s2.faults ≡ counted s1.faults → CountsNeither s1 s2 → Stopped (name_steps from to) s0 s2
      unswapped_goes s2 told once counts =
          stopped_then (Synced (recovery_of to) ∷ []) (Swapped (side_of to) to ∷ Removed from ∷ []) s0 s1 s2 (sync_asked s0 s1 told1 calm1 counts1)
          (stopped_first (Swapped (side_of to) to) (Removed from ∷ []) s1 s2 (failed_neither s1 s2 told once counts))

      module _ (s2 : HostState) (told2 : Both s1.given s2.given (IsMore (Swapped side to ∷ []))) (calm2 : s2.faults ≡ s1.faults) (counts2 : CountsNeither s1 s2) where
        front : Asked (Synced (recovery_of to) ∷ Swapped (side_of to) to ∷ []) NoCall s0 s2
        front = asked_then (Synced (recovery_of to) ∷ []) (Swapped (side_of to) to ∷ []) NoCall s0 s1 s2 (sync_asked s0 s1 told1 calm1 counts1) (swap_asked s1 s2 told2 calm2 counts2)

        pub removed_goes : {T E : Type 0} (r : Result T E) (s3 : HostState) → Tells r (λ x. Removed from) s2 s3 → HasCause s2.faults s3.faults r → CountsNeither s2 s3 → StepsGo r (name_steps from to) s0 s3
        removed_goes (Ok x) s3 told cause counts = asked_then (Synced (recovery_of to) ∷ Swapped (side_of to) to ∷ []) (Removed from ∷ []) NoCall s0 s2 s3 front (asked_neither (Removed from) s2 s3 refl refl told cause.still counts)
        removed_goes (Err x) s3 told cause counts =
            stopped_then (Synced (recovery_of to) ∷ Swapped (side_of to) to ∷ []) (Removed from ∷ []) s0 s2 s3 front (stopped_first (Removed from) [] s2 s3 (failed_neither s2 s3 told cause.once counts))
