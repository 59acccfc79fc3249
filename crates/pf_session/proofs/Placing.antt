-- What the making of a side file and its taking of a name come to.
use Rattle.std.proofs.Common.{◌≡◌, ◌≢◌, ◌⊎◌, inl, inr, ℕ, List, [], ◌∷◌, ◌++◌, refl, ap, sym, ◌∙◌, subst, Option, Some, None, Result, Ok, Err}
use Rattle.pf_io.specs.Counts.{HasCause, counted}
use Rattle.pf_io.specs.Disk.{Name, File, Disk, Image, IsImageAt, IsImage, IsSettledAt}
use Rattle.pf_io.specs.Host.{Wrote, Synced, Made, Swapped, HostState, Both, IsMore, Tells, CountsNeither, OnDisk}
use Rattle.pf_io.specs.Moments.{Honest, Does, Ran, Ends}
use Rattle.pf_io.specs.Names.{recovery_of, side_of}
use Rattle.pf_io.specs.SideFile.{IsWhole}
use Rattle.pf_io.specs.SideSteps.{Beside, IsMade, IsWritten}
use Rattle.pf_io.specs.Steps.{Follows, KeepsOthers, Changes, Writes, Syncs, Makes, Swaps, AtOnce, overwrite}
use Rattle.pf_io.specs.Unchanged.{AllReadAsBefore, OnlyReads}
use Rattle.pf_io.proofs.Images.{follows_at, made_others, written_empty, swapped_image, swapped_others}
use Rattle.pf_io.proofs.Runs.{goes_on, goes_on_ran, ran_by, ran_leaves, weaker}
use Rattle.pf_io.proofs.Telling.{both_weaker}
use Rattle.pf_io.proofs.Unchanged.{only_started, only_synced, image_as_before}
use Rattle.pf_session.specs.Aside.{Apart}
use Rattle.pf_session.specs.Asking.{NoCall, AnotherCall, Asked, Stopped}
use Rattle.pf_session.specs.Making.{StepsGo}
use Rattle.pf_session.specs.Sealing.{LeavesOthers}
use Rattle.pf_session.specs.Placing.{make_steps, place_steps, MakeLeaves, PlaceImage, IsPlaced, PlaceDone, PlaceTried, PlaceStopped, PlaceGoes}
use Rattle.pf_session.proofs.Calls.{asked_then, asked_neither, failed_neither, stopped_first, stopped_then, stopped_more}
use Rattle.pf_session.proofs.Disks.{first_change, next_change}
use Rattle.pf_session.proofs.Names.{side_apart, recovery_apart, recovery_not_side}

-- the side file

module _ (side : Name) (node : List ℕ) where
  pub made_run : (step : Disk → Disk → Type 0) (o p : Option Honest) → ((d e : Disk) → step d e → Makes side d e) → Both o p (Does step) → Both o p (Ran (LeavesOthers side) (Beside side (λ was is. IsMade is)))
  made_run step o p is does = first_change side (Beside side (λ was is. IsMade is)) step o p does (λ d e goes. let made = is d e goes in (made.others, record { file = made.there; others = made.others }))

  pub unmade_run : {T E : Type 0} (r : Result T E) (o p : Option Honest) → Both o p (Does (AtOnce r (Makes side))) → Both o p (Ran (LeavesOthers side) (KeepsOthers side))
  unmade_run r o p does = first_change side (KeepsOthers side) (AtOnce r (Makes side)) o p does (λ d e made. let keeps = made_others r side d e made in (keeps, keeps))

  pub unwritten_run : {T E : Type 0} (r : Result T E) (o p q : Option Honest) → Both o p (Ran (LeavesOthers side) (Beside side (λ was is. IsMade is))) → Both p q (Does (Changes side (Writes 0 node r)))
      → Both o q (Ran (LeavesOthers side) (KeepsOthers side))
  unwritten_run r o p q ran does =
      next_change side (Beside side (λ was is. IsMade is)) (KeepsOthers side) (Changes side (Writes 0 node r)) o p q ran does (λ d e made. made.others) (λ e f change. change.others) (λ d e f made change keeps. keeps)

  pub written_run : (T E : Type 0) (x : T) (o p q : Option Honest) → Both o p (Ran (LeavesOthers side) (Beside side (λ was is. IsMade is))) → Both p q (Does (Changes side (Writes {T = T} {E = E} 0 node (Ok x))))
      → Both o q (Ran (LeavesOthers side) (Beside side (λ was is. IsWritten node is)))
  written_run T E x o p q ran does =
      next_change side (Beside side (λ was is. IsMade is)) (Beside side (λ was is. IsWritten node is)) (Changes side (Writes {T = T} {E = E} 0 node (Ok x))) o p q ran does (λ d e made. made.others) (λ e f change. change.others)
      (λ d e f made change keeps.
      let next = follows_at (Writes {T = T} {E = E} 0 node (Ok x)) (e side) (f side) made.file.0 made.file.1 change.there in
      record { file = (next.0, next.1, next.2.reads ∙ ap (λ (b : List ℕ). overwrite 0 node b) made.file.2.bytes ∙ written_empty node); others = keeps })

  pub synced_run : {T E : Type 0} (r : Result T E) (o p q : Option Honest) → Both o p (Ran (LeavesOthers side) (Beside side (λ was is. IsWritten node is))) → Both p q (Does (Changes side (Syncs r)))
      → Both o q (Ran (LeavesOthers side) (MakeLeaves r side node))
  synced_run {T} {E} (Ok x) o p q ran does =
      next_change side (Beside side (λ was is. IsWritten node is)) (Beside side (λ was is. IsWhole node is)) (Changes side (Syncs {T = T} {E = E} (Ok x))) o p q ran does (λ d e was. was.others) (λ e f change. change.others)
      (λ d e f was change keeps.
      let next = follows_at (Syncs {T = T} {E = E} (Ok x)) (e side) (f side) was.file.0 was.file.1 change.there in
      record { file = (next.0, next.1, next.2.reads ∙ was.file.2, next.2.settled); others = keeps })
  synced_run {T} {E} (Err x) o p q ran does =
      next_change side (Beside side (λ was is. IsWritten node is)) (KeepsOthers side) (Changes side (Syncs {T = T} {E = E} (Err x))) o p q ran does (λ d e was. was.others) (λ e f change. change.others) (λ d e f was change keeps. keeps)

  pub synced_goes : {T E : Type 0} (r : Result T E) (old mid new : HostState) → Asked (Made side ∷ Wrote side 0 node ∷ []) NoCall old mid → Tells r (λ x. Synced side) mid new → HasCause mid.faults new.faults r → CountsNeither mid new
      → StepsGo r (make_steps side node) old new
  synced_goes (Ok x) old mid new was told cause counts =
      asked_then (Made side ∷ Wrote side 0 node ∷ []) (Synced side ∷ []) NoCall old mid new was (asked_neither (Synced side) mid new refl refl told cause.still counts)
  synced_goes (Err x) old mid new was told cause counts =
      stopped_then (Made side ∷ Wrote side 0 node ∷ []) (Synced side ∷ []) old mid new was (stopped_first (Synced side) [] mid new (failed_neither mid new told cause.once counts))

-- runs

pub ran_weaker : (P P2 : Disk → Image → Type 0) (Q Q2 : Disk → Disk → Type 0) (o p : Option Honest) → ((d : Disk) (image : Image) → P d image → P2 d image) → ((d e : Disk) → Q d e → Q2 d e) → Both o p (Ran P Q) → Both o p (Ran P2 Q2)
ran_weaker P P2 Q Q2 o p leaves ends ran =
    ran_by P2 Q2 o p (weaker P P2 o p (ran_leaves P Q o p ran) leaves) (both_weaker (Ran P Q) (Ends Q2) o p ran (λ a b run. ends a.now b.now run.ends))

both_join : (S : Disk → Disk → Type 0) (P : Disk → Image → Type 0) (Q : Disk → Disk → Type 0) (o p : Option Honest) → Both o p (Does S) → Both o p (Ran P Q) → Both o p (Ran P (λ d e. S d e × Q d e))
both_join S P Q (Some a) (Some b) does ran = record { leaves = ran.leaves; ends = (does.disk, ran.ends) }
both_join S P Q None None does ran = tt
both_join S P Q (Some a) None does ran = absurd does
both_join S P Q None (Some b) does ran = absurd does

pub settled_follow : (T E : Type 0) (x : T) (o p : Option File) → Follows (Syncs {T = T} {E = E} (Ok x)) o p → IsSettledAt p
settled_follow T E x (Some f) (Some g) sync = sync.settled
settled_follow T E x None None sync = tt
settled_follow T E x (Some f) None sync = absurd sync
settled_follow T E x None (Some g) sync = absurd sync

-- nothing but the side file was changed, and the recovery file at most synced
pub record Unmoved (name : Name) (old new : Disk) : Type 0 where
  pub others : (other : Name) → other ≢ side_of name → other ≢ recovery_of name → new other ≡ old other

-- the side file is whole, and nothing is pending at the recovery name
pub record IsReady (name : Name) (node : List ℕ) (old new : Disk) : Type 0 where
  pub file : IsWhole node (new (side_of name))
  pub recovery : IsSettledAt (new (recovery_of name))
  pub others : (other : Name) → other ≢ side_of name → other ≢ recovery_of name → new other ≡ old other

module _ (name : Name) (node : List ℕ) where
  abbrev SyncsFirst : {T E : Type 0} → Result T E → Disk → Disk → Type 0
  SyncsFirst r d e = Changes (recovery_of name) (Syncs r) d e × AllReadAsBefore d e

  sync_run : {T E : Type 0} (r : Result T E) (old new : HostState) → OnDisk old new (Does (Changes (recovery_of name) (Syncs r))) → OnDisk old new (Ran (LeavesOthers (side_of name)) (SyncsFirst r))
  sync_run r old new does =
      let reads : OnlyReads old new = only_synced r (recovery_of name) old old new (only_started old) does in
      ran_weaker IsImage (LeavesOthers (side_of name)) (SyncsFirst r) (SyncsFirst r) old.honest new.honest (λ d image is other ne. is other) (λ d e goes. goes)
      (both_join (Changes (recovery_of name) (Syncs r)) IsImage AllReadAsBefore old.honest new.honest does reads)

  side_left : {T E : Type 0} (r : Result T E) (d e : Disk) → SyncsFirst r d e → (image : Image) → LeavesOthers (side_of name) e image → LeavesOthers (side_of name) d image
  side_left r d e goes image left other ne = image_as_before (λ n. d other) (λ n. e other) (λ n. image other) (λ n. goes.1 other) (λ n. left other ne) other

  others_kept : {T E : Type 0} (r : Result T E) (d e f : Disk) → SyncsFirst r d e → KeepsOthers (side_of name) e f → (other : Name) → other ≢ side_of name → other ≢ recovery_of name → f other ≡ d other
  others_kept r d e f goes keeps other not_side not_recovery = keeps other not_side ∙ goes.0.others other not_recovery

  -- before the swap the name stays
  unmoved_stays : (o p : Option Honest) → Both o p (Ran (LeavesOthers (side_of name)) (Unmoved name)) → Both o p (Ran (λ disk image. IsImageAt (disk name) (image name)) (λ old new. new name ≡ old name))
  unmoved_stays o p ran =
      ran_weaker (LeavesOthers (side_of name)) (λ disk image. IsImageAt (disk name) (image name)) (Unmoved name) (λ old new. new name ≡ old name) o p (λ d image left. left name (λ same. side_apart name (sym same)))
      (λ d e goes. goes.others name (λ same. side_apart name (sym same)) (λ same. recovery_apart name (sym same))) ran

  image_left : (d : Disk) (image : Image) → LeavesOthers (side_of name) d image → PlaceImage name node d image
  image_left d image left = record { here = inl (left name (λ same. side_apart name (sym same))); apart = λ other apart. left other apart.side }

  unmoved_tried : (o p : Option Honest) → Both o p (Ran (LeavesOthers (side_of name)) (Unmoved name)) → Both o p (Ran (PlaceImage name node) (PlaceTried name node))
  unmoved_tried o p ran =
      ran_weaker (LeavesOthers (side_of name)) (PlaceImage name node) (Unmoved name) (PlaceTried name node) o p image_left
      (λ d e goes. record {
        placed = inl (goes.others name (λ same. side_apart name (sym same)) (λ same. recovery_apart name (sym same)));
        apart = λ other apart. goes.others other apart.side apart.recovery;
      }) ran

  stopped_early : (old new : HostState) → Stopped (place_steps name node) old new → OnDisk old new (Ran (LeavesOthers (side_of name)) (Unmoved name)) → PlaceStopped name node old new
  stopped_early old new stopped ran = record { stopped = stopped; before_the_swap = λ other. unmoved_stays old.honest new.honest ran; disk = unmoved_tried old.honest new.honest ran }

  module _ (side recovery : Name) (is_side : side ≡ side_of name) (is_recovery : recovery ≡ recovery_of name) where
    at_recovery : {T E : Type 0} (r : Result T E) (old new : HostState) → OnDisk old new (Does (Changes recovery (Syncs r))) → OnDisk old new (Does (Changes (recovery_of name) (Syncs r)))
    at_recovery r old new does = subst (λ (n : Name). OnDisk old new (Does (Changes n (Syncs r)))) is_recovery does

    -- the first call failed
    pub unsynced : (T E : Type 0) (x : E) (old new : HostState) → new.given ≡ old.given → new.faults ≡ counted old.faults → CountsNeither old new → OnDisk old new (Does (Changes recovery (Syncs {T = T} (Err x)))) → PlaceStopped name node old new
    unsynced T E x old new told once counts does =
        stopped_early old new (stopped_first (Synced (recovery_of name)) (make_steps (side_of name) node ++ Swapped (side_of name) name ∷ []) old new (failed_neither old new told once counts))
        (ran_weaker (LeavesOthers (side_of name)) (LeavesOthers (side_of name)) (SyncsFirst {T = T} {E = E} (Err x)) (Unmoved name) old.honest new.honest (λ d image left. left)
        (λ d e goes. record { others = λ other not_side not_recovery. goes.0.others other not_recovery }) (sync_run {T = T} {E = E} (Err x) old new (at_recovery {T = T} {E = E} (Err x) old new does)))

    synced_asked : (old new : HostState) → Both old.given new.given (IsMore (Synced recovery ∷ [])) → new.faults ≡ old.faults → CountsNeither old new → Asked (Synced (recovery_of name) ∷ []) NoCall old new
    synced_asked old new told calm counts = subst (λ (n : Name). Asked (Synced n ∷ []) NoCall old new) is_recovery (asked_neither (Synced recovery) old new refl refl told calm counts)

    -- the side file was not made
    pub not_made : (T E : Type 0) (x : T) (old mid new : HostState) → Both old.given mid.given (IsMore (Synced recovery ∷ [])) → mid.faults ≡ old.faults → CountsNeither old mid → OnDisk old mid (Does (Changes recovery (Syncs {T = T} {E = E} (Ok x))))
        → Stopped (make_steps side node) mid new → OnDisk mid new (Ran (LeavesOthers side) (KeepsOthers side)) → PlaceStopped name node old new
    not_made T E x old mid new told calm counts does stopped made =
        stopped_early old new
        (stopped_then (Synced (recovery_of name) ∷ []) (make_steps (side_of name) node ++ Swapped (side_of name) name ∷ []) old mid new (synced_asked old mid told calm counts)
        (stopped_more (make_steps (side_of name) node) (Swapped (side_of name) name ∷ []) mid new (subst (λ (n : Name). Stopped (make_steps n node) mid new) is_side stopped)))
        (goes_on_ran (LeavesOthers (side_of name)) (LeavesOthers (side_of name)) (SyncsFirst {T = T} {E = E} (Ok x)) (KeepsOthers (side_of name)) (Unmoved name) old.honest mid.honest new.honest
        (sync_run {T = T} {E = E} (Ok x) old mid (at_recovery {T = T} {E = E} (Ok x) old mid does))
        (subst (λ (n : Name). OnDisk mid new (Ran (LeavesOthers n) (KeepsOthers n))) is_side made)
        (side_left {T = T} {E = E} (Ok x)) (λ d e f goes keeps. record { others = others_kept {T = T} {E = E} (Ok x) d e f goes keeps }))

    -- it was, and nothing is pending at the recovery name
    pub ready : (T E : Type 0) (x : T) (old mid new : HostState) → OnDisk old mid (Does (Changes recovery (Syncs {T = T} {E = E} (Ok x)))) → OnDisk mid new (Ran (LeavesOthers side) (Beside side (λ was is. IsWhole node is)))
        → OnDisk old new (Ran (LeavesOthers (side_of name)) (IsReady name node))
    ready T E x old mid new does made =
        goes_on_ran (LeavesOthers (side_of name)) (LeavesOthers (side_of name)) (SyncsFirst {T = T} {E = E} (Ok x)) (Beside (side_of name) (λ was is. IsWhole node is)) (IsReady name node) old.honest mid.honest new.honest
        (sync_run {T = T} {E = E} (Ok x) old mid (at_recovery {T = T} {E = E} (Ok x) old mid does))
        (subst (λ (n : Name). OnDisk mid new (Ran (LeavesOthers n) (Beside n (λ was is. IsWhole node is)))) is_side made)
        (side_left {T = T} {E = E} (Ok x)) (λ d e f goes beside. record {
          file = beside.file;
          recovery = subst (λ (o : Option File). IsSettledAt o) (sym (beside.others (recovery_of name) (recovery_not_side name))) (settled_follow T E x (d (recovery_of name)) (e (recovery_of name)) goes.0.there);
          others = others_kept {T = T} {E = E} (Ok x) d e f goes beside.others;
        })

    pub ready_asked : (old mid new : HostState) → Both old.given mid.given (IsMore (Synced recovery ∷ [])) → mid.faults ≡ old.faults → CountsNeither old mid → Asked (make_steps side node) NoCall mid new
        → Asked (Synced (recovery_of name) ∷ make_steps (side_of name) node) NoCall old new
    ready_asked old mid new told calm counts asked =
        asked_then (Synced (recovery_of name) ∷ []) (make_steps (side_of name) node) NoCall old mid new (synced_asked old mid told calm counts) (subst (λ (n : Name). Asked (make_steps n node) NoCall mid new) is_side asked)

  -- the swap

  placed : (d e f : Disk) → IsReady name node d e → Swaps (side_of name) name e f → IsPlaced name node f
  placed d e f was swap = record {
    file = (was.file.0, swap.moved was.file.0 (side_apart name) was.file.1, was.file.2, was.file.3);
    recovery = subst (λ (o : Option File). IsSettledAt o) (sym (swap.others (recovery_of name) (recovery_not_side name) (recovery_apart name))) was.recovery;
  }

  apart_kept : {T E : Type 0} (r : Result T E) (d e f : Disk) → IsReady name node d e → AtOnce r (Swaps (side_of name) name) e f → (other : Name) → Apart name other → f other ≡ d other
  apart_kept r d e f was swap other apart = swapped_others r (side_of name) name e f other swap apart.side apart.here ∙ was.others other apart.side apart.recovery

  name_kept : (d e f : Disk) → IsReady name node d e → f ≡ e → f name ≡ d name
  name_kept d e f was same = ap (λ (x : Disk). x name) same ∙ was.others name (λ same. side_apart name (sym same)) (λ same. recovery_apart name (sym same))

  tried : (T E : Type 0) (x : E) (d e f : Disk) → IsReady name node d e → AtOnce {T = T} (Err x) (Swaps (side_of name) name) e f → PlaceTried name node d f
  tried T E x d e f was (inl swap) = record { placed = inr (placed d e f was swap); apart = apart_kept {T = T} (Err x) d e f was (inl swap) }
  tried T E x d e f was (inr same) = record { placed = inl (name_kept d e f was same); apart = apart_kept {T = T} (Err x) d e f was (inr same) }

  swapped_here : {T E : Type 0} (r : Result T E) (d e f : Disk) → IsReady name node d e → AtOnce r (Swaps (side_of name) name) e f → (image : Image) → IsImage f image → PlaceImage name node d image
  swapped_here r d e f was swap image is = record {
    here = by_side (swapped_image r (side_of name) name was.file.0 e f image (side_apart name) was.file.1 was.file.3 swap is);
    apart = λ other apart. subst (λ o. IsImageAt o (image other)) (apart_kept r d e f was swap other apart) (is other);
  }
    where
      by_side : (image name ≡ Some was.file.0.bytes) ⊎ IsImageAt (e name) (image name) → IsImageAt (d name) (image name) ⊎ (image name ≡ Some node)
      by_side (inl there) = inr (there ∙ ap (λ (b : List ℕ). Some b) was.file.2)
      by_side (inr before) = inl (subst (λ o. IsImageAt o (image name)) (was.others name (λ same. side_apart name (sym same)) (λ same. recovery_apart name (sym same))) before)

  ready_run : (o p : Option Honest) → Both o p (Ran (LeavesOthers (side_of name)) (IsReady name node)) → Both o p (Ran (PlaceImage name node) (IsReady name node))
  ready_run o p ran = ran_weaker (LeavesOthers (side_of name)) (PlaceImage name node) (IsReady name node) (IsReady name node) o p image_left (λ d e was. was) ran

  swap_goes : {T E : Type 0} (r : Result T E) (old mid new : HostState) → Asked (Synced (recovery_of name) ∷ make_steps (side_of name) node) NoCall old mid → OnDisk old mid (Ran (LeavesOthers (side_of name)) (IsReady name node))
      → Tells r (λ x. Swapped (side_of name) name) mid new → HasCause mid.faults new.faults r → CountsNeither mid new → OnDisk mid new (Does (AtOnce r (Swaps (side_of name) name))) → PlaceGoes r name node old new
  swap_goes {T} {E} (Ok x) old mid new was ran told cause counts does = record {
    asked = asked_then (Synced (recovery_of name) ∷ make_steps (side_of name) node) (Swapped (side_of name) name ∷ []) NoCall old mid new was (asked_neither (Swapped (side_of name) name) mid new refl refl told cause.still counts);
    disk = goes_on (PlaceImage name node) (IsReady name node) (PlaceDone name node) (AtOnce {T = T} {E = E} (Ok x) (Swaps (side_of name) name)) old.honest mid.honest new.honest (ready_run old.honest mid.honest ran) does
        (λ d e f ready swap. (record { placed = placed d e f ready swap; apart = apart_kept {T = T} {E = E} (Ok x) d e f ready swap }, swapped_here {T = T} {E = E} (Ok x) d e f ready swap));
  }
  swap_goes {T} {E} (Err x) old mid new was ran told cause counts does = record {
    stopped = record {
      answered = Synced (recovery_of name) ∷ make_steps (side_of name) node;
      failed = Swapped (side_of name) name;
      left = [];
      in_order = refl;
      asked = asked_then (Synced (recovery_of name) ∷ make_steps (side_of name) node) [] AnotherCall old mid new was (failed_neither mid new told cause.once counts);
    };
    before_the_swap = λ other. absurd (other refl);
    disk = goes_on (PlaceImage name node) (IsReady name node) (PlaceTried name node) (AtOnce {T = T} {E = E} (Err x) (Swaps (side_of name) name)) old.honest mid.honest new.honest (ready_run old.honest mid.honest ran) does
        (λ d e f ready swap. (tried T E x d e f ready swap, swapped_here {T = T} {E = E} (Err x) d e f ready swap));
  }

  pub swap_at : {T E : Type 0} (r : Result T E) (side : Name) (old mid new : HostState) → side ≡ side_of name → Asked (Synced (recovery_of name) ∷ make_steps (side_of name) node) NoCall old mid
      → OnDisk old mid (Ran (LeavesOthers (side_of name)) (IsReady name node)) → Tells r (λ x. Swapped side name) mid new → HasCause mid.faults new.faults r → CountsNeither mid new → OnDisk mid new (Does (AtOnce r (Swaps side name)))
      → PlaceGoes r name node old new
  swap_at r side old mid new is was ran told cause counts does =
      swap_goes r old mid new was ran (subst (λ (n : Name). Tells r (λ x. Swapped n name) mid new) is told) cause counts (subst (λ (n : Name). OnDisk mid new (Does (AtOnce r (Swaps n name)))) is does)
