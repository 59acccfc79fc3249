-- A run of calls of an honest host: what a crash at any of its moments leaves, and how the disk stands to the one before it.
use Rattle.std.proofs.Common.{◌≡◌, ◌⊎◌, inl, inr, ⊎_elim, ℕ, zero, suc, ◌≤◌, List, [], ◌∷◌, ◌++◌, length, drop, refl, sym, ap, subst, Option, Some, None, arith, length-append}
use Rattle.std.specs.Prelude.{IfSome}
use Rattle.pf_io.specs.Disk.{Disk, Image, IsImage, reading}
use Rattle.pf_io.specs.Moments.{Honest, LeftByOne, LeftSince, moment, Elapses, Does, Leaves, Ends, Where, Ran}
use Rattle.pf_io.specs.Host.{Both}
use Rattle.pf_io.proofs.Telling.{both_then, both_weaker, both_same}

left_more : (disks : List Disk) (d : Disk) (image : Image) → LeftByOne (disks ++ d ∷ []) image → LeftByOne disks image ⊎ IsImage d image
left_more [] d image (inl is) = inr is
left_more [] d image (inr none) = absurd none
left_more (x ∷ disks) d image (inl is) = inl (inl is)
left_more (x ∷ disks) d image (inr left) = ⊎_elim (λ l. inl (inr l)) (λ is. inr is) (left_more disks d image left)

left_kept : (disks : List Disk) (d : Disk) (image : Image) → LeftByOne disks image ⊎ IsImage d image → LeftByOne (disks ++ d ∷ []) image
left_kept [] d image (inl none) = absurd none
left_kept [] d image (inr is) = inl is
left_kept (x ∷ disks) d image (inl (inl is)) = inl is
left_kept (x ∷ disks) d image (inl (inr left)) = inr (left_kept disks d image (inl left))
left_kept (x ∷ disks) d image (inr is) = inr (left_kept disks d image (inr is))

drop_push : (t : ℕ) (disks : List Disk) (d : Disk) → t ≤ length disks → drop t (disks ++ d ∷ []) ≡ drop t disks ++ d ∷ []
drop_push zero disks d le = refl
drop_push (suc t) [] d le = absurd (omega arith)
drop_push (suc t) (x ∷ disks) d le = drop_push t disks d (omega arith)

none_left : (past : List Disk) (image : Image) → LeftByOne (drop (length past) past) image → ⊥
none_left [] image left = left
none_left (d ∷ past) image left = none_left past image left

-- since this moment there is no other
pub only_now : (host : Honest) (image : Image) → LeftSince host (moment host) image → IsImage host.now image
only_now host image (inl now) = now
only_now host image (inr past) = absurd (none_left host.past image past)

-- Time goes on.
pub moment_later : (old new : Honest) → Elapses old new → moment old ≤ moment new
moment_later old new (inl same) = let e = ap moment same in omega arith
moment_later old new (inr past) = let e = ap (λ (l : List Disk). length l) past in omega (arith, length-append old.past (old.now ∷ []))

-- after one call a crash since t leaves what it might have left before, or what it may leave now
pub left_before : (old new : Honest) (t : ℕ) (image : Image) → Elapses old new → t ≤ moment old → LeftSince new t image → LeftSince old t image ⊎ IsImage new.now image
left_before old new t image (inl same) le left = inl (subst (λ (h : Honest). LeftSince h t image) same left)
left_before old new t image (inr past) le (inl now) = inr now
left_before old new t image (inr past) le (inr had) =
    inl (⊎_elim (λ l. inr l) (λ is. inl is) (left_more (drop t old.past) old.now image
    (subst (λ (l : List Disk). LeftByOne l image) (drop_push t old.past old.now le) (subst (λ (l : List Disk). LeftByOne (drop t l) image) past had))))

-- and what it might have left before, it may still have left
pub left_after : (old new : Honest) (t : ℕ) (image : Image) → Elapses old new → t ≤ moment old → LeftSince old t image → LeftSince new t image
left_after old new t image (inl same) le left = subst (λ (h : Honest). LeftSince h t image) (sym same) left
left_after old new t image (inr past) le left =
    inr (subst (λ (l : List Disk). LeftByOne (drop t l) image) (sym past) (subst (λ (l : List Disk). LeftByOne l image) (sym (drop_push t old.past old.now le))
    (left_kept (drop t old.past) old.now image (⊎_elim (λ is. inr is) (λ l. inl l) left))))

-- before the first call
pub started : (P : Disk → Image → Type 0) (o : Option Honest) → ((d : Disk) (image : Image) → IsImage d image → P d image) → Both o o (Ran P (λ old new. new ≡ old))
started P o here = both_same (Ran P (λ old new. new ≡ old)) o o refl (λ h. record {
  leaves = record { later = omega arith; each = λ image left. here h.now image (only_now h image left); earlier = λ t image le left. inl left };
  ends = refl;
})

ran_on : (P : Disk → Image → Type 0) (Q R : Disk → Disk → Type 0) (step : Disk → Disk → Type 0) (a b c : Honest) → Ran P Q a b → Does step b c
    → (Q a.now b.now → step b.now c.now → (R a.now c.now) × ((image : Image) → IsImage c.now image → P a.now image)) → Ran P R a c
ran_on P Q R step a b c ran does go =
    let next = go ran.ends does.disk in
    let forth = moment_later b c does.time in
    record {
      leaves = record {
        later = omega (arith, ran.leaves.later, forth);
        each = λ image left. ⊎_elim (ran.leaves.each image) (next.1 image) (left_before b c (moment a) image does.time ran.leaves.later left);
        earlier = λ t image le left. ⊎_elim (ran.leaves.earlier t image le) (λ now. inr (next.1 image now)) (left_before b c t image does.time (omega (arith, le, ran.leaves.later)) left);
      };
      ends = next.0;
    }

-- one call more
pub goes_on : (P : Disk → Image → Type 0) (Q R : Disk → Disk → Type 0) (step : Disk → Disk → Type 0) (o p q : Option Honest) → Both o p (Ran P Q) → Both p q (Does step)
    → ((d e f : Disk) → Q d e → step e f → (R d f) × ((image : Image) → IsImage f image → P d image)) → Both o q (Ran P R)
goes_on P Q R step o p q ran does go = both_then (Ran P Q) (Does step) (Ran P R) o p q ran does (λ a b c one two. ran_on P Q R step a b c one two (go a.now b.now c.now))

pub ran_leaves : (P : Disk → Image → Type 0) (Q : Disk → Disk → Type 0) (o p : Option Honest) → Both o p (Ran P Q) → Both o p (Leaves P)
ran_leaves P Q o p ran = both_weaker (Ran P Q) (Leaves P) o p ran (λ a b run. run.leaves)

pub ran_ends : (P : Disk → Image → Type 0) (Q : Disk → Disk → Type 0) (o p : Option Honest) → Both o p (Ran P Q) → Both o p (Ends Q)
ran_ends P Q o p ran = both_weaker (Ran P Q) (Ends Q) o p ran (λ a b run. run.ends)

-- what two clauses of a call say, as one
pub ran_by : (P : Disk → Image → Type 0) (Q : Disk → Disk → Type 0) (o p : Option Honest) → Both o p (Leaves P) → Both o p (Ends Q) → Both o p (Ran P Q)
ran_by P Q (Some a) (Some b) leaves ends = record { leaves = leaves; ends = ends }
ran_by P Q None None leaves ends = tt
ran_by P Q (Some a) None leaves ends = absurd leaves
ran_by P Q None (Some b) leaves ends = absurd leaves

runs_on : (P P2 : Disk → Image → Type 0) (Q : Disk → Disk → Type 0) (a b c : Honest) → Ran P Q a b → Leaves P2 b c → (Q a.now b.now → (image : Image) → P2 b.now image → P a.now image) → Leaves P a c
runs_on P P2 Q a b c ran next go = record {
  later = omega (arith, ran.leaves.later, next.later);
  each = λ image left. ⊎_elim (ran.leaves.each image) (go ran.ends image) (next.earlier (moment a) image ran.leaves.later left);
  earlier = λ t image le left. ⊎_elim (ran.leaves.earlier t image le) (λ has. inr (go ran.ends image has)) (next.earlier t image (omega (arith, le, ran.leaves.later)) left);
}

-- one call more that is itself a run
pub goes_on_run : (P P2 : Disk → Image → Type 0) (Q : Disk → Disk → Type 0) (o p q : Option Honest) → Both o p (Ran P Q) → Both p q (Leaves P2)
    → ((d e : Disk) → Q d e → (image : Image) → P2 e image → P d image) → Both o q (Leaves P)
goes_on_run P P2 Q o p q ran next go = both_then (Ran P Q) (Leaves P2) (Leaves P) o p q ran next (λ a b c one two. runs_on P P2 Q a b c one two (go a.now b.now))

-- one call more that is itself a run, with where it ends
pub goes_on_ran : (P P2 : Disk → Image → Type 0) (Q Q2 R : Disk → Disk → Type 0) (o p q : Option Honest) → Both o p (Ran P Q) → Both p q (Ran P2 Q2)
    → ((d e : Disk) → Q d e → (image : Image) → P2 e image → P d image) → ((d e f : Disk) → Q d e → Q2 e f → R d f) → Both o q (Ran P R)
goes_on_ran P P2 Q Q2 R o p q ran next go ends =
    both_then (Ran P Q) (Ran P2 Q2) (Ran P R) o p q ran next
    (λ a b c one two. record { leaves = runs_on P P2 Q a b c one two.leaves (go a.now b.now); ends = ends a.now b.now c.now one.ends two.ends })

-- what holds of more images
pub weaker : (P P2 : Disk → Image → Type 0) (o p : Option Honest) → Both o p (Leaves P) → ((d : Disk) (image : Image) → P d image → P2 d image) → Both o p (Leaves P2)
weaker P P2 o p run go = both_weaker (Leaves P) (Leaves P2) o p run (λ a b leaves. record {
  later = leaves.later;
  each = λ image left. go a.now image (leaves.each image left);
  earlier = λ t image le left. ⊎_elim (λ was. inl was) (λ has. inr (go a.now image has)) (leaves.earlier t image le left);
})

-- A run under a premise on the first disk: what each of its images has where the premise holds.
pub where_leaves : (C : Disk → Type 0) (P : Disk → Image → Type 0) (o p : Option Honest) → Both o p (Leaves (λ d image. C d → P d image)) → Both o p (Where C (Leaves P))
where_leaves C P o p run = both_weaker (Leaves (λ d image. C d → P d image)) (Where C (Leaves P)) o p run (λ a b leaves has. record {
  later = leaves.later;
  each = λ image left. leaves.each image left has;
  earlier = λ t image le left. ⊎_elim (λ was. inl was) (λ then_has. inr (then_has has)) (leaves.earlier t image le left);
})

-- the disk as it reads in the end is one of the images
pub ends_read : (P : Disk → Image → Type 0) (o p : Option Honest) → Both o p (Leaves P) → IfSome p (λ host. IsImage host.now (reading host.now)) → Both o p (Ends (λ old new. P old (reading new)))
ends_read P (Some a) (Some b) leaves reads = leaves.each (reading b.now) (inl reads)
ends_read P None None leaves reads = tt
ends_read P (Some a) None leaves reads = absurd leaves
ends_read P None (Some b) leaves reads = absurd leaves
