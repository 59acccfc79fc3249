-- Calls that change one name of an honest disk.
use Rattle.std.proofs.Common.{◌≡◌, ap, subst, Option, Some, None, IfSome}
use Rattle.std.specs.Prelude.{option_map}
use Rattle.pf_io.specs.Disk.{Name, Files, Disk, Image, IsImageAt, reading}
use Rattle.pf_io.specs.Host.{Both}
use Rattle.pf_io.specs.Moments.{Honest, Does, Ran}
use Rattle.pf_io.specs.Steps.{KeepsOthers, Stays}
use Rattle.pf_io.proofs.Images.{others_image, others_then}
use Rattle.pf_io.proofs.Runs.{started, goes_on, goes_on_ran}
use Rattle.pf_io.proofs.Telling.{both_weaker}
use Rattle.pf_session.specs.Sealing.{LeavesOthers}

pub leaves_others : (name : Name) (d e : Disk) (image : Image) → KeepsOthers name d e → LeavesOthers name e image → LeavesOthers name d image
leaves_others name d e image keeps left other ne = subst (λ o. IsImageAt o (image other)) (keeps other ne) (left other ne)

-- nothing was done yet
pub alone_none : (name : Name) (o : Option Honest) → Both o o (Ran (LeavesOthers name) Stays)
alone_none name o = started (LeavesOthers name) o (λ d image is other ne. is other)

pub keeps_same : (name : Name) (d e : Disk) → e ≡ d → KeepsOthers name d e
keeps_same name d e same other ne = ap (λ (x : Disk). x other) same

-- from where nothing was done, one call that changes this name alone
pub first_change : (name : Name) (R : Disk → Disk → Type 0) (step : Disk → Disk → Type 0) (o q : Option Honest) → Both o q (Does step) → ((d f : Disk) → step d f → KeepsOthers name d f × R d f) → Both o q (Ran (LeavesOthers name) R)
first_change name R step o q does go =
    goes_on (LeavesOthers name) Stays R step o o q (alone_none name o) does
    (λ d e f same step_is.
    let from_d = go d f (subst (λ (x : Disk). step x f) same step_is) in
    (from_d.1, λ image is other ne. others_image name d f image from_d.0 is other ne))

-- one more call that changes this name alone
pub next_change : (name : Name) (Q R : Disk → Disk → Type 0) (step : Disk → Disk → Type 0) (o p q : Option Honest) → Both o p (Ran (LeavesOthers name) Q) → Both p q (Does step)
    → ((d e : Disk) → Q d e → KeepsOthers name d e) → ((e f : Disk) → step e f → KeepsOthers name e f) → ((d e f : Disk) → Q d e → step e f → KeepsOthers name d f → R d f)
    → Both o q (Ran (LeavesOthers name) R)
next_change name Q R step o p q ran does before change go =
    goes_on (LeavesOthers name) Q R step o p q ran does
    (λ d e f q_is step_is.
    let keeps = others_then name d e f (before d e q_is) (change e f step_is) in
    (go d e f q_is step_is keeps, λ image is other ne. others_image name d f image keeps is other ne))

-- more calls that do
pub next_changes : (name : Name) (Q S R : Disk → Disk → Type 0) (o p q : Option Honest) → Both o p (Ran (LeavesOthers name) Q) → Both p q (Ran (LeavesOthers name) S)
    → ((d e : Disk) → Q d e → KeepsOthers name d e) → ((d e f : Disk) → Q d e → S e f → R d f) → Both o q (Ran (LeavesOthers name) R)
next_changes name Q S R o p q ran more before go =
    goes_on_ran (LeavesOthers name) (LeavesOthers name) Q S R o p q ran more (λ d e q_is image left. leaves_others name d e image (before d e q_is) left) go

-- in the end less is said
pub ends_weaker : (P : Disk → Image → Type 0) (Q R : Disk → Disk → Type 0) (o q : Option Honest) → Both o q (Ran P Q) → ((d e : Disk) → Q d e → R d e) → Both o q (Ran P R)
ends_weaker P Q R o q ran go = both_weaker (Ran P Q) (Ran P R) o q ran (λ a b run. record { leaves = run.leaves; ends = go a.now b.now run.ends })

-- a call that only reads, with what it gave of the files
pub read_does : (P : Files → Type 0) (o p : Option Honest) → IfSome (option_map (λ (h : Honest). reading h.now) o) P → Both o p (Does Stays) → Both o p (Does (λ d e. (e ≡ d) × P (reading d)))
read_does P (Some a) (Some b) is does = record { disk = (does.disk, is); time = does.time }
read_does P None None is does = tt
read_does P (Some a) None is does = absurd does
read_does P None (Some b) is does = absurd does
