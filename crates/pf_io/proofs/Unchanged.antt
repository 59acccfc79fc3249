-- Calls that only read, one after the other.
use Rattle.std.proofs.Common.{◌≡◌, ◌∙◌, Bool, true, false, refl, sym, subst, Option, Some, None, arith}
use Rattle.std.specs.Prelude.{Result, bytes_eq}
use Rattle.std.proofs.lemmas.Slice.Eq.{bytes_eq-Decides}
use Rattle.pf_io.specs.Disk.{Name, File, Disk, Image, IsImage, IsImageAt}
use Rattle.pf_io.specs.Moments.{Does, Ran}
use Rattle.pf_io.specs.Steps.{Follows, Stays, Changes, Syncs}
use Rattle.pf_io.specs.Host.{HostState, OnDisk}
use Rattle.pf_io.specs.Unchanged.{KeepsDisk, ReadsAsBefore, AllReadAsBefore, OnlyReads}
use Rattle.pf_io.proofs.Images.{image_no_more}
use Rattle.pf_io.proofs.Telling.{both_weaker}
use Rattle.pf_io.proofs.Runs.{started, goes_on, goes_on_ran}
use Rattle.pf_io.proofs.Faulted.{follows_same}

file_as_before : (file : File) → ReadsAsBefore file file
file_as_before file = record { bytes = refl; risks = record { keeps = λ i keeps. keeps; no_shorter = omega arith; no_longer = omega arith } }

pub all_as_before : (d : Disk) → AllReadAsBefore d d
all_as_before d name = follows_same ReadsAsBefore file_as_before (d name)

at_then : (o p q : Option File) → Follows ReadsAsBefore o p → Follows ReadsAsBefore p q → Follows ReadsAsBefore o q
at_then (Some a) (Some b) (Some c) first second = record {
  bytes = second.bytes ∙ first.bytes;
  risks = record {
    keeps = λ i keeps. second.risks.keeps i (first.risks.keeps i keeps);
    no_shorter = omega (arith, first.risks.no_shorter, second.risks.no_shorter);
    no_longer = omega (arith, first.risks.no_longer, second.risks.no_longer);
  };
}
at_then None None None first second = tt
at_then (Some a) None q first second = absurd first
at_then None (Some b) q first second = absurd first
at_then (Some a) (Some b) None first second = absurd second
at_then None None (Some c) first second = absurd second

all_then : (d e f : Disk) → AllReadAsBefore d e → AllReadAsBefore e f → AllReadAsBefore d f
all_then d e f first second name = at_then (d name) (e name) (f name) (first name) (second name)

at_image : (o p : Option File) (image : Option _) → Follows ReadsAsBefore o p → IsImageAt p image → IsImageAt o image
at_image (Some a) (Some b) (Some bytes) alike is = image_no_more a b bytes alike.bytes alike.risks is
at_image (Some a) (Some b) None alike is = absurd is
at_image None None image alike is = is
at_image (Some a) None image alike is = absurd alike
at_image None (Some b) image alike is = absurd alike

-- a disk that reads as before and risks no more leaves no more
pub image_as_before : (d e : Disk) (image : Image) → AllReadAsBefore d e → IsImage e image → IsImage d image
image_as_before d e image alike is name = at_image (d name) (e name) (image name) (alike name) (is name)

-- no call
pub kept_none : (state : HostState) → KeepsDisk state state
kept_none state = started IsImage state.honest (λ d image is. is)

-- a `len` or a `read_at`
pub kept_once : (old new : HostState) → OnDisk old new (Does Stays) → KeepsDisk old new
kept_once old new does =
    goes_on IsImage Stays Stays Stays old.honest old.honest new.honest (kept_none old) does
    (λ d e f same stays. (stays ∙ same, λ image is. subst (λ (x : Disk). IsImage x image) (stays ∙ same) is))

-- more of them
pub kept_then : (old mid new : HostState) → KeepsDisk old mid → KeepsDisk mid new → KeepsDisk old new
kept_then old mid new first second =
    goes_on_ran IsImage IsImage Stays Stays Stays old.honest mid.honest new.honest first second
    (λ d e same image is. subst (λ (x : Disk). IsImage x image) same is) (λ d e f same stays. stays ∙ same)

-- before the first call
pub only_started : (state : HostState) → OnlyReads state state
only_started state =
    both_weaker (Ran IsImage Stays) (Ran IsImage AllReadAsBefore) state.honest state.honest (started IsImage state.honest (λ d image is. is))
    (λ a b run. record { leaves = run.leaves; ends = subst (λ (d : Disk). AllReadAsBefore a.now d) (sym run.ends) (all_as_before a.now) })

-- where nothing was changed
pub only_kept : (old new : HostState) → KeepsDisk old new → OnlyReads old new
only_kept old new keeps =
    both_weaker (Ran IsImage Stays) (Ran IsImage AllReadAsBefore) old.honest new.honest keeps
    (λ a b run. record { leaves = run.leaves; ends = subst (λ (d : Disk). AllReadAsBefore a.now d) (sym run.ends) (all_as_before a.now) })

-- calls after calls
pub only_then : (old mid new : HostState) → OnlyReads old mid → OnlyReads mid new → OnlyReads old new
only_then old mid new first second =
    goes_on_ran IsImage IsImage AllReadAsBefore AllReadAsBefore AllReadAsBefore old.honest mid.honest new.honest first second
    (λ d e alike image is. image_as_before d e image alike is) all_then

-- one call more, after which each name reads as before and risks no more
only_on : (step : Disk → Disk → Type 0) (old mid new : HostState) → ((d e : Disk) → step d e → AllReadAsBefore d e) → OnlyReads old mid → OnDisk mid new (Does step) → OnlyReads old new
only_on step old mid new alike first does =
    goes_on IsImage AllReadAsBefore AllReadAsBefore step old.honest mid.honest new.honest first does
    (λ d e f was goes. let all = all_then d e f was (alike e f goes) in (all, λ image is. image_as_before d f image all is))

-- a `len` or a `read_at`
pub only_read : (old mid new : HostState) → OnlyReads old mid → OnDisk mid new (Does Stays) → OnlyReads old new
only_read old mid new = only_on Stays old mid new (λ d e stays. subst (λ (f : Disk). AllReadAsBefore d f) (sym stays) (all_as_before d))

at_synced : {T E : Type 0} (r : Result T E) (o p : Option File) → Follows (Syncs r) o p → Follows ReadsAsBefore o p
at_synced r (Some a) (Some b) sync = record { bytes = sync.reads; risks = sync.risks }
at_synced r None None sync = tt
at_synced r (Some a) None sync = absurd sync
at_synced r None (Some b) sync = absurd sync

synced_all : {T E : Type 0} (r : Result T E) (name : Name) (d e : Disk) → Changes name (Syncs r) d e → AllReadAsBefore d e
synced_all r name d e change other = by_name (bytes_eq other name) refl
  where
    by_name : (b : Bool) → bytes_eq other name ≡ b → Follows ReadsAsBefore (d other) (e other)
    by_name true h =
        let same : other ≡ name = (bytes_eq-Decides other name).0 h in
        subst (λ (n : Name). Follows ReadsAsBefore (d n) (e n)) (sym same) (at_synced r (d name) (e name) change.there)
    by_name false h =
        let kept : e other ≡ d other = change.others other (λ same. let x : true ≡ false = sym ((bytes_eq-Decides other name).1 same) ∙ h in absurd (cc)) in
        subst (λ (o : Option File). Follows ReadsAsBefore (d other) o) (sym kept) (all_as_before d other)

-- a `sync`, done or not
pub only_synced : {T E : Type 0} (r : Result T E) (name : Name) (old mid new : HostState) → OnlyReads old mid → OnDisk mid new (Does (Changes name (Syncs r))) → OnlyReads old new
only_synced r name old mid new = only_on (Changes name (Syncs r)) old mid new (synced_all r name)
