-- A file that is made by its side file, behind events that changed nothing.
use Rattle.std.proofs.Common.{◌≡◌, ◌≢◌, sym, ap, inl, inr, ⊎_elim, List, ◌++◌, ℕ, ◌∙◌, subst, Option, Some, None, IfSome}
use Rattle.std.specs.Prelude.{option_map}
use Rattle.std.proofs.lemmas.List.Elements.{Contains-append_right}
use Rattle.pf_io.specs.Disk.{Name, Files, File, Disk, Image, IsImage, reading}
use Rattle.pf_io.specs.Host.{Made, Swapped, HostState, Both, OnHonest}
use Rattle.pf_io.specs.Moments.{Honest, Ran}
use Rattle.pf_io.specs.Names.{side_of}
use Rattle.pf_io.specs.Steps.{Stays}
use Rattle.pf_io.specs.Unchanged.{KeepsDisk}
use Rattle.pf_io.proofs.Runs.{started, goes_on_ran}
use Rattle.pf_session.proofs.Names.{side_apart}
use Rattle.pf_tool.specs.Events.{Event, Answers}
use Rattle.pf_tool.specs.Endings.{Done, Stop, AtEnd}
use Rattle.pf_tool.specs.SideFiles.{IsMade, IsSwapped, SideLeaves, SideEnds, IsNewFile, LeavesBySide}

-- the side file has another name
pub not_side : (output : Name) → output ≢ side_of output
not_side output same = side_apart output (sym same)

-- a run that changed nothing, and is not done
pub kept_leaves : (output : Name) (IsNew : Disk → List Event → Option (List ℕ) → Type 0) (tried : List Event) (stop : Stop) (old new : HostState) → (stop ≡ AtEnd Done → ⊥) → KeepsDisk old new → LeavesBySide output IsNew tried stop old new
kept_leaves output IsNew tried stop old new never kept =
    goes_on_ran (λ disk image. SideLeaves tried output (IsNew disk tried) disk image) IsImage (λ d e. e ≡ d) Stays (λ before now. SideEnds tried stop output (IsNew before tried) before now) old.honest old.honest new.honest
    (started (λ disk image. SideLeaves tried output (IsNew disk tried) disk image) old.honest (λ d image is. record { here = inl (is output); side = λ none. is (side_of output); others = λ other ne side. is other })) kept
    (λ d e same image is.
    let there = subst (λ (x : Disk). IsImage x image) same is in
    record { here = inl (there output); side = λ none. there (side_of output); others = λ other ne side. there other })
    (λ d e f same stays.
    let all = stays ∙ same in
    record {
      done = λ done. absurd (never done);
      here = inl (ap (λ (x : Disk). x output) all);
      side = λ none. ap (λ (x : Disk). x (side_of output)) all;
      others = λ other ne side. ap (λ (x : Disk). x other) all;
    })

-- what is known of the files at the start of a run
knowing_first : (F : Files → Type 0) (P : Disk → Image → Type 0) (Q : Disk → Disk → Type 0) (o p : Option Honest) → Both o p (Ran P Q) → IfSome (option_map (λ host. reading host.now) o) F
    → Both o p (Ran P (λ d e. Q d e × F (reading d)))
knowing_first F P Q (Some a) (Some b) ran fact = record { leaves = ran.leaves; ends = (ran.ends, fact) }
knowing_first F P Q None None ran fact = tt
knowing_first F P Q (Some a) None ran fact = absurd ran
knowing_first F P Q None (Some b) ran fact = absurd ran

module _ (first last : List Event) (stop : Stop) (output : Name) (F : Files → Type 0) (IsNew IsMore : Disk → List Event → Option (List ℕ) → Type 0)
    (goes : (d : Disk) (file : Option (List ℕ)) → F (reading d) → IsNew d last file → IsMore d (first ++ last) file) where
  abbrev All : List Event
  All = first ++ last

  new_back : (d : Disk) (file : Option File) → F (reading d) → IsNewFile (IsNew d last) file → IsNewFile (IsMore d All) file
  new_back d file known new = record { file = new.file; there = new.there; settled = new.settled; is_new = goes d (Some new.file.bytes) known new.is_new }

  made_then : IsMade last output → IsMade All output
  made_then made = Contains-append_right first last (Answers (Made (side_of output))) made

  swapped_then : IsSwapped last output → IsSwapped All output
  swapped_then swapped = Contains-append_right first last (Answers (Swapped (side_of output) output)) swapped

  left_back : (d : Disk) (image : Image) → F (reading d) → SideLeaves last output (IsNew d last) d image → SideLeaves All output (IsMore d All) d image
  left_back d image known left = record {
    here = ⊎_elim (λ before. inl before) (λ new. inr (swapped_then new.0, goes d (image output) known new.1)) left.here;
    side = λ none. left.side (λ made. none (made_then made));
    others = left.others;
  }

  ends_back : (d f : Disk) → F (reading d) → SideEnds last stop output (IsNew d last) d f → SideEnds All stop output (IsMore d All) d f
  ends_back d f known ends = record {
    done = λ done. new_back d (f output) known (ends.done done);
    here = ⊎_elim (λ before. inl before) (λ new. inr (swapped_then new.0, new_back d (f output) known new.1)) ends.here;
    side = λ none. ends.side (λ made. none (made_then made));
    others = ends.others;
  }

  pub leaves_behind : (s0 s1 s2 : HostState) → KeepsDisk s0 s1 → OnHonest s0 F → LeavesBySide output IsNew last stop s1 s2 → LeavesBySide output IsMore All stop s0 s2
  leaves_behind s0 s1 s2 kept known next =
      goes_on_ran (λ disk image. SideLeaves All output (IsMore disk All) disk image) (λ disk image. SideLeaves last output (IsNew disk last) disk image)
      (λ d e. (e ≡ d) × F (reading d)) (λ before now. SideEnds last stop output (IsNew before last) before now) (λ before now. SideEnds All stop output (IsMore before All) before now)
      s0.honest s1.honest s2.honest
      (knowing_first F (λ disk image. SideLeaves All output (IsMore disk All) disk image) (λ d e. e ≡ d) s0.honest s1.honest
      (goes_on_ran (λ disk image. SideLeaves All output (IsMore disk All) disk image) IsImage (λ d e. e ≡ d) Stays (λ d e. e ≡ d) s0.honest s0.honest s1.honest
      (started (λ disk image. SideLeaves All output (IsMore disk All) disk image) s0.honest (λ d image is. record { here = inl (is output); side = λ none. is (side_of output); others = λ other ne side. is other })) kept
      (λ d e same image is. let there = subst (λ (x : Disk). IsImage x image) same is in record { here = inl (there output); side = λ none. there (side_of output); others = λ other ne side. there other })
      (λ d e f same stays. stays ∙ same)) known) next
      (λ d e holds image left. left_back d image holds.1 (subst (λ (x : Disk). SideLeaves last output (IsNew x last) x image) holds.0 left))
      (λ d e f holds ends. ends_back d f holds.1 (subst (λ (x : Disk). SideEnds last stop output (IsNew x last) x f) holds.0 ends))
