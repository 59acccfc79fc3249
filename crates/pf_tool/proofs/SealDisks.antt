-- What a sealing leaves at the output, and that all other names stay.
use Rattle.std.proofs.Common.{◌≡◌, ◌≢◌, inl, inr, ⊎_elim, ℕ, Bool, true, false, List, refl, sym, subst, ◌∙◌, Option, Some, None}
use Rattle.node_tree.specs.Sheet.{Sheet, Stands}
use Rattle.pf_io.specs.Disk.{Name, File, Disk, Image, IsImageAt}
use Rattle.pf_io.specs.Host.{HostState, Both, OnDisk}
use Rattle.pf_io.specs.Moments.{Honest, Ran, Where, Ends}
use Rattle.pf_io.specs.Names.{side_of}
use Rattle.pf_io.specs.Steps.{KeepsOthers}
use Rattle.pf_io.proofs.Runs.{goes_on_ran}
use Rattle.pf_io.proofs.Telling.{both_weaker}
use Rattle.pf_session.specs.Aside.{LeavesOthers, LeavesAllBut, KeepsAllBut, ChangesTwo}
use Rattle.pf_session.specs.Ending.{KeptOr, PublishedIf, Publishes}
use Rattle.pf_session.specs.Reopening.{HasSheet}
use Rattle.pf_session.specs.Restored.{KeepsBeside}
use Rattle.pf_session.specs.State.{SessionState}
use Rattle.pf_tool.specs.Encrypting.{StandsFor}
use Rattle.pf_tool.specs.Runs.{OutputLeft, OutputEnds}
use Rattle.pf_tool.specs.SideFiles.{IsNewFile}
use Rattle.pf_tool.proofs.PlainWriting.{ran_weaker}
use Rattle.pf_tool.proofs.SideBehind.{not_side}

-- the file stands for a sheet of this content, with the output's name as path
abbrev pub HasVersion : List ℕ → Name → List ℕ → Option (List ℕ) → Type 0
HasVersion user output content file = (nonce : List ℕ) × StandsFor user output nonce content file

-- both clauses of one run
ran_both : (P P2 : Disk → Image → Type 0) (Q Q2 : Disk → Disk → Type 0) (a b : Honest) → Ran P Q a b → Ran P2 Q2 a b → Ran (λ d image. P d image × P2 d image) (λ d e. Q d e × Q2 d e) a b
ran_both P P2 Q Q2 a b one two = record {
  leaves = record {
    later = one.leaves.later;
    each = λ image left. (one.leaves.each image left, two.leaves.each image left);
    earlier = λ t image le left. ⊎_elim (λ was. inl was) (λ p. ⊎_elim (λ was. inl was) (λ q. inr (p, q)) (two.leaves.earlier t image le left)) (one.leaves.earlier t image le left);
  };
  ends = (one.ends, two.ends);
}

as_before : (output : Name) (IsNew : Disk → Option (List ℕ) → Type 0) (may : Type 0) (d : Disk) (image : Image) → LeavesOthers (side_of output) d image → OutputLeft output IsNew may d image
as_before output IsNew may d image others = record { here = inl (others output (not_side output)); others = λ other ne apart. others other apart }

-- where the side file alone was changed, the output is as before
pub alone_left : (output : Name) (IsNew : Disk → Option (List ℕ) → Type 0) (may whole : Type 0) (before after : HostState) → (whole → ⊥) → KeepsBeside output before after → OnDisk before after (Ran (OutputLeft output IsNew may) (OutputEnds output IsNew may whole))
alone_left output IsNew may whole before after never alone =
    ran_weaker (LeavesOthers (side_of output)) (OutputLeft output IsNew may) (KeepsOthers (side_of output)) (OutputEnds output IsNew may whole) before.honest after.honest alone (as_before output IsNew may)
    (λ d e kept. record { done = λ is. absurd (never is); here = inl (kept output (not_side output)); others = λ other ne apart. kept other apart })

-- a publishing that had its words
module _ (user : List ℕ) (output : Name) (content : List ℕ) (session : SessionState) (next : Sheet) (key_is : session.key ≡ user) (name_is : session.name ≡ output) (path_is : next.path ≡ output) (content_is : next.content ≡ content) where
  abbrev New : Disk → Option (List ℕ) → Type 0
  New disk file = HasVersion user output content file

  version : (bytes : List ℕ) (file : Option (List ℕ)) → file ≡ Some bytes → Stands bytes session.key next → HasVersion user output content file
  version bytes file is stands =
      subst (λ (f : Option (List ℕ)). HasVersion user output content f) (sym is) (next.nonce, (next, path_is, refl, content_is, subst (λ (u : List ℕ). Stands bytes u next) key_is stands))

  new_file : (disk : Disk) → HasSheet session.key session.name next disk → IsNewFile (HasVersion user output content) (disk output)
  new_file disk has =
      let there : disk output ≡ Some has.file = subst (λ (n : Name). disk n ≡ Some has.file) name_is has.there in
      record { file = has.file; there = there; settled = has.settled; is_new = version has.file.bytes (Some has.file.bytes) refl has.stands }

  -- an image during the publishing, by the disk before all
  image_left : (may : Type 0) → may → (d e : Disk) → KeepsOthers (side_of output) d e → (image : Image) → KeptOr session next e image × LeavesAllBut (side_of session.name) session.name e image → OutputLeft output New may d image
  image_left may has d e kept image (inl named, others) = record {
    here = inl (subst (λ (o : Option File). IsImageAt o (image output)) (kept output (not_side output)) (subst (λ (n : Name). IsImageAt (e n) (image n)) name_is named.here));
    others = λ other ne apart. subst (λ (o : Option File). IsImageAt o (image other)) (kept other apart) (subst (λ (n : Name). LeavesAllBut (side_of n) n e image) name_is others other apart ne);
  }
  image_left may has d e kept image (inr left, others) = record {
    here = inr (has, version left.file (image output) (subst (λ (n : Name). image n ≡ Some left.file) name_is left.whole) left.stands);
    others = λ other ne apart. subst (λ (o : Option File). IsImageAt o (image other)) (kept other apart) (subst (λ (n : Name). LeavesAllBut (side_of n) n e image) name_is others other apart ne);
  }

  other_ends : (d e f : Disk) → KeepsOthers (side_of output) d e → KeepsAllBut (side_of session.name) session.name e f → (other : Name) → other ≢ output → other ≢ side_of output → f other ≡ d other
  other_ends d e f kept others other ne apart = subst (λ (n : Name). KeepsAllBut (side_of n) n e f) name_is others other apart ne ∙ kept other apart

  ends_done : (may whole : Type 0) → may → (d e f : Disk) → KeepsOthers (side_of output) d e → PublishedIf true session next e f × KeepsAllBut (side_of session.name) session.name e f → OutputEnds output New may whole d f
  ends_done may whole has d e f kept (sheet, others) = record { done = λ is. new_file f sheet; here = inr (has, new_file f sheet); others = other_ends d e f kept others }

  ends_tried : (may whole : Type 0) → may → (whole → ⊥) → (d e f : Disk) → KeepsOthers (side_of output) d e → PublishedIf false session next e f × KeepsAllBut (side_of session.name) session.name e f → OutputEnds output New may whole d f
  ends_tried may whole has never d e f kept (inl same, others) = record {
    done = λ is. absurd (never is);
    here = inl (subst (λ (n : Name). f n ≡ e n) name_is same ∙ kept output (not_side output));
    others = other_ends d e f kept others;
  }
  ends_tried may whole has never d e f kept (inr sheet, others) = record { done = λ is. absurd (never is); here = inr (has, new_file f sheet); others = other_ends d e f kept others }

  module _ (base : Sheet) (before copied between after : HostState) (alone : KeepsBeside output before copied) (has : OnDisk before copied (Ends (λ _. HasSheet session.key (side_of session.name) base)))
      (keeps : KeepsBeside session.name copied between) (two : ChangesTwo (side_of session.name) session.name between after) where
    abbrev WholeRun : Bool → Honest → Honest → Type 0
    WholeRun done a b = (m : Honest) × Ran (LeavesOthers (side_of output)) (KeepsOthers (side_of output)) a m
        × Ran (λ d image. KeptOr session next d image × LeavesAllBut (side_of session.name) session.name d image) (λ d e. PublishedIf done session next d e × KeepsAllBut (side_of session.name) session.name d e) m b

    three : (done : Bool) (o p q : Option Honest) → Both o p (Ran (LeavesOthers (side_of output)) (KeepsOthers (side_of output))) → Both o p (Ends (λ _. HasSheet session.key (side_of session.name) base))
        → Both p q (Where (HasSheet session.key (side_of session.name) base) (Ran (KeptOr session next) (PublishedIf done session next))) → Both p q (Ran (LeavesAllBut (side_of session.name) session.name) (KeepsAllBut (side_of session.name) session.name)) → Both o q (WholeRun done)
    three done (Some a) (Some m) (Some b) ran sheet publishes others =
        (m, ran, ran_both (KeptOr session next) (LeavesAllBut (side_of session.name) session.name) (PublishedIf done session next) (KeepsAllBut (side_of session.name) session.name) m b (publishes sheet) others)
    three done None None None ran sheet publishes others = tt
    three done (Some a) None q ran sheet publishes others = absurd ran
    three done None (Some m) q ran sheet publishes others = absurd ran
    three done (Some a) (Some m) None ran sheet publishes others = absurd others
    three done None None (Some b) ran sheet publishes others = absurd others

    whole_run : (done : Bool) → Publishes done base next session copied after → OnDisk before after (WholeRun done)
    whole_run done publishes =
        let side = side_of session.name in
        let all_but = goes_on_ran (LeavesAllBut side session.name) (LeavesAllBut side session.name) (KeepsOthers side) (KeepsAllBut side session.name) (KeepsAllBut side session.name) copied.honest between.honest after.honest
        (ran_weaker (LeavesOthers side) (LeavesAllBut side session.name) (KeepsOthers side) (KeepsOthers side) copied.honest between.honest keeps (λ d image left other ne ne2. left other ne) (λ d e kept. kept)) two
        (λ d e kept image left other ne ne2. subst (λ (o : Option File). IsImageAt o (image other)) (kept other ne) (left other ne ne2)) (λ d e f one more other ne ne2. more other ne ne2 ∙ one other ne) in
        three done before.honest copied.honest after.honest alone has publishes all_but

    join : (P2 : Disk → Image → Type 0) (Q2 : Disk → Disk → Type 0) (may whole : Type 0) (a m b : Honest) → Ran (LeavesOthers (side_of output)) (KeepsOthers (side_of output)) a m → Ran P2 Q2 m b
        → ((d e : Disk) → KeepsOthers (side_of output) d e → (image : Image) → P2 e image → OutputLeft output New may d image) → ((d e f : Disk) → KeepsOthers (side_of output) d e → Q2 e f → OutputEnds output New may whole d f)
        → Ran (OutputLeft output New may) (OutputEnds output New may whole) a b
    join P2 Q2 may whole a m b first second go ends =
        goes_on_ran (OutputLeft output New may) P2 (KeepsOthers (side_of output)) Q2 (OutputEnds output New may whole) (Some a) (Some m) (Some b)
        (ran_weaker (LeavesOthers (side_of output)) (OutputLeft output New may) (KeepsOthers (side_of output)) (KeepsOthers (side_of output)) (Some a) (Some m) first (as_before output New may) (λ d e kept. kept)) second go ends

    pub done_left : (may whole : Type 0) → may → Publishes true base next session copied after → OnDisk before after (Ran (OutputLeft output New may) (OutputEnds output New may whole))
    done_left may whole is publishes = both_weaker (WholeRun true) (Ran (OutputLeft output New may) (OutputEnds output New may whole)) before.honest after.honest (whole_run true publishes) (λ a b w. join _ _ may whole a w.0 b w.1 w.2 (image_left may is) (ends_done may whole is))

    pub tried_left : (may whole : Type 0) → may → (whole → ⊥) → Publishes false base next session copied after → OnDisk before after (Ran (OutputLeft output New may) (OutputEnds output New may whole))
    tried_left may whole is never publishes = both_weaker (WholeRun false) (Ran (OutputLeft output New may) (OutputEnds output New may whole)) before.honest after.honest (whole_run false publishes) (λ a b w. join _ _ may whole a w.0 b w.1 w.2 (image_left may is) (ends_tried may whole is never))
