-- What a creation leaves, by the node 0 that it put under the name.
use Rattle.std.proofs.Common.{◌≡◌, inl, inr, ⊎_elim, ℕ, Bool, true, false, List, [], ◌∷◌, length, replicate, refl, ap, sym, ◌∙◌, subst, arith, Option, Some, None, Result, Err, IfSome}
use Rattle.std.specs.Prelude.{is_some, option_map}
use Rattle.std.specs.List.{AllByRecursion}
use Rattle.node_layout.specs.Metadata.{IsPath, meta_text, meta_block}
use Rattle.node_layout.specs.Places.{node_count}
use Rattle.node_tree.specs.Content.{first_text}
use Rattle.node_tree.specs.Sheet.{Sheet, IsLinked, Stands, image_of}
use Rattle.node_tree.specs.Standing.{IsOneNode, SmallSheet}
use Rattle.node_tree.specs.State.{NO_ENTRY, sealed_root}
use Rattle.node_tree.proofs.Small.{small_sheet}
use Rattle.node_tree.proofs.Fresh.{fresh_backs, fresh_now, empty_meta, empty_is_meta}
use Rattle.pf_io.specs.Answered.{IsAnswerOf}
use Rattle.pf_io.specs.Disk.{Name, File, Disk, Image, IsImageAt, IsImage, IsSettledAt, read_of, reading}
use Rattle.pf_io.specs.Host.{LengthWas, HostState, Both, OnDisk}
use Rattle.pf_io.specs.Moments.{Honest, Ran, Ends}
use Rattle.pf_io.specs.Names.{recovery_of, side_of, side_recovery_of}
use Rattle.pf_io.specs.SideFile.{IsWhole}
use Rattle.pf_io.specs.SideSteps.{Beside}
use Rattle.pf_io.specs.Steps.{KeepsOthers, Stays}
use Rattle.pf_io.specs.Unchanged.{KeepsDisk}
use Rattle.pf_io.proofs.Images.{absent_at}
use Rattle.pf_io.proofs.Runs.{started, goes_on_ran}
use Rattle.pf_io.proofs.Slices.{not_there}
use Rattle.pf_io.proofs.Telling.{both_weaker}
use Rattle.pf_session.specs.State.{SessionState}
use Rattle.pf_session.specs.Reopening.{Stood}
use Rattle.pf_session.specs.Aside.{LeavesApart, KeepsApart, Aside}
use Rattle.pf_session.specs.Sealing.{ChangesAlone, LeavesOthers, StoodIf}
use Rattle.pf_session.specs.Placing.{place_steps, PlaceImage, PlaceDone, PlaceTried, Placed, PlaceStopped}
use Rattle.pf_session.specs.Creating.{empty_tree, empty_sheet, empty_node, fresh, AbsentOr, CreatesOn, Creates, LooksUp, IsFresh, CreateStopped, BeginsOn, Begins}
use Rattle.pf_session.proofs.Names.{recovery_side_of, side_recovery_apart}
use Rattle.pf_session.proofs.Placing.{ran_weaker}

pub err_is : {T F : Type 0} (r : Result T F) (x y : F) → r ≡ Err x → x ≡ y → r ≡ Err y
err_is r x y is same = is ∙ ap (λ (f : _). Err f) same

pub some_there : (o : Option ℕ) (b : Bool) → b ≡ is_some o → b ≡ true → (n : ℕ) × (o ≡ Some n)
some_there (Some n) b is set = (n, refl)
some_there None b is set = absurd (cc)

pub none_there : (o : Option ℕ) (b : Bool) → b ≡ is_some o → b ≡ false → o ≡ None
none_there None b is unset = refl
none_there (Some n) b is unset = absurd (cc)

-- names apart

pub aside_none : (name : Name) (state : HostState) → Aside name state state
aside_none name state =
    ran_weaker (LeavesApart name) (LeavesApart name) Stays (KeepsApart name) state.honest state.honest (λ d image left. left) (λ d e same other apart. ap (λ (x : Disk). x other) same)
    (started (LeavesApart name) state.honest (λ d image is other apart. is other))

pub aside_kept : (name : Name) (old new : HostState) → KeepsDisk old new → Aside name old new
aside_kept name old new keeps = ran_weaker IsImage (LeavesApart name) Stays (KeepsApart name) old.honest new.honest (λ d image is other apart. is other) (λ d e same other apart. ap (λ (x : Disk). x other) same) keeps

pub aside_alone : (name : Name) (old new : HostState) → ChangesAlone (side_of name) old new → Aside name old new
aside_alone name old new alone =
    ran_weaker (LeavesOthers (side_of name)) (LeavesApart name) (KeepsOthers (side_of name)) (KeepsApart name) old.honest new.honest (λ d image left other apart. left other apart.side) (λ d e keeps other apart. keeps other apart.side) alone

-- first nothing was changed
kept_before : (P : Disk → Image → Type 0) (Q : Disk → Disk → Type 0) (o p q : Option Honest) → ((d : Disk) (image : Image) → IsImage d image → P d image) → Both o p (Ran IsImage Stays) → Both p q (Ran P Q) → Both o q (Ran P Q)
kept_before P Q o p q is keeps ran =
    goes_on_ran P P Stays Q Q o p q (ran_weaker IsImage P Stays Stays o p is (λ d e same. same) keeps) ran
    (λ d e same image has. subst (λ (x : Disk). P x image) same has) (λ d e f same goes. subst (λ (x : Disk). Q x f) same goes)

image_is : (name : Name) (node : List ℕ) (d : Disk) (image : Image) → IsImage d image → PlaceImage name node d image
image_is name node d image is = record { here = inl (is name); apart = λ other apart. is other }

pub aside_placed : (name : Name) (node : List ℕ) (old mid new : HostState) → KeepsDisk old mid → OnDisk mid new (Ran (PlaceImage name node) (PlaceDone name node)) → Aside name old new
aside_placed name node old mid new keeps ran =
    ran_weaker (PlaceImage name node) (LeavesApart name) (PlaceDone name node) (KeepsApart name) old.honest new.honest (λ d image has. has.apart) (λ d e done. done.apart)
    (kept_before (PlaceImage name node) (PlaceDone name node) old.honest mid.honest new.honest (image_is name node) keeps ran)

pub aside_stopped : (name : Name) (node : List ℕ) (old mid new : HostState) → KeepsDisk old mid → OnDisk mid new (Ran (PlaceImage name node) (PlaceTried name node)) → Aside name old new
aside_stopped name node old mid new keeps ran =
    ran_weaker (PlaceImage name node) (LeavesApart name) (PlaceTried name node) (KeepsApart name) old.honest new.honest (λ d image has. has.apart) (λ d e tried. tried.apart)
    (kept_before (PlaceImage name node) (PlaceTried name node) old.honest mid.honest new.honest (image_is name node) keeps ran)

pub absent_file : (o : Option File) → read_of o ≡ None → o ≡ None
absent_file None none = refl
absent_file (Some file) none = absurd (cc)

-- the empty version

one_node : node_count 0 ≡ 1
one_node = omega arith

no_root : sealed_root empty_tree ≡ NO_ENTRY
no_root = refl

no_text : first_text [] ≡ replicate 3072 0
no_text = refl

module _ (path nonce : List ℕ) (is_path : IsPath path) (long : length nonce ≡ 32) where
  small : SmallSheet (empty_sheet path nonce)
  small = small_sheet (empty_sheet path nonce) (omega arith)

  one : IsOneNode (empty_sheet path nonce)
  one = record { path_is = is_path; nonce_length = long; no_nodes = refl }

  pub empty_linked : IsLinked (empty_sheet path nonce)
  empty_linked = small.one_node.1 one

  pub empty_fresh : (key : List ℕ) (name : Name) (beside : Bool) → IsFresh path nonce (fresh key name path nonce beside)
  empty_fresh key name beside =
      let sheet : Sheet = empty_sheet path nonce in
      let is = empty_is_meta sheet empty_linked refl in
      record {
        linked = empty_linked;
        stands = record {
          backed = record { path_is = refl; nonce_is = refl; backs = fresh_backs sheet empty_linked (empty_meta path) is };
          now_is = fresh_now sheet empty_linked (empty_meta path) is;
        };
      }

  module _ (key : List ℕ) where
    image_empty : image_of key (empty_sheet path nonce) ≡ empty_node key path nonce
    image_empty = small.image key one ∙ ap (λ (first : List ℕ). meta_block key nonce (meta_text path 0 (replicate 16 0) (replicate 16 0) first)) no_text

    pub empty_stands : Stands (empty_node key path nonce) key (empty_sheet path nonce)
    empty_stands = subst (λ (file : List ℕ). Stands file key (empty_sheet path nonce)) image_empty (record { linked = empty_linked; long = omega arith; same = λ i lt outside. refl })

    module _ (name : Name) (node : List ℕ) (is : node ≡ empty_node key path nonce) where
      node_stands : Stands node key (empty_sheet path nonce)
      node_stands = subst (λ (file : List ℕ). Stands file key (empty_sheet path nonce)) (sym is) empty_stands

      whole_stood : (at : Name) (d : Disk) → IsWhole node (d at) → IsSettledAt (d (recovery_of at)) → Stood key at (empty_sheet path nonce) d
      whole_stood at d whole recovery = record {
        settled = record { file = subst (λ (o : Option File). IsSettledAt o) (sym whole.1) whole.3; recovery = recovery };
        as_sheet = record { file = node; whole = ap read_of whole.1 ∙ ap (λ (b : List ℕ). Some b) whole.2; stands = node_stands };
      }

      absent_or : (d : Disk) (image : Image) → d name ≡ None → PlaceImage name node d image → AbsentOr key name (empty_sheet path nonce) d image
      absent_or d image none has = ⊎_elim (λ was. inl (absent_at (d name) (image name) none was)) (λ there. inr (record { file = node; whole = there; stands = node_stands })) has.here

      stood_done : (d e : Disk) → PlaceDone name node d e → Stood key name (empty_sheet path nonce) e
      stood_done d e done = whole_stood name e done.placed.file done.placed.recovery

      stood_tried : (d e : Disk) → PlaceTried name node d e → StoodIf false key name (empty_sheet path nonce) d e
      stood_tried d e tried = ⊎_elim (λ same. inl same) (λ placed. inr (whole_stood name e placed.file placed.recovery)) tried.placed

      -- the name was absent
      creates_on : (done : Bool) (Q : Disk → Disk → Type 0) (o q : Option Honest) → ((d e : Disk) → Q d e → StoodIf done key name (empty_sheet path nonce) d e)
          → IfSome (option_map (λ (host : Honest). reading host.now) o) (λ files. AllByRecursion (IsAnswerOf files) (LengthWas name None ∷ [])) → Both o q (Ran (PlaceImage name node) Q) → Both o q (CreatesOn done key name (empty_sheet path nonce))
      creates_on done Q (Some a) (Some b) ends was run =
          let none : a.now name ≡ None = absent_file (a.now name) (not_there (reading a.now name) was.0) in
          record {
            absent = none;
            ran = record {
              leaves = record {
                later = run.leaves.later;
                each = λ image left. absent_or a.now image none (run.leaves.each image left);
                earlier = λ t image le left. ⊎_elim (λ before. inl before) (λ has. inr (absent_or a.now image none has)) (run.leaves.earlier t image le left);
              };
              ends = ends a.now b.now run.ends;
            };
          }
      creates_on done Q None None ends was run = tt
      creates_on done Q (Some a) None ends was run = absurd run
      creates_on done Q None (Some b) ends was run = absurd run

      pub creates_done : (old mid new : HostState) → LooksUp name None old mid → Placed name node mid new → Creates true key name (empty_sheet path nonce) old new
      creates_done old mid new looks placed =
          creates_on true (PlaceDone name node) old.honest new.honest stood_done looks.asked.answered.honest
          (kept_before (PlaceImage name node) (PlaceDone name node) old.honest mid.honest new.honest (image_is name node) looks.disk placed.disk)

      pub create_stops : (old mid new : HostState) → LooksUp name None old mid → PlaceStopped name node mid new → CreateStopped key name path nonce old mid new
      create_stops old mid new looks stops = record {
        linked = empty_linked;
        stopped = record {
          answered = stops.stopped.answered;
          failed = stops.stopped.failed;
          left = stops.stopped.left;
          in_order = ap (λ (file : List ℕ). place_steps name file) (sym is) ∙ stops.stopped.in_order;
          asked = stops.stopped.asked;
        };
        before_the_swap = λ other. kept_before (λ disk image. IsImageAt (disk name) (image name)) (λ d e. e name ≡ d name) old.honest mid.honest new.honest (λ d image left. left name) looks.disk (stops.before_the_swap other);
        creates = creates_on false (PlaceTried name node) old.honest new.honest stood_tried looks.asked.answered.honest
            (kept_before (PlaceImage name node) (PlaceTried name node) old.honest mid.honest new.honest (image_is name node) looks.disk stops.disk);
      }

      -- a creation beside the name
      pub begins_done : (old new : HostState) → OnDisk old new (Ran (LeavesOthers (side_of name)) (Beside (side_of name) (λ was file. IsWhole node file))) → Begins key name (empty_sheet path nonce) old new
      begins_done old new ran =
          both_weaker (Ran (LeavesOthers (side_of name)) (Beside (side_of name) (λ was file. IsWhole node file))) (Ends (BeginsOn key name (empty_sheet path nonce))) old.honest new.honest ran
          (λ a b run. record {
            has_sheet = record {
              file = run.ends.file.0;
              there = run.ends.file.1;
              settled = run.ends.file.3;
              stands = subst (λ (bytes : List ℕ). Stands bytes key (empty_sheet path nonce)) (sym run.ends.file.2) node_stands;
            };
            stood = λ settled.
                whole_stood (side_of name) b.now run.ends.file
                (subst (λ (n : Name). IsSettledAt (b.now n)) (sym (recovery_side_of name)) (subst (λ (o : Option File). IsSettledAt o) (sym (run.ends.others (side_recovery_of name) (side_recovery_apart name))) settled));
          })

pub alone_done : (name : Name) (node : List ℕ) (old new : HostState) → OnDisk old new (Ran (LeavesOthers (side_of name)) (Beside (side_of name) (λ was file. IsWhole node file))) → ChangesAlone (side_of name) old new
alone_done name node old new ran =
    ran_weaker (LeavesOthers (side_of name)) (LeavesOthers (side_of name)) (Beside (side_of name) (λ was file. IsWhole node file)) (KeepsOthers (side_of name)) old.honest new.honest (λ d image left. left) (λ d e beside. beside.others) ran

-- the session

module _ (session after : SessionState) (key : List ℕ) (name : Name) (stored path zeros nonce : List ℕ) (beside : Bool) (is : session ≡ fresh key name stored zeros beside) (path_is : stored ≡ path) where
  same_path : session ≡ fresh key name path zeros beside
  same_path = is ∙ ap (λ (p : List ℕ). fresh key name p zeros beside) path_is

  pub node_is : (node : List ℕ) → node ≡ empty_node session.key session.path nonce → node ≡ empty_node key path nonce
  node_is node same = same ∙ ap (λ (s : SessionState). empty_node s.key s.path nonce) same_path

  pub session_is : after ≡ record session { nonce = nonce } → after ≡ fresh key name path nonce beside
  session_is same = same ∙ ap (λ (s : SessionState). record s { nonce = nonce }) same_path

  pub side_is : (side : Name) → after ≡ record session { nonce = nonce } → side ≡ side_of after.name → side ≡ side_of name
  side_is side same there = there ∙ ap (λ (s : SessionState). side_of s.name) (session_is same)
