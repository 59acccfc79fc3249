-- What the creation of a file comes to.
use Rattle.std.specs.Prelude.{◌≡◌, ◌≢◌, ◌⊎◌, ℕ, Bool, true, false, List, [], ◌∷◌, replicate, Option, Some, None, Result, Ok, Err}
use Rattle.node_layout.specs.Metadata.{IsPath}
use Rattle.node_tree.specs.Sheet.{Sheet, IsLinked}
use Rattle.node_tree.specs.State.{TreeState, NO_ENTRY}
use Rattle.pf_io.specs.Disk.{Name, Disk, Image, IsSettledAt}
use Rattle.pf_io.specs.Host.{LengthWas, Swapped, HostState, OnDisk}
use Rattle.pf_io.specs.Moments.{Honest, Ran, Ends}
use Rattle.pf_io.specs.Names.{IsTarget, side_of, side_recovery_of}
use Rattle.pf_io.specs.Unchanged.{KeepsDisk}
use Rattle.pf_io.specs.Words.{WordsState}
use Rattle.pf_session.specs.State.{SessionState}
use Rattle.pf_session.specs.Backing.{StandsOn}
use Rattle.pf_session.specs.Reopening.{LeftAs, Stood, HasSheet}
use Rattle.pf_session.specs.Asking.{NoCall, AnotherCall, Asked, Stopped, TookFewer}
use Rattle.pf_session.specs.Questions.{OnlyAsked}
use Rattle.pf_session.specs.Drawing.{IsDrawn}
use Rattle.pf_session.specs.Steps.{node_of}
use Rattle.pf_session.specs.Restored.{KeepsBeside}
use Rattle.pf_session.specs.Sealing.{StoodIf}
use Rattle.pf_session.specs.Placing.{make_steps, place_steps, NameStays}
use Rattle.pf_session.specs.declared.fault.BesideFault.{BesideFault}
use Rattle.pf_session.specs.declared.fault.BesideFault.TheVariants as besides
use Rattle.pf_session.specs.declared.fault.CreateFault.{CreateFault}
use Rattle.pf_session.specs.declared.fault.CreateFault.TheVariants as faults

-- a name that a protected file may have, and a path that it may be stored under
pub record AreNamed (name path : List ℕ) : Type 0 where
  pub is_target : IsTarget name
  pub path_is : IsPath path

-- the tree of an empty content
abbrev pub empty_tree : TreeState
empty_tree = record { size = 0; first = replicate 3072 0; root_key = NO_ENTRY.0; root_tag = NO_ENTRY.1; base = 1; held = []; dirty = [] }

-- the version of an empty content
abbrev pub empty_sheet : List ℕ → List ℕ → Sheet
empty_sheet path nonce = record { path = path; nonce = nonce; content = []; nodes = [] }

-- a session on that version, of which nothing was changed
abbrev pub fresh : List ℕ → Name → List ℕ → List ℕ → Bool → SessionState
fresh key name path nonce beside = record { key = key; name = name; path = path; nonce = nonce; drawn = None; tree = empty_tree; changed = false; broken = false; beside = beside }

-- node 0 of it
abbrev pub empty_node : List ℕ → List ℕ → List ℕ → List ℕ
empty_node key path nonce = node_of key path nonce empty_tree

-- an image of the name is absent, or reopens as the sheet
abbrev pub AbsentOr : List ℕ → Name → Sheet → Disk → Image → Type 0
AbsentOr key name sheet disk image = (image name ≡ None) ⊎ LeftAs key name sheet image

-- A creation that had its words: the name was absent, and at every moment it is absent or an empty version. In the end it is the one, or where the creation is not done either.
pub record CreatesOn (done : Bool) (key : List ℕ) (name : Name) (sheet : Sheet) (old new : Honest) : Type 0 where
  pub absent : old.now name ≡ None
  pub ran : Ran (AbsentOr key name sheet) (StoodIf done key name sheet) old new

abbrev pub Creates : Bool → List ℕ → Name → Sheet → HostState → HostState → Type 0
Creates done key name sheet before after = OnDisk before after (CreatesOn done key name sheet)

-- the length of a name was asked for, and nothing changed
pub record LooksUp (name : Name) (size : Option ℕ) (before after : HostState) : Type 0 where
  pub asked : OnlyAsked (LengthWas name size ∷ []) NoCall before after
  pub disk : KeepsDisk before after

-- that call failed
pub record LookUpFails (before after : HostState) : Type 0 where
  pub asked : OnlyAsked [] AnotherCall before after
  pub disk : KeepsDisk before after

-- a session on the version of an empty content
pub record IsFresh (path nonce : List ℕ) (session : SessionState) : Type 0 where
  pub linked : IsLinked (empty_sheet path nonce)
  pub stands : StandsOn (empty_sheet path nonce) session

-- A call failed after the words came. Before the last one, by which the side file takes the name, the name stays absent.
pub record CreateStopped (key : List ℕ) (name : Name) (path nonce : List ℕ) (before between after : HostState) : Type 0 where
  pub linked : IsLinked (empty_sheet path nonce)
  pub stopped : Stopped (place_steps name (empty_node key path nonce)) between after
  pub before_the_swap : stopped.failed ≢ Swapped (side_of name) name → NameStays name before after
  pub creates : Creates false key name (empty_sheet path nonce) before after

-- how a creation ends, in the order of its refusals
pub data CreateGoes (key : List ℕ) (name : Name) (path : List ℕ) (before after : HostState) (random random' : WordsState) (result : Result SessionState CreateFault) : Type 0 where
  misnamed : ¬ (AreNamed name path) → after ≡ before → random' ≡ random → result ≡ Err faults.BadName → CreateGoes key name path before after random random' result
  no_memory : AreNamed name path → after ≡ before → random' ≡ random → result ≡ Err faults.Memory → CreateGoes key name path before after random random' result
  look_up_failed : AreNamed name path → LookUpFails before after → random' ≡ random → result ≡ Err faults.Host → CreateGoes key name path before after random random' result
  was_there : (size : ℕ) → AreNamed name path → LooksUp name (Some size) before after → random' ≡ random → result ≡ Err faults.Exists → CreateGoes key name path before after random random' result
  no_words : AreNamed name path → LooksUp name None before after → TookFewer 2 random random' → result ≡ Err faults.Words → CreateGoes key name path before after random random' result
  create_stopped : (nonce : List ℕ) (between : HostState) → AreNamed name path → LooksUp name None before between → IsDrawn nonce random random' → CreateStopped key name path nonce before between after → result ≡ Err faults.Host
      → CreateGoes key name path before after random random' result
  created : (nonce : List ℕ) (between : HostState) → AreNamed name path → LooksUp name None before between → IsDrawn nonce random random' → Asked (place_steps name (empty_node key path nonce)) NoCall between after
      → Creates true key name (empty_sheet path nonce) before after → IsFresh path nonce (fresh key name path nonce false) → result ≡ Ok (fresh key name path nonce false) → CreateGoes key name path before after random random' result

-- In the end the side file stands for the sheet, and nothing is pending at it; nor at its recovery name, where nothing was.
pub record BeginsOn (key : List ℕ) (name : Name) (sheet : Sheet) (old new : Disk) : Type 0 where
  pub has_sheet : HasSheet key (side_of name) sheet new
  pub stood : IsSettledAt (old (side_recovery_of name)) → Stood key (side_of name) sheet new

abbrev pub Begins : List ℕ → Name → Sheet → HostState → HostState → Type 0
Begins key name sheet before after = OnDisk before after (Ends (BeginsOn key name sheet))

-- how a creation beside the name ends; until it is published the side file alone is changed
pub data BesideGoes (key : List ℕ) (name : Name) (path : List ℕ) (before after : HostState) (random random' : WordsState) (result : Result SessionState BesideFault) : Type 0 where
  misnamed : ¬ (AreNamed name path) → after ≡ before → random' ≡ random → result ≡ Err besides.BadName → BesideGoes key name path before after random random' result
  no_memory : AreNamed name path → after ≡ before → random' ≡ random → result ≡ Err besides.Memory → BesideGoes key name path before after random random' result
  no_words : AreNamed name path → after ≡ before → TookFewer 2 random random' → result ≡ Err besides.Words → BesideGoes key name path before after random random' result
  begin_stopped : (nonce : List ℕ) → AreNamed name path → IsDrawn nonce random random' → IsLinked (empty_sheet path nonce) → Stopped (make_steps (side_of name) (empty_node key path nonce)) before after
      → KeepsBeside name before after → result ≡ Err besides.Host → BesideGoes key name path before after random random' result
  begun : (nonce : List ℕ) → AreNamed name path → IsDrawn nonce random random' → Asked (make_steps (side_of name) (empty_node key path nonce)) NoCall before after → KeepsBeside name before after
      → Begins key name (empty_sheet path nonce) before after → IsFresh path nonce (fresh key name path nonce true) → result ≡ Ok (fresh key name path nonce true) → BesideGoes key name path before after random random' result
