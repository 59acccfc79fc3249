-- What an opening keeps on an honest disk, and what it stands on.
use Rattle.std.specs.Prelude.{◌≡◌, ◌⊎◌, ℕ, List, None}
use Rattle.pf_io.specs.Disk.{Name, Disk, Image, IsImage}
use Rattle.pf_io.specs.Host.{HostState, OnDisk}
use Rattle.pf_io.specs.Moments.{Honest, Leaves}
use Rattle.node_tree.specs.Sheet.{Sheet}
use Rattle.pf_session.specs.State.{SessionState}
use Rattle.pf_session.specs.Backing.{StandsOn}
use Rattle.pf_session.specs.Restored.{Ready}
use Rattle.pf_session.specs.Reopening.{ReopensEither, Stood}

-- each image of the disk reopens under the key as one of two contents
abbrev pub EachEither : List ℕ → Name → List ℕ → List ℕ → Disk → Type 0
EachEither key name v w disk = (image : Image) → IsImage disk image → ReopensEither key name v w disk image

-- Where this is so under some key, each image of each moment does.
abbrev pub KeepsEither : Name → HostState → HostState → Type 0
KeepsEither name before after = OnDisk before after (λ old new. (key v w : List ℕ) → EachEither key name v w old.now → Leaves (ReopensEither key name v w) old new)

-- Nothing is pending at the name, its file stands for a sheet of one of two contents, with the name as its path, and the session stands on it.
pub record StandsOnEither (v w : List ℕ) (session : SessionState) (disk : Disk) : Type 0 where
  pub sheet : Sheet
  pub path_is : sheet.path ≡ session.name
  pub content_is : (sheet.content ≡ v) ⊎ (sheet.content ≡ w)
  pub stood : Stood session.key session.name sheet disk
  pub on : StandsOn sheet session

-- An accepted opening found the name. Where each image reopens under its key as one of two contents, and it may be opened, it is of one of the two.
pub record OpensEither (session : SessionState) (old new : Honest) : Type 0 where
  pub there : ¬ (old.now session.name ≡ None)
  pub stands : (v w : List ℕ) → EachEither session.key session.name v w old.now → Ready old.now session.name → StandsOnEither v w session new.now
