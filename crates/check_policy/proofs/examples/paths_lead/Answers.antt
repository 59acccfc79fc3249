use Rattle.std.proofs.Common.{[], ◌∷◌, refl, codes, lit≤}
use Rattle.manifest_model.specs.Names.{normal, normal_parts, kept_of}
use Rattle.check_policy.specs.Examples.{realistic, root, lib, app, data_folder, disk_key}
use Rattle.check_policy.specs.Places.{ByMount, IsHostFile, IsProtected}
use Rattle.check_policy.proofs.Existing.{is_path, serves_picked}
use Rattle.check_policy.proofs.examples.paths_lead.Goals as goal

pub returns : goal.returns
unfolding normal normal_parts kept_of
returns c = record {
  trusted = ByMount (is_path (codes "/app/hello") refl) app (codes "hello" ∷ []) (serves_picked realistic.mounts (codes "app" ∷ codes "hello" ∷ []) app (codes "hello" ∷ []) refl refl) (IsHostFile (codes "app") refl refl (lit≤ tt) refl);
  library = ByMount (is_path (codes "/lib/libsysdb.so") refl) lib (codes "libsysdb.so" ∷ []) (serves_picked realistic.mounts (codes "lib" ∷ codes "libsysdb.so" ∷ []) lib (codes "libsysdb.so" ∷ []) refl refl) (IsHostFile (codes "/opt/gramine") refl refl (lit≤ tt) refl);
  protected = ByMount (is_path (codes "/data/x.pf") refl) data_folder (codes "x.pf" ∷ []) (serves_picked realistic.mounts (codes "data" ∷ codes "x.pf" ∷ []) data_folder (codes "x.pf" ∷ []) refl refl) (IsProtected (codes "data") disk_key refl refl (lit≤ tt) refl refl);
  other_folder = ByMount (is_path (codes "/app2") refl) root (codes "app2" ∷ []) (serves_picked realistic.mounts (codes "app2" ∷ []) root (codes "app2" ∷ []) refl refl) (IsHostFile (codes ".") refl refl (lit≤ tt) refl);
  mount_itself = ByMount (is_path (codes "/app/.") refl) app [] (serves_picked realistic.mounts (codes "app" ∷ []) app [] refl refl) (IsHostFile (codes "app") refl refl (lit≤ tt) refl);
}
