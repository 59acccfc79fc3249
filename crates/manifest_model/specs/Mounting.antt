-- The mounts of a table.
use Rattle.std.specs.Prelude.{ℕ, ◌+◌, Bool, true, false, ◌||◌, if◌then◌else◌, List, [], ◌∷◌, codes, bytes_eq, Option, Some, None}
use Rattle.std.specs.Option.{option_or}
use Rattle.toml.specs.Data.{Data, Items, no_items, item, Members, as_str, as_table, get, get_member}
use Rattle.manifest_model.specs.declared.entries.Mount.{Mount}
use Rattle.manifest_model.specs.declared.entries.MountKind.{MountKind}
use Rattle.manifest_model.specs.declared.entries.MountKind.TheVariants.{Chroot, Encrypted, Other}
use Rattle.manifest_model.specs.declared.fault.ManifestFault.{ManifestFault}
use Rattle.manifest_model.specs.declared.fault.ManifestFault.TheVariants as faults
use Rattle.manifest_model.specs.Names.{normal, file_name, is_name, is_absolute}
use Rattle.manifest_model.specs.Places.{at_key, at_item, bad_field, first_of}
use Rattle.manifest_model.specs.Fields.{wants, needs, text_or}

abbrev pub type_text : Option Data → List ℕ
type_text field = text_or (codes "chroot") field

abbrev pub kind_of : List ℕ → MountKind
kind_of text = if bytes_eq text (codes "chroot") then Chroot else if bytes_eq text (codes "encrypted") then Encrypted else Other

abbrev pub is_other : MountKind → Bool
is_other Chroot = false
is_other Encrypted = false
is_other Other = true

-- what follows `file:` is a name of a file
abbrev pub names_file : Option (List ℕ) → Bool
names_file None = true
names_file (Some name) = is_name name

-- the uri of a mount of a kind
abbrev pub file_refusal : MountKind → List ℕ → Option ManifestFault
file_refusal kind uri = if is_other kind || names_file (file_name uri) then None else Some (faults.BadUri uri)

-- where the files of a mount stand: an absolute name
abbrev pub path_refusal : List ℕ → Option Data → Option ManifestFault
path_refusal place field = first_of (needs as_str place field ∷ (if is_absolute (text_or [] field) then None else bad_field place) ∷ [])

-- where they come from: a uri, which `tmpfs` does not need
abbrev pub source_refusal : List ℕ → List ℕ → Option Data → Option ManifestFault
source_refusal kind place field = first_of (
    (if bytes_eq kind (codes "tmpfs") then wants as_str place field else needs as_str place field)
    ∷ file_refusal (kind_of kind) (text_or [] field)
    ∷ [])

-- why an item of the list of mounts is refused
unfoldable pub mount_refusal : List ℕ → Data → Option ManifestFault
mount_refusal place d = first_of (
    needs as_table place (Some d)
    ∷ wants as_str (at_key place (codes "type")) (get (codes "type") d)
    ∷ path_refusal (at_key place (codes "path")) (get (codes "path") d)
    ∷ source_refusal (type_text (get (codes "type") d)) (at_key place (codes "uri")) (get (codes "uri") d)
    ∷ wants as_str (at_key place (codes "key_name")) (get (codes "key_name") d)
    ∷ [])

abbrev pub mounts_refusal : List ℕ → ℕ → Items → Option ManifestFault
mounts_refusal place k no_items = None
mounts_refusal place k (item d ds) = option_or (mount_refusal (at_item place k) d) (mounts_refusal place (k + 1) ds)

-- a mount: its kind, the normal form of its path, the name that its uri gives, and the name of its key
unfoldable pub mount_of : Data → Mount
mount_of d = record {
  kind = kind_of (type_text (get (codes "type") d));
  path = normal (text_or [] (get (codes "path") d));
  name = file_name (text_or [] (get (codes "uri") d));
  key_name = text_or (codes "default") (get (codes "key_name") d);
}

abbrev pub mounts_of : Items → List Mount
mounts_of no_items = []
mounts_of (item d ds) = mount_of d ∷ mounts_of ds

abbrev pub root_uri : Members → List ℕ
root_uri root = text_or (codes "file:.") (get_member (codes "uri") root)

-- why the table of the root is refused
unfoldable pub root_refusal : Members → Option ManifestFault
root_refusal root = first_of (
    wants as_str (codes "fs.root.type") (get_member (codes "type") root)
    ∷ wants as_str (codes "fs.root.uri") (get_member (codes "uri") root)
    ∷ file_refusal (kind_of (type_text (get_member (codes "type") root))) (root_uri root)
    ∷ [])

-- the mount of the root, at `/`
unfoldable pub root_of : Members → Mount
root_of root = record {
  kind = kind_of (type_text (get_member (codes "type") root));
  path = codes "/";
  name = file_name (root_uri root);
  key_name = codes "default";
}
