-- Names and tables small enough to compute.
use Rattle.std.specs.Prelude.{◌≡◌, ℕ, true, List, [], ◌∷◌, codes, Some, None, pos}
use Rattle.toml.specs.Data.{Data, string, integer, boolean, array, table, no_items, item, Members, no_members, member}
use Rattle.manifest_model.specs.declared.entries.Policy.TheVariants.{Strict}
use Rattle.manifest_model.specs.declared.fault.ManifestFault.TheVariants as faults
use Rattle.manifest_model.specs.Names.{normal}
use Rattle.manifest_model.specs.Places.{bad_field}
use Rattle.manifest_model.specs.Walk.{walk}
use Rattle.manifest_model.specs.Trusting.{items_of, entries_of}
use Rattle.manifest_model.specs.Mounting.{root_of}
use Rattle.manifest_model.specs.Listed.{refusal, allowed_uris, mounting_of, policy_of}

pub record NamesAreNormal : Type 0 where
  pub empty : normal [] ≡ codes "."
  pub root : normal (codes "/") ≡ codes "/"
  pub dropped : normal (codes "a//b/./c/") ≡ codes "a/b/c"
  pub above_root : normal (codes "/../a") ≡ codes "/a"
  pub above : normal (codes "../a/../..") ≡ codes "../.."
  pub taken_along : normal (codes "a/..") ≡ codes "."

-- a table of one key
abbrev pub one : List ℕ → Data → Members
one key d = member key d no_members

abbrev pub sgx_with : List ℕ → Data → Members
sgx_with key d = one (codes "sgx") (table (one key d))

abbrev pub fs_with : List ℕ → Data → Members
fs_with key d = one (codes "fs") (table (one key d))

abbrev pub only : Data → Data
only d = array (item d no_items)

pub record TablesAreRefused : Type 0 where
  pub deepest : walk 32 (codes "a") (boolean true) ≡ None
  pub too_deep : walk 33 (codes "a") (boolean true) ≡ bad_field (codes "a")
  pub inside : walk 32 (codes "a") (only (boolean true)) ≡ bad_field (codes "a[0]")
  pub no_section : refusal (one (codes "sgx") (integer (pos 1))) ≡ bad_field (codes "sgx")
  pub policy : refusal (sgx_with (codes "file_check_policy") (string (codes "all"))) ≡ Some (faults.BadPolicy (codes "all"))
  pub no_uri : refusal (sgx_with (codes "trusted_files") (only (table no_members))) ≡ bad_field (codes "sgx.trusted_files[0].uri")
  pub no_file : refusal (sgx_with (codes "allowed_files") (only (string (codes "file:a/")))) ≡ Some (faults.BadUri (codes "file:a/"))
  pub no_path : refusal (fs_with (codes "mounts") (only (table (one (codes "path") (string (codes "a")))))) ≡ bad_field (codes "fs.mounts[0].path")
  pub key : refusal (fs_with (codes "insecure__keys") (table (one (codes "a") (string (codes "0"))))) ≡ Some (faults.BadKey (codes "a"))
  pub nothing : refusal no_members ≡ None

pub record TablesList : Type 0 where
  pub policy : policy_of no_members ≡ Strict
  pub joined : entries_of (items_of (item (string (codes "file:a/../b")) (item (string (codes "file:c")) (item (string (codes "file:b")) no_items))))
      ≡ (record { uri = codes "file:a/../b"; name = codes "b"; sum = None }) ∷ (record { uri = codes "file:c"; name = codes "c"; sum = None }) ∷ []
  pub allowed : allowed_uris (item (string (codes "file:./x")) (item (string (codes "file:x")) no_items)) ≡ codes "file:x" ∷ codes "file:x" ∷ []
  pub root : mounting_of no_members ≡ root_of no_members ∷ []
