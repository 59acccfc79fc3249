-- What a table lists, or the first refusal of it.
use Rattle.std.specs.Prelude.{◌≡◌, ℕ, ◌+◌, if◌then◌else◌, List, [], ◌∷◌, codes, bytes_eq, Option, Some, None, is_some, Result, Ok, Err, IsUtf8}
use Rattle.std.specs.Option.{option_or}
use Rattle.toml.specs.Data.{Data, Items, no_items, item, Members, no_members, member, as_str, as_table, as_array, get_member}
use Rattle.toml.specs.Parse.{parse_document}
use Rattle.manifest_model.specs.declared.entries.Policy.{Policy}
use Rattle.manifest_model.specs.declared.entries.Policy.TheVariants.{Strict, AllowAllButLog}
use Rattle.manifest_model.specs.declared.entries.Trusted.{Trusted}
use Rattle.manifest_model.specs.declared.entries.Mount.{Mount}
use Rattle.manifest_model.specs.declared.fault.ManifestFault.{ManifestFault}
use Rattle.manifest_model.specs.declared.fault.ManifestFault.TheVariants as faults
use Rattle.manifest_model.specs.Names.{normal_uri, file_name}
use Rattle.manifest_model.specs.Places.{at_key, at_item, first_of}
use Rattle.manifest_model.specs.Walk.{walk_table}
use Rattle.manifest_model.specs.Fields.{wants, needs, or_else, text_or, members_in, items_in, bytes_of}
use Rattle.manifest_model.specs.Trusting.{file_refusal, items_refusal, items_of, entries_of}
use Rattle.manifest_model.specs.Mounting.{mounts_refusal, mounts_of, root_refusal, root_of}

-- the members of the tables `sgx` and `fs`
abbrev pub section : List ℕ → Members → Members
section name ms = members_in (get_member name ms)

abbrev pub sgx : Members → Members
sgx ms = section (codes "sgx") ms

abbrev pub fs : Members → Members
fs ms = section (codes "fs") ms

-- the policy on files that are in neither list

abbrev pub policy_named : List ℕ → Option Policy
policy_named text = if bytes_eq text (codes "strict") then Some Strict else if bytes_eq text (codes "allow_all_but_log") then Some AllowAllButLog else None

abbrev pub policy_text : Members → List ℕ
policy_text ms = text_or (codes "strict") (get_member (codes "file_check_policy") ms)

abbrev pub known_policy : List ℕ → Option ManifestFault
known_policy text = if is_some (policy_named text) then None else Some (faults.BadPolicy text)

unfoldable pub policy_refusal : Members → Option ManifestFault
policy_refusal ms = first_of (wants as_str (codes "sgx.file_check_policy") (get_member (codes "file_check_policy") ms) ∷ known_policy (policy_text ms) ∷ [])

unfoldable pub policy_of : Members → Policy
policy_of ms = or_else (policy_named (policy_text ms)) Strict

-- the trusted files

unfoldable pub trusted_refusal : Members → Option ManifestFault
trusted_refusal ms =
    let field = get_member (codes "trusted_files") ms in
    first_of (wants as_array (codes "sgx.trusted_files") field ∷ items_refusal [] (codes "sgx.trusted_files") 0 (items_in field) ∷ [])

unfoldable pub trusted_of : Members → List Trusted
trusted_of ms = entries_of (items_of (items_in (get_member (codes "trusted_files") ms)))

-- the allowed files: each item adds its normal uri

unfoldable pub allowed_item_refusal : List ℕ → Data → Option ManifestFault
allowed_item_refusal place d = first_of (needs as_str place (Some d) ∷ file_refusal (text_or [] (Some d)) ∷ [])

abbrev pub allowed_items_refusal : List ℕ → ℕ → Items → Option ManifestFault
allowed_items_refusal place k no_items = None
allowed_items_refusal place k (item d ds) = option_or (allowed_item_refusal (at_item place k) d) (allowed_items_refusal place (k + 1) ds)

unfoldable pub allowed_uri : Data → List ℕ
allowed_uri d = normal_uri (or_else (file_name (text_or [] (Some d))) [])

abbrev pub allowed_uris : Items → List (List ℕ)
allowed_uris no_items = []
allowed_uris (item d ds) = allowed_uri d ∷ allowed_uris ds

unfoldable pub allowed_refusal : Members → Option ManifestFault
allowed_refusal ms =
    let field = get_member (codes "allowed_files") ms in
    first_of (wants as_array (codes "sgx.allowed_files") field ∷ allowed_items_refusal (codes "sgx.allowed_files") 0 (items_in field) ∷ [])

unfoldable pub allowed_of : Members → List (List ℕ)
allowed_of ms = allowed_uris (items_in (get_member (codes "allowed_files") ms))

-- the mounts: the root, and then those of the list

unfoldable pub mounting_refusal : Members → Option ManifestFault
mounting_refusal ms =
    let root = get_member (codes "root") ms in
    let field = get_member (codes "mounts") ms in
    first_of (
    wants as_table (codes "fs.root") root
    ∷ root_refusal (members_in root)
    ∷ wants as_array (codes "fs.mounts") field
    ∷ mounts_refusal (codes "fs.mounts") 0 (items_in field)
    ∷ [])

unfoldable pub mounting_of : Members → List Mount
mounting_of ms = root_of (members_in (get_member (codes "root") ms)) ∷ mounts_of (items_in (get_member (codes "mounts") ms))

-- the keys, each of 32 hexadecimal digits of either case, as the table has them: in the order of their names' bytes where it
-- was read (`keys_rise` of `Manifest::read`)

abbrev pub key_digits : List ℕ → List ℕ → Option ManifestFault
key_digits name text = if is_some (bytes_of 16 text) then None else Some (faults.BadKey name)

abbrev pub key_refusal : List ℕ → List ℕ → Data → Option ManifestFault
key_refusal place name d = first_of (needs as_str place (Some d) ∷ key_digits name (text_or [] (Some d)) ∷ [])

abbrev pub keys_refusal : List ℕ → Members → Option ManifestFault
keys_refusal place no_members = None
keys_refusal place (member name d ms) = option_or (key_refusal (at_key place name) name d) (keys_refusal place ms)

unfoldable pub keying_refusal : Members → Option ManifestFault
keying_refusal ms =
    let field = get_member (codes "insecure__keys") ms in
    first_of (wants as_table (codes "fs.insecure__keys") field ∷ keys_refusal (codes "fs.insecure__keys") (members_in field) ∷ [])

abbrev pub keys_of : Members → List (List ℕ × List ℕ)
keys_of no_members = []
keys_of (member name d ms) = (name, or_else (bytes_of 16 (text_or [] (Some d))) []) ∷ keys_of ms

unfoldable pub keying_of : Members → List (List ℕ × List ℕ)
keying_of ms = keys_of (members_in (get_member (codes "insecure__keys") ms))

-- The first refusal of a table.
unfoldable pub refusal : Members → Option ManifestFault
refusal ms = first_of (
    walk_table ms
    ∷ wants as_table (codes "sgx") (get_member (codes "sgx") ms)
    ∷ wants as_table (codes "fs") (get_member (codes "fs") ms)
    ∷ policy_refusal (sgx ms)
    ∷ trusted_refusal (sgx ms)
    ∷ allowed_refusal (sgx ms)
    ∷ mounting_refusal (fs ms)
    ∷ keying_refusal (fs ms)
    ∷ [])

-- what is taken from a table
pub record Lists : Type 0 where
  pub policy : Policy
  pub trusted : List Trusted
  pub allowed : List (List ℕ)
  pub mounts : List Mount
  pub keys : List (List ℕ × List ℕ)

abbrev pub lists_of : Members → Lists
lists_of ms = record {
  policy = policy_of (sgx ms);
  trusted = trusted_of (sgx ms);
  allowed = allowed_of (sgx ms);
  mounts = mounting_of (fs ms);
  keys = keying_of (fs ms);
}

-- A table lists what is taken from it, where nothing of it is refused; else its outcome is the first refusal.
pub data Listed (ms : Members) (outcome : Result Lists ManifestFault) : Type 0 where
  Accepted : refusal ms ≡ None → outcome ≡ Ok (lists_of ms) → Listed ms outcome
  Refused : (fault : ManifestFault) → refusal ms ≡ Some fault → outcome ≡ Err fault → Listed ms outcome

-- a manifest as contracts see it: its table, and what is listed of it
pub record Seen : Type 0 where
  pub «table» : Members
  pub lists : Lists

abbrev pub seen_of : Members → Policy → List Trusted → List (List ℕ) → List Mount → Seen
seen_of ms policy trusted allowed mounts = record {
  «table» = ms;
  lists = record { policy = policy; trusted = trusted; allowed = allowed; mounts = mounts; keys = keying_of (fs ms) };
}

-- the bytes are a TOML text of the table
pub record IsTextOf (bytes : List ℕ) (ms : Members) : Type 0 where
  pub utf8 : IsUtf8 bytes
  pub toml : parse_document bytes ≡ Some ms

abbrev pub IsNoText : List ℕ → Type 0
IsNoText bytes = (ms : Members) → IsTextOf bytes ms → ⊥

-- What bytes are read as: they are no TOML text, or the outcome is that of their table.
pub data ReadsAs (bytes : List ℕ) (outcome : Result Seen ManifestFault) : Type 0 where
  NoText : IsNoText bytes → outcome ≡ Err faults.NotToml → ReadsAs bytes outcome
  IsListed : (ms : Members) (lists : Lists) → IsTextOf bytes ms → Listed ms (Ok lists) → outcome ≡ Ok (record { «table» = ms; lists = lists }) → ReadsAs bytes outcome
  IsRefused : (ms : Members) (fault : ManifestFault) → IsTextOf bytes ms → Listed ms (Err fault) → outcome ≡ Err fault → ReadsAs bytes outcome
