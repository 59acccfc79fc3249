-- What holds of a table of which nothing is refused.
use Rattle.std.proofs.Common.{◌≡◌, ◌∙◌, ◌⊎◌, inl, inr, ℕ, zero, suc, ◌+◌, ◌<◌, ◌≤◌, Bool, true, false, cond, ◌&&◌, nat_lt, List, [], ◌++◌, length, get_or, codes, Option, Some, None, bytes_eq, Ordering, Less, Equal, Greater, refl, arith}
use Rattle.std.specs.Prelude.{is_some, option_and_then}
use Rattle.std.specs.Option.{option_or}
use Rattle.std.specs.Map.{lookup}
use Rattle.std.specs.Cmp.Lexicographic.{slice_cmp}
use Rattle.std.specs.Ordering.{nat_cmp, match_ordering}
use Rattle.std.proofs.lemmas.Map.Text.{is_eq-slice_cmp}
use Rattle.std.proofs.lemmas.Bool.Decides.{nat_tests}
use Rattle.toml.specs.Data.{Data, string, integer, float, boolean, datetime, array, table, Items, no_items, item, Members, no_members, member, as_str, as_table, as_array, get, get_member, depth, items_depth, members_depth, has_valid_dates, items_have_valid_dates, members_have_valid_dates}
use Rattle.manifest_model.specs.declared.entries.Mount.{Mount}
use Rattle.manifest_model.specs.declared.fault.ManifestFault.{ManifestFault}
use Rattle.manifest_model.specs.declared.fault.ManifestFault.TheVariants as faults
use Rattle.manifest_model.specs.Names.{normal, normal_parts, kept_of, is_absolute}
use Rattle.manifest_model.specs.Places.{at_key, at_item, bad_field}
use Rattle.manifest_model.specs.Walk.{too_deep, walk, walk_items, walk_members, walk_table}
use Rattle.manifest_model.specs.Fields.{wants, needs, text_or, or_else, members_in, items_in, bytes_of}
use Rattle.manifest_model.specs.Mounting.{path_refusal, mount_refusal, mounts_refusal, mount_of, mounts_of, root_refusal, root_of}
use Rattle.manifest_model.specs.Listed.{sgx, fs, refusal, policy_refusal, trusted_refusal, allowed_refusal, mounting_refusal, mounting_of, key_refusal, keys_refusal, keying_refusal, keying_of, keys_of}
use Rattle.manifest_model.specs.Reading.{key_at}
use Rattle.manifest_model.proofs.Normal.{normal-normal, normal-absolute}
use Rattle.manifest_model.proofs.Indexed.{Yes, No, same_name}

pub both_none : (a b : Option ManifestFault) → option_or a b ≡ None → (a ≡ None) × (b ≡ None)
both_none None b e = (refl, e)
both_none (Some f) b e = cc

-- no value stands deeper than 32, and none is a date-time

shallow : (k : ℕ) (place : List ℕ) → too_deep k place ≡ None → k ≤ 32
shallow k place e = elim (deep k) [ inl h ↦ let f : Some _ ≡ None = rw h at e in cc | inr h ↦ h ]
  where
    deep : (k : ℕ) → (nat_lt 32 k ≡ true) ⊎ (k ≤ 32)
    deep k = grind (arith, nat_tests)

mutual
  data_depth : (k : ℕ) (place : List ℕ) (d : Data) → walk k place d ≡ None → k + depth d ≤ 33
  data_depth k place (string s) e = omega (arith, shallow k place e)
  data_depth k place (integer z) e = omega (arith, shallow k place e)
  data_depth k place (float x) e = cc
  data_depth k place (boolean b) e = omega (arith, shallow k place e)
  data_depth k place (datetime t) e = cc
  data_depth k place (array ds) e =
      let (top, inside) = both_none (too_deep k place) _ e in
      omega (arith, items-depth (k + 1) place 0 ds inside (omega (arith, shallow k place top)))
  data_depth k place (table ms) e =
      let (top, inside) = both_none (too_deep k place) _ e in
      omega (arith, members-depth (k + 1) (place ++ codes ".") ms inside (omega (arith, shallow k place top)))

  items-depth : (k : ℕ) (place : List ℕ) (i : ℕ) (ds : Items) → walk_items k place i ds ≡ None → k ≤ 33 → k + items_depth ds ≤ 33
  items-depth k place i no_items e h = omega (arith, h)
  items-depth k place i (item d ds) e h = let (first, rest) = both_none (walk k (at_item place i) d) _ e in omega (arith, data_depth k (at_item place i) d first, items-depth k place (i + 1) ds rest h)

  pub members-depth : (k : ℕ) (prefix : List ℕ) (ms : Members) → walk_members k prefix ms ≡ None → k ≤ 33 → k + members_depth ms ≤ 33
  members-depth k prefix no_members e h = omega (arith, h)
  members-depth k prefix (member key d ms) e h = let (first, rest) = both_none (walk k (prefix ++ key) d) _ e in omega (arith, data_depth k (prefix ++ key) d first, members-depth k prefix ms rest h)

and_true : (a b : Bool) → a ≡ true → b ≡ true → (a && b) ≡ true
and_true a b x y = rw (x, y) refl

mutual
  data_dates : (k : ℕ) (place : List ℕ) (d : Data) → walk k place d ≡ None → has_valid_dates d ≡ true
  data_dates k place (string s) e = refl
  data_dates k place (integer z) e = refl
  data_dates k place (float x) e = refl
  data_dates k place (boolean b) e = refl
  data_dates k place (datetime t) e = cc
  data_dates k place (array ds) e = items_dates (k + 1) place 0 ds (both_none (too_deep k place) _ e).1
  data_dates k place (table ms) e = members_dates (k + 1) (place ++ codes ".") ms (both_none (too_deep k place) _ e).1

  items_dates : (k : ℕ) (place : List ℕ) (i : ℕ) (ds : Items) → walk_items k place i ds ≡ None → items_have_valid_dates ds ≡ true
  items_dates k place i no_items e = refl
  items_dates k place i (item d ds) e = let (first, rest) = both_none (walk k (at_item place i) d) _ e in and_true (has_valid_dates d) (items_have_valid_dates ds) (data_dates k (at_item place i) d first) (items_dates k place (i + 1) ds rest)

  pub members_dates : (k : ℕ) (prefix : List ℕ) (ms : Members) → walk_members k prefix ms ≡ None → members_have_valid_dates ms ≡ true
  members_dates k prefix no_members e = refl
  members_dates k prefix (member key d ms) e = let (first, rest) = both_none (walk k (prefix ++ key) d) _ e in and_true (has_valid_dates d) (members_have_valid_dates ms) (data_dates k (prefix ++ key) d first) (members_dates k prefix ms rest)

-- each of several checks passes
pub record Passed (ms : Members) : Type 0 where
  pub walked : walk_table ms ≡ None
  pub fs_form : wants as_table (codes "fs") (get_member (codes "fs") ms) ≡ None
  pub policy : policy_refusal (sgx ms) ≡ None
  pub trusted : trusted_refusal (sgx ms) ≡ None
  pub allowed : allowed_refusal (sgx ms) ≡ None
  pub mounting : mounting_refusal (fs ms) ≡ None
  pub keying : keying_refusal (fs ms) ≡ None

pub passed : (ms : Members) → refusal ms ≡ None → Passed ms
unfolding refusal
passed ms e =
    let (walked, e1) = both_none (walk_table ms) _ e in
    let (sgx_form, e2) = both_none (wants as_table (codes "sgx") (get_member (codes "sgx") ms)) _ e1 in
    let (fs_form, e3) = both_none (wants as_table (codes "fs") (get_member (codes "fs") ms)) _ e2 in
    let (policy, e4) = both_none (policy_refusal (sgx ms)) _ e3 in
    let (trusted, e5) = both_none (trusted_refusal (sgx ms)) _ e4 in
    let (allowed, e6) = both_none (allowed_refusal (sgx ms)) _ e5 in
    let (mounting, e7) = both_none (mounting_refusal (fs ms)) _ e6 in
    let (keying, e8) = both_none (keying_refusal (fs ms)) None e7 in
    record { walked = walked; fs_form = fs_form; policy = policy; trusted = trusted; allowed = allowed; mounting = mounting; keying = keying }

pub depth_of : (ms : Members) → refusal ms ≡ None → members_depth ms ≤ 80
depth_of ms e = omega (arith, members-depth 1 [] ms (passed ms e).walked (omega arith))

pub dates_of : (ms : Members) → refusal ms ≡ None → members_have_valid_dates ms ≡ true
dates_of ms e = members_dates 1 [] ms (passed ms e).walked

-- the paths of mounts are normal and absolute

pub record IsPlaced (m : Mount) : Type 0 where
  pub normal : normal m.path ≡ m.path
  pub absolute : is_absolute m.path ≡ true

absolute_path : (place : List ℕ) (field : Option Data) → path_refusal place field ≡ None → is_absolute (text_or [] field) ≡ true
absolute_path place field e = at (is_absolute (text_or [] field)) (both_none (cond (is_absolute (text_or [] field)) None (bad_field place)) None (both_none (needs as_str place field) _ e).1).0
  where
    at : (b : Bool) → cond b None (bad_field place) ≡ None → b ≡ true
    at true f = refl
    at false f = cc

mount_placed : (place : List ℕ) (d : Data) → mount_refusal place d ≡ None → IsPlaced (mount_of d)
unfolding mount_refusal mount_of
mount_placed place d e =
    let (form, e1) = both_none (needs as_table place (Some d)) _ e in
    let (kind, e2) = both_none (wants as_str (at_key place (codes "type")) (get (codes "type") d)) _ e1 in
    let (path, e3) = both_none (path_refusal (at_key place (codes "path")) (get (codes "path") d)) _ e2 in
    record {
      normal = normal-normal (text_or [] (get (codes "path") d));
      absolute = normal-absolute (text_or [] (get (codes "path") d)) ∙ absolute_path (at_key place (codes "path")) (get (codes "path") d) path;
    }

mounts_placed : (place : List ℕ) (i : ℕ) (ds : Items) → mounts_refusal place i ds ≡ None → (k : ℕ) (m : Mount) → k < length (mounts_of ds) → IsPlaced (get_or (mounts_of ds) k m)
mounts_placed place i no_items e k m l = absurd (omega (arith, l))
mounts_placed place i (item d ds) e zero m l = mount_placed (at_item place i) d (both_none (mount_refusal (at_item place i) d) _ e).0
mounts_placed place i (item d ds) e (suc k) m l = mounts_placed place (i + 1) ds (both_none (mount_refusal (at_item place i) d) _ e).1 k m (omega (arith, l))

normal-root : normal (codes "/") ≡ codes "/"
unfolding normal normal_parts kept_of
normal-root = refl

root_placed : (root : Members) → IsPlaced (root_of root)
unfolding root_of
root_placed root = record { normal = normal-root; absolute = refl }

pub placed : (ms : Members) → refusal ms ≡ None → (k : ℕ) (m : Mount) → k < length (mounting_of (fs ms)) → IsPlaced (get_or (mounting_of (fs ms)) k m)
unfolding mounting_of mounting_refusal
placed ms e zero m l = root_placed _
placed ms e (suc k) m l =
    let (form, e1) = both_none (wants as_table (codes "fs.root") (get_member (codes "root") (fs ms))) _ (passed ms e).mounting in
    let (root, e2) = both_none (root_refusal (members_in (get_member (codes "root") (fs ms)))) _ e1 in
    let (list, e3) = both_none (wants as_array (codes "fs.mounts") (get_member (codes "mounts") (fs ms))) _ e2 in
    let (items, e4) = both_none (mounts_refusal (codes "fs.mounts") 0 (items_in (get_member (codes "mounts") (fs ms)))) None e3 in
    mounts_placed (codes "fs.mounts") 0 (items_in (get_member (codes "mounts") (fs ms))) items k m (omega (arith, l))

-- the key of a name is found in the table

digits_there : (place name : List ℕ) (d : Data) → key_refusal place name d ≡ None → (text bytes : List ℕ) × (as_str d ≡ Some text) × (bytes_of 16 text ≡ Some bytes)
digits_there place name d e =
    let (form, e1) = both_none (needs as_str place (Some d)) _ e in
    text_there (as_str d) refl form (both_none (cond (is_some (bytes_of 16 (text_or [] (Some d)))) None (Some (faults.BadKey name))) None e1).0
  where
    some_of : (o : Option (List ℕ)) → cond (is_some o) None (Some (faults.BadKey name)) ≡ None → (bytes : List ℕ) × (o ≡ Some bytes)
    some_of None f = cc
    some_of (Some bytes) f = (bytes, refl)

    text_there : (o : Option (List ℕ)) → as_str d ≡ o → cond (is_some (as_str d)) None (bad_field place) ≡ None → cond (is_some (bytes_of 16 (or_else (as_str d) []))) None (Some (faults.BadKey name)) ≡ None
        → (text bytes : List ℕ) × (as_str d ≡ Some text) × (bytes_of 16 text ≡ Some bytes)
    text_there None same form digits = let f : bad_field place ≡ None = rw same at form in cc
    text_there (Some text) same form digits =
        let (bytes, there) = some_of (bytes_of 16 text) (rw same at digits) in
        (text, bytes, same, there)

key_of : List ℕ → Members → Option (List ℕ)
key_of name ms = option_and_then (λ d. option_and_then (bytes_of 16) (as_str d)) (get_member name ms)

pub compared : (name key : List ℕ) (o : Option Data) (d : Data) → match_ordering (slice_cmp nat_cmp name key) o (Some d) o ≡ cond (bytes_eq name key) (Some d) o
compared name key o d = by_order (slice_cmp nat_cmp name key) refl
  where
    by_order : (r : Ordering) → slice_cmp nat_cmp name key ≡ r → match_ordering r o (Some d) o ≡ cond (bytes_eq name key) (Some d) o
    by_order Less e = rw (← is_eq-slice_cmp name key, e) refl
    by_order Equal e = rw (← is_eq-slice_cmp name key, e) refl
    by_order Greater e = rw (← is_eq-slice_cmp name key, e) refl

found_key : (name place : List ℕ) (ms : Members) → keys_refusal place ms ≡ None → key_of name ms ≡ lookup (bytes_eq name) (keys_of ms)
unfolding key_of
found_key name place no_members e = refl
found_key name place (member key d ms) e =
    let (first, rest) = both_none (key_refusal (at_key place key) key d) _ e in
    let (text, bytes, is_text, is_bytes) = digits_there (at_key place key) key d first in
    let more = found_key name place ms rest in
    elim (same_name name key) [
      | Yes b s ↦ rw (compared name key (get_member name ms) d, b, is_text, is_bytes) refl
      | No b s ↦ rw (compared name key (get_member name ms) d, b) more
    ]

table_of : (d : Data) → is_some (as_table d) ≡ true → (ms : Members) × (d ≡ table ms)
table_of (string s) h = cc
table_of (integer z) h = cc
table_of (float x) h = cc
table_of (boolean b) h = cc
table_of (datetime t) h = cc
table_of (array ds) h = cc
table_of (table ms) h = (ms, refl)

wants_table : (place : List ℕ) (d : Data) → wants as_table place (Some d) ≡ None → (ms : Members) × (d ≡ table ms)
wants_table place d e = table_of d (at (is_some (as_table d)) e)
  where
    at : (b : Bool) → cond b None (bad_field place) ≡ None → b ≡ true
    at true f = refl
    at false f = cc

digits_in : Data → Option (List ℕ)
digits_in d = option_and_then (bytes_of 16) (as_str d)

in_keys : (name place : List ℕ) (o : Option Data) → wants as_table place o ≡ None → option_and_then (λ keys. option_and_then digits_in (get name keys)) o ≡ option_and_then digits_in (get_member name (members_in o))
in_keys name place None e = refl
in_keys name place (Some d) e = let (ms, same) = wants_table place d e in rw same refl

in_fs : (name place inner : List ℕ) (o : Option Data) → wants as_table place o ≡ None → wants as_table inner (get_member (codes "insecure__keys") (members_in o)) ≡ None
    → option_and_then (λ fs. option_and_then (λ keys. option_and_then digits_in (get name keys)) (get (codes "insecure__keys") fs)) o ≡ option_and_then digits_in (get_member name (members_in (get_member (codes "insecure__keys") (members_in o))))
in_fs name place inner None e f = refl
in_fs name place inner (Some d) e f =
    let (ms, same) = wants_table place d e in
    let g : wants as_table inner (get_member (codes "insecure__keys") ms) ≡ None = rw same at f in
    rw same (in_keys name inner (get_member (codes "insecure__keys") ms) g)

pub key_found : (name : List ℕ) (ms : Members) → refusal ms ≡ None → key_at name ms ≡ lookup (bytes_eq name) (keying_of (fs ms))
unfolding keying_of keying_refusal key_of digits_in
key_found name ms e =
    let (keys_form, e1) = both_none (wants as_table (codes "fs.insecure__keys") (get_member (codes "insecure__keys") (fs ms))) _ (passed ms e).keying in
    let (keys, e2) = both_none (keys_refusal (codes "fs.insecure__keys") (members_in (get_member (codes "insecure__keys") (fs ms)))) None e1 in
    in_fs name (codes "fs") (codes "fs.insecure__keys") (get_member (codes "fs") ms) (passed ms e).fs_form keys_form ∙ found_key name (codes "fs.insecure__keys") (members_in (get_member (codes "insecure__keys") (fs ms))) keys
