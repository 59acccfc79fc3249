-- The mounts of a table, check by check.
use Rattle.std.proofs.Common.{◌≡◌, ◌∙◌, List, [], ◌∷◌, ℕ, codes, Option, Some, None, Result, Vec, Global, refl, sym, ap}
use Rattle.std.specs.Option.{option_or}
use Rattle.toml.specs.Data.{Data, Items, no_items, Members, as_str, as_table, as_array, get, get_member}
use Rattle.manifest_model.specs.declared.entries.Mount.{Mount}
use Rattle.manifest_model.specs.declared.entries.MountKind.{MountKind}
use Rattle.manifest_model.specs.declared.fault.ManifestFault.{ManifestFault}
use Rattle.manifest_model.specs.Names.{normal, normal_parts, kept_of, file_name}
use Rattle.manifest_model.specs.Places.{at_key, Checks}
use Rattle.manifest_model.specs.Fields.{wants, needs, text_or, members_in, items_in}
use Rattle.manifest_model.specs.Mounting.{type_text, kind_of, file_refusal, root_uri, root_refusal, root_of, path_refusal, source_refusal, mount_refusal, mount_of, mounts_refusal, mounts_of}
use Rattle.manifest_model.specs.Listed.{mounting_refusal, mounting_of}
use Rattle.manifest_model.proofs.Checking.{first, behind, or_none, checks_as}

-- the kind and the uri of the root
pub record RootNamed (root : Members) (kind : MountKind) (uri : List ℕ) : Type 0 where
  pub kind_form : wants as_str (codes "fs.root.type") (get_member (codes "type") root) ≡ None
  pub uri_form : wants as_str (codes "fs.root.uri") (get_member (codes "uri") root) ≡ None
  pub is_kind : kind ≡ kind_of (type_text (get_member (codes "type") root))
  pub is_uri : uri ≡ root_uri root

pub root_decides : {root : Members} {kind : MountKind} {uri : List ℕ} (o : Option ManifestFault) → RootNamed root kind uri → file_refusal kind uri ≡ o → root_refusal root ≡ o
unfolding root_refusal
root_decides o named e = behind _ _ _ named.kind_form (behind _ _ _ named.uri_form (or_none _ ∙ (rw (named.is_kind, named.is_uri) at e)))

pub root_made : {root : Members} {kind : MountKind} {uri : List ℕ} (m : Mount) (name : Option (List ℕ)) → RootNamed root kind uri → name ≡ file_name uri
    → m ≡ record { kind = kind; path = normal (codes "/"); name = name; key_name = codes "default" } → m ≡ root_of root
unfolding root_of normal normal_parts kept_of
root_made {root = root} m name named is made = let e : name ≡ file_name (root_uri root) = is ∙ ap file_name named.is_uri in made ∙ rw (e, named.is_kind) refl

-- the root of the table `fs`, of which nothing is refused
pub record Rooted (ms root : Members) : Type 0 where
  pub form : wants as_table (codes "fs.root") (get_member (codes "root") ms) ≡ None
  pub is_root : root ≡ members_in (get_member (codes "root") ms)
  pub none : root_refusal root ≡ None

pub root_stops : (ms root : Members) (fault : ManifestFault) → wants as_table (codes "fs.root") (get_member (codes "root") ms) ≡ None → root ≡ members_in (get_member (codes "root") ms) → root_refusal root ≡ Some fault → mounting_refusal ms ≡ Some fault
unfolding mounting_refusal
root_stops ms root fault form is e = behind _ _ _ form (first _ _ fault (ap root_refusal (sym is) ∙ e))

list_decides : {ms root : Members} (o : Option ManifestFault) → Rooted ms root
    → option_or (wants as_array (codes "fs.mounts") (get_member (codes "mounts") ms)) (option_or (mounts_refusal (codes "fs.mounts") 0 (items_in (get_member (codes "mounts") ms))) None) ≡ o → mounting_refusal ms ≡ o
unfolding mounting_refusal
list_decides o rooted e = behind _ _ _ rooted.form (behind _ _ _ (ap root_refusal (sym rooted.is_root) ∙ rooted.none) e)

pub list_stops : {ms root : Members} (fault : ManifestFault) → Rooted ms root → wants as_array (codes "fs.mounts") (get_member (codes "mounts") ms) ≡ Some fault → mounting_refusal ms ≡ Some fault
list_stops fault rooted e = list_decides _ rooted (first _ _ fault e)

pub mounts_listed : {ms root : Members} (place : List ℕ) (its : Items) (m : Mount) (r : Result (Vec Mount Global) ManifestFault) → Rooted ms root → wants as_array (codes "fs.mounts") (get_member (codes "mounts") ms) ≡ None
    → place ≡ codes "fs.mounts" → items_in (get_member (codes "mounts") ms) ≡ its → m ≡ root_of root → Checks (mounts_refusal place 0 its) (λ made. made.items ≡ m ∷ mounts_of its) r → Checks (mounting_refusal ms) (λ made. made.items ≡ mounting_of ms) r
unfolding mounting_of
mounts_listed {ms = ms} place its m r rooted none said are made =
    checks_as _ _ (mounts_refusal place 0 its) (mounting_refusal ms) r (list_decides _ rooted (behind _ _ _ none (or_none _ ∙ ap (mounts_refusal (codes "fs.mounts") 0) are ∙ ap (λ p. mounts_refusal p 0 its) (sym said))))
    (λ x e. e ∙ ap (λ f. f ∷ mounts_of its) (made ∙ ap root_of rooted.is_root) ∙ ap (λ ds. root_of (members_in (get_member (codes "root") ms)) ∷ mounts_of ds) (sym are))

pub none_listed : {ms root : Members} (m : Mount) → Rooted ms root → wants as_array (codes "fs.mounts") (get_member (codes "mounts") ms) ≡ None → items_in (get_member (codes "mounts") ms) ≡ no_items → m ≡ root_of root
    → (mounting_refusal ms ≡ None) × (m ∷ [] ≡ mounting_of ms)
unfolding mounting_of
none_listed {ms = ms} m rooted none are made = (
  list_decides None rooted (behind _ _ _ none (or_none _ ∙ ap (mounts_refusal (codes "fs.mounts") 0) are)),
  ap (λ f. f ∷ []) (made ∙ ap root_of rooted.is_root) ∙ ap (λ ds. root_of (members_in (get_member (codes "root") ms)) ∷ mounts_of ds) (sym are),
)

-- an item of the list of mounts is a table, of this type
pub record Typed (place : List ℕ) (d : Data) (kind : List ℕ) : Type 0 where
  pub form : needs as_table place (Some d) ≡ None
  pub kind_form : wants as_str (at_key place (codes "type")) (get (codes "type") d) ≡ None
  pub is_kind : kind ≡ type_text (get (codes "type") d)

pub kind_stops : (place : List ℕ) (d : Data) (fault : ManifestFault) → needs as_table place (Some d) ≡ None → wants as_str (at_key place (codes "type")) (get (codes "type") d) ≡ Some fault → mount_refusal place d ≡ Some fault
unfolding mount_refusal
kind_stops place d fault form e = behind _ _ _ form (first _ _ fault e)

typed_decides : {place : List ℕ} {d : Data} {kind : List ℕ} (o : Option ManifestFault) → Typed place d kind
    → option_or (path_refusal (at_key place (codes "path")) (get (codes "path") d)) (option_or (source_refusal kind (at_key place (codes "uri")) (get (codes "uri") d)) (option_or (wants as_str (at_key place (codes "key_name")) (get (codes "key_name") d)) None)) ≡ o
    → mount_refusal place d ≡ o
unfolding mount_refusal
typed_decides o typed e = behind _ _ _ typed.form (behind _ _ _ typed.kind_form (rw typed.is_kind at e))

pub path_stops : {place : List ℕ} {d : Data} {kind : List ℕ} (fault : ManifestFault) → Typed place d kind → path_refusal (at_key place (codes "path")) (get (codes "path") d) ≡ Some fault → mount_refusal place d ≡ Some fault
path_stops fault typed e = typed_decides _ typed (first _ _ fault e)

pub source_stops : {place : List ℕ} {d : Data} {kind : List ℕ} (fault : ManifestFault) → Typed place d kind → path_refusal (at_key place (codes "path")) (get (codes "path") d) ≡ None
    → source_refusal kind (at_key place (codes "uri")) (get (codes "uri") d) ≡ Some fault → mount_refusal place d ≡ Some fault
source_stops fault typed path e = typed_decides _ typed (behind _ _ _ path (first _ _ fault e))

pub key_decides : {place : List ℕ} {d : Data} {kind : List ℕ} (o : Option ManifestFault) → Typed place d kind → path_refusal (at_key place (codes "path")) (get (codes "path") d) ≡ None
    → source_refusal kind (at_key place (codes "uri")) (get (codes "uri") d) ≡ None → wants as_str (at_key place (codes "key_name")) (get (codes "key_name") d) ≡ o → mount_refusal place d ≡ o
key_decides o typed path source e = typed_decides o typed (behind _ _ _ path (behind _ _ _ source (or_none _ ∙ e)))

pub mount_made : (d : Data) (m : Mount) (kind : MountKind) (text path key : List ℕ) (name : Option (List ℕ)) → kind ≡ kind_of text → text ≡ type_text (get (codes "type") d) → path ≡ text_or [] (get (codes "path") d)
    → name ≡ file_name (text_or [] (get (codes "uri") d)) → key ≡ text_or (codes "default") (get (codes "key_name") d) → m ≡ record { kind = kind; path = normal path; name = name; key_name = key } → m ≡ mount_of d
unfolding mount_of
mount_made d m kind text path key name is_kind is_text is_path is_name is_key made = let e : kind ≡ kind_of (type_text (get (codes "type") d)) = is_kind ∙ ap kind_of is_text in made ∙ rw (e, is_path, is_name, is_key) refl
