-- An item of the trusted files, check by check.
use Rattle.std.proofs.Common.{◌≡◌, ◌∙◌, Bool, true, false, List, [], ℕ, codes, Option, Some, None, is_some, Bor, refl, sym, ap}
use Rattle.std.specs.Option.{option_or}
use Rattle.toml.specs.Data.{Data, as_str, as_table}
use Rattle.toml.specs.declared.value.Value.{Value}
use Rattle.manifest_model.specs.declared.entries.Trusted.{Trusted}
use Rattle.manifest_model.specs.declared.fault.ManifestFault.{ManifestFault}
use Rattle.manifest_model.specs.Names.{normal, file_name}
use Rattle.manifest_model.specs.Places.{at_key}
use Rattle.manifest_model.specs.Fields.{wants, needs, field_in, or_else, seen_value}
use Rattle.manifest_model.specs.Trusting.{item_form, uri_field, uri_text, file_refusal, sum_field, sum_text, sum_refusal, sum_of, own_refusal, item_of}
use Rattle.manifest_model.proofs.Checking.{first, behind, or_none}

pub form_of_text : (place : List ℕ) (d : Data) (told : Bool) → told ≡ is_some (as_str d) → told ≡ true → item_form place d ≡ None
form_of_text place d told is text = let e : is_some (as_str d) ≡ true = sym is ∙ text in rw e refl

pub form_of_table : (place : List ℕ) (d : Data) (told : Bool) → told ≡ is_some (as_str d) → told ≡ false → needs as_table place (Some d) ≡ None → item_form place d ≡ None
form_of_table place d told is other none = let e : is_some (as_str d) ≡ false = sym is ∙ other in rw e none

-- it has a uri that names a file
pub record Named (place : List ℕ) (d : Data) (uri : List ℕ) : Type 0 where
  pub form : item_form place d ≡ None
  pub needed : needs as_str (at_key place (codes "uri")) (uri_field d) ≡ None
  pub is_uri : uri_text d ≡ uri
  pub names : file_refusal uri ≡ None

pub uri_is : (d : Data) (uri : List ℕ) (seen : Option (Bor Value)) → seen_value seen ≡ uri_field d → Some uri ≡ field_in as_str (seen_value seen) → uri_text d ≡ uri
uri_is d uri seen is e = ap (λ o. or_else o []) (ap (field_in as_str) (sym is) ∙ sym e)

named_decide : {place : List ℕ} {d : Data} {uri : List ℕ} (o : Option ManifestFault) → Named place d uri → option_or (wants as_str (at_key place (codes "sha256")) (sum_field d)) (option_or (sum_refusal (uri_text d) (sum_text d)) None) ≡ o → own_refusal place d ≡ o
unfolding own_refusal
named_decide o named e = behind _ _ _ named.form (behind _ _ _ named.needed (behind _ _ _ (ap file_refusal named.is_uri ∙ named.names) e))

pub text_stops : {place : List ℕ} {d : Data} {uri : List ℕ} (fault : ManifestFault) → Named place d uri → wants as_str (at_key place (codes "sha256")) (sum_field d) ≡ Some fault → own_refusal place d ≡ Some fault
text_stops fault named e = named_decide _ named (first _ _ fault e)

pub sum_decides : {place : List ℕ} {d : Data} {uri : List ℕ} (o : Option ManifestFault) (text : Option (List ℕ)) → Named place d uri → wants as_str (at_key place (codes "sha256")) (sum_field d) ≡ None → sum_text d ≡ text → sum_refusal uri text ≡ o → own_refusal place d ≡ o
sum_decides o text named none is e = named_decide o named (behind _ _ _ none (or_none _ ∙ rw (named.is_uri, is) e))

pub item_is : (d : Data) (uri name copy made : List ℕ) (sum text : Option (List ℕ)) → uri_text d ≡ uri → file_name uri ≡ Some name → sum_text d ≡ text → copy ≡ uri → made ≡ normal name → sum ≡ sum_of text
    → ◌≡◌ {A = Trusted} (record { uri = copy; name = made; sum = sum }) (item_of d)
unfolding item_of
item_is d uri name copy made sum text is_uri names is_text copied normed summed =
    let a : copy ≡ uri_text d = copied ∙ sym is_uri in
    let b : made ≡ normal (or_else (file_name (uri_text d)) []) = normed ∙ ap (λ o. normal (or_else o [])) (sym (ap file_name is_uri ∙ names)) in
    let e : sum ≡ sum_of (sum_text d) = summed ∙ ap sum_of (sym is_text) in
    rw (a, b, e) refl
