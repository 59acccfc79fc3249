-- Fields of a table: what is refused of one, and what is taken from it.
use Rattle.std.specs.Prelude.{ℕ, if◌then◌else◌, List, Option, Some, None, is_some, option_map, Result, Ok, Err}
use Rattle.hex.specs.Hex.{decode_sized}
use Rattle.hex.specs.declared.error.FromHexError.{FromHexError}
use denote.Ref.{Bor}
use Rattle.toml.specs.View.{view}
use Rattle.toml.specs.declared.value.Value.{Value}
use Rattle.toml.specs.Data.{Data, Items, no_items, Members, no_members, as_str, as_table, as_array}
use Rattle.manifest_model.specs.declared.fault.ManifestFault.{ManifestFault}
use Rattle.manifest_model.specs.Places.{bad_field}

-- what a reference that may be absent stands for
abbrev pub seen_value : Option (Bor Value) → Option Data
seen_value field = option_map (λ value. view value.now) field

-- where there, the value has the wanted form
abbrev pub wants : {A : Type 0} → (Data → Option A) → List ℕ → Option Data → Option ManifestFault
wants as_form place None = None
wants as_form place (Some d) = if is_some (as_form d) then None else bad_field place

-- the value is there and has the wanted form
abbrev pub needs : {A : Type 0} → (Data → Option A) → List ℕ → Option Data → Option ManifestFault
needs as_form place None = bad_field place
needs as_form place (Some d) = if is_some (as_form d) then None else bad_field place

-- what a field has in the wanted form, where it has that
abbrev pub field_in : {A : Type 0} → (Data → Option A) → Option Data → Option A
field_in as_form None = None
field_in as_form (Some d) = as_form d

abbrev pub or_else : {A : Type 0} → Option A → A → A
or_else None default = default
or_else (Some x) default = x

-- the text of a field, or a default
abbrev pub text_or : List ℕ → Option Data → List ℕ
text_or default field = or_else (field_in as_str field) default

-- the members of a table, and none where there is no table
abbrev pub members_in : Option Data → Members
members_in field = or_else (field_in as_table field) no_members

-- the items of a list, and none where there is no list
abbrev pub items_in : Option Data → Items
items_in field = or_else (field_in as_array field) no_items

abbrev pub ok : {A : Type 0} → Result A FromHexError → Option A
ok (Ok x) = Some x
ok (Err e) = None

-- the n bytes that a text of 2·n hexadecimal digits spells
abbrev pub bytes_of : ℕ → List ℕ → Option (List ℕ)
bytes_of n text = ok (decode_sized text n)
