-- The trusted files of a table.
use Rattle.std.specs.Prelude.{ℕ, ◌+◌, Bool, false, not, ◌&&◌, if◌then◌else◌, List, [], ◌∷◌, ◌++◌, map, filter, codes, bytes_eq, Option, Some, None, is_some}
use Rattle.std.specs.Option.{option_or}
use Rattle.toml.specs.Data.{Data, string, Items, no_items, item, as_str, as_table, get}
use Rattle.manifest_model.specs.declared.entries.Trusted.{Trusted}
use Rattle.manifest_model.specs.declared.fault.ManifestFault.{ManifestFault}
use Rattle.manifest_model.specs.declared.fault.ManifestFault.TheVariants as faults
use Rattle.manifest_model.specs.Names.{normal, file_name, is_name, ends_in_slash}
use Rattle.manifest_model.specs.Places.{at_key, at_item, first_of}
use Rattle.manifest_model.specs.Fields.{wants, needs, field_in, or_else, text_or, bytes_of}

-- an item is a string, which is its uri, or a table with a uri and maybe a sum
abbrev pub item_form : List ℕ → Data → Option ManifestFault
item_form place d = if is_some (as_str d) then None else needs as_table place (Some d)

abbrev pub uri_field : Data → Option Data
uri_field (string s) = Some (string s)
uri_field d = get (codes "uri") d

abbrev pub sum_field : Data → Option Data
sum_field d = get (codes "sha256") d

abbrev pub uri_text : Data → List ℕ
uri_text d = text_or [] (uri_field d)

-- `file:`, and a name of a file that does not end in a slash
abbrev pub is_file : Option (List ℕ) → Bool
is_file None = false
is_file (Some name) = is_name name && not (ends_in_slash name)

abbrev pub file_refusal : List ℕ → Option ManifestFault
file_refusal uri = if is_file (file_name uri) then None else Some (faults.BadUri uri)

abbrev pub sum_text : Data → Option (List ℕ)
sum_text d = field_in as_str (sum_field d)

-- the sum that a text spells: 64 hexadecimal digits of either case
abbrev pub sum_of : Option (List ℕ) → Option (List ℕ)
sum_of None = None
sum_of (Some text) = bytes_of 32 text

abbrev pub sum_refusal : List ℕ → Option (List ℕ) → Option ManifestFault
sum_refusal uri None = None
sum_refusal uri (Some text) = if is_some (bytes_of 32 text) then None else Some (faults.BadSum uri)

-- an item by itself: its uri as it stands there, the normal form of its name, and its sum
unfoldable pub item_of : Data → Trusted
item_of d = record { uri = uri_text d; name = normal (or_else (file_name (uri_text d)) []); sum = sum_of (sum_text d) }

-- the first sum among the items of a name
abbrev pub sum_in : List ℕ → List Trusted → Option (List ℕ)
sum_in name [] = None
sum_in name (t ∷ ts) = if bytes_eq name t.name then option_or t.sum (sum_in name ts) else sum_in name ts

abbrev pub differ : Option (List ℕ) → Option (List ℕ) → Bool
differ (Some a) (Some b) = not (bytes_eq a b)
differ (Some a) None = false
differ None b = false

-- an item that names another sum than the items before it
abbrev pub two_sums : List Trusted → Trusted → Option ManifestFault
two_sums before t = if differ (sum_in t.name before) t.sum then Some (faults.TwoSums t.uri) else None

-- why an item is refused by itself
unfoldable pub own_refusal : List ℕ → Data → Option ManifestFault
own_refusal place d = first_of (
    item_form place d
    ∷ needs as_str (at_key place (codes "uri")) (uri_field d)
    ∷ file_refusal (uri_text d)
    ∷ wants as_str (at_key place (codes "sha256")) (sum_field d)
    ∷ sum_refusal (uri_text d) (sum_text d)
    ∷ [])

-- why an item is refused behind others
abbrev pub item_refusal : List Trusted → List ℕ → Data → Option ManifestFault
item_refusal before place d = option_or (own_refusal place d) (two_sums before (item_of d))

-- the first item that is refused, from the k-th on
abbrev pub items_refusal : List Trusted → List ℕ → ℕ → Items → Option ManifestFault
items_refusal before place k no_items = None
items_refusal before place k (item d ds) = option_or (item_refusal before (at_item place k) d) (items_refusal (before ++ item_of d ∷ []) place (k + 1) ds)

-- the items, each by itself
abbrev pub items_of : Items → List Trusted
items_of no_items = []
items_of (item d ds) = item_of d ∷ items_of ds

abbrev pub is_other : Trusted → Trusted → Bool
is_other t u = not (bytes_eq t.name u.name)

-- the first item of each name
abbrev pub firsts : List Trusted → List Trusted
firsts [] = []
firsts (t ∷ ts) = t ∷ filter (is_other t) (firsts ts)

-- an item, with the first sum among the items of its name
abbrev pub summed_by : List Trusted → Trusted → Trusted
summed_by ts t = record t { sum = sum_in t.name ts }

-- The entries: the first item of each name, with the first sum among the items of that name.
unfoldable pub entries_of : List Trusted → List Trusted
entries_of ts = map (summed_by ts) (firsts ts)

-- the items of a name, in their order
abbrev pub named : List ℕ → List Trusted → List Trusted
named name ts = filter (λ t. bytes_eq name t.name) ts
