-- Entries that grow by one item after another, and an index of them by name.
use Rattle.std.specs.Prelude.{◌≡◌, ℕ, suc, if◌then◌else◌, List, [], ◌∷◌, Option, Some, None, option_map, bytes_eq, String}
use Rattle.std.specs.Option.{option_or}
use Rattle.std.specs.BTreeMap.{BTreeMap, get_by_text}
use Rattle.std.specs.declared.alloc.Global.{Global}
use Rattle.manifest_model.specs.declared.entries.Trusted.{Trusted}
use Rattle.manifest_model.specs.declared.fault.ManifestFault.{ManifestFault}
use Rattle.manifest_model.specs.declared.fault.ManifestFault.TheVariants as faults
use Rattle.manifest_model.specs.Trusting.{differ}

-- an item clashes with the sum of its entry
abbrev pub clash : Option (List ℕ) → Trusted → Option ManifestFault
clash sum t = if differ sum t.sum then Some (faults.TwoSums t.uri) else None

-- an entry with a further item of its name
abbrev pub joined : Trusted → Trusted → Trusted
joined e t = record e { sum = option_or e.sum t.sum }

-- entries with a further item: joined to the first of its name, or at the end
abbrev pub added : List Trusted → Trusted → List Trusted
added [] t = t ∷ []
added (e ∷ es) t = if bytes_eq t.name e.name then joined e t ∷ es else e ∷ added es t

-- the place of the first entry of a name, and its sum
abbrev pub place_of : List ℕ → List Trusted → Option ℕ
place_of name [] = None
place_of name (e ∷ es) = if bytes_eq name e.name then Some 0 else option_map suc (place_of name es)

abbrev pub entry_sum : List ℕ → List Trusted → Option (List ℕ)
entry_sum name [] = None
entry_sum name (e ∷ es) = if bytes_eq name e.name then e.sum else entry_sum name es

-- the index finds the first entry of each name
abbrev pub Finds : List Trusted → BTreeMap (String Global) ℕ → Type 0
Finds es index = (name : List ℕ) → get_by_text index name ≡ place_of name es
