-- Where a value stands in a table, and the first of several refusals.
use Rattle.std.specs.Prelude.{◌≡◌, ◌⊎◌, ℕ, List, [], ◌∷◌, ◌++◌, codes, decimal, Option, Some, None, Result, MatchResult}
use Rattle.std.specs.Option.{option_or}
use Rattle.manifest_model.specs.declared.places.Place.{Place, fold-Place}
use Rattle.manifest_model.specs.declared.places.Place.TheOpen.{Place-F}
use Rattle.manifest_model.specs.declared.fault.ManifestFault.{ManifestFault}
use Rattle.manifest_model.specs.declared.fault.ManifestFault.TheVariants as faults

-- the place of a key's value in the table at a place
abbrev pub at_key : List ℕ → List ℕ → List ℕ
at_key place key = place ++ (codes "." ++ key)

-- the place of an item of the list at a place, counted from 0
abbrev pub at_item : List ℕ → ℕ → List ℕ
at_item place k = place ++ (codes "[" ++ (decimal k ++ codes "]"))

-- the value at a place is refused
abbrev pub bad_field : List ℕ → Option ManifestFault
bad_field place = Some (faults.BadField place)

-- the first of some checks that refuses
abbrev pub first_of : List (Option ManifestFault) → Option ManifestFault
first_of [] = None
first_of (check ∷ checks) = option_or check (first_of checks)

-- the place that the code keeps
abbrev pub place_step : Place-F (List ℕ) → List ℕ
place_step (Place-F.Path keys) = keys.now
place_step (Place-F.Key outer key) = at_key outer.now key.now
place_step (Place-F.Item outer k) = at_item outer.now k

abbrev pub place_text : Place → List ℕ
place_text = fold-Place (List ℕ) place_step

-- a check ended in a fault: want of memory, or its refusal
abbrev pub Stops : Option ManifestFault → ManifestFault → Type 0
Stops refusal fault = (fault ≡ faults.Memory) ⊎ (refusal ≡ Some fault)

-- what a check answers: a value of which P holds where nothing is refused
abbrev pub Checks : {A : Type 0} → Option ManifestFault → (A → Type 0) → Result A ManifestFault → Type 0
Checks refusal P result = MatchResult result (λ x. (refusal ≡ None) × P x) (Stops refusal)
