-- The walk, value by value.
use Rattle.std.proofs.Common.{◌≡◌, ◌∙◌, ◌+◌, ◌<◌, ◌≤◌, ℕ, List, ◌++◌, length, get_or, drop, codes, Some, None, Result, refl, sym, ap, subst, rules}
use Rattle.toml.specs.View.{view, items_view, array_view, table_view}
use Rattle.toml.specs.declared.value.Value.{Value, Array, Table}
use Rattle.toml.proofs.Views.{view-Array, view-Table}
use Rattle.manifest_model.specs.declared.fault.ManifestFault.{ManifestFault}
use Rattle.manifest_model.specs.Places.{at_item, Checks}
use Rattle.manifest_model.specs.Walk.{too_deep, walk, walk_items, walk_members}
use Rattle.manifest_model.proofs.Checking.{first, behind}
use Rattle.manifest_model.proofs.Steps.{items_at}

shallow : (depth : ℕ) (place : List ℕ) → depth ≤ 32 → too_deep depth place ≡ None
shallow depth place within = search rules

pub walk-Array : (P : Unit {0} → Type 0) (depth : ℕ) (place : List ℕ) (v : Value) (vs : _) (r : Result (Unit {0}) ManifestFault) → depth ≤ 32 → v ≡ Array vs → Checks (walk_items (depth + 1) place 0 (array_view vs)) P r → Checks (walk depth place (view v)) P r
walk-Array P depth place v vs r within is = subst (λ w. Checks w P r) (sym (ap (λ u. walk depth place (view u)) is ∙ ap (walk depth place) (view-Array vs) ∙ behind _ _ _ (shallow depth place within) refl))

pub walk-Table : (P : Unit {0} → Type 0) (depth : ℕ) (place : List ℕ) (v : Value) (ms : _) (r : Result (Unit {0}) ManifestFault) → depth ≤ 32 → v ≡ Table ms → Checks (walk_members (depth + 1) (place ++ codes ".") (table_view ms)) P r → Checks (walk depth place (view v)) P r
walk-Table P depth place v ms r within is = subst (λ w. Checks w P r) (sym (ap (λ u. walk depth place (view u)) is ∙ ap (walk depth place) (view-Table ms) ∙ behind _ _ _ (shallow depth place within) refl))

pub walk_next : (depth : ℕ) (place : List ℕ) (vs : List Value) (k : ℕ) (v : Value) → k < length vs → v ≡ get_or vs k v → walk depth (at_item place k) (view v) ≡ None
    → walk_items depth place k (items_view (drop k vs)) ≡ walk_items depth place (k + 1) (items_view (drop (k + 1) vs))
walk_next depth place vs k v l is none = ap (walk_items depth place k) (items_at vs k v l is) ∙ behind _ _ _ none refl

pub walk_stops : (depth : ℕ) (place : List ℕ) (vs : List Value) (k : ℕ) (v : Value) (fault : ManifestFault) → k < length vs → v ≡ get_or vs k v → walk depth (at_item place k) (view v) ≡ Some fault → walk_items depth place k (items_view (drop k vs)) ≡ Some fault
walk_stops depth place vs k v fault l is refused = ap (walk_items depth place k) (items_at vs k v l is) ∙ first _ _ fault refused
