use Rattle.std.proofs.Common.{◌≡◌}
use Rattle.toml.specs.View.{members_view}
use Rattle.manifest_model.specs.Places.{place_text}
use Rattle.manifest_model.specs.Listed.{keys_refusal}
use Rattle.manifest_model.proofs.listing.check_each.Given as goal

abbrev pub invariant-loop-name : goal.invariant-loop-name
invariant-loop-name l =
    (goal.iterator-loop-name).can_next l.name-iterator ×
    (goal.iterator-loop-name).is_finite l.name-iterator ×
    (keys_refusal (place_text l.place) (members_view l.keys.entries) ≡ keys_refusal (place_text l.place) (members_view l.name-iterator))
