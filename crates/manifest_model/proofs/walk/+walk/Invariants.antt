use Rattle.std.proofs.Common.{◌≡◌, drop, codes, ◌++◌}
use Rattle.toml.specs.View.{items_view, members_view}
use Rattle.manifest_model.specs.Places.{place_text}
use Rattle.manifest_model.specs.Walk.{walk_items, walk_members}
use Rattle.manifest_model.proofs.walk.+walk.Given as goal

abbrev pub invariant-walk_items-items : goal.invariant-walk_items-items
invariant-walk_items-items l = walk_items l.depth (place_text l.place) 0 (items_view l.item-items) ≡ walk_items l.depth (place_text l.place) l.k (items_view (drop l.k l.item-items))

abbrev pub invariant-walk_members-members : goal.invariant-walk_members-members
invariant-walk_members-members l =
    (goal.iterator-walk_members-members).can_next l.key-iterator ×
    (goal.iterator-walk_members-members).is_finite l.key-iterator ×
    (walk_members l.depth (place_text l.place ++ codes ".") (members_view l.members.entries) ≡ walk_members l.depth (place_text l.place ++ codes ".") (members_view l.key-iterator))
