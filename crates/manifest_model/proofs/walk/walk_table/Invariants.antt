use Rattle.std.proofs.Common.{◌≡◌, []}
use Rattle.toml.specs.View.{members_view}
use Rattle.manifest_model.specs.Walk.{walk_members}
use Rattle.manifest_model.proofs.walk.walk_table.Given as goal

abbrev pub invariant-loop-key : goal.invariant-loop-key
invariant-loop-key l =
    (goal.iterator-loop-key).can_next l.key-iterator ×
    (goal.iterator-loop-key).is_finite l.key-iterator ×
    (walk_members 1 [] (members_view l.table.entries) ≡ walk_members 1 [] (members_view l.key-iterator))
