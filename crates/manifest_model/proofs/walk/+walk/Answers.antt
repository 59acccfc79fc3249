use Rattle.std.proofs.Common.{◌≡◌, ◌∙◌, None, sym, ap}
use Rattle.toml.specs.View.{view, items_view, array_view}
use Rattle.manifest_model.specs.Places.{place_text, at_item}
use Rattle.manifest_model.specs.Walk.{walk, walk_items}
use Rattle.manifest_model.proofs.Checking.{fails}
use Rattle.manifest_model.proofs.Steps.{place_text-Item}
use Rattle.manifest_model.proofs.Walking.{walk-Array, walk-Table, walk_next, walk_stops}
use Rattle.manifest_model.proofs.walk.+walk.Goals as goal

pub walk-returns-in-Table : goal.walk-returns-in-Table
walk-returns-in-Table t c = walk-Table _ c.args.depth (place_text c.args.place.now) c.args.value.now c.in-Table.members c.walk_members.result c.if-depth-gt-DEEPEST.false c.in-Table.is c.walk_members.ensures

pub walk-returns-in-Array : goal.walk-returns-in-Array
walk-returns-in-Array t c = walk-Array _ c.args.depth (place_text c.args.place.now) c.args.value.now c.in-Array.items c.walk_items.result c.if-depth-gt-DEEPEST.false c.in-Array.is c.walk_items.ensures

pub walk_items-items-preserved : goal.walk_items-items-preserved
walk_items-items-preserved t c =
    let place = place_text c.args.place.now in
    let none : walk c.args.depth (at_item place c.items.k) (view c.item-item.result) ≡ None = sym (ap (λ p. walk c.args.depth p (view c.item-item.result)) (place_text-Item _ c.items.k)) ∙ c.in_ok-walk.ensures.0 in
    c.items.invariant ∙ walk_next c.args.depth place c.deref-item-items.result.now c.items.k c.item-item.result c.items-test.true c.item-item.is none

pub walk_items-returns-in_err-walk : goal.walk_items-returns-in_err-walk
walk_items-returns-in_err-walk t c =
    let place = place_text c.args.place.now in
    let vs = c.deref-item-items.result.now in
    let v = view c.item-item.result in
    let whole : walk_items c.args.depth place 0 (array_view c.args.items.now) ≡ walk_items c.args.depth place 0 (items_view vs) = ap (λ ws. walk_items c.args.depth place 0 (items_view ws)) (sym c.deref-item-items.ensures.value) in
    fails _ _ (walk_items c.args.depth place 0 (array_view c.args.items.now)) c.from_residual.result c.in_err-walk.field-0.0
    (λ f refused. whole ∙ c.items.invariant ∙ walk_stops c.args.depth place vs c.items.k c.item-item.result f c.items-test.true c.item-item.is (sym (ap (λ p. walk c.args.depth p v) (place_text-Item _ c.items.k)) ∙ refused))
    c.from_residual.ensures.1 c.in_err-walk.ensures
