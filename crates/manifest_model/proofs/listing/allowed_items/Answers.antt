use Rattle.std.proofs.Common.{◌≡◌, ◌∙◌, None, sym, ap}
use Rattle.toml.specs.View.{view, items_view, array_view}
use Rattle.manifest_model.specs.Places.{place_text, at_item}
use Rattle.manifest_model.specs.Listed.{allowed_item_refusal, allowed_items_refusal}
use Rattle.manifest_model.proofs.Checking.{fails}
use Rattle.manifest_model.proofs.Steps.{place_text-Item, allowed_more, allowed_stops_at, allowed_next}
use Rattle.manifest_model.proofs.listing.allowed_items.Goals as goal

pub loop-k-preserved : goal.loop-k-preserved
loop-k-preserved c =
    let vs = c.deref-item-items.result.now in
    let k = c.loop-k.k in
    let v = c.item-item.result in
    let none : allowed_item_refusal (at_item (place_text c.args.place.now) k) (view v) ≡ None = rw place_text-Item at c.in_ok-allowed_item.ensures.0 in
    record {
      refused = c.loop-k.invariant.refused ∙ allowed_next (place_text c.args.place.now) vs k v c.loop-k-test.true c.item-item.is none;
      uris = c.in_ok-push.ensures.items ∙ rw (c.loop-k.invariant.uris, c.in_ok-allowed_item.ensures.1) (sym (allowed_more vs k v c.loop-k-test.true c.item-item.is));
    }

pub returns-in_err-allowed_item : goal.returns-in_err-allowed_item
returns-in_err-allowed_item c =
    let place = place_text c.args.place.now in
    let vs = c.deref-item-items.result.now in
    let v = view c.item-item.result in
    let whole : allowed_items_refusal place 0 (array_view c.args.items.now) ≡ allowed_items_refusal place 0 (items_view vs) = ap (λ ws. allowed_items_refusal place 0 (items_view ws)) (sym c.deref-item-items.ensures.value) in
    fails _ _ (allowed_items_refusal place 0 (array_view c.args.items.now)) c.from_residual.result c.in_err-allowed_item.field-0.0
    (λ f refused. whole ∙ c.loop-k.invariant.refused ∙ allowed_stops_at place vs c.loop-k.k c.item-item.result f c.loop-k-test.true c.item-item.is (sym (ap (λ p. allowed_item_refusal p v) (place_text-Item _ c.loop-k.k)) ∙ refused)) c.from_residual.ensures.1 c.in_err-allowed_item.ensures
