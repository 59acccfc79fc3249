use Rattle.std.proofs.Common.{◌≡◌, ◌∙◌, [], List, take, None, sym, ap, refl, rules}
use Rattle.toml.specs.View.{view, items_view, array_view}
use Rattle.manifest_model.specs.declared.entries.Trusted.{Trusted}
use Rattle.manifest_model.specs.Places.{place_text, at_item}
use Rattle.manifest_model.specs.Trusting.{own_refusal, item_of, items_of, items_refusal, entries_of}
use Rattle.manifest_model.specs.Indexing.{clash, entry_sum}
use Rattle.manifest_model.proofs.Checking.{fails}
use Rattle.manifest_model.proofs.Entered.{added-entries}
use Rattle.manifest_model.proofs.Steps.{place_text-Item, items_more, own_refused, sum_refused, items_step}
use Rattle.manifest_model.proofs.trusting.trusted_items.Goals as goal

pub loop-k-init : goal.loop-k-init
unfolding entries_of
loop-k-init c = record { refused = refl; entries = search rules; found = λ name. rw (c.new-index.ensures.empty, c.new-entries.ensures.items) refl }

pub returns-in_err-item : goal.returns-in_err-item
returns-in_err-item c =
    let vs = c.deref-item-items.result.now in
    let before : List Trusted = items_of (items_view (take c.loop-k.k vs)) in
    let whole : items_refusal [] (place_text c.args.place.now) 0 (array_view c.args.items.now) ≡ items_refusal [] (place_text c.args.place.now) 0 (items_view vs) = ap (λ ws. items_refusal [] (place_text c.args.place.now) 0 (items_view ws)) (sym c.deref-item-items.ensures.value) in
    fails _ (own_refusal (place_text _) (view c.item-item.result)) (items_refusal [] (place_text c.args.place.now) 0 (array_view c.args.items.now)) c.from_residual.result c.in_err-item.field-0.0
    (λ f refused. whole ∙ c.loop-k.invariant.refused ∙ own_refused before (place_text c.args.place.now) vs c.loop-k.k c.item-item.result f c.loop-k-test.true c.item-item.is (rw place_text-Item at refused)) c.from_residual.ensures.1 c.in_err-item.ensures

pub returns-in_err-add : goal.returns-in_err-add
returns-in_err-add c =
    let vs = c.deref-item-items.result.now in
    let before : List Trusted = items_of (items_view (take c.loop-k.k vs)) in
    let none : own_refusal (at_item (place_text c.args.place.now) c.loop-k.k) (view c.item-item.result) ≡ None = rw place_text-Item at c.in_ok-item.ensures.0 in
    let whole : items_refusal [] (place_text c.args.place.now) 0 (array_view c.args.items.now) ≡ items_refusal [] (place_text c.args.place.now) 0 (items_view vs) = ap (λ ws. items_refusal [] (place_text c.args.place.now) 0 (items_view ws)) (sym c.deref-item-items.ensures.value) in
    fails _ (clash (entry_sum c.in_ok-item.item.name c.loop-k.entries.items) c.in_ok-item.item) (items_refusal [] (place_text c.args.place.now) 0 (array_view c.args.items.now)) c.from_residual-in_err-add.result c.in_err-add.field-0.0
    (λ f refused. whole ∙ c.loop-k.invariant.refused ∙ sum_refused before (place_text c.args.place.now) vs c.loop-k.k c.item-item.result c.in_ok-item.item c.loop-k.entries.items f c.loop-k-test.true c.item-item.is none c.in_ok-item.ensures.1 c.loop-k.invariant.entries refused)
    c.from_residual-in_err-add.ensures.1 c.in_err-add.ensures

pub loop-k-preserved : goal.loop-k-preserved
loop-k-preserved c =
    let vs = c.deref-item-items.result.now in
    let v = c.item-item.result in
    let before : List Trusted = items_of (items_view (take c.loop-k.k vs)) in
    let none : own_refusal (at_item (place_text c.args.place.now) c.loop-k.k) (view v) ≡ None = rw place_text-Item at c.in_ok-item.ensures.0 in
    let more = items_more vs c.loop-k.k v c.loop-k-test.true c.item-item.is in
    let after = c.in_ok-add.ensures in
    record {
      refused = c.loop-k.invariant.refused ∙ items_step before (place_text c.args.place.now) vs c.loop-k.k v c.in_ok-item.item c.loop-k.entries.items c.loop-k-test.true c.item-item.is none c.in_ok-item.ensures.1 c.loop-k.invariant.entries after.0 ∙ rw more refl;
      entries = after.1 ∙ rw (c.loop-k.invariant.entries, c.in_ok-item.ensures.1) (added-entries before (item_of (view v))) ∙ ap entries_of (sym more);
      found = after.2;
    }
