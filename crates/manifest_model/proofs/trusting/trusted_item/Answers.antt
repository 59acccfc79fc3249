use Rattle.std.proofs.Common.{◌≡◌, ◌∙◌, None, option_map, sym, ap}
use Rattle.toml.specs.Data.{as_str}
use Rattle.toml.specs.View.{view}
use Rattle.manifest_model.specs.Places.{place_text}
use Rattle.manifest_model.specs.Fields.{wants, needs, field_in}
use Rattle.manifest_model.specs.Trusting.{uri_field, sum_field, sum_text, own_refusal}
use Rattle.manifest_model.proofs.Checking.{fails}
use Rattle.manifest_model.proofs.ItemRead.{Named, form_of_text, form_of_table, uri_is, text_stops, sum_decides, item_is}
use Rattle.manifest_model.proofs.Steps.{at_field}
use Rattle.manifest_model.proofs.trusting.trusted_item.Goals as goal
use Rattle.manifest_model.proofs.trusting.trusted_item.Goals.{In_ok-name, then-not-is_str+in_ok-need_table, else-not-is_str}

named : (c : In_ok-name) → Named (place_text c.args.place.now) (view c.args.item.now) c.in_ok-uri.uri.now
named c = record {
  form = elim c.if-not-is_str.branch [ then-not-is_str+in_ok-need_table w ↦ form_of_table _ _ c.is_str.result c.is_str.ensures w.if-not-is_str.true w.in_ok-need_table.ensures.0 | else-not-is_str w ↦ form_of_text _ _ c.is_str.result c.is_str.ensures w.if-not-is_str.false ];
  needed = at_field (needs as_str) _ _ c.uri_field.result (uri_field (view c.args.item.now)) None c.uri_field.ensures c.in_ok-uri.ensures.0;
  is_uri = uri_is (view c.args.item.now) c.in_ok-uri.uri.now c.uri_field.result c.uri_field.ensures c.in_ok-uri.ensures.1;
  names = c.in_ok-name.ensures.0;
}

pub returns-in_err-text : goal.returns-in_err-text
returns-in_err-text c =
    fails _ _ (own_refusal (place_text c.args.place.now) (view c.args.item.now)) c.from_residual-in_err-text.result c.in_err-text.field-0.0
    (λ f e. text_stops f (named (goal.at.returns-in_err-text c).In_ok-name) (at_field (wants as_str) _ _ c.get-sum_field.result (sum_field (view c.args.item.now)) _ c.get-sum_field.ensures e))
    c.from_residual-in_err-text.ensures.1 c.in_err-text.ensures

pub returns-in_err-sum : goal.returns-in_err-sum
returns-in_err-sum c =
    let none = at_field (wants as_str) _ _ c.get-sum_field.result (sum_field (view c.args.item.now)) None c.get-sum_field.ensures c.in_ok-text.ensures.0 in
    let is_text : sum_text (view c.args.item.now) ≡ option_map (λ t. t.now) c.in_ok-text.text = ap (field_in as_str) (sym c.get-sum_field.ensures) ∙ sym c.in_ok-text.ensures.1 in
    fails _ _ (own_refusal (place_text c.args.place.now) (view c.args.item.now)) c.from_residual-in_err-sum.result c.in_err-sum.field-0.0
    (λ f e. sum_decides _ _ (named (goal.at.returns-in_err-sum c).In_ok-name) none is_text e) c.from_residual-in_err-sum.ensures.1 c.in_err-sum.ensures

pub returns : goal.returns
returns c =
    let there = named (goal.at.returns c).In_ok-name in
    let none = at_field (wants as_str) _ _ c.get-sum_field.result (sum_field (view c.args.item.now)) None c.get-sum_field.ensures c.in_ok-text.ensures.0 in
    let is_text : sum_text (view c.args.item.now) ≡ option_map (λ t. t.now) c.in_ok-text.text = ap (field_in as_str) (sym c.get-sum_field.ensures) ∙ sym c.in_ok-text.ensures.1 in (
      sum_decides None _ there none is_text c.in_ok-sum.ensures.0,
      item_is (view c.args.item.now) c.in_ok-uri.uri.now c.in_ok-name.name.now c.in_ok-copy.field-0 c.in_ok-normal_name.field-0 c.in_ok-sum.sum _ there.is_uri c.in_ok-name.ensures.1 is_text c.in_ok-copy.ensures c.in_ok-normal_name.ensures c.in_ok-sum.ensures.1,
    )
