use Rattle.std.proofs.Common.{◌∙◌, [], None, ap, codes}
use Rattle.toml.specs.Data.{as_str, get}
use Rattle.toml.specs.View.{view}
use Rattle.manifest_model.specs.Names.{file_name}
use Rattle.manifest_model.specs.Places.{place_text}
use Rattle.manifest_model.specs.Fields.{wants, text_or}
use Rattle.manifest_model.specs.Mounting.{mount_refusal, path_refusal, source_refusal}
use Rattle.manifest_model.proofs.Checking.{fails}
use Rattle.manifest_model.proofs.Steps.{at_field}
use Rattle.manifest_model.proofs.MountRead.{Typed, kind_stops, path_stops, source_stops, key_decides, mount_made}
use Rattle.manifest_model.proofs.mounting.mount_item.Goals as goal
use Rattle.manifest_model.proofs.mounting.mount_item.Goals.{In_ok-kind}

typed : (c : In_ok-kind) → Typed (place_text c.args.place.now) (view c.args.item.now) c.in_ok-kind.kind.now
typed c = record {
  form = c.in_ok-need_table.ensures.0;
  kind_form = at_field (wants as_str) _ _ c.get.result (get (codes "type") (view c.args.item.now)) None c.get.ensures c.in_ok-kind.ensures.0;
  is_kind = c.in_ok-kind.ensures.1 ∙ ap (text_or (codes "chroot")) c.get.ensures;
}

pub returns-in_err-kind : goal.returns-in_err-kind
returns-in_err-kind c =
    fails _ _ (mount_refusal (place_text c.args.place.now) (view c.args.item.now)) c.from_residual-in_err-kind.result c.in_err-kind.field-0.0
    (λ f e. kind_stops _ _ f c.in_ok-need_table.ensures.0 (at_field (wants as_str) _ _ c.get.result (get (codes "type") (view c.args.item.now)) _ c.get.ensures e)) c.from_residual-in_err-kind.ensures.1 c.in_err-kind.ensures

pub returns-in_err-path : goal.returns-in_err-path
returns-in_err-path c =
    fails _ _ (mount_refusal (place_text c.args.place.now) (view c.args.item.now)) c.from_residual-in_err-path.result c.in_err-path.field-0.0
    (λ f e. path_stops f (typed (goal.at.returns-in_err-path c).In_ok-kind) (at_field path_refusal _ _ c.get-2.result (get (codes "path") (view c.args.item.now)) _ c.get-2.ensures e)) c.from_residual-in_err-path.ensures.1 c.in_err-path.ensures

pub returns-in_err-name : goal.returns-in_err-name
returns-in_err-name c =
    let d = view c.args.item.now in
    let path = at_field path_refusal _ _ c.get-2.result (get (codes "path") d) None c.get-2.ensures c.in_ok-path.ensures.0 in
    fails _ _ (mount_refusal (place_text c.args.place.now) d) c.from_residual-in_err-name.result c.in_err-name.field-0.0
    (λ f e. source_stops f (typed (goal.at.returns-in_err-name c).In_ok-kind) path (at_field (source_refusal c.in_ok-kind.kind.now) _ _ c.get-3.result (get (codes "uri") d) _ c.get-3.ensures e)) c.from_residual-in_err-name.ensures.1
    c.in_err-name.ensures

pub returns-in_err-key_name : goal.returns-in_err-key_name
returns-in_err-key_name c =
    let d = view c.args.item.now in
    let path = at_field path_refusal _ _ c.get-2.result (get (codes "path") d) None c.get-2.ensures c.in_ok-path.ensures.0 in
    let source = at_field (source_refusal c.in_ok-kind.kind.now) _ _ c.get-3.result (get (codes "uri") d) None c.get-3.ensures c.in_ok-name.ensures.0 in
    fails _ _ (mount_refusal (place_text c.args.place.now) d) c.from_residual-in_err-key_name.result c.in_err-key_name.field-0.0
    (λ f e. key_decides _ (typed (goal.at.returns-in_err-key_name c).In_ok-kind) path source (at_field (wants as_str) _ _ c.get-4.result (get (codes "key_name") d) _ c.get-4.ensures e)) c.from_residual-in_err-key_name.ensures.1
    c.in_err-key_name.ensures

pub returns : goal.returns
returns c =
    let d = view c.args.item.now in
    let there = typed (goal.at.returns c).In_ok-kind in
    let path = at_field path_refusal _ _ c.get-2.result (get (codes "path") d) None c.get-2.ensures c.in_ok-path.ensures.0 in
    let source = at_field (source_refusal c.in_ok-kind.kind.now) _ _ c.get-3.result (get (codes "uri") d) None c.get-3.ensures c.in_ok-name.ensures.0 in
    let key = at_field (wants as_str) _ _ c.get-4.result (get (codes "key_name") d) None c.get-4.ensures c.in_ok-key_name.ensures.0 in (
      key_decides None there path source key,
      mount_made d c.in_ok-mount.field-0 c.kind_of.result c.in_ok-kind.kind.now c.in_ok-path.path.now c.in_ok-key_name.key_name.now _ c.kind_of.ensures there.is_kind (c.in_ok-path.ensures.1 ∙ ap (text_or []) c.get-2.ensures)
          (c.in_ok-name.ensures.1 ∙ ap (λ u. file_name (text_or [] u)) c.get-3.ensures) (c.in_ok-key_name.ensures.1 ∙ ap (text_or (codes "default")) c.get-4.ensures) c.in_ok-mount.ensures,
    )
