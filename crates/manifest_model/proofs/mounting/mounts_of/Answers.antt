use Rattle.std.proofs.Common.{◌≡◌, ◌∙◌, None, Some, sym, ap, codes}
use Rattle.toml.specs.Data.{no_items, as_table, as_array, get_member}
use Rattle.toml.specs.View.{table_view, array_view}
use Rattle.manifest_model.specs.Fields.{wants, field_in, members_in, or_else}
use Rattle.manifest_model.specs.Listed.{mounting_refusal}
use Rattle.manifest_model.proofs.Checking.{fails}
use Rattle.manifest_model.proofs.Steps.{place_text-Path, at_path}
use Rattle.manifest_model.proofs.MountRead.{Rooted, root_stops, list_stops, mounts_listed, none_listed}
use Rattle.manifest_model.proofs.mounting.mounts_of.Goals as goal
use Rattle.manifest_model.proofs.mounting.mounts_of.Goals.{In_ok-root-2, In_ok-items}

rooted : (c : In_ok-root-2) → Rooted (table_view c.args.fs.now) (table_view c.in_ok-root.root.now)
rooted c = record {
  form = at_path (wants as_table) _ c.member.result (get_member (codes "root") (table_view c.args.fs.now)) None c.member.ensures c.in_ok-root.ensures.0;
  is_root = c.in_ok-root.ensures.1 ∙ ap members_in c.member.ensures;
  none = c.in_ok-root-2.ensures.0;
}

list_form : (c : In_ok-items) → wants as_array (codes "fs.mounts") (get_member (codes "mounts") (table_view c.args.fs.now)) ≡ None
list_form c = at_path (wants as_array) _ c.member-2.result (get_member (codes "mounts") (table_view c.args.fs.now)) None c.member-2.ensures c.in_ok-items.ensures.0

pub returns-in_err-root-2 : goal.returns-in_err-root-2
returns-in_err-root-2 c =
    fails _ _ (mounting_refusal (table_view c.args.fs.now)) c.from_residual-in_err-root-2.result c.in_err-root-2.field-0.0
    (λ f e. root_stops _ _ f (at_path (wants as_table) _ c.member.result (get_member (codes "root") (table_view c.args.fs.now)) None c.member.ensures c.in_ok-root.ensures.0) (c.in_ok-root.ensures.1 ∙ ap members_in c.member.ensures) e) c.from_residual-in_err-root-2.ensures.1 c.in_err-root-2.ensures

pub returns-in_err-items : goal.returns-in_err-items
returns-in_err-items c =
    fails _ _ (mounting_refusal (table_view c.args.fs.now)) c.from_residual-in_err-items.result c.in_err-items.field-0.0
    (λ f e. list_stops f (rooted (goal.at.returns-in_err-items c).In_ok-root-2) (at_path (wants as_array) _ c.member-2.result (get_member (codes "mounts") (table_view c.args.fs.now)) _ c.member-2.ensures e)) c.from_residual-in_err-items.ensures.1
    c.in_err-items.ensures

pub returns-in-Some : goal.returns-in-Some
returns-in-Some c =
    let items : Some (array_view c.in-Some.items.now) ≡ field_in as_array (get_member (codes "mounts") (table_view c.args.fs.now)) = (rw c.in-Some.is at c.in_ok-items.ensures.1) ∙ ap (field_in as_array) c.member-2.ensures in
    mounts_listed _ (array_view c.in-Some.items.now) c.in_ok-root-2.root c.mount_items.result (rooted (goal.at.returns-in-Some c).In_ok-root-2) (list_form (goal.at.returns-in-Some c).In_ok-items) (place_text-Path _)
    (ap (λ o. or_else o no_items) (sym items)) c.in_ok-root-2.ensures.1 c.mount_items.ensures

pub returns-in_ok-push-in-None : goal.returns-in_ok-push-in-None
returns-in_ok-push-in-None c =
    let items : None ≡ field_in as_array (get_member (codes "mounts") (table_view c.args.fs.now)) = (rw c.in-None.is at c.in_ok-items.ensures.1) ∙ ap (field_in as_array) c.member-2.ensures in
    let done = none_listed c.in_ok-root-2.root (rooted (goal.at.returns-in_ok-push-in-None c).In_ok-root-2) (list_form (goal.at.returns-in_ok-push-in-None c).In_ok-items) (ap (λ o. or_else o no_items) (sym items)) c.in_ok-root-2.ensures.1 in
    (done.0, c.in_ok-push-in-None.ensures.items ∙ rw c.new-mounts.ensures.items done.1)
