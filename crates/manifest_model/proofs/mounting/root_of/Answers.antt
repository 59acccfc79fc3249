use Rattle.std.proofs.Common.{◌∙◌, None, ap, codes}
use Rattle.toml.specs.Data.{as_str, get_member}
use Rattle.toml.specs.View.{table_view}
use Rattle.manifest_model.specs.Fields.{wants, text_or}
use Rattle.manifest_model.specs.Mounting.{kind_of, root_refusal}
use Rattle.manifest_model.proofs.Checking.{fails}
use Rattle.manifest_model.proofs.Steps.{at_path}
use Rattle.manifest_model.proofs.MountRead.{RootNamed, root_decides, root_made}
use Rattle.manifest_model.proofs.mounting.root_of.Goals as goal
use Rattle.manifest_model.proofs.mounting.root_of.Goals.{In_ok-uri}

named : (c : In_ok-uri) → RootNamed (table_view c.args.root.now) c.kind_of-kind.result c.in_ok-uri.uri.now
named c =
    let root = table_view c.args.root.now in
    record {
      kind_form = at_path (wants as_str) _ c.member.result (get_member (codes "type") root) None c.member.ensures c.in_ok-text_or.ensures.0;
      uri_form = at_path (wants as_str) _ c.member-2.result (get_member (codes "uri") root) None c.member-2.ensures c.in_ok-uri.ensures.0;
      is_kind = c.kind_of-kind.ensures ∙ ap kind_of (c.in_ok-text_or.ensures.1 ∙ ap (text_or (codes "chroot")) c.member.ensures);
      is_uri = c.in_ok-uri.ensures.1 ∙ ap (text_or (codes "file:.")) c.member-2.ensures;
    }

pub returns-in_err-name : goal.returns-in_err-name
returns-in_err-name c =
    fails _ _ (root_refusal (table_view c.args.root.now)) c.from_residual-in_err-name.result c.in_err-name.field-0.0 (λ f e. root_decides _ (named (goal.at.returns-in_err-name c).In_ok-uri) e) c.from_residual-in_err-name.ensures.1
    c.in_err-name.ensures

pub returns : goal.returns
returns c =
    let there = named (goal.at.returns c).In_ok-uri in
    (root_decides None there c.in_ok-name.ensures.0, root_made c.in_ok-mount.field-0 _ there c.in_ok-name.ensures.1 c.in_ok-mount.ensures)
