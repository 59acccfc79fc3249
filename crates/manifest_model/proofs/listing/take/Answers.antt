use Rattle.std.proofs.Common.{◌∙◌, None, ap, codes}
use Rattle.toml.specs.Data.{as_table, get_member}
use Rattle.toml.specs.View.{table_view}
use Rattle.manifest_model.specs.Fields.{wants, members_in}
use Rattle.manifest_model.specs.Listed.{refusal, policy_of, trusted_of, allowed_of, mounting_of}
use Rattle.manifest_model.proofs.Checking.{fails}
use Rattle.manifest_model.proofs.Steps.{at_path}
use Rattle.manifest_model.proofs.Taking.{Formed, Allowed, policy_stops, trusted_stops, allowed_stops, mounts_stop, keys_decide}
use Rattle.manifest_model.proofs.listing.take.Goals as goal
use Rattle.manifest_model.proofs.listing.take.Goals.{In_ok-fs}

formed : (c : In_ok-fs) → Formed (table_view c.args.table.now) (table_view c.in_ok-sgx.sgx.now) (table_view c.in_ok-fs.fs.now)
formed c =
    let ms = table_view c.args.table.now in
    record {
      walked = c.in_ok-walk_table.ensures.0;
      sgx_form = at_path (wants as_table) _ c.member.result (get_member (codes "sgx") ms) None c.member.ensures c.in_ok-sgx.ensures.0;
      fs_form = at_path (wants as_table) _ c.member-2.result (get_member (codes "fs") ms) None c.member-2.ensures c.in_ok-fs.ensures.0;
      is_sgx = c.in_ok-sgx.ensures.1 ∙ ap members_in c.member.ensures;
      is_fs = c.in_ok-fs.ensures.1 ∙ ap members_in c.member-2.ensures;
    }

pub returns-in_err-policy : goal.returns-in_err-policy
returns-in_err-policy c =
    fails _ _ (refusal (table_view c.args.table.now)) c.from_residual-in_err-policy.result c.in_err-policy.field-0.0 (λ f e. policy_stops f (formed (goal.at.returns-in_err-policy c).In_ok-fs) e)
    c.from_residual-in_err-policy.ensures.1 c.in_err-policy.ensures

pub returns-in_err-trusted : goal.returns-in_err-trusted
returns-in_err-trusted c =
    fails _ _ (refusal (table_view c.args.table.now)) c.from_residual-in_err-trusted.result c.in_err-trusted.field-0.0 (λ f e. trusted_stops f (formed (goal.at.returns-in_err-trusted c).In_ok-fs) c.in_ok-policy.ensures.0 e)
    c.from_residual-in_err-trusted.ensures.1 c.in_err-trusted.ensures

pub returns-in_err-allowed : goal.returns-in_err-allowed
returns-in_err-allowed c =
    let before : Allowed (table_view c.args.table.now) (table_view c.in_ok-sgx.sgx.now) (table_view c.in_ok-fs.fs.now) = record { formed = formed (goal.at.returns-in_err-allowed c).In_ok-fs; policy = c.in_ok-policy.ensures.0; trusted = c.in_ok-trusted.ensures.0 } in
    fails _ _ (refusal (table_view c.args.table.now)) c.from_residual-in_err-allowed.result c.in_err-allowed.field-0.0 (λ f e. allowed_stops f before e) c.from_residual-in_err-allowed.ensures.1 c.in_err-allowed.ensures

pub returns-in_err-mounts : goal.returns-in_err-mounts
returns-in_err-mounts c =
    let before : Allowed (table_view c.args.table.now) (table_view c.in_ok-sgx.sgx.now) (table_view c.in_ok-fs.fs.now) = record { formed = formed (goal.at.returns-in_err-mounts c).In_ok-fs; policy = c.in_ok-policy.ensures.0; trusted = c.in_ok-trusted.ensures.0 } in
    fails _ _ (refusal (table_view c.args.table.now)) c.from_residual-in_err-mounts.result c.in_err-mounts.field-0.0 (λ f e. mounts_stop f before c.in_ok-allowed.ensures.0 e) c.from_residual-in_err-mounts.ensures.1 c.in_err-mounts.ensures

pub returns-in_err-check_keys : goal.returns-in_err-check_keys
returns-in_err-check_keys c =
    let before : Allowed (table_view c.args.table.now) (table_view c.in_ok-sgx.sgx.now) (table_view c.in_ok-fs.fs.now) = record { formed = formed (goal.at.returns-in_err-check_keys c).In_ok-fs; policy = c.in_ok-policy.ensures.0; trusted = c.in_ok-trusted.ensures.0 } in
    fails _ _ (refusal (table_view c.args.table.now)) c.from_residual-in_err-check_keys.result c.in_err-check_keys.field-0.0 (λ f e. keys_decide _ before c.in_ok-allowed.ensures.0 c.in_ok-mounts.ensures.0 e) c.from_residual-in_err-check_keys.ensures.1 c.in_err-check_keys.ensures

pub returns : goal.returns
returns c =
    let there = formed (goal.at.returns c).In_ok-fs in
    let before : Allowed (table_view c.args.table.now) (table_view c.in_ok-sgx.sgx.now) (table_view c.in_ok-fs.fs.now) = record { formed = there; policy = c.in_ok-policy.ensures.0; trusted = c.in_ok-trusted.ensures.0 } in
    let none = keys_decide None before c.in_ok-allowed.ensures.0 c.in_ok-mounts.ensures.0 c.in_ok-check_keys.ensures.0 in (
      none,
      record {
        policy = c.in_ok-policy.ensures.1 ∙ ap policy_of there.is_sgx;
        trusted = c.in_ok-trusted.ensures.1 ∙ ap trusted_of there.is_sgx;
        allowed = c.in_ok-allowed.ensures.1 ∙ ap allowed_of there.is_sgx;
        mounts = c.in_ok-mounts.ensures.1 ∙ ap mounting_of there.is_fs;
      },
    )
