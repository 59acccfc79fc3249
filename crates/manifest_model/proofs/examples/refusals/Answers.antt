use Rattle.std.proofs.Common.{refl, lit<}
use Rattle.std.proofs.lemmas.Fmt.{decimal_digit}
use Rattle.hex.proofs.OnLiterals.{hex_on_literals}
use Rattle.manifest_model.specs.Names.{normal, normal_parts, kept_of, file_name, is_name}
use Rattle.manifest_model.specs.Trusting.{own_refusal, item_of}
use Rattle.manifest_model.specs.Mounting.{mount_refusal, root_refusal}
use Rattle.manifest_model.specs.Listed.{refusal, policy_refusal, trusted_refusal, allowed_refusal, allowed_item_refusal, mounting_refusal, keying_refusal}
use Rattle.manifest_model.proofs.examples.refusals.Goals as goal

pub returns : goal.returns
unfolding hex_on_literals normal normal_parts kept_of file_name is_name own_refusal item_of mount_refusal root_refusal refusal policy_refusal trusted_refusal allowed_refusal allowed_item_refusal mounting_refusal keying_refusal
returns c = record {
  deepest = refl;
  too_deep = refl;
  inside = rw (decimal_digit 0 (lit< tt)) refl;
  no_section = refl;
  policy = refl;
  no_uri = rw (decimal_digit 0 (lit< tt)) refl;
  no_file = refl;
  no_path = rw (decimal_digit 0 (lit< tt)) refl;
  key = refl;
  nothing = refl;
}
