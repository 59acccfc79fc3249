use Rattle.std.proofs.Common.{◌≡◌, ◌∙◌, None, Some, codes, sym, refl}
use Rattle.toml.specs.Data.{as_array, get_member}
use Rattle.toml.specs.View.{table_view, array_view}
use Rattle.manifest_model.specs.Fields.{wants, field_in}
use Rattle.manifest_model.specs.Trusting.{entries_of}
use Rattle.manifest_model.specs.Listed.{trusted_refusal, trusted_of}
use Rattle.manifest_model.proofs.Checking.{form_and_items}
use Rattle.manifest_model.proofs.Steps.{place_text-Path}
use Rattle.manifest_model.proofs.trusting.trusted_of.Goals as goal

pub returns-in-Some : goal.returns-in-Some
unfolding trusted_refusal trusted_of
returns-in-Some c =
    let form : wants as_array (codes "sgx.trusted_files") (get_member (codes "trusted_files") (table_view c.args.sgx.now)) ≡ None = rw (place_text-Path, c.member.ensures) at c.in_ok-items.ensures.0 in
    let items : Some (array_view c.in-Some.items.now) ≡ field_in as_array (get_member (codes "trusted_files") (table_view c.args.sgx.now)) = rw (c.in-Some.is, c.member.ensures) at c.in_ok-items.ensures.1 in
    rw (← items) (form_and_items _ _ _ _ form (rw place_text-Path at c.trusted_items.ensures))

pub returns-in-None : goal.returns-in-None
unfolding trusted_refusal trusted_of entries_of
returns-in-None c =
    let form : wants as_array (codes "sgx.trusted_files") (get_member (codes "trusted_files") (table_view c.args.sgx.now)) ≡ None = rw (place_text-Path, c.member.ensures) at c.in_ok-items.ensures.0 in
    let items : field_in as_array (get_member (codes "trusted_files") (table_view c.args.sgx.now)) ≡ None = sym (rw (c.in-None.is, c.member.ensures) at c.in_ok-items.ensures.1) in
    (rw (form, items) refl, c.new.ensures.items ∙ rw items refl)
