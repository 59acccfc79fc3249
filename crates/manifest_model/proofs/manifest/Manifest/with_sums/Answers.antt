use Rattle.std.proofs.Common.{◌≡◌, ◌∙◌, List, ap, sym, subst}
use Rattle.toml.specs.View.{table_view}
use Rattle.manifest_model.specs.declared.entries.Trusted.{Trusted}
use Rattle.manifest_model.specs.Listed.{refusal, sgx, trusted_of}
use Rattle.manifest_model.specs.Summed.{FitSums, summed_items, with_trusted}
use Rattle.manifest_model.proofs.Resummed.{accepted_summed}
use Rattle.manifest_model.proofs.manifest.Manifest.with_sums.Goals as goal

pub of_accepted-requires : goal.of_accepted-requires
of_accepted-requires c =
    let ms = table_view c.self.inside.table in
    let sums = c.args.sums.now in
    let entries : c.self.inside.trusted.items ≡ trusted_of (sgx ms) = ap (λ l. l.trusted) c.self.invariant.1 in
    let listed : c.args.self.now.lists.trusted ≡ trusted_of (sgx ms) = ap (λ s. s.lists.trusted) (sym c.self.view_is) ∙ entries in
    let fit = subst (λ (ts : List Trusted). FitSums ts sums) listed c.requires in
    let made = c.in_ok-table.ensures.whole ∙ ap (λ (ts : List Trusted). with_trusted (summed_items ts sums) ms) (c.as_slice.ensures.value ∙ entries) in
    ap refusal made ∙ accepted_summed ms sums c.self.invariant.0 fit c.in_ok-table.ensures.sums
