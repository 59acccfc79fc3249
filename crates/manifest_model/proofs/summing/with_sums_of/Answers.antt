use Rattle.std.proofs.Common.{◌≡◌, ◌∙◌, codes, ap, Result, Ok, Err, OnOk}
use Rattle.std.proofs.lemmas.Result.{IfOk-weaker}
use Rattle.toml.specs.Data.{array, table}
use Rattle.toml.specs.View.{view, table_view}
use Rattle.toml.specs.declared.value.Value.{Table}
use Rattle.toml.proofs.Views.{view-Array, view-Table}
use Rattle.manifest_model.specs.Summed.{replaced, summed_items}
use Rattle.manifest_model.proofs.SumLists.{sums_placed}
use Rattle.manifest_model.proofs.summing.with_sums_of.Goals as goal

ok_always : {T E P : Type 0} (r : Result T E) → P → OnOk r P
ok_always (Ok x) holds = holds
ok_always (Err e) holds = tt

pub returns-clause-whole : goal.returns-clause-whole
returns-clause-whole c =
    let ds = summed_items c.args.entries.now c.args.sums.now in
    let s = table_view c.in-Some.sgx.now in
    let inner : view (Table c.in_ok-sgx.sgx) ≡ table (replaced (codes "trusted_files") (array ds) s) =
    view-Table c.in_ok-sgx.sgx
    ∙ ap table (c.in_ok-sgx.ensures ∙ ap (λ d. replaced (codes "trusted_files") d (table_view c.in_ok-copied.field-0)) (view-Array c.in_ok-items.items ∙ ap array c.in_ok-items.ensures.items) ∙ ap (replaced (codes "trusted_files") (array ds)) c.in_ok-copied.ensures) in
    let whole = ap (λ d. replaced (codes "sgx") d (table_view c.in_ok-copied-2.field-0)) inner ∙ ap (replaced (codes "sgx") (table (replaced (codes "trusted_files") (array ds) s))) c.in_ok-copied-2.ensures ∙ sums_placed (table_view c.args.table.now) s ds c.in-Some.ensures.0 c.in-Some.ensures.1 in
    IfOk-weaker c.replaced-2.result _ _ (λ made e. e ∙ whole) c.replaced-2.ensures

pub returns-clause-sums : goal.returns-clause-sums
returns-clause-sums c = ok_always c.replaced-2.result (λ there. c.in_ok-items.ensures.sums)
