use Rattle.std.proofs.Common.{◌∙◌, ℕ, List, [], take, get_or, ap, sym, subst, arith, below_more}
use Rattle.std.proofs.lemmas.List.{take_all, get_or_default}
use Rattle.toml.specs.View.{items_view}
use Rattle.toml.proofs.Views.{items_view-push}
use Rattle.manifest_model.specs.Summed.{IsSum, summed_items}
use Rattle.manifest_model.proofs.SumLists.{same_length, summed_more}
use Rattle.manifest_model.proofs.summing.summed_items.Goals as goal

pub bounds-sums-k : goal.bounds-sums-k
bounds-sums-k c = omega (arith, same_length c.args.entries.now c.args.sums.now c.requires, c.loop-k-test.true)

pub loop-k-preserved : goal.loop-k-preserved
loop-k-preserved c =
    let more = summed_more c.args.entries.now c.args.sums.now c.loop-k.k c.index-entries-k.result [] (same_length c.args.entries.now c.args.sums.now c.requires) c.loop-k-test.true c.index-entries-k.is in
    record {
      items = ap items_view c.in_ok-push.ensures.items ∙ items_view-push c.loop-k.items.items c.in_ok-summed_item.field-0 ∙ rw (c.in_ok-summed_item.ensures.item, c.as_str.ensures, c.loop-k.invariant.items) (sym more);
      sums = below_more (λ j. IsSum (get_or c.args.sums.now j [])) c.loop-k.k c.loop-k.invariant.sums c.in_ok-summed_item.ensures.sum;
    }

pub returns-clause-items : goal.returns-clause-items
returns-clause-items c =
    let same = same_length c.args.entries.now c.args.sums.now c.requires in
    c.loop-k.invariant.items ∙ ap (λ ts. summed_items ts (take c.loop-k.k c.args.sums.now)) (take_all c.loop-k.k c.args.entries.now c.loop-k-test.false) ∙ ap (summed_items c.args.entries.now) (take_all c.loop-k.k c.args.sums.now (omega (arith, same, c.loop-k-test.false)))

pub returns-clause-sums : goal.returns-clause-sums
returns-clause-sums c =
    let sums = c.args.sums.now in
    let same = same_length c.args.entries.now sums c.requires in
    λ k d lt. subst (λ (sum : List ℕ). IsSum sum) (get_or_default sums k [] d lt) (c.loop-k.invariant.sums k (omega (arith, same, c.loop-k-test.false, lt)))
