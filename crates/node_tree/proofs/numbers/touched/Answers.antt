use Rattle.std.proofs.Common.{◌≡◌, ◌+◌, ◌/◌, ◌-◌, ℕ, refl, arith, subst}
use Rattle.node_tree.specs.Listing.{ListedTo}
use Rattle.node_tree.proofs.Listed.{listed_first, listed_more, listed_below, touched_are}
use Rattle.node_tree.proofs.numbers.touched.Goals as goal

pub loop-d-init : goal.loop-d-init
loop-d-init c = listed_first c.add_first_leaf.new.numbers.items _ _ _ c.add_first_leaf.ensures.leaves c.add_first_leaf.ensures.short

pub add_data-requires-clause-order : goal.add_data-requires-clause-order
add_data-requires-clause-order c =
    let s = c.saturating_sub-first.ensures in
    listed_below c.loop-d.numbers.items (c.saturating_sub-first.result / 4096) c.loop-d.d (c.saturating_sub-first.result / 4096 / 96) ((c.args.end - 3073) / 4096 / 96) (omega arith) refl (omega (arith, s)) (omega (arith, s)) c.loop-d.invariant

pub loop-d-preserved : goal.loop-d-preserved
loop-d-preserved c = listed_more c.loop-d.numbers.items c.add_data.new.numbers.items (c.saturating_sub-first.result / 4096) c.loop-d.d _ _ (omega arith) c.loop-d.invariant c.add_data.ensures

pub returns : goal.returns
returns c =
    let s = c.saturating_sub-first.ensures in
    let first = c.saturating_sub-first.result / 4096 in
    let last = (c.args.end - 3073) / 4096 in
    let end : c.loop-d.d ≡ last + 1 = omega (arith, s) in
    touched_are c.args.at c.args.end first last (first / 96) (last / 96) (omega arith) (omega arith) (omega (arith, s)) refl refl refl (omega (arith, s)) c.loop-d.numbers.items
    (subst (λ (d : ℕ). ListedTo c.loop-d.numbers.items first d (first / 96) (last / 96)) end c.loop-d.invariant)
