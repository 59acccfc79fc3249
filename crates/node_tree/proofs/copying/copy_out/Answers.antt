use Rattle.std.proofs.Common.{◌≡◌, ℕ, List, ◌+◌, ◌-◌, ◌/◌, arith, ap, sym, ◌∙◌, subst, rules, Option, []}
use Rattle.node_layout.specs.Places.{data_place}
use Rattle.node_tree.specs.Opened.{IsAt}
use Rattle.node_tree.specs.Nodes.{Keeps, kept_plain}
use Rattle.node_tree.specs.State.{plain_or}
use Rattle.node_tree.proofs.Filled.{filled_more, filled_all, meets_byte}
use Rattle.node_tree.proofs.copying.copy_out.Goals as goal

pub kept-plain-requires : goal.kept-plain-requires
kept-plain-requires c =
    let past = c.loop-done.invariant.past (omega arith) in
    subst (λ (k : ℕ). IsAt (Keeps c.args.nodes.now) k) (sym c.data_place.ensures) (c.requires.held ((c.args.at + c.loop-done.done - 3072) / 4096) (meets_byte _ _ _ (omega arith) past))

pub loop-done-preserved : goal.loop-done-preserved
loop-done-preserved c =
    let is : kept_plain c.args.nodes.now (data_place ((c.args.at + c.loop-done.done - 3072) / 4096)) ≡ c.kept-plain.result.now =
    ap (kept_plain c.args.nodes.now) (sym c.data_place.ensures) ∙ ap (λ (o : Option (List ℕ)). plain_or o []) c.kept-plain.ensures in
    filled_more c.args.first.now (kept_plain c.args.nodes.now) c.args.at c.loop-done.done c.copy_piece-done-in-loop-done.result c.kept-plain.result.now c.loop-done.to c.copy_piece-done-in-loop-done.new.to
    c.loop-done.invariant (omega arith) (search rules) is c.copy_piece-done-in-loop-done.ensures.count c.copy_piece-done-in-loop-done.ensures.copies

pub returns : goal.returns
returns c = filled_all c.args.first.now (kept_plain c.args.nodes.now) c.args.at c.loop-done.done c.loop-done.to _ c.loop-done.invariant (omega arith) (search rules)
