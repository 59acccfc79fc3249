use Rattle.std.proofs.Common.{◌∙◌, refl, slice_index, arith}
use Rattle.std.proofs.lemmas.List.Elements.{Contains-get_or}
use Rattle.node_tree.specs.Marks.{marked_at}
use Rattle.node_tree.proofs.Zeroed.{marked_none, marked_more, marked_all}
use Rattle.node_tree.proofs.change.mark.Goals as goal

pub loop-number-init : goal.loop-number-init
loop-number-init c = record { plains = λ k. refl; marks = marked_none c.args.numbers.now (marked_at c.args.nodes.now); ordered = λ ordered. ordered }

pub mark_one-requires : goal.mark_one-requires
mark_one-requires c =
    let number = slice_index c.args.numbers.now c.loop-number.number-index in
    let h = c.requires.held number (Contains-get_or c.args.numbers.now c.loop-number.number-index 0 c.loop-number-test.true) in
    record { held = (h.0, c.loop-number.invariant.plains number ∙ h.1) }

pub loop-number-preserved : goal.loop-number-preserved
loop-number-preserved c = record {
  plains = λ k. c.mark_one.ensures.plains k ∙ c.loop-number.invariant.plains k;
  marks = marked_more c.args.numbers.now c.loop-number.number-index (marked_at c.args.nodes.now) (marked_at c.loop-number.nodes) (marked_at c.mark_one.new.nodes) c.loop-number-test.true c.loop-number.invariant.marks c.mark_one.ensures.marks;
  ordered = λ ordered. c.mark_one.ensures.ordered;
}

pub returns-clause-marks : goal.returns-clause-marks
returns-clause-marks c = marked_all c.args.numbers.now c.loop-number.number-index (marked_at c.args.nodes.now) (marked_at c.loop-number.nodes) (omega arith) c.loop-number.invariant.marks
