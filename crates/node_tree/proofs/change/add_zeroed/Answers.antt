use Rattle.std.proofs.Common.{◌≡◌, ◌∙◌, ℕ, List, Some, false, slice_index, replicate, cond, eqb, subst}
use Rattle.std.proofs.lemmas.List.Elements.{Contains-get_or}
use Rattle.node_tree.specs.Nodes.{plain_at}
use Rattle.node_tree.specs.Marks.{marked_at}
use Rattle.node_tree.proofs.Marking.{keeps_marks_then}
use Rattle.node_tree.proofs.Zeroed.{zeroed_none, zeroed_more, may_more, may_still}
use Rattle.node_tree.proofs.change.add_zeroed.Goals as goal

pub loop-number-init : goal.loop-number-init
loop-number-init c = zeroed_none c.args.numbers.now (plain_at c.args.nodes.now) c.args.nodes.now

pub loop-number-preserved : goal.loop-number-preserved
loop-number-preserved c =
    let so_far = c.loop-number.invariant in
    let i = c.loop-number.number-index in
    let number = slice_index c.args.numbers.now i in
    let clean : marked_at c.loop-number.nodes number ≡ false = so_far.marks.same number ∙ c.requires.clean number (Contains-get_or c.args.numbers.now i 0 c.loop-number-test.true) in
    let zeros : (k : ℕ) → plain_at c.keep.new.nodes k ≡ cond (eqb k number) (Some (replicate 4096 0)) (plain_at c.loop-number.nodes k) =
    subst (λ (l : List ℕ). (k : ℕ) → plain_at c.keep.new.nodes k ≡ cond (eqb k number) (Some l) (plain_at c.loop-number.nodes k)) c.in_ok-block.ensures.zeros c.in_ok-keep.ensures.ok in
    record {
      zeroed = zeroed_more c.args.numbers.now i (plain_at c.args.nodes.now) (plain_at c.loop-number.nodes) (plain_at c.keep.new.nodes) c.loop-number-test.true so_far.zeroed zeros;
      may = may_more c.args.numbers.now i (plain_at c.args.nodes.now) (plain_at c.loop-number.nodes) (plain_at c.keep.new.nodes) c.loop-number-test.true so_far.may zeros;
      marks = keeps_marks_then c.args.nodes.now c.loop-number.nodes c.keep.new.nodes so_far.marks (c.keep.ensures.marks clean);
    }

pub returns-in_err-keep-clause-may : goal.returns-in_err-keep-clause-may
returns-in_err-keep-clause-may c =
    may_still c.args.numbers.now c.loop-number.number-index (plain_at c.args.nodes.now) (plain_at c.loop-number.nodes) (plain_at c.keep.new.nodes) c.loop-number-test.true c.loop-number.invariant.may c.in_err-keep.ensures.err

pub returns-in_err-keep-clause-marks : goal.returns-in_err-keep-clause-marks
returns-in_err-keep-clause-marks c =
    let so_far = c.loop-number.invariant in
    let i = c.loop-number.number-index in
    let number = slice_index c.args.numbers.now i in
    let clean : marked_at c.loop-number.nodes number ≡ false = so_far.marks.same number ∙ c.requires.clean number (Contains-get_or c.args.numbers.now i 0 c.loop-number-test.true) in
    keeps_marks_then c.args.nodes.now c.loop-number.nodes c.keep.new.nodes so_far.marks (c.keep.ensures.marks clean)
