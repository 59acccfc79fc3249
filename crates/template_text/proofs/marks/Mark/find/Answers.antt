use Rattle.std.proofs.Common.{◌≡◌, ◌∙◌, false, drop, sym}
use Rattle.std.proofs.lemmas.List.{take_rest}
use Rattle.template_text.specs.Pieces.{test_of}
use Rattle.template_text.proofs.Finding.{none_more}
use Rattle.template_text.proofs.marks.Mark.find.Goals as goal

pub loop-at-preserved : goal.loop-at-preserved
loop-at-preserved c =
    let passes = sym c.begins.ensures ∙ c.if-begins.false in
    let here : test_of c.args.self (drop c.loop-at.at c.args.bytes.now) ≡ false = rw (take_rest c.args.bytes.now c.loop-at.at) at passes in
    none_more (test_of c.args.self) c.args.bytes.now c.loop-at.at c.loop-at-test.true c.loop-at.invariant here
