use Rattle.std.proofs.Common.{take, drop}
use Rattle.template_text.specs.Parts.{NoneIn}
use Rattle.template_text.specs.Pieces.{test_of}
use Rattle.template_text.proofs.marks.Mark.find.Given as goal

abbrev pub invariant-loop-at : goal.invariant-loop-at
invariant-loop-at l = NoneIn (test_of l.self) (take l.at l.bytes) (drop l.at l.bytes)
