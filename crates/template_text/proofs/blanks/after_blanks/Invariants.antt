use Rattle.std.proofs.Common.{◌≡◌, drop}
use Rattle.template_text.specs.Parts.{after_blanks}
use Rattle.template_text.proofs.blanks.after_blanks.Given as goal

abbrev pub invariant-loop-i : goal.invariant-loop-i
invariant-loop-i l = after_blanks (drop l.i l.bytes) ≡ after_blanks l.bytes
