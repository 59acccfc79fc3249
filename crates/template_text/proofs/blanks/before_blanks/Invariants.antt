use Rattle.std.proofs.Common.{◌≡◌, ◌≤◌, length, take, IsCharBoundary}
use Rattle.template_text.specs.Parts.{before_blanks}
use Rattle.template_text.proofs.blanks.before_blanks.Given as goal

abbrev pub invariant-loop-end : goal.invariant-loop-end
invariant-loop-end l = record {
  within : l.end ≤ length l.bytes;
  boundary : IsCharBoundary l.bytes l.end;
  before : before_blanks (take l.end l.bytes) ≡ before_blanks l.bytes;
}

abbrev pub decreases-loop-end : goal.decreases-loop-end
decreases-loop-end l = l.end
