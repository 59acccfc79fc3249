use Rattle.std.proofs.Common.{◌≡◌, take, drop}
use Rattle.enclave_measure.specs.Lines.{lines_of}
use Rattle.enclave_measure.proofs.Cutting.{prefixed}
use Rattle.enclave_measure.proofs.lines.first_line.Given as goal

-- the bytes so far stand in front of the lines of the rest
abbrev pub invariant-loop-at : goal.invariant-loop-at
invariant-loop-at l = lines_of l.text ≡ prefixed (take l.at l.text) (lines_of (drop l.at l.text))
