use Rattle.std.proofs.Common.{◌≡◌, ℕ, List, ◌+◌, ◌≤◌, length}
use Rattle.enclave_measure.specs.Lines.{lines_of, read_after}
use Rattle.enclave_measure.proofs.lines.next_line.Given as goal

pub record Skipped (text : List ℕ) (before : ℕ) (rest : List ℕ) (number : ℕ) : Type 0 where
  pub same : read_after number rest ≡ read_after before text
  pub count : number + length (lines_of rest) ≡ before + length (lines_of text)
  pub fits : number + length rest ≤ before + length text
  pub shorter : length rest ≤ length text

abbrev pub invariant-loop-rest : goal.invariant-loop-rest
invariant-loop-rest l = Skipped l.text l.before l.rest l.number

abbrev pub decreases-loop-rest : goal.decreases-loop-rest
decreases-loop-rest l = length l.rest
