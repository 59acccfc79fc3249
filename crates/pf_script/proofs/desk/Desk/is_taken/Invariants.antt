use Rattle.std.proofs.Common.{◌≢◌, ◌<◌, ℕ, None, get_or}
use Rattle.pf_script.specs.DeskSteps.{HasPath}
use Rattle.pf_script.proofs.desk.Desk.is_taken.Given as goal

abbrev pub invariant-loop-k : goal.invariant-loop-k
invariant-loop-k l = (j : ℕ) → j < l.k → j ≢ l.seat → ¬ (HasPath (get_or l.self-inside.seats j None) l.name)
