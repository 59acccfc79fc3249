use Rattle.std.proofs.Common.{ℕ, List, refl, sym, ap, ◌∙◌, Some}
use Rattle.pf_tool.specs.Measuring.{file_named}
use Rattle.pf_tool.proofs.measuring.absent.Goals as goal

pub returns-in-Ok : goal.returns-in-Ok
returns-in-Ok c = file_named c.in-Ok.name (sym c.in-Some.ensures ∙ ap (λ (l : List ℕ). Some l) (sym c.in-Ok.ensures)) refl
