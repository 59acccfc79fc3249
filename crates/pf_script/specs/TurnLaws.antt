-- What unfolds in a step holds in the end.
use Rattle.std.specs.Prelude.{⊤, List, [], ◌++◌, ℕ}
use Rattle.node_tree.specs.Sheet.{Sheet}
use Rattle.node_tree.specs.Unforged.{Unforged}
use Rattle.pf_script.specs.BookActs.{Act}
use Rattle.pf_script.specs.DeskSteps.{MaySeal, Unfolds}
use Rattle.pf_script.specs.Script.{sheets_of}
use Rattle.pf_script.specs.Turns.{Seen}
use Rattle.pf_script.specs.declared.line.ScriptLine.{ScriptLine}
use Rattle.pf_script.specs.declared.line.ScriptLine.TheVariants as lines
use Rattle.pf_script.specs.declared.reply.Reply.{Reply}

-- lines that seal no sheet
abbrev pub SealsNothing : ScriptLine → Type 0
SealsNothing lines.Blank = ⊤
SealsNothing (lines.Open seat name) = ⊤
SealsNothing (lines.View seat path) = ⊤
SealsNothing (lines.Read seat at count) = ⊤
SealsNothing (lines.Draw seat) = ⊤
SealsNothing other = ⊥

-- what unfolds by these turns holds of some acts
abbrev pub ComesTrue : List ℕ → List Sheet → (Seen → Reply → List Act → Type 0) → Seen → (List Act → Type 0) → Type 0
ComesTrue key sealed Goes seen P = Unfolds key sealed (MaySeal Goes seen) P seen.given [] → (acts : List Act) × P acts

-- What unfolds by these turns is such a turn in the end, and nothing unfolds to what never holds.
pub record HoldsInTheEnd (key : List ℕ) (sealed : List Sheet) (Goes : Seen → Reply → List Act → Type 0) (seen : Seen) : Type 0 where
  pub turns : (reply : Reply) → ComesTrue key sealed Goes seen (Goes seen reply)
  pub never : ¬ (Unfolds key sealed (MaySeal Goes seen) (λ acts. ⊥) seen.given [])

-- whatever was sealed by these turns, nothing that was given is forged
abbrev pub UnforgedWithAll : List ℕ → List Sheet → (Seen → Reply → List Act → Type 0) → Seen → Type 0
UnforgedWithAll key sealed Goes seen = (acts : List Act) → MaySeal Goes seen acts → Unforged key (sealed ++ sheets_of acts) seen.given
