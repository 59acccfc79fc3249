use Rattle.std.proofs.Common.{◌≡◌, ◌∙◌, false, refl, sym, arith, codes, bytes_eq}
use Rattle.std.proofs.lemmas.Bool.{both_ways}
use Rattle.std.proofs.lemmas.Slice.Eq.{bytes_eq-Decides}
use Rattle.template_text.proofs.Placing.{IsStatementCut, statement_closed, mark_room, statement_part, statement_open}
use Rattle.template_text.proofs.pieces.statement.Goals as goal
use Rattle.template_text.proofs.pieces.statement.Goals.{After-past_mark-behind}

pub returns-in_default-clause-placed : goal.returns-in_default-clause-placed
returns-in_default-clause-placed c = (statement_open c.args.text.now c.past_mark.result.now c.requires c.past_mark.ensures c.in_default.ensures, refl)

pub past_mark-behind-requires : goal.past_mark-behind-requires
past_mark-behind-requires c = mark_room 37 125 _ _ (statement_closed _ c.in-Some.ensures.here) (omega arith)

cut : (c : After-past_mark-behind) → IsStatementCut c.args.text.now c.in-Some.inside.now c.past_mark-behind.result.now
cut c = statement_part c.args.text.now c.past_mark.result.now c.in-Some.inside.now c.in-Some.behind.now c.past_mark-behind.result.now c.requires c.past_mark.ensures c.in-Some.ensures c.past_mark-behind.ensures

pub raw-requires-clause-text : goal.raw-requires-clause-text
raw-requires-clause-text c = (cut (goal.at.raw-requires-clause-text c).After-past_mark-behind).spelled_so

pub raw-requires-clause-opened : goal.raw-requires-clause-opened
raw-requires-clause-opened c = (cut (goal.at.raw-requires-clause-opened c).After-past_mark-behind).closes

pub returns-else-eq-clause-spelled : goal.returns-else-eq-clause-spelled
returns-else-eq-clause-spelled c = (cut (goal.at.returns-else-eq-clause-spelled c).After-past_mark-behind).spelled_so

pub returns-else-eq-clause-placed : goal.returns-else-eq-clause-placed
returns-else-eq-clause-placed c =
    let apart : bytes_eq c.without_blanks.result.now (codes "raw") ≡ false = sym c.eq.ensures ∙ c.if-eq.false in
    ((cut (goal.at.returns-else-eq-clause-placed c).After-past_mark-behind).closes, λ is. both_ways _ apart ((bytes_eq-Decides c.without_blanks.result.now (codes "raw")).1 (c.without_blanks.ensures ∙ is)))
