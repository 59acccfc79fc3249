use Rattle.std.proofs.Common.{refl, arith}
use Rattle.template_text.proofs.Placing.{IsCut, comment_closed, mark_room, comment_part, comment_open}
use Rattle.template_text.specs.Parts.{Comment}
use Rattle.template_text.proofs.pieces.comment.Goals as goal
use Rattle.template_text.proofs.pieces.comment.Goals.{After-past_mark-in-Some}

pub past_mark-requires-in-Some : goal.past_mark-requires-in-Some
past_mark-requires-in-Some c = mark_room 35 125 _ _ (comment_closed _ c.in-Some.ensures.here) (omega arith)

cut : (c : After-past_mark-in-Some) → IsCut c.args.text.now (Comment c.in-Some.inside.now) c.past_mark-in-Some.result.now
cut c = comment_part c.args.text.now c.past_mark.result.now c.in-Some.inside.now c.in-Some.rest.now c.past_mark-in-Some.result.now c.requires c.past_mark.ensures c.in-Some.ensures c.past_mark-in-Some.ensures

pub returns-in-Some-clause-spelled : goal.returns-in-Some-clause-spelled
returns-in-Some-clause-spelled c = (cut (goal.at.returns-in-Some-clause-spelled c).After-past_mark-in-Some).spelled_so

pub returns-in-Some-clause-placed : goal.returns-in-Some-clause-placed
returns-in-Some-clause-placed c = (cut (goal.at.returns-in-Some-clause-placed c).After-past_mark-in-Some).placed

pub returns-in-None-clause-placed : goal.returns-in-None-clause-placed
returns-in-None-clause-placed c = (comment_open c.args.text.now c.past_mark.result.now c.requires c.past_mark.ensures c.in-None.ensures, refl)
