use Rattle.std.proofs.Common.{refl, arith}
use Rattle.template_text.specs.Parts.{Raw, NoEndraw}
use Rattle.template_text.proofs.Placing.{IsCut, statement_closed, raw_ended, mark_room, raw_part, raw_never}
use Rattle.template_text.proofs.pieces.raw.Goals as goal
use Rattle.template_text.proofs.pieces.raw.Goals.{After-past_mark-in-Some-cut_at_first}

pub returns-in_default-clause-placed : goal.returns-in_default-clause-placed
returns-in_default-clause-placed c = (NoEndraw c.args.opening.now c.args.behind.now c.requires.text c.requires.opened c.requires.raw c.in_default.ensures, refl)

pub past_mark-requires : goal.past_mark-requires
past_mark-requires c = mark_room 123 37 _ _ (raw_ended _ c.in-Some.ensures.here) (omega arith)

pub past_mark-requires-in-Some-cut_at_first : goal.past_mark-requires-in-Some-cut_at_first
past_mark-requires-in-Some-cut_at_first c = mark_room 37 125 _ _ (statement_closed _ c.in-Some-cut_at_first.ensures.here) (omega arith)

pub unreachable-requires : goal.unreachable-requires
unreachable-requires c = raw_never c.in-Some.ending.now c.past_mark.result.now c.in-Some.ensures.here c.past_mark.ensures c.in-None.ensures

cut : (c : After-past_mark-in-Some-cut_at_first) → IsCut c.args.text.now (Raw c.args.opening.now c.in-Some.content.now c.in-Some-cut_at_first.closing.now) c.past_mark-in-Some-cut_at_first.result.now
cut c =
    raw_part c.args.text.now c.args.opening.now c.args.behind.now c.in-Some.content.now c.in-Some.ending.now c.past_mark.result.now c.in-Some-cut_at_first.closing.now c.in-Some-cut_at_first.rest.now c.past_mark-in-Some-cut_at_first.result.now
    c.requires.text c.requires.opened c.requires.raw c.in-Some.ensures c.past_mark.ensures c.in-Some-cut_at_first.ensures c.past_mark-in-Some-cut_at_first.ensures

pub returns-clause-spelled : goal.returns-clause-spelled
returns-clause-spelled c = (cut (goal.at.returns-clause-spelled c).After-past_mark-in-Some-cut_at_first).spelled_so

pub returns-clause-placed : goal.returns-clause-placed
returns-clause-placed c = (cut (goal.at.returns-clause-placed c).After-past_mark-in-Some-cut_at_first).placed
