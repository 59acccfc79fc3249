use Rattle.std.proofs.Common.{◌≡◌, ◌∙◌, ◌-◌, length, drop, ap}
use Rattle.template_text.specs.Parts.{after_blanks, before_blanks, without_blanks}
use Rattle.template_text.proofs.Trimming.{after_shorter, drop_blanks, blanks_boundary}
use Rattle.template_text.proofs.blanks.without_blanks.Goals as goal
use Rattle.template_text.proofs.blanks.without_blanks.Goals.{After-after_blanks}

after_is : (c : After-after_blanks) → c.after_blanks.result.now ≡ after_blanks c.args.text.now
after_is c = c.after_blanks.ensures ∙ ap after_blanks c.as_bytes.ensures.value

pub overflow_sub-start : goal.overflow_sub-start
overflow_sub-start c = rw (after_is c) (after_shorter c.args.text.now)

pub range_from-requires : goal.range_from-requires
range_from-requires c = blanks_boundary c.args.text.now _ c.utf8.text (ap (λ after. length c.args.text.now - length after) (after_is c))

pub returns : goal.returns
unfolding without_blanks
returns c =
    let after = after_is (goal.at.returns c).After-after_blanks in
    c.before_blanks.ensures ∙ ap before_blanks (c.range_from.ensures.value ∙ ap (λ bs. drop (length c.args.text.now - length bs) c.args.text.now) after ∙ drop_blanks c.args.text.now)
