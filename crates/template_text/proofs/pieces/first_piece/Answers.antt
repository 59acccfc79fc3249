use Rattle.std.proofs.Common.{◌∙◌, sym}
use Rattle.template_text.proofs.Placing.{plain_text}
use Rattle.template_text.proofs.pieces.first_piece.Goals as goal

pub copied-requires-clause-plain : goal.copied-requires-clause-plain
copied-requires-clause-plain c =
    plain_text c.args.text.now c.as_bytes-bytes.result.now c.as_bytes-bytes.ensures.value
    (sym c.starts_with.ensures.value ∙ c.if-starts_with.false)
    (sym c.starts_with-else-starts_with.ensures.value ∙ c.if-starts_with-2.false)
    (sym c.starts_with-else-starts_with-2.ensures.value ∙ c.if-starts_with-3.false)
