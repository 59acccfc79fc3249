use Rattle.std.proofs.Common.{◌≡◌, ◌∙◌, take, sym, ap, arith}
use Rattle.std.proofs.lemmas.Str.{IsCharBoundary-before_ascii}
use Rattle.template_text.specs.Parts.{before_blanks}
use Rattle.template_text.proofs.Trimming.{blank_small, before_more, before_last, before_first, from_front}
use Rattle.template_text.proofs.blanks.before_blanks.Goals as goal
use Rattle.template_text.proofs.blanks.before_blanks.Goals.{then-loop-end-test+else-is_blank, else-loop-end-test}

pub loop-end-preserved : goal.loop-end-preserved
loop-end-preserved c =
    let bytes = c.as_bytes-bytes.result.now in
    let blank = sym c.is_blank.ensures ∙ c.if-is_blank.true in
    record {
      within = omega arith;
      boundary = IsCharBoundary-before_ascii bytes _ (omega arith) (blank_small _ blank);
      before = before_more bytes c.loop-end.end c.loop-end-test.true c.loop-end.invariant.within blank c.loop-end.invariant.before;
    }

pub returns : goal.returns
returns c =
    let bytes = c.as_bytes-bytes.result.now in
    let here : before_blanks (take c.loop-end.end bytes) ≡ take c.loop-end.end bytes = elim c.loop-end-test.branch [
      | then-loop-end-test+else-is_blank w ↦ before_last bytes c.loop-end.end w.loop-end-test.true c.loop-end.invariant.within (sym w.is_blank.ensures ∙ w.if-is_blank.false)
      | else-loop-end-test w ↦ before_first bytes c.loop-end.end w.loop-end-test.false
    ] in
    from_front c.args.text.now c.range.result.now c.loop-end.end c.range.ensures.value ∙ ap (take c.loop-end.end) (sym c.as_bytes-bytes.ensures.value) ∙ sym here ∙ c.loop-end.invariant.before ∙ ap before_blanks c.as_bytes-bytes.ensures.value
