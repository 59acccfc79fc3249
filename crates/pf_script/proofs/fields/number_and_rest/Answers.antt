use Rattle.pf_script.proofs.Wording.{no_number, number_in}
use Rattle.pf_script.proofs.fields.number_and_rest.Goals as goal

pub returns-in_err-word : goal.returns-in_err-word
returns-in_err-word c = rw c.from_residual.ensures (λ number rest is. no_number c.args.fields.now number rest c.in_err-word.ensures is)

pub returns-in_err-number : goal.returns-in_err-number
returns-in_err-number c = rw c.from_residual-in_err-number.ensures (λ number rest is. cc ((c.in_err-number.ensures.number number).1 (number_in c.args.fields.now c.in_ok-word.word.now c.in_ok-word.rest.now number rest c.in_ok-word.ensures.0 c.in_ok-word.ensures.1 is)))
