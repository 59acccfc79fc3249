use Rattle.enclave_measure.proofs.fields.read_fields.Goals as goal

pub returns-in_err-offset : goal.returns-in_err-offset
returns-in_err-offset c = rw c.from_residual.ensures (λ number access kind extent fields. c.in_err-offset.ensures number fields.offset_is)
