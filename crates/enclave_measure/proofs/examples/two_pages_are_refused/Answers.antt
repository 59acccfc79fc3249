use Rattle.enclave_measure.proofs.Exemplified.{two_past, two_repeated}
use Rattle.enclave_measure.proofs.examples.two_pages_are_refused.Goals as goal

pub returns : goal.returns
returns c = record { past_the_end = two_past; repeated = two_repeated }
