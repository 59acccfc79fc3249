use Rattle.enclave_measure.proofs.Exemplified.{two_read}
use Rattle.enclave_measure.proofs.examples.two_pages_are_read.Goals as goal

pub returns : goal.returns
returns c = two_read
