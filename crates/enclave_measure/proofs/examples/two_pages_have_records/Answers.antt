use Rattle.std.proofs.Common.{refl}
use Rattle.enclave_measure.specs.Records.{flags}
use Rattle.enclave_measure.proofs.examples.two_pages_have_records.Goals as goal

pub returns : goal.returns
unfolding flags
returns c = record { length_is = refl; creation_is = refl; first_addition = refl; first_extension = refl; last_extension = refl; second_addition = refl }
