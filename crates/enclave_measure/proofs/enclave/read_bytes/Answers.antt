use Rattle.std.proofs.Common.{refl}
use Rattle.enclave_measure.proofs.Asked.{zero_came}
use Rattle.enclave_measure.proofs.enclave.read_bytes.Goals as goal

pub returns-in-Zero-clause-ends : goal.returns-in-Zero-clause-ends
returns-in-Zero-clause-ends g c = zero_came c.args.source.now _ (g.H.Host.state c.args.host.now) c.in-Zero.is refl
