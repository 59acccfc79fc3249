use Rattle.aes_gcm.proofs.Sealed.{opens_sealed, length-sealed}
use Rattle.aes_gcm.proofs.gcm.sealed_opens.Goals as goal

pub returns-clause-opens : goal.returns-clause-opens
returns-clause-opens c = opens_sealed

pub returns-clause-length : goal.returns-clause-length
returns-clause-length c = length-sealed
