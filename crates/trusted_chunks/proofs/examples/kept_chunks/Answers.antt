use Rattle.std.proofs.Common.{refl}
use Rattle.trusted_chunks.proofs.examples.kept_chunks.Goals as goal

pub returns : goal.returns
returns c = record { missing = refl; used_first = refl; last_goes = refl }
