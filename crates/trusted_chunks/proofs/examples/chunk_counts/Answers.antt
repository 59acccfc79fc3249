use Rattle.std.proofs.Common.{refl}
use Rattle.trusted_chunks.proofs.examples.chunk_counts.Goals as goal

pub returns : goal.returns
returns c = record { empty = refl; one_byte = refl; whole = refl; one_more = refl; three = refl; most = refl }
