use Rattle.std.proofs.Common.{refl}
use Rattle.trusted_chunks.proofs.examples.touched_chunks.Goals as goal

pub returns : goal.returns
returns c = record { none = refl; both_sides = refl; last = refl; three = refl }
