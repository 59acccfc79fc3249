use Rattle.std.proofs.Common.{refl}
use Rattle.manifest_model.specs.Names.{normal, normal_parts, kept_of}
use Rattle.manifest_model.proofs.examples.names.Goals as goal

pub returns : goal.returns
unfolding normal normal_parts kept_of
returns c = record { empty = refl; root = refl; dropped = refl; above_root = refl; above = refl; taken_along = refl }
