use Rattle.std.proofs.Common.{refl}
use Rattle.manifest_model.specs.Names.{normal, normal_parts, kept_of, file_name}
use Rattle.manifest_model.specs.Trusting.{item_of, entries_of}
use Rattle.manifest_model.specs.Listed.{allowed_uri, mounting_of, policy_of}
use Rattle.manifest_model.proofs.examples.lists.Goals as goal

pub returns : goal.returns
unfolding normal normal_parts kept_of file_name item_of entries_of allowed_uri mounting_of policy_of
returns c = record { policy = refl; joined = refl; allowed = refl; root = refl }
