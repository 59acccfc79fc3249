use Rattle.std.proofs.Common.{rules}
use Rattle.cmac_kdf.specs.MetadataKey.{metadata_key}
use Rattle.cmac_kdf.proofs.metadata.metadata_key.Goals as goal

pub returns : goal.returns
unfolding metadata_key
returns c = search rules
