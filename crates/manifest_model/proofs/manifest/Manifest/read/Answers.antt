use Rattle.manifest_model.proofs.Deciding.{no_other}
use Rattle.manifest_model.proofs.Sorting.{text_sorted}
use Rattle.manifest_model.proofs.manifest.Manifest.read.Goals as goal

pub returns-clause-no_other : goal.returns-clause-no_other
returns-clause-no_other c = no_other c.args.bytes.now c.read_whole.result c.read_whole.ensures

pub returns-clause-keys_rise : goal.returns-clause-keys_rise
returns-clause-keys_rise c = text_sorted c.args.bytes.now
