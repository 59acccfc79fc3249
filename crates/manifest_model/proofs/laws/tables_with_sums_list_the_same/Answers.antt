use Rattle.manifest_model.proofs.Resummed.{resummed}
use Rattle.manifest_model.proofs.laws.tables_with_sums_list_the_same.Goals as goal

pub returns : goal.returns
returns c = resummed
