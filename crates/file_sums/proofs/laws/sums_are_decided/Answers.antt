use Rattle.file_sums.proofs.Deciding.{decided}
use Rattle.file_sums.proofs.laws.sums_are_decided.Goals as goal

pub returns : goal.returns
returns c = decided
