use Rattle.std.proofs.Common.{refl}
use Rattle.file_sums.specs.Collecting.{EntryEnds}
use Rattle.file_sums.proofs.collecting.sum_entry.Goals as goal

pub returns-in-Some-clause-ends : goal.returns-in-Some-clause-ends
returns-in-Some-clause-ends g c = EntryEnds.Listed c.in-Some.listed c.in-Some.is refl refl
