use Rattle.std.proofs.Common.{[]}
use Rattle.manifest_model.proofs.Agreed.{agreed}
use Rattle.manifest_model.proofs.Entered.{named-entries}
use Rattle.manifest_model.proofs.laws.entries_are_one_a_name.Goals as goal

pub returns-clause-agreed : goal.returns-clause-agreed
returns-clause-agreed c = λ place. agreed [] place 0

pub returns-clause-entries : goal.returns-clause-entries
returns-clause-entries c = named-entries
