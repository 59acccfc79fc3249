use Rattle.manifest_model.proofs.SumLists.{cloned}
use Rattle.manifest_model.proofs.summing.copied.Goals as goal

pub returns : goal.returns
returns c = cloned c.args.table.now.entries c.in_ok-clone.field-0.entries c.in_ok-clone.ensures.cases
