use Rattle.template_text.proofs.Indexing.{value_set}
use Rattle.template_text.proofs.values.set.Goals as goal

pub returns : goal.returns
returns c = value_set c.args.index.now c.insert.new.self c.args.name c.args.value c.in_ok-insert.ensures.updates
