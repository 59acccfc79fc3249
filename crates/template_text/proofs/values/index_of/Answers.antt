use Rattle.template_text.proofs.Indexing.{index_more}
use Rattle.template_text.proofs.values.index_of.Goals as goal

pub loop-name-preserved : goal.loop-name-preserved
loop-name-preserved c =
    index_more c.args.values.now c.loop-name.name-index c.loop-name-item.result c.loop-name.index c.set.new.index c.as_str.result.now c.as_str-in-loop-name.result.now c.loop-name-test.true c.loop-name-item.is c.as_str.ensures c.as_str-in-loop-name.ensures c.in_ok-set.ensures c.loop-name.invariant
