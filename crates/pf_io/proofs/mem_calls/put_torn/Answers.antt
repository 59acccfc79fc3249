use Rattle.std.proofs.Common.{◌∙◌, arith, ◌-◌}
use Rattle.pf_io.proofs.Crashed.{torn_more, put_unanswered}
use Rattle.pf_io.proofs.mem_calls.put_torn.Goals as goal

pub loop-k-preserved : goal.loop-k-preserved
loop-k-preserved c = record {
  stores = c.in_ok-put.ensures.stores;
  no_answers = put_unanswered _ _ _ _ c.loop-k.invariant.no_answers c.in_ok-put.ensures.records;
  torn = torn_more c.args.tear c.args.old.now c.loop-k.k (c.loop-k.k - 1) c.index-old-k.result _ _ _ _ (omega arith) (omega arith) c.index-old-k.is c.deref.ensures.value (c.deref-in-loop-k.ensures.value ∙ c.in_ok-bytes.ensures) c.loop-k.invariant.torn c.in_ok-put.ensures.records;
}
