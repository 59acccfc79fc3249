use Rattle.std.proofs.Common.{refl}
use Rattle.pf_io.proofs.Recorded.{stores_same}
use Rattle.pf_io.proofs.mem_calls.answer_length.Goals as goal

pub returns-clause-stores : goal.returns-clause-stores
returns-clause-stores c = stores_same _ _ _ _ c.requires c.in_ok-push.ensures.items refl
