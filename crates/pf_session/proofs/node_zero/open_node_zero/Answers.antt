use Rattle.std.proofs.Common.{refl, rules}
use Rattle.pf_session.specs.Opening.{not_opened, other_path}
use Rattle.pf_session.proofs.node_zero.open_node_zero.Goals as goal

pub returns-in-Err-clause-refused : goal.returns-in-Err-clause-refused
returns-in-Err-clause-refused c = not_opened c.in-Err.kind c.in-Err.ensures.refused c.damaged.ensures

pub returns-clause-refused : goal.returns-clause-refused
returns-clause-refused c = other_path c.in-Ok.secret c.in-Some.given.now c.in-Ok.ensures.opened (search rules) (search rules) refl
