use Rattle.pf_session.proofs.Deciding.{one_opening}
use Rattle.pf_session.proofs.laws.openings_are_decided.Goals as goal

pub returns : goal.returns
returns c = one_opening
