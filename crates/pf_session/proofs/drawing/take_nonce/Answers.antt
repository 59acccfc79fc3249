use Rattle.pf_session.proofs.Words.{nonce_came}
use Rattle.pf_session.proofs.drawing.take_nonce.Goals as goal

pub returns-in-None-clause-taken : goal.returns-in-None-clause-taken
returns-in-None-clause-taken g c = nonce_came c.args.drawn.now c.draw_nonce.result (g.R.Words.state c.args.random.now) (g.R.Words.state c.draw_nonce.new.random) c.in-None.is c.draw_nonce.ensures.drawn
