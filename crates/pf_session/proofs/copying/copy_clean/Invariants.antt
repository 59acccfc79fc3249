use Rattle.pf_session.proofs.CopyLoop.{CopiedTo}
use Rattle.pf_session.proofs.copying.copy_clean.Given as goal

abbrev pub invariant-loop-number : goal.invariant-loop-number
invariant-loop-number g l = CopiedTo l.from l.to l.dirty l.count l.number (g.H.Host.state l.fn.host) (g.H.Host.state l.host)
