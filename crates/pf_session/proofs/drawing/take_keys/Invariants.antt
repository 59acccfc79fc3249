use Rattle.node_tree.specs.Existing.{AreKeys}
use Rattle.pf_session.specs.Asking.{Took}
use Rattle.pf_session.proofs.drawing.take_keys.Given as goal

abbrev pub invariant-loop : goal.invariant-loop
invariant-loop g l = AreKeys l.counter l.keys.items × Took l.keys.items (g.R.Words.state l.fn.random) (g.R.Words.state l.random)
