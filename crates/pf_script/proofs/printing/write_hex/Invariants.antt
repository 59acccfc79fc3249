use Rattle.std.proofs.Common.{length}
use Rattle.pf_script.proofs.Phrasing.{Encoded}
use Rattle.pf_script.proofs.printing.write_hex.Given as goal

abbrev pub invariant-loop-rest : goal.invariant-loop-rest
invariant-loop-rest g l = Encoded l.bytes l.rest (g.K.Sink.state l.fn.out) (g.K.Sink.state l.out)

abbrev pub decreases-loop-rest : goal.decreases-loop-rest
decreases-loop-rest g l = length l.rest
