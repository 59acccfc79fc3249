use Rattle.std.proofs.Common.{◌-◌, ◌^◌}
use Rattle.pf_script.proofs.Advancing.{Looking}
use Rattle.pf_script.proofs.line_reader.LineReader.read_line.Given as goal

abbrev pub decreases-loop-self : goal.decreases-loop-self
decreases-loop-self g l = 2 ^ 40 - l.self.reads

abbrev pub invariant-loop-self : goal.invariant-loop-self
invariant-loop-self g l = Looking l.long l.fn.self l.self (g.S.Source.state l.fn.input) (g.S.Source.state l.input)
