use Rattle.std.proofs.Common.{map}
use Rattle.std.specs.List.{range_with_len}
use Rattle.pf_tool.specs.Happened.{OutPassed}
use Rattle.pf_tool.specs.TextOutput.{piece_at}
use Rattle.pf_tool.proofs.text_output.put_text.Given as goal

abbrev pub invariant-loop-count : goal.invariant-loop-count
invariant-loop-count g l = OutPassed (map (piece_at l.text) (range_with_len 0 l.count)) (g.K.Sink.state l.fn.out) (g.K.Sink.state l.out)
