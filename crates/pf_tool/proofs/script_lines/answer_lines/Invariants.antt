use Rattle.std.proofs.Common.{◌+◌, ◌-◌, ◌*◌, ◌^◌, length}
use Rattle.pf_io.specs.Streams.{SinkState}
use Rattle.pf_script.specs.LineReading.{IsBounded}
use Rattle.pf_tool.specs.World.{world_of}
use Rattle.pf_tool.specs.Scripting.{at, Lines}
use Rattle.pf_tool.proofs.script_lines.answer_lines.Given as goal

abbrev pub invariant-loop-next : goal.invariant-loop-next
invariant-loop-next g l = record {
  bounded : IsBounded l.reader;
  lines : (log : SinkState) → Lines (at l.initial.desk l.initial.reader (world_of (g.H.Host.state l.initial.host) (g.S.Source.state l.initial.input) (g.K.Sink.state l.initial.out) log (g.R.Words.state l.initial.random))) l.status
      (at l.desk l.reader (world_of (g.H.Host.state l.host) (g.S.Source.state l.input) (g.K.Sink.state l.out) log (g.R.Words.state l.random)));
}

abbrev pub decreases-loop-next : goal.decreases-loop-next
decreases-loop-next g l = (2 ^ 40 - l.reader.reads) * 131074 + length l.reader.pending
