use Rattle.pf_io.specs.Streams.{SourceState, SinkState}
use Rattle.pf_script.specs.LineReading.{ReaderState}
use Rattle.pf_tool.specs.World.{world_of}
use Rattle.pf_tool.specs.Scripting.{at, Closings}
use Rattle.pf_tool.proofs.script.close_seats.Given as goal

abbrev pub invariant-loop-seat : goal.invariant-loop-seat
invariant-loop-seat g l =
    (reader : ReaderState) (input : SourceState) (log : SinkState) → Closings (at l.initial.desk reader (world_of (g.H.Host.state l.initial.host) input (g.K.Sink.state l.initial.out) log (g.R.Words.state l.initial.random))) l.seat l.status
    (at l.desk reader (world_of (g.H.Host.state l.host) input (g.K.Sink.state l.out) log (g.R.Words.state l.random)))
