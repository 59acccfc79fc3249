-- What a run finds outside of itself.
use Rattle.pf_io.specs.Host.{HostState}
use Rattle.pf_io.specs.Streams.{SourceState, SinkState}
use Rattle.pf_io.specs.Words.{WordsState}

-- the host, the streams and the random words, each by what it tells
pub record World : Type 0 where
  pub host : HostState
  pub input : SourceState
  pub out : SinkState
  pub log : SinkState
  pub random : WordsState

abbrev pub with_host : World → HostState → World
with_host world host = record { host = host; input = world.input; out = world.out; log = world.log; random = world.random }

abbrev pub with_out : World → SinkState → World
with_out world out = record { host = world.host; input = world.input; out = out; log = world.log; random = world.random }

abbrev pub with_log : World → SinkState → World
with_log world log = record { host = world.host; input = world.input; out = world.out; log = log; random = world.random }

abbrev pub with_random : World → WordsState → World
with_random world random = record { host = world.host; input = world.input; out = world.out; log = world.log; random = random }

abbrev pub world_of : HostState → SourceState → SinkState → SinkState → WordsState → World
world_of host input out log random = record { host = host; input = input; out = out; log = log; random = random }
