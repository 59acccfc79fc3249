use Rattle.std.proofs.Common.{refl}
use Rattle.pf_io.proofs.Sources.{keeps_same, keeps_then}
use Rattle.pf_io.proofs.std_source.read_once.Goals as goal

pub loop-init : goal.loop-init
loop-init g c = record { to = refl; kept = keeps_same (g.R.Read.remaining c.args.reader.now) }

pub loop-preserved : goal.loop-preserved
loop-preserved g c = record { to = c.loop.invariant.to; kept = keeps_then (g.R.Read.remaining c.args.reader.now) (g.R.Read.remaining c.loop.reader) (g.R.Read.remaining c.read.new.self) c.loop.invariant.kept c.in-Err.ensures.bytes }
