use Rattle.std.proofs.Common.{◌≡◌}
use Rattle.std.specs.Io.KnownBytes.{Keeps}
use Rattle.pf_io.proofs.std_source.read_once.Given as goal

abbrev pub invariant-loop : goal.invariant-loop
invariant-loop g l = record {
  to : l.to ≡ l.fn.to;
  kept : Keeps (g.R.Read.remaining l.fn.reader) (g.R.Read.remaining l.reader);
}
