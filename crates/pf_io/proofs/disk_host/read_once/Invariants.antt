use Rattle.std.proofs.Common.{◌≡◌}
use Rattle.pf_io.proofs.disk_host.read_once.Given as goal

abbrev pub invariant-loop : goal.invariant-loop
invariant-loop l = l.to ≡ l.fn.to
