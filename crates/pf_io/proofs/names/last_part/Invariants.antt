use Rattle.std.proofs.Common.{◌≡◌, ◌≤◌, [], take, drop}
use Rattle.std.specs.Prelude.{fold}
use Rattle.pf_io.specs.Names.{part_with}
use Rattle.pf_io.proofs.names.last_part.Given as goal

abbrev pub invariant-loop-i : goal.invariant-loop-i
invariant-loop-i l = record {
  within : l.start ≤ l.i;
  part : drop l.start (take l.i l.name) ≡ fold part_with [] (take l.i l.name);
}
