use Rattle.std.proofs.Common.{◌≡◌, take}
use Rattle.std.specs.String.{string_bytes}
use Rattle.pf_tool.specs.Summing.{sum_lines}
use Rattle.pf_tool.proofs.sum_files.lines_of.Given as goal

abbrev pub invariant-loop-k : goal.invariant-loop-k
invariant-loop-k l = string_bytes l.lines ≡ sum_lines (take l.k l.manifest.lists.trusted) (take l.k l.sums)
