use Rattle.std.proofs.Common.{◌-◌, length}
use Rattle.pf_tool.proofs.InputReading.{ReadTo}
use Rattle.pf_tool.proofs.input_file.read_slices.Given as goal

abbrev pub invariant-loop-bytes : goal.invariant-loop-bytes
invariant-loop-bytes g l = ReadTo l.name l.bytes.items (g.H.Host.state l.fn.host) (g.H.Host.state l.host)

abbrev pub decreases-loop-bytes : goal.decreases-loop-bytes
decreases-loop-bytes g l = 4194305 - length l.bytes.items
