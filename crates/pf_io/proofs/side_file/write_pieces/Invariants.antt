use Rattle.pf_io.proofs.SideFiles.{WrotePieces}
use Rattle.pf_io.proofs.side_file.write_pieces.Given as goal

abbrev pub invariant-loop-count : goal.invariant-loop-count
invariant-loop-count g l = WrotePieces l.side l.bytes l.count (g.H.Host.state l.fn.host) (g.H.Host.state l.host)
