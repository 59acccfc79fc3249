use Rattle.std.proofs.Common.{◌++◌, codes, decimal}
use Rattle.hex.specs.Hex.{encode_lower}
use Rattle.pf_script.proofs.Phrasing.{said_line}
use Rattle.pf_script.proofs.printing.write_reply.Goals as goal

pub returns-in-Drawn : goal.returns-in-Drawn
returns-in-Drawn g c =
    rw c.in-Drawn.is (said_line c.write_digits.result (codes "ok draw " ++ encode_lower c.in-Drawn.nonce) (g.K.Sink.state c.args.out.now) (g.K.Sink.state c.write_digits.new.out) c.write_digits.ensures)

pub returns-in-DamagedChunk : goal.returns-in-DamagedChunk
returns-in-DamagedChunk g c =
    rw c.in-DamagedChunk.is
    (said_line c.write_number-in-DamagedChunk.result (codes "damaged chunk " ++ decimal c.in-DamagedChunk.chunk) (g.K.Sink.state c.args.out.now) (g.K.Sink.state c.write_number-in-DamagedChunk.new.out) c.write_number-in-DamagedChunk.ensures)

pub returns-in-WordsFault : goal.returns-in-WordsFault
returns-in-WordsFault g c =
    rw c.in-WordsFault.is (said_line c.write_line-in-WordsFault.result (codes "random fault") (g.K.Sink.state c.args.out.now) (g.K.Sink.state c.write_line-in-WordsFault.new.out) c.write_line-in-WordsFault.ensures)
