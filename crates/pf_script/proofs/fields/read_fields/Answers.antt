use Rattle.pf_script.specs.declared.line.ScriptLine.TheVariants as lines
use Rattle.pf_script.specs.ScriptLines.{HasSeat, HasSize, HasRange, HasCopies}
use Rattle.pf_script.proofs.Answering.{or_bad_reads}
use Rattle.pf_script.proofs.fields.read_fields.Goals as goal

pub returns-in-Create : goal.returns-in-Create
returns-in-Create c = rw c.in-Create.is c.read_create.ensures

pub returns-in-Open : goal.returns-in-Open
returns-in-Open c = rw c.in-Open.is c.read_open.ensures

pub returns-in-View : goal.returns-in-View
returns-in-View c = rw c.in-View.is c.read_view.ensures

pub returns-in-Read : goal.returns-in-Read
returns-in-Read c = rw c.in-Read.is (or_bad_reads (HasRange c.args.fields.now) c.read_range.result c.or_bad.result c.read_range.ensures c.or_bad.ensures)

pub returns-in-Write : goal.returns-in-Write
returns-in-Write c = rw c.in-Write.is c.read_write.ensures

pub returns-in-Fill : goal.returns-in-Fill
returns-in-Fill c = rw c.in-Fill.is (or_bad_reads (HasCopies c.args.fields.now) c.read_fill.result c.or_bad-in-Fill.result c.read_fill.ensures c.or_bad-in-Fill.ensures)

pub returns-in-Size : goal.returns-in-Size
returns-in-Size c = rw c.in-Size.is (or_bad_reads (HasSize c.args.fields.now) c.read_size.result c.or_bad-in-Size.result c.read_size.ensures c.or_bad-in-Size.ensures)

pub returns-in-Flush : goal.returns-in-Flush
returns-in-Flush c = rw c.in-Flush.is (or_bad_reads (HasSeat lines.Flush c.args.fields.now) c.read_flush.result c.or_bad-in-Flush.result c.read_flush.ensures c.or_bad-in-Flush.ensures)

pub returns-in-Move : goal.returns-in-Move
returns-in-Move c = rw c.in-Move.is c.read_move.ensures

pub returns-in-Draw : goal.returns-in-Draw
returns-in-Draw c = rw c.in-Draw.is (or_bad_reads (HasSeat lines.Draw c.args.fields.now) c.read_draw.result c.or_bad-in-Draw.result c.read_draw.ensures c.or_bad-in-Draw.ensures)

pub returns-in-Close : goal.returns-in-Close
returns-in-Close c = rw c.in-Close.is (or_bad_reads (HasSeat lines.Close c.args.fields.now) c.read_close.result c.or_bad-in-Close.result c.read_close.ensures c.or_bad-in-Close.ensures)
