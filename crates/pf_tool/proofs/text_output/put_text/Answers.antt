use Rattle.std.proofs.Common.{arith}
use Rattle.std.proofs.lemmas.Result.{err_from_is_err_and}
use Rattle.pf_tool.proofs.Composing.{out_none}
use Rattle.pf_tool.proofs.TextPutting.{piece_is, piece_more, piece_fails, pieces_done}
use Rattle.pf_tool.proofs.text_output.put_text.Goals as goal

pub loop-count-init : goal.loop-count-init
loop-count-init g c = out_none (g.K.Sink.state c.args.out.now)

pub returns-in_err-write : goal.returns-in_err-write
returns-in_err-write g c =
    let p = err_from_is_err_and c.from_residual.result c.from_residual.ensures.1 in
    λ world. rw p.1 (piece_fails c.args.text.now world c.loop-count.count _ p.0 (g.K.Sink.state c.args.out.now) (g.K.Sink.state c.loop-count.out) (g.K.Sink.state c.write.new.self) p.2 (omega (arith, c.div_ceil.ensures, c.max-count-end.ensures, c.loop-count-test.true))
    (piece_is c.args.text.now c.loop-count.count c.min.result c.min.ensures) c.loop-count.invariant c.in_err-write.ensures.taken c.in_err-write.ensures.cause.once)

pub loop-count-preserved : goal.loop-count-preserved
loop-count-preserved g c =
    piece_more c.args.text.now c.loop-count.count _ (g.K.Sink.state c.args.out.now) (g.K.Sink.state c.loop-count.out) (g.K.Sink.state c.write.new.self)
    (piece_is c.args.text.now c.loop-count.count c.min.result c.min.ensures) c.loop-count.invariant c.in_ok-write.ensures.taken c.in_ok-write.ensures.cause.still

pub returns : goal.returns
returns g c world = pieces_done c.args.text.now world c.loop-count.count (g.K.Sink.state c.args.out.now) (g.K.Sink.state c.loop-count.out)
    (omega (arith, c.div_ceil.ensures, c.max-count-end.ensures, c.loop-count-test.false, c.loop-count.auto.count-end)) c.loop-count.invariant
