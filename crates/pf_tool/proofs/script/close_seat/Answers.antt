use Rattle.pf_tool.proofs.Conversing.{closing_goes}
use Rattle.pf_tool.proofs.script.close_seat.Goals as goal

pub returns : goal.returns
returns g c reader input log =
    let h0 = g.H.Host.state c.args.host.now in
    let h1 = g.H.Host.state c.end-reply.new.host in
    let o0 = g.K.Sink.state c.args.out.now in
    let o1 = g.K.Sink.state c.say_closing.new.out in
    let r0 = g.R.Words.state c.args.random.now in
    let r1 = g.R.Words.state c.end-reply.new.random in
    let ends = c.end-reply.ensures in
    closing_goes c.args.seat c.say_closing.result c.end-reply.result c.args.desk.now c.end-reply.new.self reader h0 h1 input o0 o1 log r0 r1 ends.none ends.others ends.goes ends.booked (g.met.H.Host.reads_as_image c.end-reply.new.host) c.say_closing.ensures
