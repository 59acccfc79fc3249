use Rattle.std.proofs.Common.{◌≡◌, ℕ, refl, sym, subst, Option, Ok}
use Rattle.std.proofs.lemmas.Result.{err_from_is_err_and}
use Rattle.pf_io.specs.Streams.{SinkState}
use Rattle.pf_tool.specs.World.{world_of}
use Rattle.pf_tool.specs.Replying.{first_of as first_status}
use Rattle.pf_tool.specs.Scripting.{at, NextGoes, LineStops, none_yet, one_more}
use Rattle.pf_tool.specs.declared.fault.Fault.{Fault}
use Rattle.pf_tool.proofs.LineCounting.{goes_down}
use Rattle.pf_tool.proofs.script_lines.answer_lines.Goals as goal

pub loop-next-init : goal.loop-next-init
loop-next-init g c = record { bounded = c.requires; lines = λ log. none_yet 0 _ refl refl }

pub returns-in_err-next : goal.returns-in_err-next
returns-in_err-next g c log =
    let p = err_from_is_err_and c.from_residual.result c.from_residual.ensures.1 in
    let l = c.loop-next in
    let n = c.answer_next.new in
    let mid = at l.desk l.reader (world_of (g.H.Host.state l.host) (g.S.Source.state l.input) (g.K.Sink.state l.out) log (g.R.Words.state l.random)) in
    let now = at n.desk n.reader (world_of (g.H.Host.state n.host) (g.S.Source.state n.input) (g.K.Sink.state n.out) log (g.R.Words.state n.random)) in
    rw p.1 (l.status, mid, l.invariant.lines log, subst (λ (f : Fault). LineStops f mid now) (sym p.2) (c.in_err-next.ensures log))

pub loop-next-smaller : goal.loop-next-smaller
loop-next-smaller g c =
    let l = c.loop-next in
    let n = c.answer_next.new in
    let log = g.K.Sink.state c.args.out.now in
    let mid = at l.desk l.reader (world_of (g.H.Host.state l.host) (g.S.Source.state l.input) (g.K.Sink.state l.out) log (g.R.Words.state l.random)) in
    let now = at n.desk n.reader (world_of (g.H.Host.state n.host) (g.S.Source.state n.input) (g.K.Sink.state n.out) log (g.R.Words.state n.random)) in
    let goes = subst (λ (o : Option ℕ). NextGoes (Ok o) mid now) c.in-Some.is (c.in_ok-next.ensures log) in
    (goes_down goes.0 mid now goes.1.answered l.invariant.bounded).1

pub loop-next-preserved : goal.loop-next-preserved
loop-next-preserved g c =
    let l = c.loop-next in
    let n = c.answer_next.new in
    let any = g.K.Sink.state c.args.out.now in
    let mid = λ (log : SinkState). at l.desk l.reader (world_of (g.H.Host.state l.host) (g.S.Source.state l.input) (g.K.Sink.state l.out) log (g.R.Words.state l.random)) in
    let now = λ (log : SinkState). at n.desk n.reader (world_of (g.H.Host.state n.host) (g.S.Source.state n.input) (g.K.Sink.state n.out) log (g.R.Words.state n.random)) in
    let goes = λ (log : SinkState). subst (λ (o : Option ℕ). NextGoes (Ok o) (mid log) (now log)) c.in-Some.is (c.in_ok-next.ensures log) in
    record {
      bounded = (goes_down (goes any).0 (mid any) (now any) (goes any).1.answered l.invariant.bounded).0;
      lines = λ log. one_more l.status c.first_of-status.result (goes log).0 (mid log) (now log) (l.invariant.lines log) (goes log).1 (subst (λ (s : ℕ). c.first_of-status.result ≡ first_status l.status s) (goes log).2 c.first_of-status.ensures);
    }

pub returns : goal.returns
returns g c log =
    let l = c.loop-next in
    let n = c.answer_next.new in
    let mid = at l.desk l.reader (world_of (g.H.Host.state l.host) (g.S.Source.state l.input) (g.K.Sink.state l.out) log (g.R.Words.state l.random)) in
    let now = at n.desk n.reader (world_of (g.H.Host.state n.host) (g.S.Source.state n.input) (g.K.Sink.state n.out) log (g.R.Words.state n.random)) in
    record { last = mid; lines = l.invariant.lines log; ends = subst (λ (o : Option ℕ). NextGoes (Ok o) mid now) c.in_default.is (c.in_ok-next.ensures log) }
