use Rattle.std.proofs.Common.{ap, refl, subst, Ok, Err}
use Rattle.std.proofs.lemmas.Result.{err_from_is_err_and}
use Rattle.pf_tool.specs.World.{world_of}
use Rattle.pf_tool.specs.Scripting.{At, at, AllLines, Lines, KeyRead, ScriptRead, no_key, no_reader, no_line, no_closing, no_end, done}
use Rattle.pf_tool.proofs.Conversing.{begins_is}
use Rattle.pf_tool.proofs.script.run_script.Goals as goal

pub returns-in_err-user : goal.returns-in_err-user
returns-in_err-user g c log =
    let p = err_from_is_err_and c.from_residual.result c.from_residual.ensures.1 in
    let w0 = world_of (g.H.Host.state c.args.host.now) (g.S.Source.state c.args.input.now) (g.K.Sink.state c.args.out.now) log (g.R.Words.state c.args.random.now) in
    rw p.1 (no_key c.in_err-user.field-0.0 (c.in_err-user.ensures.refused w0) (ap Err p.2))

pub returns-in_err-reader : goal.returns-in_err-reader
returns-in_err-reader g c log =
    let p = err_from_is_err_and c.from_residual-in_err-reader.result c.from_residual-in_err-reader.ensures.1 in
    let w0 = world_of (g.H.Host.state c.args.host.now) (g.S.Source.state c.args.input.now) (g.K.Sink.state c.args.out.now) log (g.R.Words.state c.args.random.now) in
    let k = c.in_ok-user.ensures in
    rw p.1 (no_reader c.in_ok-user.user (record { is_key = k.key; passed = k.read w0; disk = k.disk }) (ap Err p.2))

pub returns-in_err-lines : goal.returns-in_err-lines
returns-in_err-lines g c log =
    let p = err_from_is_err_and c.from_residual-in_err-lines.result c.from_residual-in_err-lines.ensures.1 in
    let s0 = g.S.Source.state c.args.input.now in
    let o0 = g.K.Sink.state c.args.out.now in
    let r0 = g.R.Words.state c.args.random.now in
    let w0 = world_of (g.H.Host.state c.args.host.now) s0 o0 log r0 in
    let w1 = world_of (g.H.Host.state c.read_key.new.host) s0 o0 log r0 in
    let k = c.in_ok-user.ensures in
    let user = c.in_ok-user.user in
    let read : KeyRead c.args.command.now.key.now user w0 w1 = record { is_key = k.key; passed = k.read w0; disk = k.disk } in
    let n = c.answer_lines.new in
    let now = at n.desk n.reader (world_of (g.H.Host.state n.host) (g.S.Source.state n.input) (g.K.Sink.state n.out) log (g.R.Words.state n.random)) in
    let e = c.in_err-lines.ensures log in
    let start = begins_is user w1 c.new-desk.result c.in_ok-reader.reader c.new-desk.ensures.key c.new-desk.ensures.seats c.in_ok-reader.ensures in
    rw p.1 (no_line user w1 e.0 e.1 now c.in_err-lines.field-0.0 read (subst (λ (a : At). Lines a e.0 e.1) start e.2) e.3 refl (ap Err p.2))

pub returns-in_err-closings : goal.returns-in_err-closings
returns-in_err-closings g c log =
    let p = err_from_is_err_and c.from_residual-in_err-closings.result c.from_residual-in_err-closings.ensures.1 in
    let s0 = g.S.Source.state c.args.input.now in
    let o0 = g.K.Sink.state c.args.out.now in
    let r0 = g.R.Words.state c.args.random.now in
    let w0 = world_of (g.H.Host.state c.args.host.now) s0 o0 log r0 in
    let w1 = world_of (g.H.Host.state c.read_key.new.host) s0 o0 log r0 in
    let k = c.in_ok-user.ensures in
    let user = c.in_ok-user.user in
    let n = c.answer_lines.new in
    let s1 = g.S.Source.state n.input in
    let read = at n.desk n.reader (world_of (g.H.Host.state n.host) s1 (g.K.Sink.state n.out) log (g.R.Words.state n.random)) in
    let m = c.close_seats.new in
    let now = at m.desk n.reader (world_of (g.H.Host.state m.host) s1 (g.K.Sink.state m.out) log (g.R.Words.state m.random)) in
    let e = c.in_err-closings.ensures n.reader s1 log in
    let start = begins_is user w1 c.new-desk.result c.in_ok-reader.reader c.new-desk.ensures.key c.new-desk.ensures.seats c.in_ok-reader.ensures in
    let status = c.in_ok-lines.lines in
    let all : ScriptRead c.args.command.now.key.now w0 status read =
    record { user = user; begun = w1; read = record { is_key = k.key; passed = k.read w0; disk = k.disk }; all = subst (λ (a : At). AllLines a status read) start (c.in_ok-lines.ensures log) } in
    rw p.1 (no_closing status e.0 e.1 read e.2 now all e.3 e.4 refl (ap Err p.2))

pub returns-in_err-write : goal.returns-in_err-write
returns-in_err-write g c log =
    let p = err_from_is_err_and c.from_residual-in_err-write.result c.from_residual-in_err-write.ensures.1 in
    let s0 = g.S.Source.state c.args.input.now in
    let o0 = g.K.Sink.state c.args.out.now in
    let r0 = g.R.Words.state c.args.random.now in
    let w0 = world_of (g.H.Host.state c.args.host.now) s0 o0 log r0 in
    let w1 = world_of (g.H.Host.state c.read_key.new.host) s0 o0 log r0 in
    let k = c.in_ok-user.ensures in
    let user = c.in_ok-user.user in
    let n = c.answer_lines.new in
    let s1 = g.S.Source.state n.input in
    let read = at n.desk n.reader (world_of (g.H.Host.state n.host) s1 (g.K.Sink.state n.out) log (g.R.Words.state n.random)) in
    let m = c.close_seats.new in
    let last = at m.desk n.reader (world_of (g.H.Host.state m.host) s1 (g.K.Sink.state m.out) log (g.R.Words.state m.random)) in
    let start = begins_is user w1 c.new-desk.result c.in_ok-reader.reader c.new-desk.ensures.key c.new-desk.ensures.seats c.in_ok-reader.ensures in
    let status = c.in_ok-lines.lines in
    let all : ScriptRead c.args.command.now.key.now w0 status read =
    record { user = user; begun = w1; read = record { is_key = k.key; passed = k.read w0; disk = k.disk }; all = subst (λ (a : At). AllLines a status read) start (c.in_ok-lines.ensures log) } in
    let wrote = c.in_err-write.ensures in
    rw p.1 (no_end status c.in_ok-closings.closings read last all (c.in_ok-closings.ensures n.reader s1 log) (record { told = wrote.taken; once = wrote.cause.once }) refl (ap Err p.2))

pub returns : goal.returns
returns g c log =
    let s0 = g.S.Source.state c.args.input.now in
    let o0 = g.K.Sink.state c.args.out.now in
    let r0 = g.R.Words.state c.args.random.now in
    let w0 = world_of (g.H.Host.state c.args.host.now) s0 o0 log r0 in
    let w1 = world_of (g.H.Host.state c.read_key.new.host) s0 o0 log r0 in
    let k = c.in_ok-user.ensures in
    let user = c.in_ok-user.user in
    let n = c.answer_lines.new in
    let s1 = g.S.Source.state n.input in
    let read = at n.desk n.reader (world_of (g.H.Host.state n.host) s1 (g.K.Sink.state n.out) log (g.R.Words.state n.random)) in
    let m = c.close_seats.new in
    let last = at m.desk n.reader (world_of (g.H.Host.state m.host) s1 (g.K.Sink.state m.out) log (g.R.Words.state m.random)) in
    let start = begins_is user w1 c.new-desk.result c.in_ok-reader.reader c.new-desk.ensures.key c.new-desk.ensures.seats c.in_ok-reader.ensures in
    let status = c.in_ok-lines.lines in
    let all : ScriptRead c.args.command.now.key.now w0 status read =
    record { user = user; begun = w1; read = record { is_key = k.key; passed = k.read w0; disk = k.disk }; all = subst (λ (a : At). AllLines a status read) start (c.in_ok-lines.ensures log) } in
    let wrote = c.in_ok-write.ensures in
    done status c.in_ok-closings.closings read last all (c.in_ok-closings.ensures n.reader s1 log) (record { told = wrote.taken; calm = wrote.cause.still }) refl (ap Ok c.first_of.ensures)
