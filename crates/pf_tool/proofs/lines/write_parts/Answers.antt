use Rattle.std.proofs.lemmas.Result.{err_from_is_err_and}
use Rattle.pf_tool.specs.Reports.{WroteAll}
use Rattle.pf_io.proofs.Writing.{written_by}
use Rattle.pf_tool.proofs.Writing.{line_fails_first, line_fails_second, line_fails_third, line_fails_fourth, line_ends}
use Rattle.pf_tool.proofs.lines.write_parts.Goals as goal

pub returns-in_err-write : goal.returns-in_err-write
returns-in_err-write g c =
    let p = err_from_is_err_and c.from_residual.result c.from_residual.ensures.1 in
    let s0 = g.L.Sink.state c.args.log.now in
    let s1 = g.L.Sink.state c.write.new.self in
    rw p.1 (line_fails_first c.args.first.now c.args.second.now c.args.third.now c.args.fourth.now s0 s1
    (record { once = c.in_err-write.ensures.cause.once; told = rw c.as_bytes.ensures.value at c.in_err-write.ensures.taken }))

pub returns-in_err-write-2 : goal.returns-in_err-write-2
returns-in_err-write-2 g c =
    let p = err_from_is_err_and c.from_residual-in_err-write-2.result c.from_residual-in_err-write-2.ensures.1 in
    let s0 = g.L.Sink.state c.args.log.now in
    let s1 = g.L.Sink.state c.write.new.self in
    let s2 = g.L.Sink.state c.write-2.new.self in
    let first : WroteAll c.args.first.now s0 s1 = record { calm = c.in_ok-write.ensures.cause.still; told = rw c.as_bytes.ensures.value at c.in_ok-write.ensures.taken } in
    rw p.1 (line_fails_second c.args.first.now c.args.second.now c.args.third.now c.args.fourth.now s0 s1 s2 first
    (record { once = c.in_err-write-2.ensures.cause.once; told = rw c.as_bytes-2.ensures.value at c.in_err-write-2.ensures.taken }))

pub returns-in_err-write-3 : goal.returns-in_err-write-3
returns-in_err-write-3 g c =
    let p = err_from_is_err_and c.from_residual-in_err-write-3.result c.from_residual-in_err-write-3.ensures.1 in
    let s0 = g.L.Sink.state c.args.log.now in
    let s1 = g.L.Sink.state c.write.new.self in
    let s2 = g.L.Sink.state c.write-2.new.self in
    let s3 = g.L.Sink.state c.write-3.new.self in
    let first : WroteAll c.args.first.now s0 s1 = record { calm = c.in_ok-write.ensures.cause.still; told = rw c.as_bytes.ensures.value at c.in_ok-write.ensures.taken } in
    let second : WroteAll c.args.second.now s1 s2 = record { calm = c.in_ok-write-2.ensures.cause.still; told = rw c.as_bytes-2.ensures.value at c.in_ok-write-2.ensures.taken } in
    rw p.1 (line_fails_third c.args.first.now c.args.second.now c.args.third.now c.args.fourth.now s0 s1 s2 s3 first second
    (record { once = c.in_err-write-3.ensures.cause.once; told = rw c.as_bytes-3.ensures.value at c.in_err-write-3.ensures.taken }))

pub returns-in_err-write-4 : goal.returns-in_err-write-4
returns-in_err-write-4 g c =
    let p = err_from_is_err_and c.from_residual-in_err-write-4.result c.from_residual-in_err-write-4.ensures.1 in
    let s0 = g.L.Sink.state c.args.log.now in
    let s1 = g.L.Sink.state c.write.new.self in
    let s2 = g.L.Sink.state c.write-2.new.self in
    let s3 = g.L.Sink.state c.write-3.new.self in
    let s4 = g.L.Sink.state c.write-4.new.self in
    let first : WroteAll c.args.first.now s0 s1 = record { calm = c.in_ok-write.ensures.cause.still; told = rw c.as_bytes.ensures.value at c.in_ok-write.ensures.taken } in
    let second : WroteAll c.args.second.now s1 s2 = record { calm = c.in_ok-write-2.ensures.cause.still; told = rw c.as_bytes-2.ensures.value at c.in_ok-write-2.ensures.taken } in
    let third : WroteAll c.args.third.now s2 s3 = record { calm = c.in_ok-write-3.ensures.cause.still; told = rw c.as_bytes-3.ensures.value at c.in_ok-write-3.ensures.taken } in
    rw p.1 (line_fails_fourth c.args.first.now c.args.second.now c.args.third.now c.args.fourth.now s0 s1 s2 s3 s4 first second third
    (record { once = c.in_err-write-4.ensures.cause.once; told = rw c.as_bytes-4.ensures.value at c.in_err-write-4.ensures.taken }))

pub returns : goal.returns
returns g c =
    let s0 = g.L.Sink.state c.args.log.now in
    let s1 = g.L.Sink.state c.write.new.self in
    let s2 = g.L.Sink.state c.write-2.new.self in
    let s3 = g.L.Sink.state c.write-3.new.self in
    let s4 = g.L.Sink.state c.write-4.new.self in
    let s5 = g.L.Sink.state c.write-5.new.self in
    let first : WroteAll c.args.first.now s0 s1 = record { calm = c.in_ok-write.ensures.cause.still; told = rw c.as_bytes.ensures.value at c.in_ok-write.ensures.taken } in
    let second : WroteAll c.args.second.now s1 s2 = record { calm = c.in_ok-write-2.ensures.cause.still; told = rw c.as_bytes-2.ensures.value at c.in_ok-write-2.ensures.taken } in
    let third : WroteAll c.args.third.now s2 s3 = record { calm = c.in_ok-write-3.ensures.cause.still; told = rw c.as_bytes-3.ensures.value at c.in_ok-write-3.ensures.taken } in
    let fourth : WroteAll c.args.fourth.now s3 s4 = record { calm = c.in_ok-write-4.ensures.cause.still; told = rw c.as_bytes-4.ensures.value at c.in_ok-write-4.ensures.taken } in
    line_ends c.args.first.now c.args.second.now c.args.third.now c.args.fourth.now s0 s1 s2 s3 s4 first second third c.write-5.result s5 fourth
    (written_by c.write-5.result _ s4 s5 c.write-5.ensures.cause c.write-5.ensures.taken)
