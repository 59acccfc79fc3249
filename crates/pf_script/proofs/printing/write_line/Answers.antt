use Rattle.std.proofs.Common.{◌∷◌, []}
use Rattle.std.proofs.lemmas.Result.{err_from_is_err_and}
use Rattle.pf_io.specs.Writing.{WroteAll}
use Rattle.pf_io.proofs.Writing.{written_by, written_second, failed_first}
use Rattle.pf_script.proofs.printing.write_line.Goals as goal

pub returns-in_err-write : goal.returns-in_err-write
returns-in_err-write g c =
    let p = err_from_is_err_and c.from_residual.result c.from_residual.ensures.1 in
    let s0 = g.K.Sink.state c.args.out.now in
    let s1 = g.K.Sink.state c.write.new.self in
    rw p.1 (failed_first c.args.text.now (10 ∷ []) s0 s1 (record { once = c.in_err-write.ensures.cause.once; told = rw c.as_bytes.ensures.value at c.in_err-write.ensures.taken }))

pub returns : goal.returns
returns g c =
    let s0 = g.K.Sink.state c.args.out.now in
    let s1 = g.K.Sink.state c.write.new.self in
    let s2 = g.K.Sink.state c.write-2.new.self in
    let first : WroteAll c.args.text.now s0 s1 = record { calm = c.in_ok-write.ensures.cause.still; told = rw c.as_bytes.ensures.value at c.in_ok-write.ensures.taken } in
    written_second c.write-2.result c.args.text.now (10 ∷ []) s0 s1 s2 first (written_by c.write-2.result (10 ∷ []) s1 s2 c.write-2.ensures.cause c.write-2.ensures.taken)
