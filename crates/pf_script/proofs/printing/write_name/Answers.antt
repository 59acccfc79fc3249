use Rattle.std.proofs.Common.{◌∷◌, [], ◌++◌, append_assoc}
use Rattle.std.proofs.lemmas.Result.{err_from_is_err_and}
use Rattle.pf_io.specs.Writing.{WroteAll}
use Rattle.pf_script.specs.Replies.{ended}
use Rattle.pf_script.proofs.Phrasing.{part_fails, part_then}
use Rattle.pf_script.proofs.printing.write_name.Goals as goal

pub returns-in_err-write : goal.returns-in_err-write
returns-in_err-write g c =
    let p = err_from_is_err_and c.from_residual.result c.from_residual.ensures.1 in
    let s0 = g.K.Sink.state c.args.out.now in
    let s1 = g.K.Sink.state c.write.new.self in
    rw p.1 (part_fails c.in_err-write.field-0.0 c.args.text.now (ended c.args.name.now) (ended (c.args.text.now ++ c.args.name.now)) s0 s1 (append_assoc c.args.text.now c.args.name.now (10 ∷ [])) (record { once = c.in_err-write.ensures.cause.once; told = rw c.as_bytes.ensures.value at c.in_err-write.ensures.taken }))

pub returns : goal.returns
returns g c =
    let s0 = g.K.Sink.state c.args.out.now in
    let s1 = g.K.Sink.state c.write.new.self in
    let s2 = g.K.Sink.state c.write_line.new.out in
    let first : WroteAll c.args.text.now s0 s1 = record { calm = c.in_ok-write.ensures.cause.still; told = rw c.as_bytes.ensures.value at c.in_ok-write.ensures.taken } in
    part_then c.write_line.result c.args.text.now (ended c.args.name.now) (ended (c.args.text.now ++ c.args.name.now)) s0 s1 s2 (append_assoc c.args.text.now c.args.name.now (10 ∷ [])) first c.write_line.ensures
