use Rattle.std.proofs.Common.{◌≡◌, ◌∷◌, [], ◌++◌, List, ℕ, subst, decimal}
use Rattle.std.proofs.lemmas.Result.{err_from_is_err_and}
use Rattle.pf_io.specs.Writing.{WroteAll, Written}
use Rattle.pf_script.specs.Replies.{ended}
use Rattle.pf_script.proofs.Phrasing.{part_fails, part_then, three_parts}
use Rattle.pf_script.proofs.printing.write_count.Goals as goal

pub returns-in_err-write : goal.returns-in_err-write
returns-in_err-write g c =
    let p = err_from_is_err_and c.from_residual.result c.from_residual.ensures.1 in
    let s0 = g.K.Sink.state c.args.out.now in
    let s1 = g.K.Sink.state c.write.new.self in
    let number : List ℕ = decimal c.args.number in
    let whole : ended (c.args.text.now ++ number ++ c.args.rest.now) ≡ c.args.text.now ++ ended (number ++ c.args.rest.now) = three_parts c.args.text.now number c.args.rest.now (10 ∷ []) in
    rw p.1 (part_fails c.in_err-write.field-0.0 c.args.text.now (ended (number ++ c.args.rest.now)) (ended (c.args.text.now ++ number ++ c.args.rest.now)) s0 s1 whole (record { once = c.in_err-write.ensures.cause.once; told = rw c.as_bytes.ensures.value at c.in_err-write.ensures.taken }))

pub returns : goal.returns
returns g c =
    let s0 = g.K.Sink.state c.args.out.now in
    let s1 = g.K.Sink.state c.write.new.self in
    let s2 = g.K.Sink.state c.write_name.new.out in
    let number : List ℕ = decimal c.args.number in
    let whole : ended (c.args.text.now ++ number ++ c.args.rest.now) ≡ c.args.text.now ++ ended (number ++ c.args.rest.now) = three_parts c.args.text.now number c.args.rest.now (10 ∷ []) in
    let first : WroteAll c.args.text.now s0 s1 = record { calm = c.in_ok-write.ensures.cause.still; told = rw c.as_bytes.ensures.value at c.in_ok-write.ensures.taken } in
    let behind : Written c.write_name.result (ended (number ++ c.args.rest.now)) s1 s2 = subst (λ (t : List ℕ). Written c.write_name.result (ended (t ++ c.args.rest.now)) s1 s2) c.format.ensures.text c.write_name.ensures in
    part_then c.write_name.result c.args.text.now (ended (number ++ c.args.rest.now)) (ended (c.args.text.now ++ number ++ c.args.rest.now)) s0 s1 s2 whole first behind
