use Rattle.std.proofs.Common.{◌≡◌, ◌∷◌, [], ◌++◌, List, ℕ, append_assoc}
use Rattle.std.proofs.lemmas.Result.{err_from_is_err_and}
use Rattle.hex.specs.Hex.{encode_lower}
use Rattle.pf_io.specs.Writing.{WroteAll}
use Rattle.pf_io.proofs.Writing.{written_by, written_second, failed_first, wrote_both, failed_second}
use Rattle.pf_script.specs.Replies.{ended}
use Rattle.pf_script.proofs.Phrasing.{part_fails}
use Rattle.pf_script.proofs.printing.write_digits.Goals as goal

pub returns-in_err-write : goal.returns-in_err-write
returns-in_err-write g c =
    let p = err_from_is_err_and c.from_residual.result c.from_residual.ensures.1 in
    let s0 = g.K.Sink.state c.args.out.now in
    let s1 = g.K.Sink.state c.write.new.self in
    let text : List ℕ = c.args.text.now in
    let digits : List ℕ = encode_lower c.args.bytes.now in
    let whole : ended (text ++ digits) ≡ text ++ ended digits = append_assoc text digits (10 ∷ []) in
    rw p.1 (part_fails c.in_err-write.field-0.0 text (ended digits) (ended (text ++ digits)) s0 s1 whole (record { once = c.in_err-write.ensures.cause.once; told = rw c.as_bytes.ensures.value at c.in_err-write.ensures.taken }))

pub returns-in_err-write_hex : goal.returns-in_err-write_hex
returns-in_err-write_hex g c =
    let p = err_from_is_err_and c.from_residual-in_err-write_hex.result c.from_residual-in_err-write_hex.ensures.1 in
    let s0 = g.K.Sink.state c.args.out.now in
    let s1 = g.K.Sink.state c.write.new.self in
    let s2 = g.K.Sink.state c.write_hex.new.out in
    let text : List ℕ = c.args.text.now in
    let digits : List ℕ = encode_lower c.args.bytes.now in
    let whole : ended (text ++ digits) ≡ text ++ ended digits = append_assoc text digits (10 ∷ []) in
    let first : WroteAll c.args.text.now s0 s1 = record { calm = c.in_ok-write.ensures.cause.still; told = rw c.as_bytes.ensures.value at c.in_ok-write.ensures.taken } in
    rw p.1 (failed_first (text ++ digits) (10 ∷ []) s0 s2 (failed_second text digits s0 s1 s2 first c.in_err-write_hex.ensures))

pub returns : goal.returns
returns g c =
    let s0 = g.K.Sink.state c.args.out.now in
    let s1 = g.K.Sink.state c.write.new.self in
    let s2 = g.K.Sink.state c.write_hex.new.out in
    let s3 = g.K.Sink.state c.write-2.new.self in
    let text : List ℕ = c.args.text.now in
    let digits : List ℕ = encode_lower c.args.bytes.now in
    let whole : ended (text ++ digits) ≡ text ++ ended digits = append_assoc text digits (10 ∷ []) in
    let first : WroteAll c.args.text.now s0 s1 = record { calm = c.in_ok-write.ensures.cause.still; told = rw c.as_bytes.ensures.value at c.in_ok-write.ensures.taken } in
    written_second c.write-2.result (text ++ digits) (10 ∷ []) s0 s2 s3 (wrote_both text digits s0 s1 s2 first c.in_ok-write_hex.ensures) (written_by c.write-2.result (10 ∷ []) s2 s3 c.write-2.ensures.cause c.write-2.ensures.taken)
