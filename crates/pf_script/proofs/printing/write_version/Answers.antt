use Rattle.std.proofs.Common.{◌≡◌, ◌∙◌, ◌∷◌, [], ◌++◌, List, ℕ, sym, append_assoc, codes, decimal}
use Rattle.std.proofs.lemmas.Result.{err_from_is_err_and}
use Rattle.pf_io.specs.Writing.{WroteAll, SinkFailed}
use Rattle.pf_io.proofs.Writing.{wrote_both, failed_second}
use Rattle.pf_script.specs.Replies.{ended}
use Rattle.pf_script.proofs.Phrasing.{part_fails, part_then, four_parts}
use Rattle.pf_script.proofs.printing.write_version.Goals as goal

pub returns-in_err-write : goal.returns-in_err-write
returns-in_err-write g c =
    let p = err_from_is_err_and c.from_residual.result c.from_residual.ensures.1 in
    let s0 = g.K.Sink.state c.args.out.now in
    let s1 = g.K.Sink.state c.write.new.self in
    let major : List ℕ = decimal c.args.major in
    let minor : List ℕ = decimal c.args.minor in
    let all : List ℕ = ended (codes "refused version " ++ major ++ codes "." ++ minor) in
    let behind : List ℕ = ended (codes "." ++ minor) in
    let whole : all ≡ codes "refused version " ++ (major ++ behind) = four_parts (codes "refused version ") major (codes ".") minor (10 ∷ []) in
    rw p.1 (part_fails c.in_err-write.field-0.0 (codes "refused version ") (major ++ behind) all s0 s1 whole (record { once = c.in_err-write.ensures.cause.once; told = c.in_err-write.ensures.taken }))

pub returns-in_err-write-2 : goal.returns-in_err-write-2
returns-in_err-write-2 g c =
    let p = err_from_is_err_and c.from_residual-in_err-write-2.result c.from_residual-in_err-write-2.ensures.1 in
    let s0 = g.K.Sink.state c.args.out.now in
    let s1 = g.K.Sink.state c.write.new.self in
    let s2 = g.K.Sink.state c.write-2.new.self in
    let major : List ℕ = decimal c.args.major in
    let minor : List ℕ = decimal c.args.minor in
    let all : List ℕ = ended (codes "refused version " ++ major ++ codes "." ++ minor) in
    let behind : List ℕ = ended (codes "." ++ minor) in
    let whole : all ≡ codes "refused version " ++ (major ++ behind) = four_parts (codes "refused version ") major (codes ".") minor (10 ∷ []) in
    let first : WroteAll (codes "refused version ") s0 s1 = record { calm = c.in_ok-write.ensures.cause.still; told = c.in_ok-write.ensures.taken } in
    let printed : c.as_bytes.result.now ≡ major = c.as_bytes.ensures.value ∙ c.format.ensures.text in
    let failed : SinkFailed major s1 s2 = record { once = c.in_err-write-2.ensures.cause.once; told = rw printed at c.in_err-write-2.ensures.taken } in
    rw p.1 (part_fails c.in_err-write-2.field-0.0 (codes "refused version " ++ major) behind all s0 s2 (whole ∙ sym (append_assoc (codes "refused version ") major behind)) (failed_second (codes "refused version ") major s0 s1 s2 first failed))

pub returns : goal.returns
returns g c =
    let s0 = g.K.Sink.state c.args.out.now in
    let s1 = g.K.Sink.state c.write.new.self in
    let s2 = g.K.Sink.state c.write-2.new.self in
    let s3 = g.K.Sink.state c.write_number.new.out in
    let major : List ℕ = decimal c.args.major in
    let minor : List ℕ = decimal c.args.minor in
    let all : List ℕ = ended (codes "refused version " ++ major ++ codes "." ++ minor) in
    let behind : List ℕ = ended (codes "." ++ minor) in
    let whole : all ≡ codes "refused version " ++ (major ++ behind) = four_parts (codes "refused version ") major (codes ".") minor (10 ∷ []) in
    let first : WroteAll (codes "refused version ") s0 s1 = record { calm = c.in_ok-write.ensures.cause.still; told = c.in_ok-write.ensures.taken } in
    let printed : c.as_bytes.result.now ≡ major = c.as_bytes.ensures.value ∙ c.format.ensures.text in
    let second : WroteAll major s1 s2 = record { calm = c.in_ok-write-2.ensures.cause.still; told = rw printed at c.in_ok-write-2.ensures.taken } in
    part_then c.write_number.result (codes "refused version " ++ major) behind all s0 s2 s3 (whole ∙ sym (append_assoc (codes "refused version ") major behind)) (wrote_both (codes "refused version ") major s0 s1 s2 first second) c.write_number.ensures
