use Rattle.std.proofs.Common.{◌≡◌, List, ℕ, subst, ◌∙◌}
use Rattle.std.proofs.lemmas.Result.{err_from_is_err_and}
use Rattle.pf_io.specs.Names.{side_of}
use Rattle.pf_io.specs.SideFile.{WroteFile, FailedFile}
use Rattle.pf_tool.proofs.PlainWriting.{wrote_whole, failed_whole, unnamed_whole}
use Rattle.pf_tool.proofs.plain_file.write_plain_file.Goals as goal

pub returns-in_err-side : goal.returns-in_err-side
returns-in_err-side g c =
    let p = err_from_is_err_and c.from_residual.result c.from_residual.ensures.1 in
    λ world. rw p.1 (unnamed_whole c.args.output.now c.args.bytes.now world (g.H.Host.state c.args.host.now) p.0 p.2)

pub returns-in_err-write_by_side_file : goal.returns-in_err-write_by_side_file
returns-in_err-write_by_side_file g c =
    let p = err_from_is_err_and c.from_residual-in_err-write_by_side_file.result c.from_residual-in_err-write_by_side_file.ensures.1 in
    let output = c.args.output.now in
    let s0 = g.H.Host.state c.args.host.now in
    let s1 = g.H.Host.state c.write_by_side_file.new.host in
    let side : c.as_str.result.now ≡ side_of output = c.as_str.ensures ∙ c.in_ok-side.ensures in
    let failed : FailedFile output (side_of output) c.args.bytes.now s0 s1 = subst (λ (n : List ℕ). FailedFile output n c.args.bytes.now s0 s1) side c.in_err-write_by_side_file.ensures.failed in
    λ world. rw p.1 (failed_whole output c.args.bytes.now world s0 s1 p.0 p.2 failed c.in_err-write_by_side_file.ensures.cause.once)

pub returns : goal.returns
returns g c world =
    let output = c.args.output.now in
    let s0 = g.H.Host.state c.args.host.now in
    let s1 = g.H.Host.state c.write_by_side_file.new.host in
    let side : c.as_str.result.now ≡ side_of output = c.as_str.ensures ∙ c.in_ok-side.ensures in
    let wrote : WroteFile output (side_of output) c.args.bytes.now s0 s1 = subst (λ (n : List ℕ). WroteFile output n c.args.bytes.now s0 s1) side c.in_ok-write_by_side_file.ensures.done in
    wrote_whole output c.args.bytes.now world s0 s1 wrote c.in_ok-write_by_side_file.ensures.cause.still
