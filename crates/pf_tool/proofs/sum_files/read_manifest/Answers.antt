use Rattle.std.proofs.Common.{subst, sym, Ok, Err}
use Rattle.std.proofs.lemmas.Result.{err_from_is_err_and}
use Rattle.pf_tool.specs.World.{with_host}
use Rattle.pf_tool.specs.ManifestFiles.{ManifestFails, fails_unread}
use Rattle.pf_tool.specs.declared.fault.Fault.{Fault}
use Rattle.pf_tool.proofs.RenderLaws.{read_as}
use Rattle.pf_tool.proofs.SumsEnding.{manifest_came, manifest_falls}
use Rattle.pf_tool.proofs.sum_files.read_manifest.Goals as goal

pub returns-in_err-bytes-clause-fails : goal.returns-in_err-bytes-clause-fails
returns-in_err-bytes-clause-fails g c =
    let p = err_from_is_err_and c.from_residual.result c.from_residual.ensures.1 in
    let s0 = g.H.Host.state c.args.host.now in
    let s1 = g.H.Host.state c.read_input.new.host in
    rw p.1 (λ world. subst (λ (f : Fault). ManifestFails c.args.name.now f (with_host world s0) (with_host world s1)) (sym p.2) (fails_unread (c.in_err-bytes.ensures.refused world)))

pub returns-in-Ok-clause-read : goal.returns-in-Ok-clause-read
returns-in-Ok-clause-read g c world =
    let s0 = g.H.Host.state c.args.host.now in
    let s1 = g.H.Host.state c.read_input.new.host in
    manifest_came c.args.name.now c.in_ok-bytes.bytes (with_host world s0) (with_host world s1) (c.in_ok-bytes.ensures.read world) c.in-Ok.manifest
    (read_as c.as_slice.result.now c.in_ok-bytes.bytes (Ok c.in-Ok.manifest) c.as_slice.ensures c.in-Ok.ensures.outcome)

pub returns-clause-fails : goal.returns-clause-fails
returns-clause-fails g c world =
    let s0 = g.H.Host.state c.args.host.now in
    let s1 = g.H.Host.state c.read_input.new.host in
    manifest_falls c.args.name.now c.in_ok-bytes.bytes (with_host world s0) (with_host world s1) (c.in_ok-bytes.ensures.read world) c.in-Err.fault c.from.result c.from.ensures
    (read_as c.as_slice.result.now c.in_ok-bytes.bytes (Err c.in-Err.fault) c.as_slice.ensures c.in-Err.ensures.outcome)
