use Rattle.std.proofs.Common.{List, ℕ, refl, subst}
use Rattle.std.specs.Prelude.{option_map}
use Rattle.std.proofs.lemmas.Result.{err_from_is_err_and}
use Rattle.pf_tool.specs.World.{with_host, with_out}
use Rattle.pf_tool.specs.Outcomes.{ComesOut}
use Rattle.pf_tool.specs.Summing.{WritesSums, LeavesSums}
use Rattle.pf_tool.proofs.Asking.{passed_asked}
use Rattle.pf_tool.proofs.Lists.{never_true}
use Rattle.pf_tool.proofs.SumsEnding.{unfit_ends, unread_ends, files_fall, sums_end}
use Rattle.pf_tool.proofs.sums.write_sums.Goals as goal

pub returns-then-not-fits_output : goal.returns-then-not-fits_output
returns-then-not-fits_output g c world =
    unfit_ends c.args.command.now.manifest.now (option_map (λ name. name.now) c.args.command.now.output) (with_out (with_host world (g.H.Host.state c.args.host.now)) (g.K.Sink.state c.args.out.now))
    (λ fits. never_true (c.if-not-fits_output.ensures.1 fits))

pub returns-in_err-manifest : goal.returns-in_err-manifest
returns-in_err-manifest g c =
    let p = err_from_is_err_and c.from_residual.result c.from_residual.ensures.1 in
    let out = g.K.Sink.state c.args.out.now in
    λ world. rw p.1 (rw p.2 (unread_ends c.args.command.now.manifest.now (option_map (λ name. name.now) c.args.command.now.output) (c.if-not-fits_output.ensures.0 refl) c.in_err-manifest.field-0.0
    (with_out (with_host world (g.H.Host.state c.args.host.now)) out) (with_out (with_host world (g.H.Host.state c.read_manifest.new.host)) out) (c.in_err-manifest.ensures.fails (with_out world out)) c.in_err-manifest.ensures.disk))

pub returns-in_err-sums : goal.returns-in_err-sums
returns-in_err-sums g c =
    let p = err_from_is_err_and c.from_residual-in_err-sums.result c.from_residual-in_err-sums.ensures.1 in
    let out = g.K.Sink.state c.args.out.now in
    let output = option_map (λ name. name.now) c.args.command.now.output in
    let e = c.in_ok-manifest.ensures in
    λ world. rw p.1 (rw p.2 (files_fall c.args.command.now.manifest.now output (c.if-not-fits_output.ensures.0 refl) c.in_ok-manifest.manifest
    (with_out (with_host world (g.H.Host.state c.args.host.now)) out) (with_out (with_host world (g.H.Host.state c.read_manifest.new.host)) out) (e.read (with_out world out)) e.files e.disk c.in_err-sums.field-0.0
    (with_out (with_host world (g.H.Host.state c.sum_files.new.host)) out) (c.in_err-sums.ensures.fails output (with_out world out))))

pub returns : goal.returns
returns g c world =
    let out = g.K.Sink.state c.args.out.now in
    let output = option_map (λ name. name.now) c.args.command.now.output in
    let s1 = g.H.Host.state c.read_manifest.new.host in
    let s2 = g.H.Host.state c.sum_files.new.host in
    let old = with_out (with_host world (g.H.Host.state c.args.host.now)) out in
    let mid = with_out (with_host world s1) out in
    let last = with_out (with_host world s2) out in
    let new = with_out (with_host world (g.H.Host.state c.write_summed.new.host)) (g.K.Sink.state c.write_summed.new.out) in
    let e = c.in_ok-manifest.ensures in
    let s = c.in_ok-sums.ensures in
    sums_end c.args.command.now.manifest.now output (c.if-not-fits_output.ensures.0 refl) c.in_ok-manifest.manifest old mid (e.read (with_out world out)) e.files e.disk c.in_ok-sums.sums last new s.summed.these s.summed.gives
    (passed_asked s.summed.these (with_out world out) s1 s2 s.summed.passed) s.files s.disk c.write_summed.result
    (subst (λ (l : List (List ℕ)). ComesOut (WritesSums output c.in_ok-manifest.manifest l) (LeavesSums output c.in_ok-manifest.manifest l) c.write_summed.result last new) c.as_slice.ensures (c.write_summed.ensures world))
