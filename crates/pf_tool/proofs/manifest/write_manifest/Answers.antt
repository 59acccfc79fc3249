use Rattle.std.proofs.Common.{List, ℕ, refl, subst, ◌∙◌}
use Rattle.std.specs.Prelude.{option_map, Ok}
use Rattle.std.proofs.lemmas.Result.{err_from_is_err_and}
use Rattle.pf_tool.specs.World.{with_host, with_out}
use Rattle.pf_tool.specs.Manifests.{WritesText, LeavesText}
use Rattle.pf_tool.specs.Outcomes.{ComesOut}
use Rattle.pf_tool.specs.Rendering.{Renders, RenderFails}
use Rattle.pf_tool.proofs.Lists.{never_true}
use Rattle.pf_tool.proofs.ManifestEnding.{unfit_ends, unread_ends, text_ends, written_ends}
use Rattle.pf_tool.proofs.manifest.write_manifest.Goals as goal

pub returns-then-not-fits_output : goal.returns-then-not-fits_output
returns-then-not-fits_output g c world =
    unfit_ends c.args.command.now.values c.args.command.now.template.now (option_map (λ name. name.now) c.args.command.now.output) (with_out (with_host world (g.H.Host.state c.args.host.now)) (g.K.Sink.state c.args.out.now))
    (λ fits. never_true (c.if-not-fits_output.ensures.1 fits))

pub returns-in_err-bytes : goal.returns-in_err-bytes
returns-in_err-bytes g c =
    let p = err_from_is_err_and c.from_residual.result c.from_residual.ensures.1 in
    let out = g.K.Sink.state c.args.out.now in
    λ world. rw p.1 (rw p.2 (unread_ends c.args.command.now.values c.args.command.now.template.now (option_map (λ name. name.now) c.args.command.now.output) (c.if-not-fits_output.ensures.0 refl) c.in_err-bytes.field-0.0
    (with_out (with_host world (g.H.Host.state c.args.host.now)) out) (with_out (with_host world (g.H.Host.state c.read_input.new.host)) out) (c.in_err-bytes.ensures.refused (with_out world out))))

pub returns-in_err-text : goal.returns-in_err-text
returns-in_err-text g c =
    let p = err_from_is_err_and c.from_residual-in_err-text.result c.from_residual-in_err-text.ensures.1 in
    let out = g.K.Sink.state c.args.out.now in
    let values = c.args.command.now.values in
    let fails : RenderFails values c.in_ok-bytes.bytes c.in_err-text.field-0.0 = subst (λ (b : List ℕ). RenderFails values b c.in_err-text.field-0.0) c.as_slice.ensures c.in_err-text.ensures.fails in
    λ world. rw p.1 (rw p.2 (text_ends values c.args.command.now.template.now (option_map (λ name. name.now) c.args.command.now.output) (c.if-not-fits_output.ensures.0 refl) c.in_ok-bytes.bytes
    (with_out (with_host world (g.H.Host.state c.args.host.now)) out) (with_out (with_host world (g.H.Host.state c.read_input.new.host)) out) (c.in_ok-bytes.ensures.read (with_out world out)) c.read_input.ensures.disk
    c.in_err-text.field-0.0 fails))

pub returns : goal.returns
returns g c world =
    let out = g.K.Sink.state c.args.out.now in
    let values = c.args.command.now.values in
    let output = option_map (λ name. name.now) c.args.command.now.output in
    let text = c.in_ok-text.text in
    let old = with_out (with_host world (g.H.Host.state c.args.host.now)) out in
    let mid = with_out (with_host world (g.H.Host.state c.read_input.new.host)) out in
    let new = with_out (with_host world (g.H.Host.state c.write_text.new.host)) (g.K.Sink.state c.write_text.new.out) in
    let renders : Renders values c.in_ok-bytes.bytes (Ok text) = subst (λ (b : List ℕ). Renders values b (Ok text)) c.as_slice.ensures c.in_ok-text.ensures.text in
    written_ends values c.args.command.now.template.now output (c.if-not-fits_output.ensures.0 refl) c.in_ok-bytes.bytes old mid (c.in_ok-bytes.ensures.read (with_out world out)) c.read_input.ensures.disk text renders new
    c.write_text.result c.read_input.ensures.files
    (subst (λ (t : List ℕ). ComesOut (WritesText output t) (LeavesText output t) c.write_text.result mid new) (c.as_bytes.ensures.value ∙ c.as_str.ensures) (c.write_text.ensures world))
