use Rattle.std.proofs.Common.{List, ℕ, refl, subst, ◌∙◌, Some}
use Rattle.std.proofs.lemmas.Result.{err_from_is_err_and}
use Rattle.pf_io.specs.Unchanged.{KeepsDisk}
use Rattle.manifest_model.specs.Listed.{IsTextOf}
use Rattle.pf_tool.specs.World.{with_host, with_out}
use Rattle.pf_tool.specs.Endings.{AtEnd, Done}
use Rattle.pf_tool.specs.Outcomes.{Outcome, Falls, ComesOut}
use Rattle.pf_tool.specs.PlainFiles.{WritesWhole, LeavesWhole}
use Rattle.pf_tool.specs.Summing.{HasSums}
use Rattle.pf_tool.specs.TextOutput.{PutsText}
use Rattle.pf_tool.proofs.SumsEnding.{out_starves, lines_fall, file_ends}
use Rattle.pf_tool.proofs.sums.write_lines_and_file.Goals as goal

pub returns-in_err-lines : goal.returns-in_err-lines
returns-in_err-lines g c =
    let p = err_from_is_err_and c.from_residual.result c.from_residual.ensures.1 in
    λ world. rw p.1 (out_starves c.args.manifest.now c.args.sums.now (Some c.args.output.now) p.0 (with_out (with_host world (g.H.Host.state c.args.host.now)) (g.K.Sink.state c.args.out.now)) p.2)

pub returns-in_err-summed : goal.returns-in_err-summed
returns-in_err-summed g c =
    let p = err_from_is_err_and c.from_residual-in_err-summed.result c.from_residual-in_err-summed.ensures.1 in
    λ world. rw p.1 (out_starves c.args.manifest.now c.args.sums.now (Some c.args.output.now) p.0 (with_out (with_host world (g.H.Host.state c.args.host.now)) (g.K.Sink.state c.args.out.now)) p.2)

pub returns-in_err-text : goal.returns-in_err-text
returns-in_err-text g c =
    let p = err_from_is_err_and c.from_residual-in_err-text.result c.from_residual-in_err-text.ensures.1 in
    λ world. rw p.1 (out_starves c.args.manifest.now c.args.sums.now (Some c.args.output.now) p.0 (with_out (with_host world (g.H.Host.state c.args.host.now)) (g.K.Sink.state c.args.out.now)) p.2)

pub returns-in_err-put_text : goal.returns-in_err-put_text
returns-in_err-put_text g c =
    let p = err_from_is_err_and c.from_residual-in_err-put_text.result c.from_residual-in_err-put_text.ensures.1 in
    let host = g.H.Host.state c.args.host.now in
    λ world.
    let old = with_out (with_host world host) (g.K.Sink.state c.args.out.now) in
    let new = with_out (with_host world host) (g.K.Sink.state c.put_text.new.out) in
    rw p.1 (rw p.2 (lines_fall c.args.manifest.now c.args.sums.now c.args.output.now c.in_err-put_text.field-0.0 old new
    (subst (λ (l : List ℕ). Falls (PutsText l) (λ _ _. KeepsDisk) c.in_err-put_text.field-0.0 old new) (c.as_bytes.ensures.value ∙ c.as_str.ensures ∙ c.in_ok-lines.ensures) (c.in_err-put_text.ensures (with_host world host)))))

pub returns : goal.returns
returns g c world =
    let host = g.H.Host.state c.args.host.now in
    let out = g.K.Sink.state c.put_text.new.out in
    let old = with_out (with_host world host) (g.K.Sink.state c.args.out.now) in
    let mid = with_out (with_host world host) out in
    let new = with_out (with_host world (g.H.Host.state c.write_plain_file.new.host)) out in
    let text = c.in_ok-text.text in
    let has : HasSums c.args.manifest.now c.args.sums.now text = subst (λ ms. IsTextOf text ms) c.in_ok-summed.ensures.whole c.in_ok-text.ensures.text in
    let puts = subst (λ (l : List ℕ). Outcome (PutsText l) (λ _ _. KeepsDisk) (AtEnd Done) old mid) (c.as_bytes.ensures.value ∙ c.as_str.ensures ∙ c.in_ok-lines.ensures) (c.in_ok-put_text.ensures (with_host world host)) in
    file_ends c.args.manifest.now c.args.sums.now c.args.output.now text has old mid new puts refl c.write_plain_file.result
    (subst (λ (t : List ℕ). ComesOut (WritesWhole c.args.output.now t) (LeavesWhole c.args.output.now t) c.write_plain_file.result mid new) (c.as_bytes-2.ensures.value ∙ c.as_str-2.ensures) (c.write_plain_file.ensures (with_out world out)))
