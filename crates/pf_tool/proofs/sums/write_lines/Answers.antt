use Rattle.std.proofs.Common.{List, ℕ, subst, ◌∙◌, None}
use Rattle.std.proofs.lemmas.Result.{err_from_is_err_and}
use Rattle.pf_io.specs.Unchanged.{KeepsDisk}
use Rattle.pf_tool.specs.World.{with_out}
use Rattle.pf_tool.specs.Outcomes.{ComesOut}
use Rattle.pf_tool.specs.TextOutput.{PutsText}
use Rattle.pf_tool.proofs.SumsEnding.{out_starves, lines_end}
use Rattle.pf_tool.proofs.sums.write_lines.Goals as goal

pub returns-in_err-lines : goal.returns-in_err-lines
returns-in_err-lines g c =
    let p = err_from_is_err_and c.from_residual.result c.from_residual.ensures.1 in
    λ world. rw p.1 (out_starves c.args.manifest.now c.args.sums.now None p.0 (with_out world (g.K.Sink.state c.args.out.now)) p.2)

pub returns : goal.returns
returns g c world =
    let old = with_out world (g.K.Sink.state c.args.out.now) in
    let new = with_out world (g.K.Sink.state c.put_text.new.out) in
    lines_end c.args.manifest.now c.args.sums.now c.put_text.result old new
    (subst (λ (l : List ℕ). ComesOut (PutsText l) (λ _ _. KeepsDisk) c.put_text.result old new) (c.as_bytes.ensures.value ∙ c.as_str.ensures ∙ c.in_ok-lines.ensures) (c.put_text.ensures world))
