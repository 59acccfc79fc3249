use Rattle.std.proofs.Common.{List, ℕ, ◌++◌, [], take, get_or, ap, ◌∙◌, arith}
use Rattle.std.specs.String.{string_bytes}
use Rattle.std.proofs.lemmas.List.{take_all}
use Rattle.manifest_model.specs.declared.entries.Trusted.{Trusted}
use Rattle.file_sums.specs.Lines.{sum_line}
use Rattle.pf_tool.specs.Summing.{sum_lines}
use Rattle.pf_tool.proofs.SumsEnding.{fit_length, lines_more}
use Rattle.pf_tool.proofs.sum_files.lines_of.Goals as goal

pub trusted-entry-requires : goal.trusted-entry-requires
trusted-entry-requires c = let long = fit_length c.args.manifest.now.lists.trusted c.args.sums.now c.requires in omega (arith, long, c.loop-k-test.true)

pub loop-k-preserved : goal.loop-k-preserved
loop-k-preserved c =
    let lines = string_bytes c.loop-k.lines in
    c.in_ok-push_str.ensures.bytes ∙ ap (λ (l : List ℕ). lines ++ l) (c.as_str-in-loop-k.ensures ∙ c.in_ok-line.ensures ∙ ap (λ (uri : List ℕ). sum_line (get_or c.args.sums.now c.loop-k.k []) uri) c.as_str.ensures)
    ∙ lines_more c.args.manifest.now.lists.trusted c.args.sums.now c.loop-k.k c.trusted-entry.result.now [] lines c.trusted-entry.ensures c.loop-k-test.true c.loop-k.invariant

pub returns : goal.returns
returns c =
    let entries = c.args.manifest.now.lists.trusted in
    let sums = c.args.sums.now in
    let k = c.loop-k.k in
    let long = fit_length entries sums c.requires in
    c.from.ensures ∙ c.loop-k.invariant ∙ ap (λ (l : List Trusted). sum_lines l (take k sums)) (take_all k entries (omega (arith, long, c.loop-k-test.false))) ∙ ap (λ (l : List (List ℕ)). sum_lines entries l) (take_all k sums (omega (arith, c.loop-k-test.false)))
