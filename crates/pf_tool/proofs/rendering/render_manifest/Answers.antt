use Rattle.std.proofs.Common.{◌∙◌, refl, Ok, Err}
use Rattle.std.proofs.lemmas.Result.{err_from_is_err_and}
use Rattle.pf_tool.specs.Endings.{Refused, NotUtf8}
use Rattle.pf_tool.specs.Rendering.{no_text, is_refused}
use Rattle.pf_tool.specs.declared.why.Why.TheVariants as whys
use Rattle.pf_tool.specs.declared.fault.Fault.TheVariants as faults
use Rattle.pf_tool.proofs.RenderLaws.{refusal_fault, rendered_as, rendered_text, read_as, template_fails, manifest_fails, manifest_taken}
use Rattle.pf_tool.proofs.rendering.render_manifest.Goals as goal

pub returns-in_default-clause-fails : goal.returns-in_default-clause-fails
returns-in_default-clause-fails c =
    is_refused (Refused NotUtf8) (refusal_fault whys.NotUtf8 (faults.Refused whys.NotUtf8) refl) (no_text c.in_default.ensures.cases.0 refl)

pub returns-in_err-text-clause-fails : goal.returns-in_err-text-clause-fails
returns-in_err-text-clause-fails c =
    let p = err_from_is_err_and c.from_residual-in_err-text.result c.from_residual-in_err-text.ensures.1 in
    let fault = c.in_err-text.field-0.0 in
    let fails = rendered_as c.in-Ok.template.now c.args.bytes.now c.deref.result.now c.args.values.now (Err fault) c.in-Ok.ensures.cases.0 (c.deref.ensures.value ∙ c.in_ok-pairs.ensures) c.in_err-text.ensures.outcome in
    rw p.1 (template_fails c.args.values.now c.args.bytes.now c.in-Ok.ensures.cases.1 fault p.0 p.2 fails)

pub returns-in_err-read-clause-fails : goal.returns-in_err-read-clause-fails
returns-in_err-read-clause-fails c =
    let p = err_from_is_err_and c.from_residual-in_err-read.result c.from_residual-in_err-read.ensures.1 in
    let text = c.in_ok-text.text in
    let fault = c.in_err-read.field-0.0 in
    let rendered = rendered_text c.args.bytes.now c.args.values.now text
    (rendered_as c.in-Ok.template.now c.args.bytes.now c.deref.result.now c.args.values.now (Ok text) c.in-Ok.ensures.cases.0 (c.deref.ensures.value ∙ c.in_ok-pairs.ensures) c.in_ok-text.ensures.outcome) in
    let fails = read_as c.as_bytes.result.now text (Err fault) (c.as_bytes.ensures.value ∙ c.as_str.ensures) c.in_err-read.ensures.outcome in
    rw p.1 (manifest_fails c.args.values.now c.args.bytes.now c.in-Ok.ensures.cases.1 text rendered fault p.0 p.2 fails)

pub returns-clause-text : goal.returns-clause-text
returns-clause-text c =
    let text = c.in_ok-text.text in
    let seen = c.in_ok-read.field-0 in
    let rendered = rendered_text c.args.bytes.now c.args.values.now text
    (rendered_as c.in-Ok.template.now c.args.bytes.now c.deref.result.now c.args.values.now (Ok text) c.in-Ok.ensures.cases.0 (c.deref.ensures.value ∙ c.in_ok-pairs.ensures) c.in_ok-text.ensures.outcome) in
    let read = read_as c.as_bytes.result.now text (Ok seen) (c.as_bytes.ensures.value ∙ c.as_str.ensures) c.in_ok-read.ensures.outcome in
    manifest_taken c.args.values.now c.args.bytes.now c.in-Ok.ensures.cases.1 text rendered seen read
