use Rattle.std.proofs.lemmas.Result.{err_from_is_err_and}
use Rattle.enclave_measure.specs.Collecting.{line_of}
use Rattle.enclave_measure.proofs.Listing.{collects_more, stopped_taking, stopped_adding}
use Rattle.enclave_measure.proofs.layout.read_pages.Goals as goal

pub returns-in_err-page : goal.returns-in_err-page
returns-in_err-page c =
    let p = err_from_is_err_and c.from_residual.result c.from_residual.ensures.1 in
    rw (p.1, p.2) (stopped_taking c.args.size c.args.text.now c.args.before c.loop-line.rest.now c.loop-line.number c.loop-line.pages.items c.loop-line.offsets (line_of c.in-Ok.line) _ c.in_err-page.field-0.0 c.loop-line.invariant c.in-Ok.ensures.0 c.in_err-page.ensures)

pub returns-in_err-add_page : goal.returns-in_err-add_page
returns-in_err-add_page c =
    let p = err_from_is_err_and c.from_residual-in_err-add_page.result c.from_residual-in_err-add_page.ensures.1 in
    rw (p.1, p.2) (stopped_adding c.args.size c.args.text.now c.args.before c.loop-line.rest.now c.loop-line.number c.loop-line.pages.items c.loop-line.offsets (line_of c.in-Ok.line) _ c.in_ok-page.page c.in_err-add_page.field-0.0 c.loop-line.invariant c.in-Ok.ensures.0 c.in_ok-page.ensures.0 c.in_ok-page.ensures.1 c.in_err-add_page.ensures)

pub loop-line-preserved : goal.loop-line-preserved
loop-line-preserved c =
    collects_more c.args.size c.args.text.now c.args.before c.loop-line.rest.now c.loop-line.number c.loop-line.pages.items c.add_page.new.pages.items c.loop-line.offsets c.add_page.new.offsets (line_of c.in-Ok.line) c.in-Ok.line.rest.now c.in_ok-page.page
    c.loop-line.invariant c.in-Ok.ensures.0 c.in-Ok.ensures.1 c.in_ok-page.ensures.0 c.in_ok-page.ensures.1 c.in_ok-add_page.ensures.1 c.in_ok-add_page.ensures.0 c.in_ok-add_page.ensures.2
