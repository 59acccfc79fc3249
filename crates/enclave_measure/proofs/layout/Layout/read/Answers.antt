use Rattle.std.proofs.Common.{◌≡◌, ◌∙◌, ◌⊎◌, inl, inr, ap, sym, subst, refl, arith, Err, Result, List, ℕ}
use Rattle.std.proofs.lemmas.Result.{err_from_is_err_and}
use Rattle.enclave_measure.specs.declared.fault.LayoutFault.{LayoutFault}
use Rattle.enclave_measure.specs.declared.fault.LayoutFault.TheVariants as faults
use Rattle.enclave_measure.specs.Lines.{read_after}
use Rattle.enclave_measure.specs.Pages.{Listed}
use Rattle.enclave_measure.specs.Layouts.{ReadsTo, Whole, NoEnclave, NoPage, RefusesEnclave, FirstRefused}
use Rattle.enclave_measure.specs.Collecting.{line_of}
use Rattle.enclave_measure.proofs.Cutting.{lines_few}
use Rattle.enclave_measure.proofs.OneOutcome.{no_other}
use Rattle.enclave_measure.proofs.layout.Layout.read.Goals as goal

-- want of memory, or the outcome
settled : (P : LayoutFault → Type 0) (text : List ℕ) (result : Result Listed LayoutFault) (fault : LayoutFault) → result ≡ Err fault → (P fault → ReadsTo text (Err fault)) → (fault ≡ faults.Memory) ⊎ P fault → (result ≡ Err faults.Memory) ⊎ ReadsTo text result
settled P text result fault is reads (inl want) = inl (is ∙ ap (λ f. Err f) want)
settled P text result fault is reads (inr refused) = inr (subst (ReadsTo text) (sym is) (reads refused))

pub overflow_add-result : goal.overflow_add-result
overflow_add-result c = omega (arith, c.in-Err.ensures.1, lines_few c.args.bytes.now, c.requires)

pub returns-in_err-size-clause-outcome : goal.returns-in_err-size-clause-outcome
returns-in_err-size-clause-outcome c =
    let p = err_from_is_err_and c.from_residual.result c.from_residual.ensures.1 in
    settled (RefusesEnclave (line_of c.in-Ok.line)) c.args.bytes.now c.from_residual.result c.in_err-size.field-0.0 (p.1 ∙ ap (λ f. Err f) p.2) (λ refused. NoEnclave (line_of c.in-Ok.line) _ c.in_err-size.field-0.0 c.in-Ok.ensures.0 refused refl) c.in_err-size.ensures

pub returns-in_err-size-clause-no_other : goal.returns-in_err-size-clause-no_other
returns-in_err-size-clause-no_other c = no_other c.args.bytes.now c.from_residual.result (returns-in_err-size-clause-outcome c)

pub returns-in_err-pages-clause-outcome : goal.returns-in_err-pages-clause-outcome
returns-in_err-pages-clause-outcome c =
    let p = err_from_is_err_and c.from_residual-in_err-pages.result c.from_residual-in_err-pages.ensures.1 in
    settled (FirstRefused c.in_ok-size.size (read_after c.in-Ok.line.number c.in-Ok.line.rest.now)) c.args.bytes.now c.from_residual-in_err-pages.result c.in_err-pages.field-0.0 (p.1 ∙ ap (λ f. Err f) p.2) (λ refused. NoPage (line_of c.in-Ok.line) _ c.in_ok-size.size c.in_ok-size.ssa c.in_err-pages.field-0.0 c.in-Ok.ensures.0 c.in_ok-size.ensures.0 c.in_ok-size.ensures.1 refused refl) c.in_err-pages.ensures

pub returns-in_err-pages-clause-no_other : goal.returns-in_err-pages-clause-no_other
returns-in_err-pages-clause-no_other c = no_other c.args.bytes.now c.from_residual-in_err-pages.result (returns-in_err-pages-clause-outcome c)

pub returns-clause-outcome : goal.returns-clause-outcome
returns-clause-outcome c = inr (Whole (line_of c.in-Ok.line) _ c.in_ok-size.size c.in_ok-size.ssa c.in_ok-pages.pages.items c.in-Ok.ensures.0 c.in_ok-size.ensures.0 c.in_ok-size.ensures.1 c.in_ok-pages.ensures refl)

pub returns-clause-no_other : goal.returns-clause-no_other
returns-clause-no_other c = no_other c.args.bytes.now _ (returns-clause-outcome c)
