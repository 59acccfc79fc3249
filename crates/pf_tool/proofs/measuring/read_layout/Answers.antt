use Rattle.std.proofs.Common.{◌≡◌, ◌⊎◌, inl, inr, ℕ, List, subst, sym, Result, Ok, Err}
use Rattle.std.proofs.lemmas.Result.{err_from_is_err_and}
use Rattle.enclave_measure.specs.declared.fault.LayoutFault.{LayoutFault}
use Rattle.enclave_measure.specs.declared.fault.LayoutFault.TheVariants as layouts
use Rattle.enclave_measure.specs.Pages.{Listed}
use Rattle.enclave_measure.specs.Layouts.{ReadsTo}
use Rattle.pf_io.specs.Unchanged.{KeepsDisk}
use Rattle.pf_tool.specs.World.{with_host}
use Rattle.pf_tool.specs.Measuring.{MeasureLeads}
use Rattle.pf_tool.specs.Outcomes.{Falls}
use Rattle.pf_tool.specs.declared.fault.Fault.{Fault}
use Rattle.pf_tool.proofs.LayoutReading.{input_not_read, layout_came, layout_falls}
use Rattle.pf_tool.proofs.measuring.read_layout.Goals as goal

-- a layout came, so the text lists it
lists_it : (text bytes : List ℕ) (layout : Listed) → bytes ≡ text → (Ok layout ≡ Err layouts.Memory) ⊎ ReadsTo bytes (Ok layout) → ReadsTo text (Ok layout)
lists_it text bytes layout same (inl want) = absurd (cc)
lists_it text bytes layout same (inr lists) = subst (λ (l : List ℕ). ReadsTo l (Ok layout)) same lists

-- a fault came, so the text is refused or memory was wanting
refuses_it : (text bytes : List ℕ) (fault : LayoutFault) → bytes ≡ text → (◌≡◌ {A = Result Listed LayoutFault} (Err fault) (Err layouts.Memory)) ⊎ ReadsTo bytes (Err fault) → (fault ≡ layouts.Memory) ⊎ ReadsTo text (Err fault)
refuses_it text bytes fault same (inl want) = let is : fault ≡ layouts.Memory = cc in inl is
refuses_it text bytes fault same (inr lists) = inr (subst (λ (l : List ℕ). ReadsTo l (Err fault)) same lists)

pub returns-in_err-text-clause-refused : goal.returns-in_err-text-clause-refused
returns-in_err-text-clause-refused g c =
    let p = err_from_is_err_and c.from_residual.result c.from_residual.ensures.1 in
    let name = c.args.name.now in
    let s0 = g.H.Host.state c.args.host.now in
    let s1 = g.H.Host.state c.read_input.new.host in
    rw p.1 (λ world. subst (λ (f : Fault). Falls (MeasureLeads name) (λ _ _. KeepsDisk) f (with_host world s0) (with_host world s1)) (sym p.2)
    (input_not_read name c.in_err-text.field-0.0 (with_host world s0) (with_host world s1) (c.in_err-text.ensures.refused world)))

pub returns-in-Ok-clause-read : goal.returns-in-Ok-clause-read
returns-in-Ok-clause-read g c world =
    let text = c.in_ok-text.text in
    let s0 = g.H.Host.state c.args.host.now in
    let s1 = g.H.Host.state c.read_input.new.host in
    layout_came c.args.name.now text (with_host world s0) (with_host world s1) (c.in_ok-text.ensures.read world) c.in_ok-text.ensures.disk c.in-Ok.layout (lists_it text c.as_slice.result.now c.in-Ok.layout c.as_slice.ensures c.in-Ok.ensures.outcome)

pub returns-clause-refused : goal.returns-clause-refused
returns-clause-refused g c world =
    let name = c.args.name.now in
    let text = c.in_ok-text.text in
    let s0 = g.H.Host.state c.args.host.now in
    let s1 = g.H.Host.state c.read_input.new.host in
    subst (λ (f : Fault). Falls (MeasureLeads name) (λ _ _. KeepsDisk) f (with_host world s0) (with_host world s1)) (sym c.from.ensures)
    (layout_falls name text (with_host world s0) (with_host world s1) (c.in_ok-text.ensures.read world) c.in_ok-text.ensures.disk c.in-Err.fault (refuses_it text c.as_slice.result.now c.in-Err.fault c.as_slice.ensures c.in-Err.ensures.outcome))
