use Rattle.std.proofs.Common.{[], ◌∷◌, ℕ, List, subst, sym}
use Rattle.std.proofs.lemmas.Result.{err_from_is_err_and}
use Rattle.pf_io.specs.Unchanged.{KeepsDisk}
use Rattle.pf_io.proofs.Unchanged.{kept_then}
use Rattle.pf_tool.specs.World.{with_host, with_out}
use Rattle.pf_tool.specs.Happened.{OutPassed, OutFailed}
use Rattle.pf_tool.specs.Measuring.{MeasureLeads}
use Rattle.pf_tool.specs.Outcomes.{Falls}
use Rattle.pf_tool.specs.declared.fault.Fault.{Fault}
use Rattle.pf_tool.proofs.Calls.{piece_passed, piece_failed}
use Rattle.pf_tool.proofs.LayoutReading.{pages_fall, line_put, line_failed}
use Rattle.pf_tool.proofs.measuring.measure_layout.Goals as goal

pub returns-in_err-layout : goal.returns-in_err-layout
returns-in_err-layout g c =
    let p = err_from_is_err_and c.from_residual.result c.from_residual.ensures.1 in
    let name = c.args.command.now.layout.now in
    let out = g.K.Sink.state c.args.out.now in
    let s0 = g.H.Host.state c.args.host.now in
    let s1 = g.H.Host.state c.read_layout.new.host in
    rw p.1 (λ world. subst (λ (f : Fault). Falls (MeasureLeads name) (λ _ _. KeepsDisk) f (with_out (with_host world s0) out) (with_out (with_host world s1) out)) (sym p.2) (c.in_err-layout.ensures.refused (with_out world out)))

pub returns-in_err-sum : goal.returns-in_err-sum
returns-in_err-sum g c =
    let p = err_from_is_err_and c.from_residual-in_err-sum.result c.from_residual-in_err-sum.ensures.1 in
    let name = c.args.command.now.layout.now in
    let layout = c.in_ok-layout.layout in
    let out = g.K.Sink.state c.args.out.now in
    let s0 = g.H.Host.state c.args.host.now in
    let s1 = g.H.Host.state c.read_layout.new.host in
    let s2 = g.H.Host.state c.measure_pages.new.host in
    rw p.1 (λ world.
    let at0 = with_out (with_host world s0) out in
    let at1 = with_out (with_host world s1) out in
    let at2 = with_out (with_host world s2) out in
    subst (λ (f : Fault). Falls (MeasureLeads name) (λ _ _. KeepsDisk) f at0 at2) (sym p.2)
    (pages_fall name layout at0 at1 (c.in_ok-layout.ensures.read (with_out world out)) c.in_ok-layout.ensures.files c.in_err-sum.field-0.0 at2 (c.in_err-sum.ensures.fails (with_out world out)) (kept_then s0 s1 s2 c.in_ok-layout.ensures.disk c.in_err-sum.ensures.disk)))

pub returns-in_err-write : goal.returns-in_err-write
returns-in_err-write g c =
    let p = err_from_is_err_and c.from_residual-in_err-write.result c.from_residual-in_err-write.ensures.1 in
    let name = c.args.command.now.layout.now in
    let layout = c.in_ok-layout.layout in
    let sum = c.in_ok-sum.sum in
    let out = g.K.Sink.state c.args.out.now in
    let after = g.K.Sink.state c.write.new.self in
    let s0 = g.H.Host.state c.args.host.now in
    let s1 = g.H.Host.state c.read_layout.new.host in
    let s2 = g.H.Host.state c.measure_pages.new.host in
    let pages = c.in_ok-sum.ensures.measured in
    let failed = subst (λ (l : List ℕ). OutFailed l out after) c.line_of.ensures (piece_failed c.line_of.result out after c.in_err-write.ensures.taken c.in_err-write.ensures.cause.once) in
    rw p.1 (λ world. line_failed name layout sum world s0 s1 s2 out (c.in_ok-layout.ensures.read (with_out world out)) c.in_ok-layout.ensures.files pages (kept_then s0 s1 s2 c.in_ok-layout.ensures.disk c.in_ok-sum.ensures.disk) after p.0 p.2 failed)

pub returns : goal.returns
returns g c =
    let name = c.args.command.now.layout.now in
    let layout = c.in_ok-layout.layout in
    let sum = c.in_ok-sum.sum in
    let out = g.K.Sink.state c.args.out.now in
    let after = g.K.Sink.state c.write.new.self in
    let s0 = g.H.Host.state c.args.host.now in
    let s1 = g.H.Host.state c.read_layout.new.host in
    let s2 = g.H.Host.state c.measure_pages.new.host in
    let pages = c.in_ok-sum.ensures.measured in
    let passed = subst (λ (l : List ℕ). OutPassed (l ∷ []) out after) c.line_of.ensures (piece_passed c.line_of.result out after c.in_ok-write.ensures.taken c.in_ok-write.ensures.cause.still) in
    λ world. line_put name layout sum world s0 s1 s2 out (c.in_ok-layout.ensures.read (with_out world out)) c.in_ok-layout.ensures.files pages (kept_then s0 s1 s2 c.in_ok-layout.ensures.disk c.in_ok-sum.ensures.disk) after passed
