use Rattle.std.proofs.Common.{List, ℕ, subst, Err}
use Rattle.pf_io.specs.Counts.{HasCause}
use Rattle.enclave_measure.specs.declared.fault.MeasureFault.{MeasureFault}
use Rattle.enclave_measure.specs.Measuring.{IsMeasured, host_part}
use Rattle.pf_tool.proofs.PageReading.{host_failed, file_absent_at, absent_falls, all_measured}
use Rattle.pf_tool.proofs.measuring.measure_pages.Goals as goal

pub returns-in-Ok-clause-measured : goal.returns-in-Ok-clause-measured
returns-in-Ok-clause-measured g c =
    all_measured c.args.layout.now (g.H.Host.state c.args.host.now) (g.H.Host.state c.measure.new.host) c.in-Ok.sum c.in-Ok.ensures.measured c.in-Ok.ensures.cause.still

pub returns-in-Err-NotFound-clause-fails : goal.returns-in-Err-NotFound-clause-fails
returns-in-Err-NotFound-clause-fails g c world =
    let layout = c.args.layout.now in
    let old = g.H.Host.state c.args.host.now in
    let new = g.H.Host.state c.measure.new.host in
    let arm = c.in-Err-NotFound in
    let came = subst (λ (f : MeasureFault). IsMeasured (Err f) layout old new) arm.field-0-is arm.ensures.measured in
    let cause = subst (λ (f : MeasureFault). HasCause old.faults new.faults (host_part {T = List ℕ} (Err f))) arm.field-0-is arm.ensures.cause in
    absent_falls layout old new world arm.page c.absent.result (file_absent_at layout old new arm.page came cause.still) c.absent.ensures arm.ensures.disk

pub returns-in-Err-Host-clause-fails : goal.returns-in-Err-Host-clause-fails
returns-in-Err-Host-clause-fails g c world =
    let layout = c.args.layout.now in
    let old = g.H.Host.state c.args.host.now in
    let new = g.H.Host.state c.measure.new.host in
    let arm = c.in-Err-Host in
    let came = subst (λ (f : MeasureFault). IsMeasured (Err f) layout old new) arm.field-0-is arm.ensures.measured in
    let cause = subst (λ (f : MeasureFault). HasCause old.faults new.faults (host_part {T = List ℕ} (Err f))) arm.field-0-is arm.ensures.cause in
    host_failed layout old new world came cause.once arm.ensures.disk
