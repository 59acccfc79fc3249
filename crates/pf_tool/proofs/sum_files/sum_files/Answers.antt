use Rattle.std.proofs.Common.{subst, sym}
use Rattle.pf_io.specs.Unchanged.{KeepsDisk}
use Rattle.pf_tool.specs.World.{with_host}
use Rattle.pf_tool.specs.Outcomes.{Falls}
use Rattle.pf_tool.specs.Summing.{FilesLead}
use Rattle.pf_tool.specs.declared.fault.Fault.{Fault}
use Rattle.pf_tool.proofs.EntryReading.{all_summed, files_fail}
use Rattle.pf_tool.proofs.sum_files.sum_files.Goals as goal

pub returns-in-Ok-clause-summed : goal.returns-in-Ok-clause-summed
returns-in-Ok-clause-summed g c =
    all_summed c.args.manifest.now.lists.trusted c.in-Ok.sums (g.H.Host.state c.args.host.now) (g.H.Host.state c.sum_all.new.host) c.in-Ok.ensures.summed c.in-Ok.ensures.cause.still

pub returns-in-Err-clause-fails : goal.returns-in-Err-clause-fails
returns-in-Err-clause-fails g c output world =
    let old = g.H.Host.state c.args.host.now in
    let new = g.H.Host.state c.sum_all.new.host in
    subst (λ (f : Fault). Falls (FilesLead output c.args.manifest.now) (λ _ _. KeepsDisk) f (with_host world old) (with_host world new)) (sym c.from.ensures)
    (files_fail output c.args.manifest.now old new world c.in-Err.fault c.in-Err.ensures.summed c.in-Err.ensures.cause c.in-Err.ensures.disk)
