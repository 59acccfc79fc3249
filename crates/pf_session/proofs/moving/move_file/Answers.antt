use Rattle.std.proofs.Common.{[], sym, subst, Result, Ok, Err}
use Rattle.std.proofs.lemmas.Result.{err_from_is_err_and}
use Rattle.pf_io.specs.declared.faults.HostFault.{HostFault}
use Rattle.pf_session.specs.Copying.{clean_below}
use Rattle.pf_session.specs.Relocating.{RelocateGoes}
use Rattle.pf_session.specs.declared.fault.FlushFault.{FlushFault}
use Rattle.pf_session.proofs.Relocated.{not_copied_run, relocated_run, not_copied, not_named, all_relocated}
use Rattle.pf_session.proofs.moving.move_file.Goals as goal

pub returns-in_err-copy_file-clause-goes : goal.returns-in_err-copy_file-clause-goes
returns-in_err-copy_file-clause-goes g c =
    let p = err_from_is_err_and c.from_residual.result c.from_residual.ensures.1 in
    let s0 = g.H.Host.state c.args.host.now in
    let s1 = g.H.Host.state c.copy_file.new.host in
    let numbers = clean_below [] c.args.count in
    rw p.1 (subst (λ (f : FlushFault). RelocateGoes (Err f) c.args.from.now c.args.to.now c.args.node.now numbers s0 s1) (sym p.2)
    (not_copied c.args.from.now c.args.to.now c.requires.old c.args.node.now numbers c.args.side.now c.requires.side c.in_err-copy_file.field-0.0 s0 s1 c.in_err-copy_file.ensures.goes))

pub returns-in_err-copy_file-clause-disk : goal.returns-in_err-copy_file-clause-disk
returns-in_err-copy_file-clause-disk g c =
    let p = err_from_is_err_and c.from_residual.result c.from_residual.ensures.1 in
    let s0 = g.H.Host.state c.args.host.now in
    let s1 = g.H.Host.state c.copy_file.new.host in
    rw p.1 (not_copied_run c.args.from.now c.args.to.now c.requires.old c.args.node.now (clean_below [] c.args.count) c.args.side.now c.requires.side s0.honest s1.honest c.in_err-copy_file.ensures.disk)

pub returns-in_err-change_name-clause-goes : goal.returns-in_err-change_name-clause-goes
returns-in_err-change_name-clause-goes g c =
    let p = err_from_is_err_and c.from_residual-in_err-change_name.result c.from_residual-in_err-change_name.ensures.1 in
    let s0 = g.H.Host.state c.args.host.now in
    let s1 = g.H.Host.state c.copy_file.new.host in
    let s2 = g.H.Host.state c.change_name.new.host in
    rw p.1 (not_named c.args.from.now c.args.to.now c.requires.old c.args.node.now (clean_below [] c.args.count) c.args.side.now c.requires.side s0 s1 s2 c.in_ok-copy_file.ensures.goes p.0 p.2 c.in_err-change_name.ensures.goes)

pub returns-in_err-change_name-clause-disk : goal.returns-in_err-change_name-clause-disk
returns-in_err-change_name-clause-disk g c =
    let p = err_from_is_err_and c.from_residual-in_err-change_name.result c.from_residual-in_err-change_name.ensures.1 in
    let s0 = g.H.Host.state c.args.host.now in
    let s1 = g.H.Host.state c.copy_file.new.host in
    let s2 = g.H.Host.state c.change_name.new.host in
    let failed : Result (Unit {0}) HostFault = Err c.in_err-change_name.field-0.0 in
    rw p.1 (relocated_run c.args.from.now c.args.to.now c.requires.old c.args.node.now (clean_below [] c.args.count) c.args.side.now c.requires.side failed s0.honest s1.honest s2.honest c.in_ok-copy_file.ensures.disk c.in_err-change_name.ensures.disk)

pub returns-clause-goes : goal.returns-clause-goes
returns-clause-goes g c =
    let s0 = g.H.Host.state c.args.host.now in
    let s1 = g.H.Host.state c.copy_file.new.host in
    let s2 = g.H.Host.state c.change_name.new.host in
    all_relocated c.args.from.now c.args.to.now c.requires.old c.args.node.now (clean_below [] c.args.count) c.args.side.now c.requires.side s0 s1 s2 c.in_ok-copy_file.ensures.goes c.in_ok-change_name.ensures.goes

pub returns-clause-disk : goal.returns-clause-disk
returns-clause-disk g c =
    let s0 = g.H.Host.state c.args.host.now in
    let s1 = g.H.Host.state c.copy_file.new.host in
    let s2 = g.H.Host.state c.change_name.new.host in
    let done : Result (Unit {0}) HostFault = Ok tt in
    relocated_run c.args.from.now c.args.to.now c.requires.old c.args.node.now (clean_below [] c.args.count) c.args.side.now c.requires.side done s0.honest s1.honest s2.honest c.in_ok-copy_file.ensures.disk c.in_ok-change_name.ensures.disk
