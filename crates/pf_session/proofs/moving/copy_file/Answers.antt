use Rattle.std.proofs.Common.{◌≢◌, [], refl, sym, subst, Result, Err}
use Rattle.std.proofs.lemmas.Result.{err_from_is_err_and}
use Rattle.pf_io.specs.Host.{Made}
use Rattle.pf_io.specs.declared.faults.HostFault.{HostFault}
use Rattle.pf_session.specs.Aside.{ChangesAlone}
use Rattle.pf_session.specs.Copying.{clean_below}
use Rattle.pf_session.specs.Relocating.{CopyFileGoes}
use Rattle.pf_session.specs.declared.fault.FlushFault.{FlushFault}
use Rattle.pf_session.proofs.Calls.{asked_neither, failed_neither}
use Rattle.pf_session.proofs.CopiedFile.{unmade, uncopied, not_put, copied_whole, has_copy_run}
use Rattle.pf_session.proofs.CopyLoop.{copy_keeps}
use Rattle.pf_session.proofs.Replace.{make_ran, make_alone, then_alone, copy_ran}
use Rattle.pf_session.proofs.moving.copy_file.Goals as goal

pub returns-in_err-make-clause-goes : goal.returns-in_err-make-clause-goes
returns-in_err-make-clause-goes g c =
    let p = err_from_is_err_and c.from_residual.result c.from_residual.ensures.1 in
    let s0 = g.H.Host.state c.args.host.now in
    let s1 = g.H.Host.state c.make.new.self in
    let from = c.args.from.now in
    let side = c.args.side.now in
    let node = c.args.node.now in
    let numbers = clean_below [] c.args.count in
    let apart : side ≢ from = λ same. c.requires.apart (sym same) in
    rw p.1 (unmade from side node numbers p.0 s0 s1 p.2 (failed_neither s0 s1 c.in_err-make.ensures.told c.in_err-make.ensures.cause.once c.make.ensures.counts))

pub returns-in_err-make-clause-disk : goal.returns-in_err-make-clause-disk
returns-in_err-make-clause-disk g c =
    let p = err_from_is_err_and c.from_residual.result c.from_residual.ensures.1 in
    let s0 = g.H.Host.state c.args.host.now in
    let s1 = g.H.Host.state c.make.new.self in
    let from = c.args.from.now in
    let side = c.args.side.now in
    let node = c.args.node.now in
    let numbers = clean_below [] c.args.count in
    let apart : side ≢ from = λ same. c.requires.apart (sym same) in
    let failed_make : Result (Unit {0}) HostFault = Err c.in_err-make.field-0.0 in
    rw p.1 (make_alone from side apart failed_make s0.honest s1.honest c.in_err-make.ensures.disk)

pub returns-in_err-copy_clean-clause-goes : goal.returns-in_err-copy_clean-clause-goes
returns-in_err-copy_clean-clause-goes g c =
    let p = err_from_is_err_and c.from_residual-in_err-copy_clean.result c.from_residual-in_err-copy_clean.ensures.1 in
    let s0 = g.H.Host.state c.args.host.now in
    let s1 = g.H.Host.state c.make.new.self in
    let from = c.args.from.now in
    let side = c.args.side.now in
    let node = c.args.node.now in
    let numbers = clean_below [] c.args.count in
    let apart : side ≢ from = λ same. c.requires.apart (sym same) in
    let s2 = g.H.Host.state c.copy_clean.new.host in
    let made = asked_neither (Made side) s0 s1 refl refl c.in_ok-make.ensures.told c.in_ok-make.ensures.cause.still c.make.ensures.counts in
    let made_disk = make_ran from side apart (Unit {0}) HostFault tt s0.honest s1.honest c.in_ok-make.ensures.disk in
    let alone : ChangesAlone side s0 s2 = then_alone from side apart _ _ s0.honest s1.honest s2.honest made_disk c.in_err-copy_clean.ensures.disk (λ d e m. m.others) (copy_keeps c.in_err-copy_clean.field-0.0 from side numbers) in
    rw p.1 (subst (λ (f : FlushFault). CopyFileGoes (Err f) from side node numbers s0 s2) (sym p.2) (uncopied from side node numbers s0 s1 s2 made c.in_err-copy_clean.field-0.0 c.in_err-copy_clean.ensures.goes alone))

pub returns-in_err-copy_clean-clause-disk : goal.returns-in_err-copy_clean-clause-disk
returns-in_err-copy_clean-clause-disk g c =
    let p = err_from_is_err_and c.from_residual-in_err-copy_clean.result c.from_residual-in_err-copy_clean.ensures.1 in
    let s0 = g.H.Host.state c.args.host.now in
    let s1 = g.H.Host.state c.make.new.self in
    let from = c.args.from.now in
    let side = c.args.side.now in
    let node = c.args.node.now in
    let numbers = clean_below [] c.args.count in
    let apart : side ≢ from = λ same. c.requires.apart (sym same) in
    let s2 = g.H.Host.state c.copy_clean.new.host in
    let made_disk = make_ran from side apart (Unit {0}) HostFault tt s0.honest s1.honest c.in_ok-make.ensures.disk in
    let alone : ChangesAlone side s0 s2 = then_alone from side apart _ _ s0.honest s1.honest s2.honest made_disk c.in_err-copy_clean.ensures.disk (λ d e m. m.others) (copy_keeps c.in_err-copy_clean.field-0.0 from side numbers) in
    rw p.1 alone

pub returns-in_err-put_node-clause-goes : goal.returns-in_err-put_node-clause-goes
returns-in_err-put_node-clause-goes g c =
    let p = err_from_is_err_and c.from_residual-in_err-put_node.result c.from_residual-in_err-put_node.ensures.1 in
    let s0 = g.H.Host.state c.args.host.now in
    let s1 = g.H.Host.state c.make.new.self in
    let from = c.args.from.now in
    let side = c.args.side.now in
    let node = c.args.node.now in
    let numbers = clean_below [] c.args.count in
    let apart : side ≢ from = λ same. c.requires.apart (sym same) in
    let s2 = g.H.Host.state c.copy_clean.new.host in
    let made = asked_neither (Made side) s0 s1 refl refl c.in_ok-make.ensures.told c.in_ok-make.ensures.cause.still c.make.ensures.counts in
    let s3 = g.H.Host.state c.put_node.new.host in
    rw p.1 (not_put from side node numbers s0 s1 s2 made c.in_ok-copy_clean.ensures.goes p.0 s3 p.2 c.in_err-put_node.ensures.goes)

pub returns-in_err-put_node-clause-disk : goal.returns-in_err-put_node-clause-disk
returns-in_err-put_node-clause-disk g c =
    let p = err_from_is_err_and c.from_residual-in_err-put_node.result c.from_residual-in_err-put_node.ensures.1 in
    let s0 = g.H.Host.state c.args.host.now in
    let s1 = g.H.Host.state c.make.new.self in
    let from = c.args.from.now in
    let side = c.args.side.now in
    let node = c.args.node.now in
    let numbers = clean_below [] c.args.count in
    let apart : side ≢ from = λ same. c.requires.apart (sym same) in
    let s2 = g.H.Host.state c.copy_clean.new.host in
    let made_disk = make_ran from side apart (Unit {0}) HostFault tt s0.honest s1.honest c.in_ok-make.ensures.disk in
    let s3 = g.H.Host.state c.put_node.new.host in
    let copied_disk = copy_ran from side apart numbers s0.honest s1.honest s2.honest made_disk c.in_ok-copy_clean.ensures.disk in
    rw p.1 (then_alone from side apart _ _ s0.honest s2.honest s3.honest copied_disk c.in_err-put_node.ensures.disk (λ d e m. m.others) (λ d e keeps. keeps))

pub returns-clause-goes : goal.returns-clause-goes
returns-clause-goes g c =
    let s0 = g.H.Host.state c.args.host.now in
    let s1 = g.H.Host.state c.make.new.self in
    let from = c.args.from.now in
    let side = c.args.side.now in
    let node = c.args.node.now in
    let numbers = clean_below [] c.args.count in
    let apart : side ≢ from = λ same. c.requires.apart (sym same) in
    let s2 = g.H.Host.state c.copy_clean.new.host in
    let made = asked_neither (Made side) s0 s1 refl refl c.in_ok-make.ensures.told c.in_ok-make.ensures.cause.still c.make.ensures.counts in
    let s3 = g.H.Host.state c.put_node.new.host in
    copied_whole from side node numbers s0 s1 s2 made c.in_ok-copy_clean.ensures.goes s3 c.in_ok-put_node.ensures.goes

pub returns-clause-disk : goal.returns-clause-disk
returns-clause-disk g c =
    let s0 = g.H.Host.state c.args.host.now in
    let s1 = g.H.Host.state c.make.new.self in
    let from = c.args.from.now in
    let side = c.args.side.now in
    let node = c.args.node.now in
    let numbers = clean_below [] c.args.count in
    let apart : side ≢ from = λ same. c.requires.apart (sym same) in
    let s2 = g.H.Host.state c.copy_clean.new.host in
    let made_disk = make_ran from side apart (Unit {0}) HostFault tt s0.honest s1.honest c.in_ok-make.ensures.disk in
    let s3 = g.H.Host.state c.put_node.new.host in
    let copied_disk = copy_ran from side apart numbers s0.honest s1.honest s2.honest made_disk c.in_ok-copy_clean.ensures.disk in
    has_copy_run from side apart node c.told-node c.args.count s0.honest s2.honest s3.honest copied_disk c.in_ok-put_node.ensures.disk
