use Rattle.std.proofs.Common.{◌≡◌, ◌≢◌, ℕ, List, refl, ap, ap₂, ◌∙◌, sym, subst, Result, Ok, Err}
use Rattle.std.proofs.lemmas.Result.{err_from_is_err_and}
use Rattle.pf_io.specs.Counts.{HasCause}
use Rattle.pf_io.specs.Host.{Made, Swapped, Both}
use Rattle.pf_io.specs.Moments.{Ran}
use Rattle.pf_io.specs.Names.{recovery_of}
use Rattle.pf_io.specs.declared.faults.HostFault.{HostFault}
use Rattle.node_layout.specs.Places.{node_count}
use Rattle.pf_session.specs.Copying.{clean_below, CopyGoes, Copied, CopiesInto}
use Rattle.pf_session.specs.Flushing.{host_part}
use Rattle.pf_session.specs.Making.{ReplaceGoes}
use Rattle.pf_session.specs.Sealing.{LeavesOthers, ChangesAlone}
use Rattle.pf_session.specs.declared.fault.FlushFault.{FlushFault}
use Rattle.pf_session.proofs.Calls.{asked_neither, failed_neither}
use Rattle.pf_session.proofs.CopyLoop.{copy_keeps}
use Rattle.pf_session.proofs.Names.{side_apart, recovery_not_side}
use Rattle.pf_session.proofs.Replacing.{replaced, stands_replaced, not_replaced}
use Rattle.pf_session.proofs.Replace.{make_stops, copying_stops, sealing_stops, swapping_stops, all_replaced, alone_aside, swap_aside, make_ran, make_alone, then_alone, copy_ran, seal_ran, kept_same, kept_host}
use Rattle.pf_session.proofs.sealing.replace.Goals as goal

pub returns-in_err-make-clause-goes : goal.returns-in_err-make-clause-goes
returns-in_err-make-clause-goes g c =
    let p = err_from_is_err_and c.from_residual.result c.from_residual.ensures.1 in
    let s0 = g.H.Host.state c.args.host.now in
    let s1 = g.H.Host.state c.make.new.self in
    let name = c.args.name.now in
    let side = c.args.side.now in
    let key = c.args.key.now in
    let path = c.args.path.now in
    let nonce = c.args.nonce.now in
    let tree = c.args.tree.now in
    let keys = c.args.keys.now in
    let clean = clean_below tree.dirty (node_count tree.size) in
    let apart : side ≢ name = λ same. side_apart name (sym c.requires.side ∙ same) in
    let failed_make : Result (Unit {0}) HostFault = Err c.in_err-make.field-0.0 in
    let alone : ChangesAlone side s0 s1 = make_alone name side apart failed_make s0.honest s1.honest c.in_err-make.ensures.disk in
    rw p.1 (make_stops key path nonce name side clean tree.dirty keys p.0 tree s0 s1 p.2 (failed_neither s0 s1 c.in_err-make.ensures.told c.in_err-make.ensures.cause.once c.make.ensures.counts) alone)

pub returns-in_err-make-clause-aside : goal.returns-in_err-make-clause-aside
returns-in_err-make-clause-aside g c =
    let s0 = g.H.Host.state c.args.host.now in
    let s1 = g.H.Host.state c.make.new.self in
    let name = c.args.name.now in
    let side = c.args.side.now in
    let apart : side ≢ name = λ same. side_apart name (sym c.requires.side ∙ same) in
    let failed_make : Result (Unit {0}) HostFault = Err c.in_err-make.field-0.0 in
    let alone : ChangesAlone side s0 s1 = make_alone name side apart failed_make s0.honest s1.honest c.in_err-make.ensures.disk in
    alone_aside name side s0.honest s1.honest c.requires.side alone

pub returns-in_err-make-clause-replaces : goal.returns-in_err-make-clause-replaces
returns-in_err-make-clause-replaces g c =
    let p = err_from_is_err_and c.from_residual.result c.from_residual.ensures.1 in
    let s0 = g.H.Host.state c.args.host.now in
    let s1 = g.H.Host.state c.make.new.self in
    let name = c.args.name.now in
    let side = c.args.side.now in
    let key = c.args.key.now in
    let apart : side ≢ name = λ same. side_apart name (sym c.requires.side ∙ same) in
    let failed_make : Result (Unit {0}) HostFault = Err c.in_err-make.field-0.0 in
    let alone : ChangesAlone side s0 s1 = make_alone name side apart failed_make s0.honest s1.honest c.in_err-make.ensures.disk in
    rw p.1 (λ sheet next has. not_replaced key name side sheet next apart s0.honest s1.honest alone)

pub returns-in_err-copy_clean-clause-goes : goal.returns-in_err-copy_clean-clause-goes
returns-in_err-copy_clean-clause-goes g c =
    let p = err_from_is_err_and c.from_residual-in_err-copy_clean.result c.from_residual-in_err-copy_clean.ensures.1 in
    let s0 = g.H.Host.state c.args.host.now in
    let s1 = g.H.Host.state c.make.new.self in
    let name = c.args.name.now in
    let side = c.args.side.now in
    let key = c.args.key.now in
    let path = c.args.path.now in
    let nonce = c.args.nonce.now in
    let tree = c.args.tree.now in
    let keys = c.args.keys.now in
    let clean = clean_below tree.dirty (node_count tree.size) in
    let apart : side ≢ name = λ same. side_apart name (sym c.requires.side ∙ same) in
    let s2 = g.H.Host.state c.copy_clean.new.host in
    let clean_is : clean_below c.args.dirty.now c.node_count.result ≡ clean = ap₂ clean_below c.requires.dirty (c.node_count.ensures ∙ ap node_count c.size.ensures.same) in
    let made = asked_neither (Made side) s0 s1 refl refl c.in_ok-make.ensures.told c.in_ok-make.ensures.cause.still c.make.ensures.counts in
    let copies = subst (λ (l : List ℕ). CopyGoes (Err c.in_err-copy_clean.field-0.0) name side l s1 s2) clean_is c.in_err-copy_clean.ensures.goes in
    let made_disk = make_ran name side apart (Unit {0}) HostFault tt s0.honest s1.honest c.in_ok-make.ensures.disk in
    let alone : ChangesAlone side s0 s2 = then_alone name side apart _ _ s0.honest s1.honest s2.honest made_disk c.in_err-copy_clean.ensures.disk (λ d e m. m.others) (copy_keeps c.in_err-copy_clean.field-0.0 name side _) in
    rw p.1 (subst (λ (f : FlushFault). ReplaceGoes (Err f) key path nonce name side clean tree.dirty keys tree s0 s2) (sym p.2) (copying_stops key path nonce name side clean tree.dirty keys c.in_err-copy_clean.field-0.0 tree s0 s1 s2 made copies alone))

pub returns-in_err-copy_clean-clause-aside : goal.returns-in_err-copy_clean-clause-aside
returns-in_err-copy_clean-clause-aside g c =
    let s0 = g.H.Host.state c.args.host.now in
    let s1 = g.H.Host.state c.make.new.self in
    let name = c.args.name.now in
    let side = c.args.side.now in
    let apart : side ≢ name = λ same. side_apart name (sym c.requires.side ∙ same) in
    let s2 = g.H.Host.state c.copy_clean.new.host in
    let made_disk = make_ran name side apart (Unit {0}) HostFault tt s0.honest s1.honest c.in_ok-make.ensures.disk in
    let alone : ChangesAlone side s0 s2 = then_alone name side apart _ _ s0.honest s1.honest s2.honest made_disk c.in_err-copy_clean.ensures.disk (λ d e m. m.others) (copy_keeps c.in_err-copy_clean.field-0.0 name side _) in
    alone_aside name side s0.honest s2.honest c.requires.side alone

pub returns-in_err-copy_clean-clause-replaces : goal.returns-in_err-copy_clean-clause-replaces
returns-in_err-copy_clean-clause-replaces g c =
    let p = err_from_is_err_and c.from_residual-in_err-copy_clean.result c.from_residual-in_err-copy_clean.ensures.1 in
    let s0 = g.H.Host.state c.args.host.now in
    let s1 = g.H.Host.state c.make.new.self in
    let name = c.args.name.now in
    let side = c.args.side.now in
    let key = c.args.key.now in
    let apart : side ≢ name = λ same. side_apart name (sym c.requires.side ∙ same) in
    let s2 = g.H.Host.state c.copy_clean.new.host in
    let made_disk = make_ran name side apart (Unit {0}) HostFault tt s0.honest s1.honest c.in_ok-make.ensures.disk in
    let alone : ChangesAlone side s0 s2 = then_alone name side apart _ _ s0.honest s1.honest s2.honest made_disk c.in_err-copy_clean.ensures.disk (λ d e m. m.others) (copy_keeps c.in_err-copy_clean.field-0.0 name side _) in
    rw p.1 (λ sheet next has. not_replaced key name side sheet next apart s0.honest s2.honest alone)

pub returns-in_err-seal_nodes-clause-goes : goal.returns-in_err-seal_nodes-clause-goes
returns-in_err-seal_nodes-clause-goes g c =
    let p = err_from_is_err_and c.from_residual-in_err-seal_nodes.result c.from_residual-in_err-seal_nodes.ensures.1 in
    let s0 = g.H.Host.state c.args.host.now in
    let s1 = g.H.Host.state c.make.new.self in
    let name = c.args.name.now in
    let side = c.args.side.now in
    let key = c.args.key.now in
    let path = c.args.path.now in
    let nonce = c.args.nonce.now in
    let tree = c.args.tree.now in
    let keys = c.args.keys.now in
    let clean = clean_below tree.dirty (node_count tree.size) in
    let apart : side ≢ name = λ same. side_apart name (sym c.requires.side ∙ same) in
    let s2 = g.H.Host.state c.copy_clean.new.host in
    let clean_is : clean_below c.args.dirty.now c.node_count.result ≡ clean = ap₂ clean_below c.requires.dirty (c.node_count.ensures ∙ ap node_count c.size.ensures.same) in
    let made = asked_neither (Made side) s0 s1 refl refl c.in_ok-make.ensures.told c.in_ok-make.ensures.cause.still c.make.ensures.counts in
    let s3 = g.H.Host.state c.seal_nodes.new.host in
    let mid = c.seal_nodes.new.tree in
    let copies : Copied name side clean s1 s2 = subst (λ (l : List ℕ). Copied name side l s1 s2) clean_is c.in_ok-copy_clean.ensures.goes in
    let copies_disk : Both s1.honest s2.honest (Ran (LeavesOthers side) (CopiesInto name side clean)) = subst (λ (l : List ℕ). Both s1.honest s2.honest (Ran (LeavesOthers side) (CopiesInto name side l))) clean_is c.in_ok-copy_clean.ensures.disk in
    let made_disk = make_ran name side apart (Unit {0}) HostFault tt s0.honest s1.honest c.in_ok-make.ensures.disk in
    let copied_disk = copy_ran name side apart clean s0.honest s1.honest s2.honest made_disk copies_disk in
    let alone : ChangesAlone side s0 s3 = then_alone name side apart _ _ s0.honest s2.honest s3.honest copied_disk c.seal_nodes.ensures.alone (λ d e m. m.others) (λ d e keeps. keeps) in
    rw p.1 (sealing_stops key path nonce name side clean tree.dirty keys mid s0 s1 s2 s3 made copies p.0 p.2 c.in_err-seal_nodes.ensures.goes alone)

pub returns-in_err-seal_nodes-clause-aside : goal.returns-in_err-seal_nodes-clause-aside
returns-in_err-seal_nodes-clause-aside g c =
    let s0 = g.H.Host.state c.args.host.now in
    let s1 = g.H.Host.state c.make.new.self in
    let name = c.args.name.now in
    let side = c.args.side.now in
    let tree = c.args.tree.now in
    let clean = clean_below tree.dirty (node_count tree.size) in
    let apart : side ≢ name = λ same. side_apart name (sym c.requires.side ∙ same) in
    let s2 = g.H.Host.state c.copy_clean.new.host in
    let clean_is : clean_below c.args.dirty.now c.node_count.result ≡ clean = ap₂ clean_below c.requires.dirty (c.node_count.ensures ∙ ap node_count c.size.ensures.same) in
    let s3 = g.H.Host.state c.seal_nodes.new.host in
    let copies_disk : Both s1.honest s2.honest (Ran (LeavesOthers side) (CopiesInto name side clean)) = subst (λ (l : List ℕ). Both s1.honest s2.honest (Ran (LeavesOthers side) (CopiesInto name side l))) clean_is c.in_ok-copy_clean.ensures.disk in
    let made_disk = make_ran name side apart (Unit {0}) HostFault tt s0.honest s1.honest c.in_ok-make.ensures.disk in
    let copied_disk = copy_ran name side apart clean s0.honest s1.honest s2.honest made_disk copies_disk in
    let alone : ChangesAlone side s0 s3 = then_alone name side apart _ _ s0.honest s2.honest s3.honest copied_disk c.seal_nodes.ensures.alone (λ d e m. m.others) (λ d e keeps. keeps) in
    alone_aside name side s0.honest s3.honest c.requires.side alone

pub returns-in_err-seal_nodes-clause-replaces : goal.returns-in_err-seal_nodes-clause-replaces
returns-in_err-seal_nodes-clause-replaces g c =
    let p = err_from_is_err_and c.from_residual-in_err-seal_nodes.result c.from_residual-in_err-seal_nodes.ensures.1 in
    let s0 = g.H.Host.state c.args.host.now in
    let s1 = g.H.Host.state c.make.new.self in
    let name = c.args.name.now in
    let side = c.args.side.now in
    let key = c.args.key.now in
    let tree = c.args.tree.now in
    let clean = clean_below tree.dirty (node_count tree.size) in
    let apart : side ≢ name = λ same. side_apart name (sym c.requires.side ∙ same) in
    let s2 = g.H.Host.state c.copy_clean.new.host in
    let clean_is : clean_below c.args.dirty.now c.node_count.result ≡ clean = ap₂ clean_below c.requires.dirty (c.node_count.ensures ∙ ap node_count c.size.ensures.same) in
    let s3 = g.H.Host.state c.seal_nodes.new.host in
    let copies_disk : Both s1.honest s2.honest (Ran (LeavesOthers side) (CopiesInto name side clean)) = subst (λ (l : List ℕ). Both s1.honest s2.honest (Ran (LeavesOthers side) (CopiesInto name side l))) clean_is c.in_ok-copy_clean.ensures.disk in
    let made_disk = make_ran name side apart (Unit {0}) HostFault tt s0.honest s1.honest c.in_ok-make.ensures.disk in
    let copied_disk = copy_ran name side apart clean s0.honest s1.honest s2.honest made_disk copies_disk in
    let alone : ChangesAlone side s0 s3 = then_alone name side apart _ _ s0.honest s2.honest s3.honest copied_disk c.seal_nodes.ensures.alone (λ d e m. m.others) (λ d e keeps. keeps) in
    rw p.1 (λ sheet next has. not_replaced key name side sheet next apart s0.honest s3.honest alone)

pub returns-in_err-swap_name-clause-goes : goal.returns-in_err-swap_name-clause-goes
returns-in_err-swap_name-clause-goes g c =
    let p = err_from_is_err_and c.from_residual-in_err-swap_name.result c.from_residual-in_err-swap_name.ensures.1 in
    let s0 = g.H.Host.state c.args.host.now in
    let s1 = g.H.Host.state c.make.new.self in
    let name = c.args.name.now in
    let side = c.args.side.now in
    let key = c.args.key.now in
    let path = c.args.path.now in
    let nonce = c.args.nonce.now in
    let tree = c.args.tree.now in
    let keys = c.args.keys.now in
    let clean = clean_below tree.dirty (node_count tree.size) in
    let s2 = g.H.Host.state c.copy_clean.new.host in
    let clean_is : clean_below c.args.dirty.now c.node_count.result ≡ clean = ap₂ clean_below c.requires.dirty (c.node_count.ensures ∙ ap node_count c.size.ensures.same) in
    let made = asked_neither (Made side) s0 s1 refl refl c.in_ok-make.ensures.told c.in_ok-make.ensures.cause.still c.make.ensures.counts in
    let s3 = g.H.Host.state c.seal_nodes.new.host in
    let mid = c.seal_nodes.new.tree in
    let copies : Copied name side clean s1 s2 = subst (λ (l : List ℕ). Copied name side l s1 s2) clean_is c.in_ok-copy_clean.ensures.goes in
    let s4 = g.H.Host.state c.swap_name.new.self in
    rw p.1 (swapping_stops key path nonce name side clean tree.dirty keys mid s0 s1 s2 s3 made copies s4 c.in_ok-seal_nodes.ensures.goes p.0 p.2 (failed_neither s3 s4 c.in_err-swap_name.ensures.told c.in_err-swap_name.ensures.cause.once c.swap_name.ensures.counts))

pub returns-in_err-swap_name-clause-aside : goal.returns-in_err-swap_name-clause-aside
returns-in_err-swap_name-clause-aside g c =
    let s0 = g.H.Host.state c.args.host.now in
    let s1 = g.H.Host.state c.make.new.self in
    let name = c.args.name.now in
    let side = c.args.side.now in
    let tree = c.args.tree.now in
    let clean = clean_below tree.dirty (node_count tree.size) in
    let apart : side ≢ name = λ same. side_apart name (sym c.requires.side ∙ same) in
    let s2 = g.H.Host.state c.copy_clean.new.host in
    let clean_is : clean_below c.args.dirty.now c.node_count.result ≡ clean = ap₂ clean_below c.requires.dirty (c.node_count.ensures ∙ ap node_count c.size.ensures.same) in
    let s3 = g.H.Host.state c.seal_nodes.new.host in
    let copies_disk : Both s1.honest s2.honest (Ran (LeavesOthers side) (CopiesInto name side clean)) = subst (λ (l : List ℕ). Both s1.honest s2.honest (Ran (LeavesOthers side) (CopiesInto name side l))) clean_is c.in_ok-copy_clean.ensures.disk in
    let made_disk = make_ran name side apart (Unit {0}) HostFault tt s0.honest s1.honest c.in_ok-make.ensures.disk in
    let copied_disk = copy_ran name side apart clean s0.honest s1.honest s2.honest made_disk copies_disk in
    let alone : ChangesAlone side s0 s3 = then_alone name side apart _ _ s0.honest s2.honest s3.honest copied_disk c.seal_nodes.ensures.alone (λ d e m. m.others) (λ d e keeps. keeps) in
    let s4 = g.H.Host.state c.swap_name.new.self in
    let failed_swap : Result (Unit {0}) HostFault = Err c.in_err-swap_name.field-0.0 in
    swap_aside failed_swap name side s0.honest s3.honest s4.honest c.requires.side (alone_aside name side s0.honest s3.honest c.requires.side alone) c.in_err-swap_name.ensures.disk

pub returns-in_err-swap_name-clause-replaces : goal.returns-in_err-swap_name-clause-replaces
returns-in_err-swap_name-clause-replaces g c =
    let p = err_from_is_err_and c.from_residual-in_err-swap_name.result c.from_residual-in_err-swap_name.ensures.1 in
    let s0 = g.H.Host.state c.args.host.now in
    let s1 = g.H.Host.state c.make.new.self in
    let name = c.args.name.now in
    let side = c.args.side.now in
    let key = c.args.key.now in
    let path = c.args.path.now in
    let nonce = c.args.nonce.now in
    let tree = c.args.tree.now in
    let keys = c.args.keys.now in
    let clean = clean_below tree.dirty (node_count tree.size) in
    let apart : side ≢ name = λ same. side_apart name (sym c.requires.side ∙ same) in
    let s2 = g.H.Host.state c.copy_clean.new.host in
    let clean_is : clean_below c.args.dirty.now c.node_count.result ≡ clean = ap₂ clean_below c.requires.dirty (c.node_count.ensures ∙ ap node_count c.size.ensures.same) in
    let s3 = g.H.Host.state c.seal_nodes.new.host in
    let mid = c.seal_nodes.new.tree in
    let copies_disk : Both s1.honest s2.honest (Ran (LeavesOthers side) (CopiesInto name side clean)) = subst (λ (l : List ℕ). Both s1.honest s2.honest (Ran (LeavesOthers side) (CopiesInto name side l))) clean_is c.in_ok-copy_clean.ensures.disk in
    let made_disk = make_ran name side apart (Unit {0}) HostFault tt s0.honest s1.honest c.in_ok-make.ensures.disk in
    let copied_disk = copy_ran name side apart clean s0.honest s1.honest s2.honest made_disk copies_disk in
    let s4 = g.H.Host.state c.swap_name.new.self in
    let not_recovery : recovery_of name ≢ side = λ same. recovery_not_side name (same ∙ c.requires.side) in
    let failed_swap : Result (Unit {0}) HostFault = Err c.in_err-swap_name.field-0.0 in
    rw p.1 (λ sheet next has.
    let sealed = seal_ran name side apart key path nonce sheet tree mid keys next c.told-key has (c.in_ok-seal_nodes.ensures.sealed sheet next has) c.seal_nodes.ensures.shape s0.honest s2.honest s3.honest copied_disk c.seal_nodes.ensures.alone (c.in_ok-seal_nodes.ensures.seals sheet next has) in
    replaced key name side sheet next apart not_recovery failed_swap s0.honest s3.honest s4.honest sealed c.in_err-swap_name.ensures.disk)

pub returns-clause-goes : goal.returns-clause-goes
returns-clause-goes g c =
    let s0 = g.H.Host.state c.args.host.now in
    let s1 = g.H.Host.state c.make.new.self in
    let name = c.args.name.now in
    let side = c.args.side.now in
    let key = c.args.key.now in
    let path = c.args.path.now in
    let nonce = c.args.nonce.now in
    let tree = c.args.tree.now in
    let keys = c.args.keys.now in
    let clean = clean_below tree.dirty (node_count tree.size) in
    let s2 = g.H.Host.state c.copy_clean.new.host in
    let clean_is : clean_below c.args.dirty.now c.node_count.result ≡ clean = ap₂ clean_below c.requires.dirty (c.node_count.ensures ∙ ap node_count c.size.ensures.same) in
    let made = asked_neither (Made side) s0 s1 refl refl c.in_ok-make.ensures.told c.in_ok-make.ensures.cause.still c.make.ensures.counts in
    let s3 = g.H.Host.state c.seal_nodes.new.host in
    let mid = c.seal_nodes.new.tree in
    let copies : Copied name side clean s1 s2 = subst (λ (l : List ℕ). Copied name side l s1 s2) clean_is c.in_ok-copy_clean.ensures.goes in
    let s4 = g.H.Host.state c.swap_name.new.self in
    all_replaced key path nonce name side clean tree.dirty keys mid s0 s1 s2 s3 made copies s4 c.in_ok-seal_nodes.ensures.goes (asked_neither (Swapped side name) s3 s4 refl refl c.in_ok-swap_name.ensures.told c.in_ok-swap_name.ensures.cause.still c.swap_name.ensures.counts)

pub returns-clause-aside : goal.returns-clause-aside
returns-clause-aside g c =
    let s0 = g.H.Host.state c.args.host.now in
    let s1 = g.H.Host.state c.make.new.self in
    let name = c.args.name.now in
    let side = c.args.side.now in
    let tree = c.args.tree.now in
    let clean = clean_below tree.dirty (node_count tree.size) in
    let apart : side ≢ name = λ same. side_apart name (sym c.requires.side ∙ same) in
    let s2 = g.H.Host.state c.copy_clean.new.host in
    let clean_is : clean_below c.args.dirty.now c.node_count.result ≡ clean = ap₂ clean_below c.requires.dirty (c.node_count.ensures ∙ ap node_count c.size.ensures.same) in
    let s3 = g.H.Host.state c.seal_nodes.new.host in
    let copies_disk : Both s1.honest s2.honest (Ran (LeavesOthers side) (CopiesInto name side clean)) = subst (λ (l : List ℕ). Both s1.honest s2.honest (Ran (LeavesOthers side) (CopiesInto name side l))) clean_is c.in_ok-copy_clean.ensures.disk in
    let made_disk = make_ran name side apart (Unit {0}) HostFault tt s0.honest s1.honest c.in_ok-make.ensures.disk in
    let copied_disk = copy_ran name side apart clean s0.honest s1.honest s2.honest made_disk copies_disk in
    let alone : ChangesAlone side s0 s3 = then_alone name side apart _ _ s0.honest s2.honest s3.honest copied_disk c.seal_nodes.ensures.alone (λ d e m. m.others) (λ d e keeps. keeps) in
    let s4 = g.H.Host.state c.swap_name.new.self in
    let done_swap : Result (Unit {0}) HostFault = Ok tt in
    swap_aside done_swap name side s0.honest s3.honest s4.honest c.requires.side (alone_aside name side s0.honest s3.honest c.requires.side alone) c.in_ok-swap_name.ensures.disk

pub returns-clause-replaces : goal.returns-clause-replaces
returns-clause-replaces g c =
    let s0 = g.H.Host.state c.args.host.now in
    let s1 = g.H.Host.state c.make.new.self in
    let name = c.args.name.now in
    let side = c.args.side.now in
    let key = c.args.key.now in
    let path = c.args.path.now in
    let nonce = c.args.nonce.now in
    let tree = c.args.tree.now in
    let keys = c.args.keys.now in
    let clean = clean_below tree.dirty (node_count tree.size) in
    let apart : side ≢ name = λ same. side_apart name (sym c.requires.side ∙ same) in
    let s2 = g.H.Host.state c.copy_clean.new.host in
    let clean_is : clean_below c.args.dirty.now c.node_count.result ≡ clean = ap₂ clean_below c.requires.dirty (c.node_count.ensures ∙ ap node_count c.size.ensures.same) in
    let s3 = g.H.Host.state c.seal_nodes.new.host in
    let mid = c.seal_nodes.new.tree in
    let copies_disk : Both s1.honest s2.honest (Ran (LeavesOthers side) (CopiesInto name side clean)) = subst (λ (l : List ℕ). Both s1.honest s2.honest (Ran (LeavesOthers side) (CopiesInto name side l))) clean_is c.in_ok-copy_clean.ensures.disk in
    let made_disk = make_ran name side apart (Unit {0}) HostFault tt s0.honest s1.honest c.in_ok-make.ensures.disk in
    let copied_disk = copy_ran name side apart clean s0.honest s1.honest s2.honest made_disk copies_disk in
    let s4 = g.H.Host.state c.swap_name.new.self in
    let not_recovery : recovery_of name ≢ side = λ same. recovery_not_side name (same ∙ c.requires.side) in
    let done_swap : Result (Unit {0}) HostFault = Ok tt in
    λ sheet next has.
    let sealed = seal_ran name side apart key path nonce sheet tree mid keys next c.told-key has (c.in_ok-seal_nodes.ensures.sealed sheet next has) c.seal_nodes.ensures.shape s0.honest s2.honest s3.honest copied_disk c.seal_nodes.ensures.alone (c.in_ok-seal_nodes.ensures.seals sheet next has) in
    replaced key name side sheet next apart not_recovery done_swap s0.honest s3.honest s4.honest sealed c.in_ok-swap_name.ensures.disk

pub returns-clause-stands : goal.returns-clause-stands
returns-clause-stands g c =
    let s0 = g.H.Host.state c.args.host.now in
    let s1 = g.H.Host.state c.make.new.self in
    let name = c.args.name.now in
    let side = c.args.side.now in
    let key = c.args.key.now in
    let path = c.args.path.now in
    let nonce = c.args.nonce.now in
    let tree = c.args.tree.now in
    let keys = c.args.keys.now in
    let clean = clean_below tree.dirty (node_count tree.size) in
    let apart : side ≢ name = λ same. side_apart name (sym c.requires.side ∙ same) in
    let s2 = g.H.Host.state c.copy_clean.new.host in
    let clean_is : clean_below c.args.dirty.now c.node_count.result ≡ clean = ap₂ clean_below c.requires.dirty (c.node_count.ensures ∙ ap node_count c.size.ensures.same) in
    let s3 = g.H.Host.state c.seal_nodes.new.host in
    let mid = c.seal_nodes.new.tree in
    let copies_disk : Both s1.honest s2.honest (Ran (LeavesOthers side) (CopiesInto name side clean)) = subst (λ (l : List ℕ). Both s1.honest s2.honest (Ran (LeavesOthers side) (CopiesInto name side l))) clean_is c.in_ok-copy_clean.ensures.disk in
    let made_disk = make_ran name side apart (Unit {0}) HostFault tt s0.honest s1.honest c.in_ok-make.ensures.disk in
    let copied_disk = copy_ran name side apart clean s0.honest s1.honest s2.honest made_disk copies_disk in
    let s4 = g.H.Host.state c.swap_name.new.self in
    let not_recovery : recovery_of name ≢ side = λ same. recovery_not_side name (same ∙ c.requires.side) in
    λ sheet next has.
    let sealed = seal_ran name side apart key path nonce sheet tree mid keys next c.told-key has (c.in_ok-seal_nodes.ensures.sealed sheet next has) c.seal_nodes.ensures.shape s0.honest s2.honest s3.honest copied_disk c.seal_nodes.ensures.alone (c.in_ok-seal_nodes.ensures.seals sheet next has) in
    stands_replaced key name side sheet next apart not_recovery (Unit {0}) HostFault tt s0.honest s3.honest s4.honest sealed c.in_ok-swap_name.ensures.disk

pub returns-in_err-copy_clean-clause-kept : goal.returns-in_err-copy_clean-clause-kept
returns-in_err-copy_clean-clause-kept g c = kept_same c.from_residual-in_err-copy_clean.result c.args.tree.now

pub returns-in_err-seal_nodes-clause-kept : goal.returns-in_err-seal_nodes-clause-kept
returns-in_err-seal_nodes-clause-kept g c =
    let p = err_from_is_err_and c.from_residual-in_err-seal_nodes.result c.from_residual-in_err-seal_nodes.ensures.1 in
    rw p.1 (kept_host p.0 c.args.tree.now c.seal_nodes.new.tree p.2)

pub returns-in_err-swap_name-clause-kept : goal.returns-in_err-swap_name-clause-kept
returns-in_err-swap_name-clause-kept g c =
    let p = err_from_is_err_and c.from_residual-in_err-swap_name.result c.from_residual-in_err-swap_name.ensures.1 in
    rw p.1 (kept_host p.0 c.args.tree.now c.seal_nodes.new.tree p.2)

pub returns-in_err-copy_clean-clause-cause : goal.returns-in_err-copy_clean-clause-cause
returns-in_err-copy_clean-clause-cause g c =
    let p = err_from_is_err_and c.from_residual-in_err-copy_clean.result c.from_residual-in_err-copy_clean.ensures.1 in
    let s0 = g.H.Host.state c.args.host.now in
    let s2 = g.H.Host.state c.copy_clean.new.host in
    rw p.1 (subst (λ (f : FlushFault). HasCause s0.faults s2.faults (host_part (Err f))) (sym p.2)
    (subst (λ (n : ℕ). HasCause n s2.faults (host_part (Err c.in_err-copy_clean.field-0.0))) c.in_ok-make.ensures.cause.still c.in_err-copy_clean.ensures.cause))
