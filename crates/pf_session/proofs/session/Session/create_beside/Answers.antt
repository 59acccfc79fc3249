use Rattle.std.proofs.Common.{refl, ap, subst, List, ℕ, true, Ok}
use Rattle.std.proofs.lemmas.Result.{err_from_is_err_and}
use Rattle.pf_io.specs.Disk.{Name}
use Rattle.pf_io.specs.Host.{OnDisk}
use Rattle.pf_io.specs.Moments.{Ran}
use Rattle.pf_io.specs.SideFile.{IsWhole}
use Rattle.pf_io.specs.SideSteps.{Beside}
use Rattle.pf_io.specs.Steps.{KeepsOthers}
use Rattle.pf_session.specs.Asking.{NoCall, Asked, Stopped}
use Rattle.pf_session.specs.Placing.{make_steps}
use Rattle.pf_session.specs.Sealing.{LeavesOthers}
use Rattle.pf_session.specs.Creating.{AreNamed, begin_stopped, begun, empty_node}
use Rattle.pf_session.specs.declared.fault.BesideFault.TheVariants as besides
use Rattle.pf_session.proofs.Created.{err_is, aside_none, aside_alone, empty_linked, empty_fresh, begins_done, alone_done, node_is, session_is, side_is}
use Rattle.pf_session.proofs.session.Session.create_beside.Goals as goal

pub returns-in_err-nonce-clause-aside : goal.returns-in_err-nonce-clause-aside
returns-in_err-nonce-clause-aside g c = aside_none c.args.name.now (g.H.Host.state c.args.host.now)

pub returns-in_err-make_side-clause-goes : goal.returns-in_err-make_side-clause-goes
returns-in_err-make_side-clause-goes g c =
    let p = err_from_is_err_and c.from_residual-in_err-make_side.result c.from_residual-in_err-make_side.ensures.1 in
    let s0 = g.H.Host.state c.args.host.now in
    let s1 = g.H.Host.state c.make_side.new.host in
    let key = c.args.key.now in
    let name = c.args.name.now in
    let path = c.args.path.now in
    let nonce = c.in_ok-nonce.nonce in
    let named : AreNamed name path = c.in-Some.ensures.named.0 refl in
    let drawn = c.in_ok-nonce.ensures.drawn in
    let is = c.in_ok-session.ensures in
    let node = node_is c.in_ok-session.session c.seal_empty-node.new.self key name c.in-Some.path path _ nonce true is c.in-Some.ensures.same c.seal_empty-node.result c.seal_empty-node.ensures.node in
    let side = side_is c.in_ok-session.session c.seal_empty-node.new.self key name c.in-Some.path path _ nonce true is c.in-Some.ensures.same c.side_name.result.now c.seal_empty-node.ensures.state c.side_name.ensures in
    begin_stopped nonce named drawn (empty_linked path nonce named.path_is drawn.long)
    (subst (λ (n : Name). Stopped (make_steps n (empty_node key path nonce)) s0 s1) side (subst (λ (file : List ℕ). Stopped (make_steps c.side_name.result.now file) s0 s1) node c.in_err-make_side.ensures.goes))
    (subst (λ (n : Name). OnDisk s0 s1 (Ran (LeavesOthers n) (KeepsOthers n))) side c.in_err-make_side.ensures.disk)
    (err_is _ p.0 besides.Host p.1 p.2)

pub returns-in_err-make_side-clause-aside : goal.returns-in_err-make_side-clause-aside
returns-in_err-make_side-clause-aside g c =
    let s0 = g.H.Host.state c.args.host.now in
    let s1 = g.H.Host.state c.make_side.new.host in
    let side = side_is c.in_ok-session.session c.seal_empty-node.new.self c.args.key.now c.args.name.now c.in-Some.path c.args.path.now _ c.in_ok-nonce.nonce true c.in_ok-session.ensures c.in-Some.ensures.same c.side_name.result.now
    c.seal_empty-node.ensures.state c.side_name.ensures in
    aside_alone c.args.name.now s0 s1 (subst (λ (n : Name). OnDisk s0 s1 (Ran (LeavesOthers n) (KeepsOthers n))) side c.in_err-make_side.ensures.disk)

pub returns-clause-goes : goal.returns-clause-goes
returns-clause-goes g c =
    let s0 = g.H.Host.state c.args.host.now in
    let s1 = g.H.Host.state c.make_side.new.host in
    let key = c.args.key.now in
    let name = c.args.name.now in
    let path = c.args.path.now in
    let nonce = c.in_ok-nonce.nonce in
    let named : AreNamed name path = c.in-Some.ensures.named.0 refl in
    let drawn = c.in_ok-nonce.ensures.drawn in
    let is = c.in_ok-session.ensures in
    let file = c.seal_empty-node.result in
    let node = node_is c.in_ok-session.session c.seal_empty-node.new.self key name c.in-Some.path path _ nonce true is c.in-Some.ensures.same file c.seal_empty-node.ensures.node in
    let side = side_is c.in_ok-session.session c.seal_empty-node.new.self key name c.in-Some.path path _ nonce true is c.in-Some.ensures.same c.side_name.result.now c.seal_empty-node.ensures.state c.side_name.ensures in
    let made = subst (λ (n : Name). OnDisk s0 s1 (Ran (LeavesOthers n) (Beside n (λ was here. IsWhole file here)))) side c.in_ok-make_side.ensures.disk in
    begun nonce named drawn
    (subst (λ (n : Name). Asked (make_steps n (empty_node key path nonce)) NoCall s0 s1) side (subst (λ (f : List ℕ). Asked (make_steps c.side_name.result.now f) NoCall s0 s1) node c.in_ok-make_side.ensures.goes))
    (alone_done name file s0 s1 made) (begins_done path nonce named.path_is drawn.long key name file node s0 s1 made) (empty_fresh path nonce named.path_is drawn.long key name true)
    (ap (λ s. Ok s) (session_is c.in_ok-session.session c.seal_empty-node.new.self key name c.in-Some.path path _ nonce true is c.in-Some.ensures.same c.seal_empty-node.ensures.state))

pub returns-clause-aside : goal.returns-clause-aside
returns-clause-aside g c =
    let s0 = g.H.Host.state c.args.host.now in
    let s1 = g.H.Host.state c.make_side.new.host in
    let file = c.seal_empty-node.result in
    let side = side_is c.in_ok-session.session c.seal_empty-node.new.self c.args.key.now c.args.name.now c.in-Some.path c.args.path.now _ c.in_ok-nonce.nonce true c.in_ok-session.ensures c.in-Some.ensures.same c.side_name.result.now
    c.seal_empty-node.ensures.state c.side_name.ensures in
    aside_alone c.args.name.now s0 s1 (alone_done c.args.name.now file s0 s1 (subst (λ (n : Name). OnDisk s0 s1 (Ran (LeavesOthers n) (Beside n (λ was here. IsWhole file here)))) side c.in_ok-make_side.ensures.disk))
