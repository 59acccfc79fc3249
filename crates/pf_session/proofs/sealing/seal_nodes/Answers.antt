use Rattle.std.proofs.Common.{◌≡◌, ◌∷◌, [], ◌++◌, ℕ, List, length, append_assoc, ap, ◌∙◌, arith, rules}
use Rattle.std.proofs.lemmas.Result.{err_from_is_err_and}
use Rattle.pf_io.specs.declared.faults.HostFault.{HostFault}
use Rattle.pf_io.specs.Host.{Answer, Wrote, Synced}
use Rattle.pf_io.specs.Steps.{KeepsOthers}
use Rattle.node_tree.specs.Sealing.{writes_of}
use Rattle.node_tree.specs.State.{held_at}
use Rattle.pf_session.specs.Asking.{NoCall}
use Rattle.pf_session.specs.Steps.{node_of}
use Rattle.pf_session.proofs.Calls.{asked_then, same_asked, stopped_then, stopped_more, stopped_first, asked_write, failed_write}
use Rattle.pf_session.proofs.Disks.{next_change}
use Rattle.pf_session.proofs.Sealed.{seals_next, asked_puts, stopped_puts, synced, put_alone, ok_sealed, go_same, node_is, node_put, synced_file}
use Rattle.pf_session.proofs.sealing.seal_nodes.Goals as goal

pub returns-in_err-put_nodes-clause-goes : goal.returns-in_err-put_nodes-clause-goes
returns-in_err-put_nodes-clause-goes g c =
    let p = err_from_is_err_and c.from_residual.result c.from_residual.ensures.1 in
    let s0 = g.H.Host.state c.args.host.now in
    let s1 = g.H.Host.state c.put_nodes.new.host in
    let tree = c.put_nodes.new.self in
    rw p.1 (stopped_more (writes_of c.args.name.now (held_at tree) c.args.tree.now.dirty c.args.keys.now) _ s0 s1
    (stopped_puts c.args.name.now (held_at tree) c.args.tree.now.dirty c.args.keys.now s0 s1 c.requires.one_each c.in_err-put_nodes.ensures.told c.in_err-put_nodes.ensures.cause.once c.put_nodes.ensures.counts))

pub returns-in_err-write_at-clause-goes : goal.returns-in_err-write_at-clause-goes
returns-in_err-write_at-clause-goes g c =
    let p = err_from_is_err_and c.from_residual-in_err-write_at.result c.from_residual-in_err-write_at.ensures.1 in
    let s0 = g.H.Host.state c.args.host.now in
    let s1 = g.H.Host.state c.put_nodes.new.host in
    let s2 = g.H.Host.state c.write_at.new.self in
    let tree = c.put_nodes.new.self in
    let puts = writes_of c.args.name.now (held_at tree) c.args.tree.now.dirty c.args.keys.now in
    let node = node_of c.args.key.now c.args.path.now c.args.nonce.now tree in
    let long : length c.make_node-node.result ≡ 4096 = search rules in
    let last : Answer = Wrote c.args.name.now 0 node in
    let first = asked_puts c.args.name.now (held_at tree) c.args.tree.now.dirty c.args.keys.now s0 s1 c.requires.one_each c.in_ok-put_nodes.ensures.told c.in_ok-put_nodes.ensures.cause.still c.put_nodes.ensures.counts c.in_ok-put_nodes.ensures.calls in
    rw p.1 (stopped_then puts (last ∷ Synced c.args.name.now ∷ []) s0 s1 s2 first
    (stopped_first last (Synced c.args.name.now ∷ []) s1 s2 (failed_write _ s1 s2 (omega (arith, long)) c.in_err-write_at.ensures.told c.in_err-write_at.ensures.cause.once c.write_at.ensures.counts)))

pub returns-in_err-write_at-clause-alone : goal.returns-in_err-write_at-clause-alone
returns-in_err-write_at-clause-alone g c =
    let name = c.args.name.now in
    let first = put_alone _ _ name c.args.tree.now.dirty _ _ c.put_nodes.ensures.disk in
    next_change name (KeepsOthers name) (KeepsOthers name) _ _ _ _ first c.in_err-write_at.ensures.disk (λ d e keeps. keeps) (λ e f change. change.others) (λ d e f q change keeps. keeps)

pub returns-clause-sealed : goal.returns-clause-sealed
returns-clause-sealed g c = ok_sealed c.sync.result (λ sheet next has. c.in_ok-put_nodes.ensures.sealed sheet next (seals_next sheet c.args.tree.now c.args.path.now c.args.nonce.now c.args.keys.now next has))

pub returns-clause-goes : goal.returns-clause-goes
returns-clause-goes g c =
    let s0 = g.H.Host.state c.args.host.now in
    let s1 = g.H.Host.state c.put_nodes.new.host in
    let s2 = g.H.Host.state c.write_at.new.self in
    let s3 = g.H.Host.state c.sync.new.self in
    let tree = c.put_nodes.new.self in
    let name = c.args.name.now in
    let puts = writes_of name (held_at tree) c.args.tree.now.dirty c.args.keys.now in
    let node = node_of c.args.key.now c.args.path.now c.args.nonce.now tree in
    let long : length c.make_node-node.result ≡ 4096 = search rules in
    let first = asked_puts name (held_at tree) c.args.tree.now.dirty c.args.keys.now s0 s1 c.requires.one_each c.in_ok-put_nodes.ensures.told c.in_ok-put_nodes.ensures.cause.still c.put_nodes.ensures.counts c.in_ok-put_nodes.ensures.calls in
    let second = same_asked _ _ NoCall s1 s2 (ap (λ (b : List ℕ). let a : Answer = Wrote name 0 b in a ∷ []) c.make_node-node.ensures.same)
    (asked_write name 0 _ c.make_node-node.result s1 s2 (omega (arith, long)) c.in_ok-write_at.ensures.told c.in_ok-write_at.ensures.cause.still c.write_at.ensures.counts) in
    go_same c.sync.result _ _ s0 s3 (append_assoc puts (Wrote name 0 node ∷ []) (Synced name ∷ []))
    (synced c.sync.result name (puts ++ Wrote name 0 node ∷ []) s0 s2 s3 (asked_then puts (Wrote name 0 node ∷ []) NoCall s0 s1 s2 first second) c.sync.ensures.told c.sync.ensures.cause c.sync.ensures.counts)

pub returns-clause-alone : goal.returns-clause-alone
returns-clause-alone g c =
    let name = c.args.name.now in
    let first = put_alone _ _ name c.args.tree.now.dirty _ _ c.put_nodes.ensures.disk in
    let second = next_change name (KeepsOthers name) (KeepsOthers name) _ _ _ _ first c.in_ok-write_at.ensures.disk (λ d e keeps. keeps) (λ e f change. change.others) (λ d e f q change keeps. keeps) in
    next_change name (KeepsOthers name) (KeepsOthers name) _ _ _ _ second c.sync.ensures.disk (λ d e keeps. keeps) (λ e f change. change.others) (λ d e f q change keeps. keeps)

pub returns-clause-seals : goal.returns-clause-seals
returns-clause-seals g c = λ sheet next has.
    let s0 = g.H.Host.state c.args.host.now in
    let s1 = g.H.Host.state c.put_nodes.new.host in
    let s2 = g.H.Host.state c.write_at.new.self in
    let s3 = g.H.Host.state c.sync.new.self in
    let tree = c.put_nodes.new.self in
    let name = c.args.name.now in
    let key = c.args.key.now in
    let dirty = c.args.tree.now.dirty in
    let long : length c.make_node-node.result ≡ 4096 = search rules in
    let of_tree = seals_next sheet c.args.tree.now c.args.path.now c.args.nonce.now c.args.keys.now next has in
    let is = c.make_node-node.ensures.same ∙ node_is key c.args.path.now c.args.nonce.now sheet c.args.tree.now c.args.keys.now next tree has.is_next (c.in_ok-put_nodes.ensures.sealed sheet next of_tree) in
    let second = node_put key next dirty name (Unit {0}) HostFault (Unit {0}) HostFault tt tt c.make_node-node.result s0.honest s1.honest s2.honest long is (c.in_ok-put_nodes.ensures.seals sheet next of_tree) c.in_ok-write_at.ensures.disk in
    synced_file key next dirty name c.sync.result s0.honest s2.honest s3.honest second c.sync.ensures.disk
