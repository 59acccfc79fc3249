use Rattle.std.proofs.Common.{◌≡◌, ℕ, List, [], length, ap, ◌∙◌, subst, Result, Ok, Err}
use Rattle.node_layout.specs.Places.{node_count}
use Rattle.pf_session.specs.State.{SessionState}
use Rattle.pf_session.specs.Copying.{clean_below}
use Rattle.pf_session.specs.Making.{ReplaceUndamaged}
use Rattle.pf_session.specs.Steps.{node_of}
use Rattle.pf_session.specs.declared.fault.FlushFault.{FlushFault}
use Rattle.pf_session.proofs.Carried.{carries}
use Rattle.pf_session.proofs.Moved.{at_rest}
use Rattle.pf_session.proofs.session.Session.carry.Goals as goal

pub returns-in-Err-clause-carries : goal.returns-in-Err-clause-carries
returns-in-Err-clause-carries g c =
    let s0 = g.H.Host.state c.args.host.now in
    let s1 = g.H.Host.state c.move_file.new.host in
    let s = c.args.self.now in
    let r : Result (Unit {0}) FlushFault = Err c.in-Err.fault in
    let first = subst (λ (x : SessionState). length x.tree.first ≡ 3072) c.self.view_is c.make_node-node.ensures.first in
    let key_length = subst (λ (x : SessionState). length x.key ≡ 16) c.self.view_is c.self.invariant.key_length in
    let from_is = c.as_str.ensures ∙ ap (λ (x : SessionState). x.name) c.self.view_is in
    let node_is = c.make_node-node.ensures.same ∙ ap (λ (x : SessionState). node_of x.key c.args.path.now c.args.nonce.now x.tree) c.self.view_is in
    let count_is = c.node_count-count.ensures ∙ ap node_count (c.size.ensures.same ∙ ap (λ (x : SessionState). x.tree.size) c.self.view_is) in
    carries r s c.args.path.now c.args.nonce.now s0 s1 first c.as_str-2.ensures.is_path c.told-nonce key_length c.as_str.result.now c.as_str-2.result.now c.make_node-node.result c.node_count-count.result from_is c.as_str-2.ensures.same node_is count_is
    c.in-Err.ensures.disk

pub returns-clause-carries : goal.returns-clause-carries
returns-clause-carries g c =
    let s0 = g.H.Host.state c.args.host.now in
    let s1 = g.H.Host.state c.move_file.new.host in
    let s = c.args.self.now in
    let r : Result (Unit {0}) FlushFault = Ok tt in
    let first = subst (λ (x : SessionState). length x.tree.first ≡ 3072) c.self.view_is c.make_node-node.ensures.first in
    let key_length = subst (λ (x : SessionState). length x.key ≡ 16) c.self.view_is c.self.invariant.key_length in
    let from_is = c.as_str.ensures ∙ ap (λ (x : SessionState). x.name) c.self.view_is in
    let node_is = c.make_node-node.ensures.same ∙ ap (λ (x : SessionState). node_of x.key c.args.path.now c.args.nonce.now x.tree) c.self.view_is in
    let count_is = c.node_count-count.ensures ∙ ap node_count (c.size.ensures.same ∙ ap (λ (x : SessionState). x.tree.size) c.self.view_is) in
    carries r s c.args.path.now c.args.nonce.now s0 s1 first c.as_str-2.ensures.is_path c.told-nonce key_length c.as_str.result.now c.as_str-2.result.now c.make_node-node.result c.node_count-count.result from_is c.as_str-2.ensures.same node_is count_is
    c.in_default.ensures.disk

pub returns-in-Err-clause-undamaged : goal.returns-in-Err-clause-undamaged
returns-in-Err-clause-undamaged g c =
    let s0 = g.H.Host.state c.args.host.now in
    let s = c.args.self.now in
    let r : Result (Unit {0}) FlushFault = Err c.in-Err.fault in
    let key_length = subst (λ (x : SessionState). length x.key ≡ 16) c.self.view_is c.self.invariant.key_length in
    let from_is = c.as_str.ensures ∙ ap (λ (x : SessionState). x.name) c.self.view_is in
    let count_is = c.node_count-count.ensures ∙ ap node_count (c.size.ensures.same ∙ ap (λ (x : SessionState). x.tree.size) c.self.view_is) in
    at_rest s s0 r key_length
    (subst (λ (n : ℕ). ReplaceUndamaged r s.name (clean_below [] n) s0) count_is (subst (λ (n : List ℕ). ReplaceUndamaged r n (clean_below [] c.node_count-count.result) s0) from_is c.in-Err.ensures.short))
