use Rattle.std.proofs.Common.{ap, ◌∙◌}
use Rattle.node_tree.specs.State.{TreeState}
use Rattle.pf_session.specs.State.{SessionState}
use Rattle.pf_session.specs.Steps.{node_of}
use Rattle.pf_session.proofs.session.Session.seal_empty.Goals as goal

pub returns-clause-node : goal.returns-clause-node
returns-clause-node c =
    let s = c.args.self.now in
    let nonce = c.args.nonce in
    c.make_node.ensures.same ∙ ap (λ (x : SessionState). node_of x.key x.path nonce x.tree) c.self.view_is ∙ ap (λ (t : TreeState). node_of s.key s.path nonce t) c.requires

pub returns-clause-state : goal.returns-clause-state
returns-clause-state c = ap (λ (x : SessionState). let y : SessionState = record x { nonce = c.args.nonce } in y) c.self.view_is
