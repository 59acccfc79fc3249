use Rattle.std.proofs.Common.{◌≡◌, ◌∙◌, ap, sym, subst, List, ℕ, Ok, false, true, None}
use Rattle.node_layout.specs.Metadata.{IsPath}
use Rattle.node_tree.specs.State.{TreeState}
use Rattle.pf_session.specs.State.{SessionState}
use Rattle.pf_session.specs.Flushing.{SealedAll}
use Rattle.pf_session.specs.Versions.{VersionGoes}
use Rattle.pf_session.proofs.Sealings.{seal_fails, seal_done}
use Rattle.pf_session.proofs.session.Session.seal.Goals as goal

pub returns-in-Err-clause-goes : goal.returns-in-Err-clause-goes
returns-in-Err-clause-goes g c =
    let s = c.args.self.now in
    let t = c.write_version.new.self in
    let path_is = subst (λ (p : List ℕ). IsPath p) (ap (λ (x : SessionState). x.path) (c.self.view_is ∙ c.write_version.ensures.rest)) c.self.invariant.path_is in
    seal_fails s c.args.nonce.now c.args.keys.now (g.H.Host.state c.args.host.now) (g.H.Host.state c.write_version.new.host) path_is c.told-nonce c.requires.sound c.requires.keys c.in-Err.fault t _ c.write_version.ensures.rest
    (ap (λ (x : SessionState). let y : SessionState = record x { broken = true } in y) c.self.view_is) c.write_version.ensures.shape c.in-Err.ensures.kept c.in-Err.ensures.goes c.write_version.ensures.beside c.in-Err.ensures.seals

pub returns-clause-goes : goal.returns-clause-goes
returns-clause-goes g c =
    let s = c.args.self.now in
    let t = c.write_version.new.self in
    let s0 = g.H.Host.state c.args.host.now in
    let s1 = g.H.Host.state c.write_version.new.host in
    let nonce = c.args.nonce.now in
    let keys = c.args.keys.now in
    let tree = c.settle.new.self in
    let path_is = subst (λ (p : List ℕ). IsPath p) (ap (λ (x : SessionState). x.path) (c.self.view_is ∙ c.write_version.ensures.rest)) c.self.invariant.path_is in
    let same : t.tree ≡ c.self.inside.tree = sym (ap (λ (x : SessionState). x.tree) c.self.view_is) in
    seal_done s nonce keys s0 s1 path_is c.told-nonce c.requires.sound c.requires.keys t _ c.self.inside.tree tree c.write_version.ensures.rest same
    (ap (λ (x : SessionState). let y : SessionState = record x { nonce = nonce; drawn = None; tree = tree; changed = false } in y) c.self.view_is)
    (subst (λ (x : TreeState). VersionGoes (Ok tt) nonce keys s x s0 s1) same c.in_default.ensures.goes) c.write_version.ensures.beside
    (subst (λ (x : TreeState). SealedAll nonce keys s x) same c.in_default.ensures.sealed) c.in_default.ensures.seals c.settle.ensures.settled c.settle.ensures.backed
