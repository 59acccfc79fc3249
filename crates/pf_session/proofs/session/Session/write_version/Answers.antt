use Rattle.std.proofs.Common.{◌≡◌, ◌∙◌, subst, Ok, Err}
use Rattle.std.proofs.lemmas.Result.{err_from_is_err_and}
use Rattle.pf_io.specs.Disk.{Name}
use Rattle.pf_io.specs.Host.{Both}
use Rattle.pf_io.specs.Moments.{Ends}
use Rattle.pf_io.specs.Names.{side_of}
use Rattle.pf_session.specs.State.{SessionState}
use Rattle.pf_session.specs.Aside.{Aside}
use Rattle.pf_session.specs.Asking.{NoCall, Asked, Stopped}
use Rattle.pf_session.specs.Flushing.{UndamagedFlush}
use Rattle.pf_session.specs.Inside.{state_of}
use Rattle.pf_session.specs.Making.{ReplaceUndamaged}
use Rattle.pf_session.specs.Sealing.{ChangesAlone, SealsFile}
use Rattle.pf_session.specs.Steps.{seal_steps, clean_nodes}
use Rattle.pf_session.specs.Versions.{VersionGoes, SealsOns}
use Rattle.pf_session.proofs.Replace.{alone_aside}
use Rattle.pf_session.proofs.Versions.{beside_stopped, beside_done, named_goes, renamed, seals_beside, seals_named, seals_failed, undamaged_by}
use Rattle.pf_session.proofs.session.Session.write_version.Goals as goal

pub returns-in_err-seal_nodes-clause-goes : goal.returns-in_err-seal_nodes-clause-goes
returns-in_err-seal_nodes-clause-goes g c =
    let p = err_from_is_err_and c.from_residual.result c.from_residual.ensures.1 in
    let s = state_of c.self.inside in
    let s0 = g.H.Host.state c.args.host.now in
    let s1 = g.H.Host.state c.seal_nodes.new.host in
    let mid = c.seal_nodes.new.tree in
    let side_is : c.as_str.result.now ≡ side_of s.name = c.as_str.ensures ∙ c.self.invariant.side_is in
    let stopped = subst (λ (n : Name). Stopped (seal_steps s.key s.path c.args.nonce.now n s.tree.dirty c.args.keys.now mid) s0 s1) side_is c.in_err-seal_nodes.ensures.goes in
    let alone = subst (λ (n : Name). ChangesAlone n s0 s1) side_is c.seal_nodes.ensures.alone in
    rw p.1 (subst (λ (x : SessionState). VersionGoes (Err p.0) c.args.nonce.now c.args.keys.now x mid s0 s1) c.self.view_is (beside_stopped s c.args.nonce.now c.args.keys.now mid s0 s1 p.0 p.2 c.if-self.true stopped alone))

pub returns-in_err-seal_nodes-clause-aside : goal.returns-in_err-seal_nodes-clause-aside
returns-in_err-seal_nodes-clause-aside g c =
    let s0 = g.H.Host.state c.args.host.now in
    let s1 = g.H.Host.state c.seal_nodes.new.host in
    subst (λ (x : SessionState). Aside x.name s0 s1) c.self.view_is (alone_aside c.self.inside.name c.as_str.result.now s0.honest s1.honest (c.as_str.ensures ∙ c.self.invariant.side_is) c.seal_nodes.ensures.alone)

pub returns-then-self-clause-goes : goal.returns-then-self-clause-goes
returns-then-self-clause-goes g c =
    let s = state_of c.self.inside in
    let s0 = g.H.Host.state c.args.host.now in
    let s1 = g.H.Host.state c.seal_nodes.new.host in
    let mid = c.seal_nodes.new.tree in
    let side_is : c.as_str.result.now ≡ side_of s.name = c.as_str.ensures ∙ c.self.invariant.side_is in
    let asked = subst (λ (n : Name). Asked (seal_steps s.key s.path c.args.nonce.now n s.tree.dirty c.args.keys.now mid) NoCall s0 s1) side_is c.in_ok-seal_nodes.ensures.goes in
    subst (λ (x : SessionState). VersionGoes (Ok tt) c.args.nonce.now c.args.keys.now x mid s0 s1) c.self.view_is (beside_done s c.args.nonce.now c.args.keys.now mid s0 s1 c.if-self.true c.seal_nodes.ensures.shape c.in_ok-seal_nodes.ensures.sealed asked)

pub returns-then-self-clause-seals : goal.returns-then-self-clause-seals
returns-then-self-clause-seals g c =
    let s = state_of c.self.inside in
    let s0 = g.H.Host.state c.args.host.now in
    let s1 = g.H.Host.state c.seal_nodes.new.host in
    let mid = c.seal_nodes.new.tree in
    let side_is : c.as_str.result.now ≡ side_of s.name = c.as_str.ensures ∙ c.self.invariant.side_is in
    subst (λ (x : SessionState). SealsOns (Ok tt) c.args.nonce.now c.args.keys.now x s0 s1) c.self.view_is
    (λ sheet next has.
    seals_beside s c.args.nonce.now c.args.keys.now mid sheet next s0 s1 c.if-self.true c.self.invariant.key_length has (c.in_ok-seal_nodes.ensures.sealed sheet next has) c.seal_nodes.ensures.shape
    (subst (λ (n : Name). Both s0.honest s1.honest (Ends (SealsFile s.key next s.tree.dirty n))) side_is (c.in_ok-seal_nodes.ensures.seals sheet next has)))

pub returns-then-self-clause-aside : goal.returns-then-self-clause-aside
returns-then-self-clause-aside g c =
    let s0 = g.H.Host.state c.args.host.now in
    let s1 = g.H.Host.state c.seal_nodes.new.host in
    subst (λ (x : SessionState). Aside x.name s0 s1) c.self.view_is (alone_aside c.self.inside.name c.as_str.result.now s0.honest s1.honest (c.as_str.ensures ∙ c.self.invariant.side_is) c.seal_nodes.ensures.alone)

pub returns-clause-goes : goal.returns-clause-goes
returns-clause-goes g c =
    let s = state_of c.self.inside in
    let s0 = g.H.Host.state c.args.host.now in
    let s1 = g.H.Host.state c.replace.new.host in
    let tree = c.replace.new.tree in
    subst (λ (x : SessionState). VersionGoes c.replace.result c.args.nonce.now c.args.keys.now x tree s0 s1) c.self.view_is
    (named_goes s c.args.nonce.now c.args.keys.now tree s0 s1 c.replace.result c.if-self.false c.replace.ensures.shape c.replace.ensures.sealed
    (renamed c.replace.result s.key s.path c.args.nonce.now c.as_str-2.result.now s.name c.as_str-3.result.now (side_of s.name) (clean_nodes s) s.tree.dirty c.args.keys.now tree s0 s1 c.as_str-2.ensures (c.as_str-3.ensures ∙ c.self.invariant.side_is) c.replace.ensures.goes))

pub returns-clause-undamaged : goal.returns-clause-undamaged
returns-clause-undamaged g c =
    let s = state_of c.self.inside in
    let s0 = g.H.Host.state c.args.host.now in
    subst (λ (x : SessionState). UndamagedFlush c.replace.result x s0) c.self.view_is
    (undamaged_by c.replace.result s s0 c.if-self.false c.self.invariant.key_length
    (subst (λ (n : Name). ReplaceUndamaged c.replace.result n (clean_nodes s) s0) c.as_str-2.ensures c.replace.ensures.short))

pub returns-in_err-seal_nodes-clause-seals : goal.returns-in_err-seal_nodes-clause-seals
returns-in_err-seal_nodes-clause-seals g c =
    let p = err_from_is_err_and c.from_residual.result c.from_residual.ensures.1 in
    let s0 = g.H.Host.state c.args.host.now in
    let s1 = g.H.Host.state c.seal_nodes.new.host in
    rw p.1 (subst (λ (x : SessionState). SealsOns (Err p.0) c.args.nonce.now c.args.keys.now x s0 s1) c.self.view_is (seals_failed p.0 (state_of c.self.inside) c.args.nonce.now c.args.keys.now s0 s1 c.if-self.true))

pub returns-clause-seals : goal.returns-clause-seals
returns-clause-seals g c =
    let s0 = g.H.Host.state c.args.host.now in
    let s1 = g.H.Host.state c.replace.new.host in
    subst (λ (x : SessionState). SealsOns c.replace.result c.args.nonce.now c.args.keys.now x s0 s1) c.self.view_is
    (seals_named c.replace.result (state_of c.self.inside) c.args.nonce.now c.args.keys.now c.as_str-2.result.now s0 s1 c.if-self.false c.as_str-2.ensures c.replace.ensures.replaces c.replace.ensures.stands)
