use Rattle.std.proofs.Common.{◌≡◌, List, ℕ, ap, ◌∙◌, subst}
use Rattle.std.specs.Prelude.{cond}
use Rattle.pf_io.specs.Host.{Name}
use Rattle.node_tree.specs.Reading.{BackedRead as TreeBacked, ReadsStanding as TreeStanding}
use Rattle.pf_session.specs.State.{SessionState, file_of}
use Rattle.pf_session.specs.Inside.{state_of}
use Rattle.pf_session.specs.Reading.{BackedRead, ReadsStanding}
use Rattle.pf_session.proofs.OfTree.{backed_read, unforged_read, standing_read}
use Rattle.pf_session.proofs.session.Session.read.Goals as goal

pub returns-clause-backed : goal.returns-clause-backed
returns-clause-backed g c =
    let before = g.H.Host.state c.args.host.now in
    let after = g.H.Host.state c.read.new.host in
    let old : SessionState = state_of c.self.inside in
    let new : SessionState = record old { tree = c.read.new.self } in
    let named : c.file_name-name.result.now ≡ file_of old = c.file_name-name.ensures ∙ ap (λ (side : List ℕ). cond c.self.inside.beside side c.self.inside.name) c.self.invariant.side_is in
    subst (λ (s : SessionState). BackedRead c.read.result c.args.at c.read.new.to s new before after) c.self.view_is
    (backed_read c.read.result c.args.at c.read.new.to before after old c.read.new.self
    (subst (λ (n : Name). TreeBacked c.read.result n c.args.at c.read.new.to c.self.inside.tree c.read.new.self before after) named c.read.ensures.backed))

pub returns-clause-unforged : goal.returns-clause-unforged
returns-clause-unforged g c =
    let new : SessionState = record (state_of c.self.inside) { tree = c.read.new.self } in
    unforged_read c.read.result c.args.at c.read.new.to (g.H.Host.state c.args.host.now) (g.H.Host.state c.read.new.host) c.args.self.now new (returns-clause-backed g c)

pub returns-clause-standing : goal.returns-clause-standing
returns-clause-standing g c =
    let before = g.H.Host.state c.args.host.now in
    let after = g.H.Host.state c.read.new.host in
    let old : SessionState = state_of c.self.inside in
    let new : SessionState = record old { tree = c.read.new.self } in
    let named : c.file_name-name.result.now ≡ file_of old = c.file_name-name.ensures ∙ ap (λ (side : List ℕ). cond c.self.inside.beside side c.self.inside.name) c.self.invariant.side_is in
    subst (λ (s : SessionState). ReadsStanding c.read.result c.args.at c.read.new.to s new before) c.self.view_is
    (standing_read c.read.result c.args.at c.read.new.to before after old c.read.new.self c.self.invariant.key_length
    (subst (λ (n : Name). TreeStanding c.read.result n c.args.at c.read.new.to c.self.inside.tree c.read.new.self before) named c.read.ensures.standing))
