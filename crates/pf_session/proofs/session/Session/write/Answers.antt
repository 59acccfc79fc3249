use Rattle.std.proofs.Common.{◌≡◌, ℕ, ◌≤◌, [], length, ◌∙◌, ap, refl, subst, arith, Result, Ok, Err}
use Rattle.std.proofs.lemmas.List.{nil_from_length}
use Rattle.std.proofs.lemmas.Result.{err_from_is_err_and}
use Rattle.node_tree.specs.Applying.{Write}
use Rattle.node_tree.specs.declared.fault.TreeFault.{TreeFault}
use Rattle.pf_session.specs.State.{SessionState}
use Rattle.pf_session.specs.Faults.{write_of_flush, write_of_tree}
use Rattle.pf_session.specs.Changing.{WriteRefused, refused, unchanged}
use Rattle.pf_session.specs.declared.fault.FlushFault.{FlushFault}
use Rattle.pf_session.specs.declared.fault.WriteFault.{WriteFault}
use Rattle.pf_session.specs.declared.fault.Written.{Written}
use Rattle.pf_session.proofs.Created.{aside_none}
use Rattle.pf_session.proofs.Published.{beside_none}
use Rattle.pf_session.proofs.Rooms.{write_allowed, not_empty, not_changed, is_changed, aside_then, beside_then}
use Rattle.pf_session.proofs.session.Session.write.Goals as goal

-- a rule refuses the write

pub returns-in_err-check_write-clause-goes : goal.returns-in_err-check_write-clause-goes
returns-in_err-check_write-clause-goes g c =
    let size : c.size.result ≡ c.args.self.now.tree.size = c.size.ensures.same ∙ ap (λ (s : SessionState). s.tree.size) c.self.view_is in
    let fault : WriteFault = c.in_err-check_write.field-0.0 in
    let p = err_from_is_err_and c.from_residual.result c.from_residual.ensures.1 in
    refused fault (subst (λ (n : ℕ). WriteRefused c.args.at (length c.args.from.now) n fault) size c.in_err-check_write.ensures.refused) refl refl refl (p.1 ∙ ap (λ (f : WriteFault). let r : Result Written WriteFault = Err f in r) p.2)

pub returns-in_err-check_write-clause-aside : goal.returns-in_err-check_write-clause-aside
returns-in_err-check_write-clause-aside g c = aside_none c.args.self.now.name (g.H.Host.state c.args.host.now)

pub returns-in_err-check_write-clause-beside : goal.returns-in_err-check_write-clause-beside
returns-in_err-check_write-clause-beside g c beside = beside_none c.args.self.now.name (g.H.Host.state c.args.host.now)

-- nothing is written

pub returns-then-count-eq0-clause-goes : goal.returns-then-count-eq0-clause-goes
returns-then-count-eq0-clause-goes g c =
    let bytes = c.args.from.now in
    let size : c.size.result ≡ c.args.self.now.tree.size = c.size.ensures.same ∙ ap (λ (s : SessionState). s.tree.size) c.self.view_is in
    let within : c.args.at ≤ c.args.self.now.tree.size = subst (λ (n : ℕ). c.args.at ≤ n) size c.in_ok-check_write.ensures.within in
    unchanged (write_allowed c.args.at (length bytes) c.args.self.now.tree.size c.in_ok-check_write.ensures.few c.in_ok-check_write.ensures.small within) (nil_from_length bytes (omega arith)) refl refl refl refl

pub returns-then-count-eq0-clause-aside : goal.returns-then-count-eq0-clause-aside
returns-then-count-eq0-clause-aside g c = aside_none c.args.self.now.name (g.H.Host.state c.args.host.now)

pub returns-then-count-eq0-clause-beside : goal.returns-then-count-eq0-clause-beside
returns-then-count-eq0-clause-beside g c beside = beside_none c.args.self.now.name (g.H.Host.state c.args.host.now)

-- the flush before it failed

pub returns-in_err-flushed_before-clause-goes : goal.returns-in_err-flushed_before-clause-goes
returns-in_err-flushed_before-clause-goes g c =
    let at = c.args.at in
    let bytes = c.args.from.now in
    let old = c.args.self.now in
    let size : c.size.result ≡ old.tree.size = c.size.ensures.same ∙ ap (λ (s : SessionState). s.tree.size) c.self.view_is in
    let within : at ≤ old.tree.size = subst (λ (n : ℕ). at ≤ n) size c.in_ok-check_write.ensures.within in
    let fault : FlushFault = c.in_err-flushed_before.field-0.0 in
    let p = err_from_is_err_and c.from_residual-in_err-flushed_before.result c.from_residual-in_err-flushed_before.ensures.1 in
    let same = p.1 ∙ ap (λ (f : WriteFault). let r : Result Written WriteFault = Err f in r) p.2 in
    rw same (not_changed WriteFault (WriteRefused at (length bytes) old.tree.size) (bytes ≡ []) write_of_flush write_of_tree (Write at bytes) old (g.H.Host.state c.args.host.now) (g.R.Words.state c.args.random.now)
    (write_allowed at (length bytes) old.tree.size c.in_ok-check_write.ensures.few c.in_ok-check_write.ensures.small within) (not_empty bytes (omega arith))
    fault c.make_room.new.self (g.H.Host.state c.make_room.new.host) (g.R.Words.state c.make_room.new.random) (c.in_err-flushed_before.ensures.goes (Write at bytes) refl refl))

pub returns-in_err-flushed_before-clause-aside : goal.returns-in_err-flushed_before-clause-aside
returns-in_err-flushed_before-clause-aside g c = c.make_room.ensures.aside

pub returns-in_err-flushed_before-clause-beside : goal.returns-in_err-flushed_before-clause-beside
returns-in_err-flushed_before-clause-beside g c = c.make_room.ensures.beside

-- the step failed

pub returns-in_err-put-clause-goes : goal.returns-in_err-put-clause-goes
returns-in_err-put-clause-goes g c =
    let at = c.args.at in
    let bytes = c.args.from.now in
    let old = c.args.self.now in
    let size : c.size.result ≡ old.tree.size = c.size.ensures.same ∙ ap (λ (s : SessionState). s.tree.size) c.self.view_is in
    let within : at ≤ old.tree.size = subst (λ (n : ℕ). at ≤ n) size c.in_ok-check_write.ensures.within in
    let fault : TreeFault = c.in_err-put.field-0.0 in
    let p = err_from_is_err_and c.from_residual-in_err-put.result c.from_residual-in_err-put.ensures.1 in
    let same = p.1 ∙ ap (λ (f : WriteFault). let r : Result Written WriteFault = Err f in r) p.2 in
    rw same (is_changed WriteFault (WriteRefused at (length bytes) old.tree.size) (bytes ≡ []) write_of_flush write_of_tree (Write at bytes) old (g.H.Host.state c.args.host.now) (g.R.Words.state c.args.random.now)
    (write_allowed at (length bytes) old.tree.size c.in_ok-check_write.ensures.few c.in_ok-check_write.ensures.small within) (not_empty bytes (omega arith))
    c.in_ok-flushed_before.flushed_before c.make_room.new.self (g.H.Host.state c.make_room.new.host) (g.R.Words.state c.make_room.new.random) (Err fault) c.put.new.self (g.H.Host.state c.put.new.host)
    (c.in_ok-flushed_before.ensures.goes (Write at bytes) refl refl) c.in_err-put.ensures)

pub returns-in_err-put-clause-aside : goal.returns-in_err-put-clause-aside
returns-in_err-put-clause-aside g c = aside_then c.args.self.now.name (g.H.Host.state c.args.host.now) (g.H.Host.state c.make_room.new.host) (g.H.Host.state c.put.new.host) c.make_room.ensures.aside c.put.ensures.disk

pub returns-in_err-put-clause-beside : goal.returns-in_err-put-clause-beside
returns-in_err-put-clause-beside g c = beside_then c.args.self.now (g.H.Host.state c.args.host.now) (g.H.Host.state c.make_room.new.host) (g.H.Host.state c.put.new.host) c.make_room.ensures.beside c.put.ensures.disk

-- the content is changed

pub returns-clause-goes : goal.returns-clause-goes
returns-clause-goes g c =
    let at = c.args.at in
    let bytes = c.args.from.now in
    let old = c.args.self.now in
    let size : c.size.result ≡ old.tree.size = c.size.ensures.same ∙ ap (λ (s : SessionState). s.tree.size) c.self.view_is in
    let within : at ≤ old.tree.size = subst (λ (n : ℕ). at ≤ n) size c.in_ok-check_write.ensures.within in
    is_changed WriteFault (WriteRefused at (length bytes) old.tree.size) (bytes ≡ []) write_of_flush write_of_tree (Write at bytes) old (g.H.Host.state c.args.host.now) (g.R.Words.state c.args.random.now)
    (write_allowed at (length bytes) old.tree.size c.in_ok-check_write.ensures.few c.in_ok-check_write.ensures.small within) (not_empty bytes (omega arith))
    c.in_ok-flushed_before.flushed_before c.make_room.new.self (g.H.Host.state c.make_room.new.host) (g.R.Words.state c.make_room.new.random) (Ok tt) c.put.new.self (g.H.Host.state c.put.new.host)
    (c.in_ok-flushed_before.ensures.goes (Write at bytes) refl refl) c.in_ok-put.ensures

pub returns-clause-aside : goal.returns-clause-aside
returns-clause-aside g c = aside_then c.args.self.now.name (g.H.Host.state c.args.host.now) (g.H.Host.state c.make_room.new.host) (g.H.Host.state c.put.new.host) c.make_room.ensures.aside c.put.ensures.disk

pub returns-clause-beside : goal.returns-clause-beside
returns-clause-beside g c = beside_then c.args.self.now (g.H.Host.state c.args.host.now) (g.H.Host.state c.make_room.new.host) (g.H.Host.state c.put.new.host) c.make_room.ensures.beside c.put.ensures.disk
