use Rattle.std.proofs.Common.{◌∙◌, ap, refl, subst, arith, Bool, Result, Ok, Err}
use Rattle.std.proofs.lemmas.Result.{err_from_is_err_and}
use Rattle.node_tree.specs.Marks.{IsChangedCount}
use Rattle.pf_session.specs.State.{SessionState}
use Rattle.pf_session.specs.Changing.{was_flushed, no_room}
use Rattle.pf_session.specs.declared.fault.FlushFault.{FlushFault}
use Rattle.pf_session.proofs.Changed.{flushed_first}
use Rattle.pf_session.proofs.Created.{aside_none}
use Rattle.pf_session.proofs.Published.{beside_none, kept_by_flush, flush_size}
use Rattle.pf_session.proofs.session.Session.make_room.Goals as goal

pub returns-in_err-flush-clause-goes : goal.returns-in_err-flush-clause-goes
returns-in_err-flush-clause-goes g c step from_is to_is =
    let p = err_from_is_err_and c.from_residual.result c.from_residual.ensures.1 in
    let fault : FlushFault = c.in_err-flush.field-0.0 in
    let same = p.1 ∙ ap (λ (f : FlushFault). let r : Result Bool FlushFault = Err f in r) p.2 in
    let count = subst (λ (s : SessionState). IsChangedCount s.tree.dirty c.args.at c.args.end c.changed_count.result) c.self.view_is c.changed_count.ensures.count in
    rw same (no_room fault (flushed_first step c.args.self.now.tree c.args.at c.args.end from_is to_is c.changed_count.result count (omega arith)) c.in_err-flush.ensures.goes c.in_err-flush.ensures.undamaged refl)

pub returns-clause-goes : goal.returns-clause-goes
returns-clause-goes g c step from_is to_is =
    let count = subst (λ (s : SessionState). IsChangedCount s.tree.dirty c.args.at c.args.end c.changed_count.result) c.self.view_is c.changed_count.ensures.count in
    was_flushed (flushed_first step c.args.self.now.tree c.args.at c.args.end from_is to_is c.changed_count.result count (omega arith)) c.in_ok-flush.ensures.goes refl

pub returns-in_err-flush-clause-aside : goal.returns-in_err-flush-clause-aside
returns-in_err-flush-clause-aside g c = c.flush.ensures.aside

pub returns-in_err-flush-clause-beside : goal.returns-in_err-flush-clause-beside
returns-in_err-flush-clause-beside g c beside =
    kept_by_flush (Err c.in_err-flush.field-0.0) c.args.self.now c.flush.new.self (g.H.Host.state c.args.host.now) (g.H.Host.state c.flush.new.host) (g.R.Words.state c.args.random.now) (g.R.Words.state c.flush.new.random) beside c.in_err-flush.ensures.goes

pub returns-clause-aside : goal.returns-clause-aside
returns-clause-aside g c = c.flush.ensures.aside

pub returns-clause-beside : goal.returns-clause-beside
returns-clause-beside g c beside =
    kept_by_flush (Ok tt) c.args.self.now c.flush.new.self (g.H.Host.state c.args.host.now) (g.H.Host.state c.flush.new.host) (g.R.Words.state c.args.random.now) (g.R.Words.state c.flush.new.random) beside c.in_ok-flush.ensures.goes

pub returns-clause-size : goal.returns-clause-size
returns-clause-size g c =
    flush_size c.args.self.now c.flush.new.self (g.H.Host.state c.args.host.now) (g.H.Host.state c.flush.new.host) (g.R.Words.state c.args.random.now) (g.R.Words.state c.flush.new.random) c.in_ok-flush.ensures.goes

pub returns-then-changed_count-le-MOST_DIRTY-clause-aside : goal.returns-then-changed_count-le-MOST_DIRTY-clause-aside
returns-then-changed_count-le-MOST_DIRTY-clause-aside g c = aside_none c.args.self.now.name (g.H.Host.state c.args.host.now)

pub returns-then-changed_count-le-MOST_DIRTY-clause-beside : goal.returns-then-changed_count-le-MOST_DIRTY-clause-beside
returns-then-changed_count-le-MOST_DIRTY-clause-beside g c beside = beside_none c.args.self.now.name (g.H.Host.state c.args.host.now)
