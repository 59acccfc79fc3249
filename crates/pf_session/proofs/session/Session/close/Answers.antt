use Rattle.std.proofs.Common.{◌≡◌, inl, inr, true, false, refl, rules, Result, Ok}
use Rattle.pf_session.specs.Ending.{let_go, flushed_last}
use Rattle.pf_session.specs.declared.fault.FlushFault.{FlushFault}
use Rattle.pf_io.proofs.Unchanged.{kept_none}
use Rattle.pf_session.proofs.Keeping.{kept_aside}
use Rattle.pf_session.proofs.Published.{not_damaged, kept_by_flush, beside_none}
use Rattle.pf_session.proofs.session.Session.close.Goals as goal
use Rattle.pf_session.proofs.session.Session.close.Goals.{else-self-via-then-self+else-not-self, else-self-via-else-self}

pub returns-clause-goes : goal.returns-clause-goes
returns-clause-goes g c =
    let_go (elim c.else-self.branch [
      | else-self-via-then-self+else-not-self w ↦ let is : c.args.self.broken ≡ true = search rules in inr is
      | else-self-via-else-self w ↦ let is : c.args.self.changed ≡ false = search rules in inl is
    ]) refl refl refl

pub returns-then-not-self-clause-goes : goal.returns-then-not-self-clause-goes
returns-then-not-self-clause-goes g c = flushed_last c.flush.new.self (search rules) (search rules) c.flush.ensures.goes

pub returns-then-not-self-clause-beside : goal.returns-then-not-self-clause-beside
returns-then-not-self-clause-beside g c beside =
    kept_by_flush c.flush.result c.args.self c.flush.new.self (g.H.Host.state c.args.host.now) (g.H.Host.state c.flush.new.host) (g.R.Words.state c.args.random.now) (g.R.Words.state c.flush.new.random) beside c.flush.ensures.goes

pub returns-clause-aside : goal.returns-clause-aside
returns-clause-aside g c = kept_aside c.args.self.name (g.H.Host.state c.args.host.now) (g.H.Host.state c.args.host.now) (kept_none (g.H.Host.state c.args.host.now))

pub returns-clause-beside : goal.returns-clause-beside
returns-clause-beside g c beside = beside_none c.args.self.name (g.H.Host.state c.args.host.now)

pub returns-clause-undamaged : goal.returns-clause-undamaged
returns-clause-undamaged g c = let done : Result (Unit {0}) FlushFault = Ok tt in not_damaged done c.args.self (g.H.Host.state c.args.host.now) (tt {0})
