use Rattle.std.proofs.Common.{refl}
use Rattle.pf_session.specs.Moving.{as_it_is}
use Rattle.pf_session.proofs.Moved.{both_none, ends, calm_undamaged}
use Rattle.pf_session.proofs.session.Session.move_unchanged.Goals as goal

pub returns-in_err-nonce-clause-aside : goal.returns-in_err-nonce-clause-aside
returns-in_err-nonce-clause-aside g c = both_none c.args.self.now.name c.args.path.now (g.H.Host.state c.args.host.now)

pub returns-clause-ends : goal.returns-clause-ends
returns-clause-ends g c =
    let s = c.args.self.now in
    let s0 = g.H.Host.state c.args.host.now in
    let s1 = g.H.Host.state c.carry.new.host in
    ends c.carry.result c.args.path.now c.in_ok-nonce.nonce s s c.carry.new.self s0 s0 s1 (g.R.Words.state c.args.random.now) (g.R.Words.state c.draw_nonce.new.random) (as_it_is c.requires.calm refl refl c.in_ok-nonce.ensures.drawn)
    c.carry.ensures.goes c.carry.ensures.carries c.carry.ensures.state

pub returns-clause-undamaged : goal.returns-clause-undamaged
returns-clause-undamaged g c = calm_undamaged c.args.self.now (g.H.Host.state c.args.host.now) c.carry.result c.args.path.now c.requires.calm c.carry.ensures.undamaged
