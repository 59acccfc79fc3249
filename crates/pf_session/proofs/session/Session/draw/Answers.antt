use Rattle.std.proofs.Common.{◌≡◌, refl, sym, ◌∙◌, ap, Some, None}
use Rattle.std.proofs.lemmas.Result.{err_from_is_err_and}
use Rattle.pf_session.specs.State.{SessionState}
use Rattle.pf_session.specs.Drawing.{drawn_before, drawn_now, not_drawn}
use Rattle.pf_session.proofs.Words.{never_some}
use Rattle.pf_session.proofs.session.Session.draw.Goals as goal

pub returns-in-Some-clause-goes : goal.returns-in-Some-clause-goes
returns-in-Some-clause-goes g c = drawn_before c.in-Some.nonce (ap (λ (s : SessionState). s.drawn) (sym c.self.view_is) ∙ c.in-Some.is) refl refl refl

pub returns-in_err-nonce-clause-goes : goal.returns-in_err-nonce-clause-goes
returns-in_err-nonce-clause-goes g c =
    let p = err_from_is_err_and c.from_residual.result c.from_residual.ensures.1 in
    let none : c.args.self.now.drawn ≡ None = ap (λ (s : SessionState). s.drawn) (sym c.self.view_is) ∙ never_some c.self.inside.drawn c.in_default.not-Some in
    rw p.1 (not_drawn p.0 none c.in_err-nonce.ensures.failed refl refl)

pub returns-clause-goes : goal.returns-clause-goes
returns-clause-goes g c =
    let none : c.args.self.now.drawn ≡ None = ap (λ (s : SessionState). s.drawn) (sym c.self.view_is) ∙ never_some c.self.inside.drawn c.in_default.not-Some in
    drawn_now c.in_ok-nonce.nonce none c.in_ok-nonce.ensures.drawn (ap (λ (s : SessionState). record s { drawn = Some c.in_ok-nonce.nonce }) c.self.view_is) refl
