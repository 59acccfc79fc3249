use Rattle.std.proofs.Common.{◌≡◌, ◌∙◌, ap, sym, subst, rules, ℕ, List, length}
use Rattle.pf_session.specs.State.{SessionState}
use Rattle.pf_session.specs.Drawing.{WordsCame}
use Rattle.pf_session.specs.Flushing.{had_words}
use Rattle.pf_session.proofs.session.Session.flush.Goals as goal

pub returns-clause-goes : goal.returns-clause-goes
returns-clause-goes g c =
    let s = c.args.self.now in
    let r0 = g.R.Words.state c.args.random.now in
    let r1 = g.R.Words.state c.take_words.new.random in
    let nonce = c.in_ok-nonce.nonce in
    let items = c.in_ok-nonce.keys.items in
    let count : c.len.result ≡ length s.tree.dirty = c.len.ensures.value ∙ ap (λ (l : List ℕ). length l) c.dirty_numbers-dirty.ensures.same ∙ ap (λ (x : SessionState). length x.tree.dirty) c.self.view_is in
    let came = subst (λ (n : ℕ). WordsCame s.drawn n nonce items r0 r1) count (subst (λ (x : SessionState). WordsCame x.drawn c.len.result nonce items r0 r1) c.self.view_is c.in_ok-nonce.ensures.taken) in
    had_words nonce c.deref-2.result.now (subst (λ (k : List (List ℕ)). WordsCame s.drawn (length s.tree.dirty) nonce k r0 r1) (sym c.deref-2.ensures.0) came) (search rules)

pub returns-clause-cause : goal.returns-clause-cause
returns-clause-cause g c = c.seal.ensures.cause

pub returns-clause-aside : goal.returns-clause-aside
returns-clause-aside g c = c.seal.ensures.aside

pub returns-clause-undamaged : goal.returns-clause-undamaged
returns-clause-undamaged g c = c.seal.ensures.undamaged
