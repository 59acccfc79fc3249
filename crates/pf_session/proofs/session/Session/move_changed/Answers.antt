use Rattle.std.proofs.Common.{◌≡◌, ℕ, List, length, refl, ap, sym, ◌∙◌, subst, Result, Err}
use Rattle.std.proofs.lemmas.Result.{err_from_is_err_and}
use Rattle.pf_session.specs.State.{SessionState}
use Rattle.pf_session.specs.Drawing.{WordsCame, WordsLacked}
use Rattle.pf_session.specs.Moving.{lacked_words, flushed}
use Rattle.pf_session.specs.Aside.{AsideBoth}
use Rattle.pf_session.specs.declared.fault.FlushFault.{FlushFault}
use Rattle.pf_session.proofs.Moved.{both_none, both_aside, both_on, lacks_first, lacks_last, ends, not_flushed_ends, is_sealed, unflushed_undamaged, flushed_undamaged}
use Rattle.pf_session.proofs.session.Session.move_changed.Goals as goal

pub returns-in_err-sealed-clause-ends : goal.returns-in_err-sealed-clause-ends
returns-in_err-sealed-clause-ends g c =
    let p = err_from_is_err_and c.from_residual.result c.from_residual.ensures.1 in
    let s = c.args.self.now in
    let to = c.args.path.now in
    let s0 = g.H.Host.state c.args.host.now in
    let r0 = g.R.Words.state c.args.random.now in
    let r1 = g.R.Words.state c.take_words.new.random in
    let count : c.len.result ≡ length s.tree.dirty = c.len.ensures.value ∙ ap (λ (l : List ℕ). length l) c.dirty_numbers-dirty.ensures.same ∙ ap (λ (x : SessionState). length x.tree.dirty) c.self.view_is in
    let same = p.1 ∙ ap (λ (f : FlushFault). let r : Result (Unit {0}) FlushFault = Err f in r) p.2 in
    let lacked = subst (λ (n : ℕ). WordsLacked s.drawn n r0 r1) count (subst (λ (x : SessionState). WordsLacked x.drawn c.len.result r0 r1) c.self.view_is c.in_err-sealed.ensures.failed) in
    rw same (lacked_words (lacks_first s r0 r1 r1 c.requires.changed lacked) refl refl refl)

pub returns-in_err-sealed-clause-aside : goal.returns-in_err-sealed-clause-aside
returns-in_err-sealed-clause-aside g c =
    both_none c.args.self.now.name c.args.path.now (g.H.Host.state c.args.host.now)

pub returns-in_err-own-clause-ends : goal.returns-in_err-own-clause-ends
returns-in_err-own-clause-ends g c =
    let p = err_from_is_err_and c.from_residual-in_err-own.result c.from_residual-in_err-own.ensures.1 in
    let s = c.args.self.now in
    let to = c.args.path.now in
    let s0 = g.H.Host.state c.args.host.now in
    let r0 = g.R.Words.state c.args.random.now in
    let r1 = g.R.Words.state c.take_words.new.random in
    let count : c.len.result ≡ length s.tree.dirty = c.len.ensures.value ∙ ap (λ (l : List ℕ). length l) c.dirty_numbers-dirty.ensures.same ∙ ap (λ (x : SessionState). length x.tree.dirty) c.self.view_is in
    let r2 = g.R.Words.state c.draw_nonce.new.random in
    let sealed = c.in_ok-sealed.sealed in
    let items = c.in_ok-sealed.keys.items in
    let came = subst (λ (n : ℕ). WordsCame s.drawn n sealed items r0 r1) count (subst (λ (x : SessionState). WordsCame x.drawn c.len.result sealed items r0 r1) c.self.view_is c.in_ok-sealed.ensures.taken) in
    let same = p.1 ∙ ap (λ (f : FlushFault). let r : Result (Unit {0}) FlushFault = Err f in r) p.2 in
    rw same (lacked_words (lacks_last s r0 r1 r2 c.requires.changed sealed items came c.in_err-own.ensures.failed) refl refl refl)

pub returns-in_err-own-clause-aside : goal.returns-in_err-own-clause-aside
returns-in_err-own-clause-aside g c =
    both_none c.args.self.now.name c.args.path.now (g.H.Host.state c.args.host.now)

pub returns-in_err-seal-clause-ends : goal.returns-in_err-seal-clause-ends
returns-in_err-seal-clause-ends g c =
    let p = err_from_is_err_and c.from_residual-in_err-seal.result c.from_residual-in_err-seal.ensures.1 in
    let s = c.args.self.now in
    let to = c.args.path.now in
    let s0 = g.H.Host.state c.args.host.now in
    let r0 = g.R.Words.state c.args.random.now in
    let r1 = g.R.Words.state c.take_words.new.random in
    let count : c.len.result ≡ length s.tree.dirty = c.len.ensures.value ∙ ap (λ (l : List ℕ). length l) c.dirty_numbers-dirty.ensures.same ∙ ap (λ (x : SessionState). length x.tree.dirty) c.self.view_is in
    let r2 = g.R.Words.state c.draw_nonce.new.random in
    let sealed = c.in_ok-sealed.sealed in
    let items = c.in_ok-sealed.keys.items in
    let came = subst (λ (n : ℕ). WordsCame s.drawn n sealed items r0 r1) count (subst (λ (x : SessionState). WordsCame x.drawn c.len.result sealed items r0 r1) c.self.view_is c.in_ok-sealed.ensures.taken) in
    let s1 = g.H.Host.state c.seal.new.host in
    let nonce = c.in_ok-own.own in
    let came_keys = subst (λ (k : List (List ℕ)). WordsCame s.drawn (length s.tree.dirty) sealed k r0 r1) (sym c.deref-2.ensures.0) came in
    let keys = c.deref-2.result.now in
    let same = p.1 ∙ ap (λ (f : FlushFault). let r : Result (Unit {0}) FlushFault = Err f in r) p.2 in
    rw same (not_flushed_ends c.in_err-seal.field-0.0 to sealed keys nonce s c.seal.new.self s0 s1 r0 r1 r2 c.requires.changed came_keys c.in_ok-own.ensures.drawn c.in_err-seal.ensures.goes c.seal.ensures.aside)

pub returns-in_err-seal-clause-aside : goal.returns-in_err-seal-clause-aside
returns-in_err-seal-clause-aside g c =
    both_aside c.args.self.now.name c.args.path.now (g.H.Host.state c.args.host.now) (g.H.Host.state c.seal.new.host) c.seal.ensures.aside

pub returns-in_err-seal-clause-undamaged : goal.returns-in_err-seal-clause-undamaged
returns-in_err-seal-clause-undamaged g c =
    let p = err_from_is_err_and c.from_residual-in_err-seal.result c.from_residual-in_err-seal.ensures.1 in
    let same = p.1 ∙ ap (λ (f : FlushFault). let r : Result (Unit {0}) FlushFault = Err f in r) p.2 in
    let r : Result (Unit {0}) FlushFault = Err c.in_err-seal.field-0.0 in
    rw same (unflushed_undamaged c.args.self.now (g.H.Host.state c.args.host.now) r c.args.path.now c.requires.named c.in_err-seal.ensures.undamaged)

pub returns-clause-ends : goal.returns-clause-ends
returns-clause-ends g c =
    let s = c.args.self.now in
    let to = c.args.path.now in
    let s0 = g.H.Host.state c.args.host.now in
    let r0 = g.R.Words.state c.args.random.now in
    let r1 = g.R.Words.state c.take_words.new.random in
    let count : c.len.result ≡ length s.tree.dirty = c.len.ensures.value ∙ ap (λ (l : List ℕ). length l) c.dirty_numbers-dirty.ensures.same ∙ ap (λ (x : SessionState). length x.tree.dirty) c.self.view_is in
    let r2 = g.R.Words.state c.draw_nonce.new.random in
    let sealed = c.in_ok-sealed.sealed in
    let items = c.in_ok-sealed.keys.items in
    let came = subst (λ (n : ℕ). WordsCame s.drawn n sealed items r0 r1) count (subst (λ (x : SessionState). WordsCame x.drawn c.len.result sealed items r0 r1) c.self.view_is c.in_ok-sealed.ensures.taken) in
    let s1 = g.H.Host.state c.seal.new.host in
    let nonce = c.in_ok-own.own in
    let came_keys = subst (λ (k : List (List ℕ)). WordsCame s.drawn (length s.tree.dirty) sealed k r0 r1) (sym c.deref-2.ensures.0) came in
    let keys = c.deref-2.result.now in
    let s2 = g.H.Host.state c.carry.new.host in
    let mid = c.seal.new.self in
    ends c.carry.result to nonce s mid c.carry.new.self s0 s1 s2 r0 r2 (flushed sealed keys r1 c.requires.changed came_keys c.in_ok-own.ensures.drawn c.in_ok-seal.ensures.goes c.seal.ensures.aside (g.met.H.Host.reads_as_image c.seal.new.host))
    c.carry.ensures.goes c.carry.ensures.carries c.carry.ensures.state

pub returns-clause-aside : goal.returns-clause-aside
returns-clause-aside g c =
    let s = c.args.self.now in
    let to = c.args.path.now in
    let s0 = g.H.Host.state c.args.host.now in
    let s1 = g.H.Host.state c.seal.new.host in
    let s2 = g.H.Host.state c.carry.new.host in
    let mid = c.seal.new.self in
    let done = is_sealed s mid c.in_ok-sealed.sealed c.deref-2.result.now s0 s1 c.in_ok-seal.ensures.goes in
    both_on s.name to s0 s1 s2 (both_aside s.name to s0 s1 c.seal.ensures.aside) (subst (λ (n : List ℕ). AsideBoth n to s1 s2) done.name_is c.carry.ensures.carries.aside)

pub returns-clause-undamaged : goal.returns-clause-undamaged
returns-clause-undamaged g c =
    let s = c.args.self.now in
    let to = c.args.path.now in
    let s0 = g.H.Host.state c.args.host.now in
    let s1 = g.H.Host.state c.seal.new.host in
    let s2 = g.H.Host.state c.carry.new.host in
    let mid = c.seal.new.self in
    let done = is_sealed s mid c.in_ok-sealed.sealed c.deref-2.result.now s0 s1 c.in_ok-seal.ensures.goes in
    flushed_undamaged s mid c.in_ok-sealed.sealed c.deref-2.result.now s0 s1 c.requires.named done c.carry.result to c.carry.ensures.undamaged
