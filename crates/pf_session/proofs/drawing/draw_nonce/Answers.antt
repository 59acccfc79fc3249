use Rattle.std.proofs.Common.{◌≡◌, ◌∷◌, [], length, ℕ, rules, List, subst, sym, refl, length-append, arith}
use Rattle.std.proofs.lemmas.Result.{err_from_is_err_and}
use Rattle.pf_session.specs.Drawing.{IsDrawn}
use Rattle.pf_session.proofs.Words.{took_word, took_then, took_fewer, halves}
use Rattle.pf_session.proofs.drawing.draw_nonce.Goals as goal

pub returns-in_err-second-clause-failed : goal.returns-in_err-second-clause-failed
returns-in_err-second-clause-failed g c =
    let p = err_from_is_err_and c.from_residual-in_err-second.result c.from_residual-in_err-second.ensures.1 in
    let r0 = g.R.Words.state c.args.random.now in
    let r1 = g.R.Words.state c.next16.new.self in
    let r2 = g.R.Words.state c.next16-2.new.self in
    rw p.1 (took_fewer (c.in_ok-first.first ∷ []) 2 r0 r1 r2 (omega arith) (took_word c.in_ok-first.first r0 r1 c.in_ok-first.ensures.left c.in_ok-first.ensures.cause.still)
    c.in_err-second.ensures.left c.in_err-second.ensures.cause.once)

pub returns-clause-drawn : goal.returns-clause-drawn
returns-clause-drawn g c =
    let one : length c.in_ok-first.first ≡ 16 = search rules in
    let two : length c.in_ok-second.second ≡ 16 = search rules in
    let r0 = g.R.Words.state c.args.random.now in
    let r1 = g.R.Words.state c.next16.new.self in
    let r2 = g.R.Words.state c.next16-2.new.self in
    rw (c.copy_from_slice.ensures.after, c.copy_from_slice-2.ensures.after)
    (subst (λ (nonce : List ℕ). IsDrawn nonce r0 r2) (sym (halves c.in_ok-first.first c.in_ok-second.second _ one two refl)) (record {
      first = c.in_ok-first.first;
      second = c.in_ok-second.second;
      is = refl;
      long = omega (arith, one, two, length-append c.in_ok-first.first c.in_ok-second.second);
      took = took_then (c.in_ok-first.first ∷ []) (c.in_ok-second.second ∷ []) r0 r1 r2 (took_word c.in_ok-first.first r0 r1 c.in_ok-first.ensures.left c.in_ok-first.ensures.cause.still)
          (took_word c.in_ok-second.second r1 r2 c.in_ok-second.ensures.left c.in_ok-second.ensures.cause.still);
    }))
