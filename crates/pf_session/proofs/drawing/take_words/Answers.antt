use Rattle.std.proofs.lemmas.Result.{err_from_is_err_and}
use Rattle.pf_session.proofs.Words.{words_lacked, words_all}
use Rattle.pf_session.proofs.drawing.take_words.Goals as goal

pub returns-in_err-keys-clause-failed : goal.returns-in_err-keys-clause-failed
returns-in_err-keys-clause-failed g c =
    let p = err_from_is_err_and c.from_residual-in_err-keys.result c.from_residual-in_err-keys.ensures.1 in
    let r0 = g.R.Words.state c.args.random.now in
    let r1 = g.R.Words.state c.take_nonce.new.random in
    let r2 = g.R.Words.state c.take_keys.new.random in
    rw p.1 (words_lacked c.args.drawn.now c.args.count c.in_ok-nonce.nonce r0 r1 r2 c.in_ok-nonce.ensures.taken c.in_err-keys.ensures.failed)

pub returns-clause-taken : goal.returns-clause-taken
returns-clause-taken g c =
    let r0 = g.R.Words.state c.args.random.now in
    let r1 = g.R.Words.state c.take_nonce.new.random in
    let r2 = g.R.Words.state c.take_keys.new.random in
    words_all c.args.drawn.now c.args.count c.in_ok-nonce.nonce c.in_ok-keys.keys.items r0 r1 r2 c.in_ok-nonce.ensures.taken c.in_ok-keys.ensures.taken.0 c.in_ok-keys.ensures.taken.1
