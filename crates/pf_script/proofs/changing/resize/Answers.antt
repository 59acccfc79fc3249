use Rattle.std.proofs.Common.{refl, sym, ◌∙◌, subst, Result, Ok, Err, ◌+◌, ◌<◌}
use Rattle.std.proofs.lemmas.Result.{err_from_is_err_and}
use Rattle.pf_session.specs.declared.fault.SizeFault.{SizeFault}
use Rattle.pf_script.specs.SeatReplies.{SizesGo}
use Rattle.pf_script.proofs.SizeSet.{size_set, piece_then, piece_failed, last_failed, last_set}
use Rattle.pf_script.proofs.changing.resize.Goals as goal

pub loop-session-preserved : goal.loop-session-preserved
loop-session-preserved g c =
    let s = c.loop-session.session in
    let h = g.H.Host.state c.loop-session.host in
    let h2 = g.H.Host.state c.set_size.new.host in
    let r = g.R.Words.state c.loop-session.random in
    let r2 = g.R.Words.state c.set_size.new.random in
    let is = size_set c.in_ok-set_size.field-0 _ s c.set_size.new.self h h2 r r2 c.loop-session.invariant.0 c.in_ok-set_size.ensures.goes in (
      is.whole,
      λ result new after random rest.
          c.loop-session.invariant.1 result new after random
          (piece_then c.args.size c.size-next.result _ s c.set_size.new.self h h2 r r2 c.loop-session.invariant.0 c.in_ok-set_size.ensures.aside (g.met.H.Host.reads_as_image c.set_size.new.host) c.in_ok-set_size.field-0
          c.size-next.ensures.same refl (subst (λ k. k + 32768 < c.args.size) (c.size.ensures.same ∙ sym c.size-next.ensures.same) c.loop-session-test.true) c.in_ok-set_size.ensures.goes result new after random rest),
    )

pub returns-in_err-set_size : goal.returns-in_err-set_size
returns-in_err-set_size g c =
    let p = err_from_is_err_and c.from_residual.result c.from_residual.ensures.1 in
    let s = c.loop-session.session in
    let h = g.H.Host.state c.loop-session.host in
    let h2 = g.H.Host.state c.set_size.new.host in
    let r = g.R.Words.state c.loop-session.random in
    let r2 = g.R.Words.state c.set_size.new.random in
    c.loop-session.invariant.1 c.from_residual.result c.set_size.new.self h2 r2
    (subst (λ (x : Result (Unit {0}) SizeFault). SizesGo x c.args.size s c.set_size.new.self h h2 r r2) (sym p.1)
    (subst (λ (f : SizeFault). SizesGo (Err f) c.args.size s c.set_size.new.self h h2 r r2) (sym p.2)
    (piece_failed c.args.size c.size-next.result _ s c.set_size.new.self h h2 r r2 c.loop-session.invariant.0 c.in_err-set_size.ensures.aside (g.met.H.Host.reads_as_image c.set_size.new.host) _
    c.size-next.ensures.same refl (subst (λ k. k + 32768 < c.args.size) (c.size.ensures.same ∙ sym c.size-next.ensures.same) c.loop-session-test.true) c.in_err-set_size.ensures.goes)))

pub returns-in_err-set_size-2 : goal.returns-in_err-set_size-2
returns-in_err-set_size-2 g c =
    let p = err_from_is_err_and c.from_residual-in_err-set_size-2.result c.from_residual-in_err-set_size-2.ensures.1 in
    let s = c.loop-session.session in
    let h = g.H.Host.state c.loop-session.host in
    let h2 = g.H.Host.state c.set_size-2.new.host in
    let r = g.R.Words.state c.loop-session.random in
    let r2 = g.R.Words.state c.set_size-2.new.random in
    c.loop-session.invariant.1 c.from_residual-in_err-set_size-2.result c.set_size-2.new.self h2 r2
    (subst (λ (x : Result (Unit {0}) SizeFault). SizesGo x c.args.size s c.set_size-2.new.self h h2 r r2) (sym p.1)
    (subst (λ (f : SizeFault). SizesGo (Err f) c.args.size s c.set_size-2.new.self h h2 r r2) (sym p.2)
    (last_failed c.args.size c.size.result c.args.size s c.set_size-2.new.self h h2 r r2 c.loop-session.invariant.0 c.in_err-set_size-2.ensures.aside (g.met.H.Host.reads_as_image c.set_size-2.new.host) _
    c.size.ensures.same refl c.loop-session-test.false c.in_err-set_size-2.ensures.goes)))

pub returns : goal.returns
returns g c =
    let s = c.loop-session.session in
    let h = g.H.Host.state c.loop-session.host in
    let h2 = g.H.Host.state c.set_size-2.new.host in
    let r = g.R.Words.state c.loop-session.random in
    let r2 = g.R.Words.state c.set_size-2.new.random in
    c.loop-session.invariant.1 (Ok tt) c.set_size-2.new.self h2 r2
    (last_set c.args.size c.size.result c.args.size s c.set_size-2.new.self h h2 r r2 c.loop-session.invariant.0 c.in_ok-set_size-2.ensures.aside (g.met.H.Host.reads_as_image c.set_size-2.new.host) c.in_ok-set_size-2.field-0
    c.size.ensures.same refl c.loop-session-test.false c.in_ok-set_size-2.ensures.goes)
