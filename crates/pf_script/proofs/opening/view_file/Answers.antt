use Rattle.std.proofs.Common.{inl, inr, false, refl, sym, ◌∙◌, subst, Option}
use Rattle.pf_session.specs.State.{SessionState}
use Rattle.pf_script.specs.Desk.{IsLike}
use Rattle.pf_script.specs.declared.line.ScriptLine.TheVariants as lines
use Rattle.pf_script.specs.declared.reply.Why.TheVariants as whys
use Rattle.pf_script.proofs.Liking.{like_none}
use Rattle.pf_script.proofs.OnEmpty.{some_there, none_there, looks_busy, like_busy}
use Rattle.pf_script.proofs.Refusing.{refused_goes}
use Rattle.pf_script.proofs.Under.{LooksLike, refused_agrees}
use Rattle.pf_script.proofs.opening.view_file.Goals as goal

pub returns-then-is_some-clause-goes : goal.returns-then-is_some-clause-goes
returns-then-is_some-clause-goes c key k path host words seated =
    refused_goes key false (lines.View k path) whys.SeatBusy c.args.seat.now host words
    (λ seat like. inl (refl, like_busy c.args.seat.now (some_there c.args.seat.now (sym c.is_some.ensures ∙ c.if-is_some.true)) seat like)) seated

pub returns-then-is_some-clause-booked : goal.returns-then-is_some-clause-booked
returns-then-is_some-clause-booked c key k path host words seated =
    refused_agrees key false (lines.View k path) whys.SeatBusy c.args.seat.now host words
    (λ seat looks. inl (refl, looks_busy c.args.seat.now (some_there c.args.seat.now (sym c.is_some.ensures ∙ c.if-is_some.true)) seat looks))

pub returns-clause-goes : goal.returns-clause-goes
returns-clause-goes c key k path host words seated =
    let none = none_there c.args.seat.now (sym c.is_some.ensures ∙ c.if-is_some.false) in
    refused_goes key false (lines.View k path) whys.NoManifest c.args.seat.now host words
    (λ seat like. inr ((λ why refuses. refuses.1 (like_none seat (subst (λ (o : Option SessionState). IsLike seat o) none like))), inl (refl, tt))) seated

pub returns-clause-booked : goal.returns-clause-booked
returns-clause-booked c key k path host words seated =
    let none = none_there c.args.seat.now (sym c.is_some.ensures ∙ c.if-is_some.false) in
    refused_agrees key false (lines.View k path) whys.NoManifest c.args.seat.now host words
    (λ seat looks. inr ((λ why refuses. refuses.1 (subst (λ (o : Option SessionState). LooksLike o seat) none looks)), inl (refl, tt)))
