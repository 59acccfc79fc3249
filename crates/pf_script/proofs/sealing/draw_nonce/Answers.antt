use Rattle.std.proofs.Common.{[], false, sym, ◌∙◌, subst, Option, Some, Ok, Err}
use Rattle.pf_session.specs.State.{SessionState}
use Rattle.pf_script.specs.Desk.{IsSeatOf, IsLike}
use Rattle.pf_script.specs.declared.line.ScriptLine.TheVariants as lines
use Rattle.pf_script.specs.declared.reply.Reply.TheVariants as replies
use Rattle.pf_script.specs.declared.reply.Why.TheVariants as whys
use Rattle.pf_script.proofs.Liking.{like_none, like_some}
use Rattle.pf_script.proofs.Refusing.{refused_goes, first_empty, first_broken, at_some}
use Rattle.pf_script.proofs.DrawLine.{draw_goes}
use Rattle.pf_script.proofs.DrawUnder.{draw_under}
use Rattle.pf_script.proofs.Under.{LooksLike, refused_agrees, some_booked}
use Rattle.pf_script.proofs.sealing.draw_nonce.Goals as goal

pub returns-in_default-clause-goes : goal.returns-in_default-clause-goes
returns-in_default-clause-goes g c key k host seated =
    refused_goes key false (lines.Draw k) whys.SeatEmpty c.args.seat.now host (g.R.Words.state c.args.random.now)
    (λ seat like. first_empty [] seat (like_none seat (subst (λ (o : Option SessionState). IsLike seat o) c.in_default.is like))) seated

pub returns-then-broken-clause-goes : goal.returns-then-broken-clause-goes
returns-then-broken-clause-goes g c key k host =
    let s = c.in-Some.session in
    let random = g.R.Words.state c.args.random.now in
    at_some key false (lines.Draw k) (Ok (replies.Refused whys.Broken)) c.args.seat.now s (Some s) host host random random c.in-Some.is
    (λ seated. refused_goes key false (lines.Draw k) whys.Broken (Some s) host random
    (λ seat like. let on = like_some seat s like in first_broken [] seat on.own on.seat_is (on.like.broken_is ∙ sym c.broken.ensures ∙ c.if-broken.true)) seated)

pub returns-in-Ok-clause-goes : goal.returns-in-Ok-clause-goes
returns-in-Ok-clause-goes g c key k host =
    let s = c.in-Some.session in
    let random = g.R.Words.state c.args.random.now in
    at_some key false (lines.Draw k) (Ok (replies.Drawn c.in-Ok.nonce)) c.args.seat.now s (Some c.draw.new.self) host host random (g.R.Words.state c.draw.new.random) c.in-Some.is
    (λ seated. draw_goes key k s c.draw.new.self (Ok c.in-Ok.nonce) host random (g.R.Words.state c.draw.new.random) seated (sym c.broken.ensures ∙ c.if-broken.false) c.in-Ok.ensures.goes)

pub returns-in-Err-clause-goes : goal.returns-in-Err-clause-goes
returns-in-Err-clause-goes g c key k host =
    let s = c.in-Some.session in
    let random = g.R.Words.state c.args.random.now in
    at_some key false (lines.Draw k) (Ok replies.WordsFault) c.args.seat.now s (Some c.draw.new.self) host host random (g.R.Words.state c.draw.new.random) c.in-Some.is
    (λ seated. draw_goes key k s c.draw.new.self (Err _) host random (g.R.Words.state c.draw.new.random) seated (sym c.broken.ensures ∙ c.if-broken.false) c.in-Err.ensures.goes)

pub returns-in_default-clause-booked : goal.returns-in_default-clause-booked
returns-in_default-clause-booked g c key k host seated =
    refused_agrees key false (lines.Draw k) whys.SeatEmpty c.args.seat.now host (g.R.Words.state c.args.random.now)
    (λ seat looks. first_empty [] seat (subst (λ (o : Option SessionState). LooksLike o seat) c.in_default.is looks))

pub returns-then-broken-clause-booked : goal.returns-then-broken-clause-booked
returns-then-broken-clause-booked g c key k host seated =
    let s = c.in-Some.session in
    let random = g.R.Words.state c.args.random.now in
    some_booked key false (lines.Draw k) (Ok (replies.Refused whys.Broken)) c.args.seat.now s (Some s) host host random random c.in-Some.is
    (refused_agrees key false (lines.Draw k) whys.Broken (Some s) host random (λ seat looks. first_broken [] seat looks.shown looks.seat_is (looks.broken_is ∙ sym c.broken.ensures ∙ c.if-broken.true)))

pub returns-in-Ok-clause-booked : goal.returns-in-Ok-clause-booked
returns-in-Ok-clause-booked g c key k host seated =
    let s = c.in-Some.session in
    let random = g.R.Words.state c.args.random.now in
    some_booked key false (lines.Draw k) (Ok (replies.Drawn c.in-Ok.nonce)) c.args.seat.now s (Some c.draw.new.self) host host random (g.R.Words.state c.draw.new.random) c.in-Some.is
    (draw_under key k s c.draw.new.self (Ok c.in-Ok.nonce) host random (g.R.Words.state c.draw.new.random) (subst (λ (o : Option SessionState). IsSeatOf key o) c.in-Some.is seated) (sym c.broken.ensures ∙ c.if-broken.false) c.in-Ok.ensures.goes)

pub returns-in-Err-clause-booked : goal.returns-in-Err-clause-booked
returns-in-Err-clause-booked g c key k host seated =
    let s = c.in-Some.session in
    let random = g.R.Words.state c.args.random.now in
    some_booked key false (lines.Draw k) (Ok replies.WordsFault) c.args.seat.now s (Some c.draw.new.self) host host random (g.R.Words.state c.draw.new.random) c.in-Some.is
    (draw_under key k s c.draw.new.self (Err _) host random (g.R.Words.state c.draw.new.random) (subst (λ (o : Option SessionState). IsSeatOf key o) c.in-Some.is seated) (sym c.broken.ensures ∙ c.if-broken.false) c.in-Err.ensures.goes)
