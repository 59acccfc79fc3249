use Rattle.std.proofs.Common.{◌∷◌, ◌<◌, [], false, inl, refl, sym, ◌∙◌, subst, Option, Some, Ok}
use Rattle.pf_session.specs.State.{SessionState}
use Rattle.pf_script.specs.Desk.{IsSeatOf, IsLike}
use Rattle.pf_script.specs.Rules.{refuses}
use Rattle.pf_script.specs.SeatSteps.{PIECE}
use Rattle.pf_script.specs.declared.line.ScriptLine.TheVariants as lines
use Rattle.pf_script.specs.declared.reply.Reply.TheVariants as replies
use Rattle.pf_script.specs.declared.reply.Why.TheVariants as whys
use Rattle.pf_script.proofs.Liking.{like_none, like_some}
use Rattle.pf_script.proofs.Refusing.{refused_goes, first_empty, first_broken, first_then, at_some}
use Rattle.pf_script.proofs.Under.{LooksLike, refused_agrees, some_booked}
use Rattle.pf_script.proofs.looking.read_bytes.Goals as goal

pub returns-in_default-clause-goes : goal.returns-in_default-clause-goes
returns-in_default-clause-goes g c key k words seated =
    refused_goes key false (lines.Read k c.args.at c.args.count) whys.SeatEmpty c.args.seat.now (g.H.Host.state c.args.host.now) words
    (λ seat like. first_empty (refuses whys.TooLong (PIECE < c.args.count) ∷ []) seat (like_none seat (subst (λ (o : Option SessionState). IsLike seat o) c.in_default.is like))) seated

pub returns-then-broken-clause-goes : goal.returns-then-broken-clause-goes
returns-then-broken-clause-goes g c key k words =
    let s = c.in-Some.session in
    let before = g.H.Host.state c.args.host.now in
    at_some key false (lines.Read k c.args.at c.args.count) (Ok (replies.Refused whys.Broken)) c.args.seat.now s (Some s) before before words words c.in-Some.is
    (λ seated. refused_goes key false (lines.Read k c.args.at c.args.count) whys.Broken (Some s) before words
    (λ seat like.
    let on = like_some seat s like in
    first_broken (refuses whys.TooLong (PIECE < c.args.count) ∷ []) seat on.own on.seat_is (on.like.broken_is ∙ sym c.broken.ensures ∙ c.if-broken.true)) seated)

pub returns-then-count-gt-LONGEST-clause-goes : goal.returns-then-count-gt-LONGEST-clause-goes
returns-then-count-gt-LONGEST-clause-goes g c key k words =
    let s = c.in-Some.session in
    let before = g.H.Host.state c.args.host.now in
    at_some key false (lines.Read k c.args.at c.args.count) (Ok (replies.Refused whys.TooLong)) c.args.seat.now s (Some s) before before words words c.in-Some.is
    (λ seated. refused_goes key false (lines.Read k c.args.at c.args.count) whys.TooLong (Some s) before words
    (λ seat like.
    let on = like_some seat s like in
    first_then (refuses whys.TooLong (PIECE < c.args.count) ∷ []) whys.TooLong seat on.own on.seat_is (on.like.broken_is ∙ sym c.broken.ensures ∙ c.if-broken.false) (inl (refl, c.if-count-gt-LONGEST.true))) seated)

pub returns-clause-goes : goal.returns-clause-goes
returns-clause-goes g c key k words =
    let s = c.in-Some.session in
    at_some key false (lines.Read k c.args.at c.args.count) c.read_content.result c.args.seat.now s (Some c.read_content.new.session) (g.H.Host.state c.args.host.now) (g.H.Host.state c.read_content.new.host) words words c.in-Some.is
    (λ seated. c.read_content.ensures.goes key k words seated)

pub returns-in_default-clause-booked : goal.returns-in_default-clause-booked
returns-in_default-clause-booked g c key k words seated =
    refused_agrees key false (lines.Read k c.args.at c.args.count) whys.SeatEmpty c.args.seat.now (g.H.Host.state c.args.host.now) words
    (λ seat looks. first_empty (refuses whys.TooLong (PIECE < c.args.count) ∷ []) seat (subst (λ (o : Option SessionState). LooksLike o seat) c.in_default.is looks))

pub returns-then-broken-clause-booked : goal.returns-then-broken-clause-booked
returns-then-broken-clause-booked g c key k words seated =
    let s = c.in-Some.session in
    let before = g.H.Host.state c.args.host.now in
    some_booked key false (lines.Read k c.args.at c.args.count) (Ok (replies.Refused whys.Broken)) c.args.seat.now s (Some s) before before words words c.in-Some.is
    (refused_agrees key false (lines.Read k c.args.at c.args.count) whys.Broken (Some s) before words
    (λ seat looks. first_broken (refuses whys.TooLong (PIECE < c.args.count) ∷ []) seat looks.shown looks.seat_is (looks.broken_is ∙ sym c.broken.ensures ∙ c.if-broken.true)))

pub returns-then-count-gt-LONGEST-clause-booked : goal.returns-then-count-gt-LONGEST-clause-booked
returns-then-count-gt-LONGEST-clause-booked g c key k words seated =
    let s = c.in-Some.session in
    let before = g.H.Host.state c.args.host.now in
    some_booked key false (lines.Read k c.args.at c.args.count) (Ok (replies.Refused whys.TooLong)) c.args.seat.now s (Some s) before before words words c.in-Some.is
    (refused_agrees key false (lines.Read k c.args.at c.args.count) whys.TooLong (Some s) before words
    (λ seat looks.
    first_then (refuses whys.TooLong (PIECE < c.args.count) ∷ []) whys.TooLong seat looks.shown looks.seat_is (looks.broken_is ∙ sym c.broken.ensures ∙ c.if-broken.false) (inl (refl, c.if-count-gt-LONGEST.true))))

pub returns-clause-booked : goal.returns-clause-booked
returns-clause-booked g c key k words seated =
    let s = c.in-Some.session in
    some_booked key false (lines.Read k c.args.at c.args.count) c.read_content.result c.args.seat.now s (Some c.read_content.new.session) (g.H.Host.state c.args.host.now) (g.H.Host.state c.read_content.new.host) words words c.in-Some.is
    (c.read_content.ensures.booked key k words (subst (λ (o : Option SessionState). IsSeatOf key o) c.in-Some.is seated))
