use Rattle.std.proofs.Common.{◌∷◌, ◌<◌, [], false, inl, refl, sym, ◌∙◌, subst, Option, Some, Result, Ok, Err}
use Rattle.pf_io.specs.declared.faults.Memory.{Memory}
use Rattle.pf_session.specs.State.{SessionState}
use Rattle.pf_script.specs.Desk.{IsSeatOf, IsLike}
use Rattle.pf_script.specs.DeskSteps.{SeatGoes}
use Rattle.pf_script.specs.Rules.{refuses}
use Rattle.pf_script.specs.SeatSteps.{LARGEST}
use Rattle.pf_script.specs.declared.line.ScriptLine.TheVariants as lines
use Rattle.pf_script.specs.declared.reply.Reply.{Reply}
use Rattle.pf_script.specs.declared.reply.Reply.TheVariants as replies
use Rattle.pf_script.specs.declared.reply.Why.TheVariants as whys
use Rattle.pf_script.proofs.Liking.{like_none, like_some}
use Rattle.pf_script.proofs.Refusing.{refused_goes, first_empty, first_broken, first_then, at_some}
use Rattle.pf_script.proofs.SizeLine.{size_goes, no_limit}
use Rattle.pf_script.specs.BookTurns.{SeatBooked}
use Rattle.pf_script.proofs.SizeUnder.{size_under}
use Rattle.pf_script.proofs.Under.{LooksLike, refused_agrees, some_booked}
use Rattle.pf_script.proofs.changing.set_size.Goals as goal

pub returns-in_default-clause-goes : goal.returns-in_default-clause-goes
returns-in_default-clause-goes g c key k seated =
    refused_goes key false (lines.Size k c.args.size) whys.SeatEmpty c.args.seat.now (g.H.Host.state c.args.host.now) (g.R.Words.state c.args.random.now)
    (λ seat like. first_empty (refuses whys.TooLarge (LARGEST < c.args.size) ∷ []) seat (like_none seat (subst (λ (o : Option SessionState). IsLike seat o) c.in_default.is like))) seated

pub returns-then-broken-clause-goes : goal.returns-then-broken-clause-goes
returns-then-broken-clause-goes g c key k =
    let s = c.in-Some.session in
    let before = g.H.Host.state c.args.host.now in
    let random = g.R.Words.state c.args.random.now in
    at_some key false (lines.Size k c.args.size) (Ok (replies.Refused whys.Broken)) c.args.seat.now s (Some s) before before random random c.in-Some.is
    (λ seated. refused_goes key false (lines.Size k c.args.size) whys.Broken (Some s) before random
    (λ seat like.
    let at = like_some seat s like in
    first_broken (refuses whys.TooLarge (LARGEST < c.args.size) ∷ []) seat at.own at.seat_is (at.like.broken_is ∙ sym c.broken.ensures ∙ c.if-broken.true)) seated)

pub returns-then-size-gt-LARGEST-clause-goes : goal.returns-then-size-gt-LARGEST-clause-goes
returns-then-size-gt-LARGEST-clause-goes g c key k =
    let s = c.in-Some.session in
    let before = g.H.Host.state c.args.host.now in
    let random = g.R.Words.state c.args.random.now in
    at_some key false (lines.Size k c.args.size) (Ok (replies.Refused whys.TooLarge)) c.args.seat.now s (Some s) before before random random c.in-Some.is
    (λ seated. refused_goes key false (lines.Size k c.args.size) whys.TooLarge (Some s) before random
    (λ seat like.
    let at = like_some seat s like in
    first_then (refuses whys.TooLarge (LARGEST < c.args.size) ∷ []) whys.TooLarge seat at.own at.seat_is (at.like.broken_is ∙ sym c.broken.ensures ∙ c.if-broken.false) (inl (refl, c.if-size-gt-LARGEST.true))) seated)

pub returns-in-Ok-clause-goes : goal.returns-in-Ok-clause-goes
returns-in-Ok-clause-goes g c key k =
    let s = c.in-Some.session in
    let before = g.H.Host.state c.args.host.now in
    let random = g.R.Words.state c.args.random.now in
    let after = g.H.Host.state c.resize.new.host in
    let random2 = g.R.Words.state c.resize.new.random in
    at_some key false (lines.Size k c.args.size) (Ok (replies.Sized c.args.size)) c.args.seat.now s (Some c.resize.new.session) before after random random2 c.in-Some.is
    (λ seated. size_goes key k c.args.size s c.resize.new.session (Ok tt) before after random random2 c.if-size-gt-LARGEST.false seated (sym c.broken.ensures ∙ c.if-broken.false) c.in-Ok.ensures)

pub size_fault-requires : goal.size_fault-requires
size_fault-requires g c =
    no_limit c.args.size c.in-Err.fault (Err c.in-Err.fault) c.in-Some.session c.resize.new.session (g.H.Host.state c.args.host.now) (g.H.Host.state c.resize.new.host) (g.R.Words.state c.args.random.now) (g.R.Words.state c.resize.new.random)
    c.if-size-gt-LARGEST.false refl c.in-Err.ensures

pub returns-in-Err-clause-goes : goal.returns-in-Err-clause-goes
returns-in-Err-clause-goes g c key k =
    let s = c.in-Some.session in
    let before = g.H.Host.state c.args.host.now in
    let random = g.R.Words.state c.args.random.now in
    let after = g.H.Host.state c.resize.new.host in
    let random2 = g.R.Words.state c.resize.new.random in
    at_some key false (lines.Size k c.args.size) c.size_fault.result c.args.seat.now s (Some c.resize.new.session) before after random random2 c.in-Some.is
    (λ seated. subst (λ (r : Result Reply Memory). SeatGoes key false (lines.Size k c.args.size) r (Some s) (Some c.resize.new.session) before after random random2) (sym c.size_fault.ensures)
    (size_goes key k c.args.size s c.resize.new.session (Err c.in-Err.fault) before after random random2 c.if-size-gt-LARGEST.false seated (sym c.broken.ensures ∙ c.if-broken.false) c.in-Err.ensures))

pub returns-in_default-clause-booked : goal.returns-in_default-clause-booked
returns-in_default-clause-booked g c key k seated =
    refused_agrees key false (lines.Size k c.args.size) whys.SeatEmpty c.args.seat.now (g.H.Host.state c.args.host.now) (g.R.Words.state c.args.random.now)
    (λ seat looks. first_empty (refuses whys.TooLarge (LARGEST < c.args.size) ∷ []) seat (subst (λ (o : Option SessionState). LooksLike o seat) c.in_default.is looks))

pub returns-then-broken-clause-booked : goal.returns-then-broken-clause-booked
returns-then-broken-clause-booked g c key k seated =
    let s = c.in-Some.session in
    let before = g.H.Host.state c.args.host.now in
    let random = g.R.Words.state c.args.random.now in
    some_booked key false (lines.Size k c.args.size) (Ok (replies.Refused whys.Broken)) c.args.seat.now s (Some s) before before random random c.in-Some.is
    (refused_agrees key false (lines.Size k c.args.size) whys.Broken (Some s) before random
    (λ seat looks. first_broken (refuses whys.TooLarge (LARGEST < c.args.size) ∷ []) seat looks.shown looks.seat_is (looks.broken_is ∙ sym c.broken.ensures ∙ c.if-broken.true)))

pub returns-then-size-gt-LARGEST-clause-booked : goal.returns-then-size-gt-LARGEST-clause-booked
returns-then-size-gt-LARGEST-clause-booked g c key k seated =
    let s = c.in-Some.session in
    let before = g.H.Host.state c.args.host.now in
    let random = g.R.Words.state c.args.random.now in
    some_booked key false (lines.Size k c.args.size) (Ok (replies.Refused whys.TooLarge)) c.args.seat.now s (Some s) before before random random c.in-Some.is
    (refused_agrees key false (lines.Size k c.args.size) whys.TooLarge (Some s) before random
    (λ seat looks.
    first_then (refuses whys.TooLarge (LARGEST < c.args.size) ∷ []) whys.TooLarge seat looks.shown looks.seat_is (looks.broken_is ∙ sym c.broken.ensures ∙ c.if-broken.false) (inl (refl, c.if-size-gt-LARGEST.true))))

pub returns-in-Ok-clause-booked : goal.returns-in-Ok-clause-booked
returns-in-Ok-clause-booked g c key k seated =
    let s = c.in-Some.session in
    let before = g.H.Host.state c.args.host.now in
    let random = g.R.Words.state c.args.random.now in
    let after = g.H.Host.state c.resize.new.host in
    let random2 = g.R.Words.state c.resize.new.random in
    some_booked key false (lines.Size k c.args.size) (Ok (replies.Sized c.args.size)) c.args.seat.now s (Some c.resize.new.session) before after random random2 c.in-Some.is
    (size_under key k c.args.size s c.resize.new.session (Ok tt) before after random random2 c.if-size-gt-LARGEST.false (subst (λ (o : Option SessionState). IsSeatOf key o) c.in-Some.is seated) (sym c.broken.ensures ∙ c.if-broken.false) c.in-Ok.ensures)

pub returns-in-Err-clause-booked : goal.returns-in-Err-clause-booked
returns-in-Err-clause-booked g c key k seated =
    let s = c.in-Some.session in
    let before = g.H.Host.state c.args.host.now in
    let random = g.R.Words.state c.args.random.now in
    let after = g.H.Host.state c.resize.new.host in
    let random2 = g.R.Words.state c.resize.new.random in
    some_booked key false (lines.Size k c.args.size) c.size_fault.result c.args.seat.now s (Some c.resize.new.session) before after random random2 c.in-Some.is
    (subst (λ (r : Result Reply Memory). SeatBooked key false (lines.Size k c.args.size) r (Some s) (Some c.resize.new.session) before after random random2) (sym c.size_fault.ensures)
    (size_under key k c.args.size s c.resize.new.session (Err c.in-Err.fault) before after random random2 c.if-size-gt-LARGEST.false (subst (λ (o : Option SessionState). IsSeatOf key o) c.in-Some.is seated) (sym c.broken.ensures ∙ c.if-broken.false) c.in-Err.ensures))
