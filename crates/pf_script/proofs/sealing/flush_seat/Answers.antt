use Rattle.std.proofs.Common.{[], false, sym, ◌∙◌, subst, Option, Some, Ok, Err}
use Rattle.pf_session.specs.State.{SessionState}
use Rattle.pf_script.specs.Desk.{IsSeatOf, IsLike}
use Rattle.pf_script.specs.DeskSteps.{SeatGoes}
use Rattle.pf_script.specs.declared.line.ScriptLine.TheVariants as lines
use Rattle.pf_script.specs.declared.reply.Reply.{Reply}
use Rattle.pf_script.specs.declared.reply.Reply.TheVariants as replies
use Rattle.pf_script.specs.declared.reply.Why.TheVariants as whys
use Rattle.pf_script.proofs.Liking.{like_none, like_some}
use Rattle.pf_script.proofs.Refusing.{refused_goes, first_empty, first_broken, at_some}
use Rattle.pf_script.specs.BookTurns.{SeatAgrees}
use Rattle.pf_script.proofs.FlushLine.{flush_goes}
use Rattle.pf_script.proofs.FlushUnder.{flush_under}
use Rattle.pf_script.proofs.Under.{LooksLike, refused_agrees, some_booked}
use Rattle.pf_script.proofs.sealing.flush_seat.Goals as goal

pub returns-in_default-clause-goes : goal.returns-in_default-clause-goes
returns-in_default-clause-goes g c key k seated =
    refused_goes key false (lines.Flush k) whys.SeatEmpty c.args.seat.now (g.H.Host.state c.args.host.now) (g.R.Words.state c.args.random.now)
    (λ seat like. first_empty [] seat (like_none seat (subst (λ (o : Option SessionState). IsLike seat o) c.in_default.is like))) seated

pub returns-then-broken-clause-goes : goal.returns-then-broken-clause-goes
returns-then-broken-clause-goes g c key k =
    let s = c.in-Some.session in
    let before = g.H.Host.state c.args.host.now in
    let random = g.R.Words.state c.args.random.now in
    at_some key false (lines.Flush k) (Ok (replies.Refused whys.Broken)) c.args.seat.now s (Some s) before before random random c.in-Some.is
    (λ seated. refused_goes key false (lines.Flush k) whys.Broken (Some s) before random
    (λ seat like. let on = like_some seat s like in first_broken [] seat on.own on.seat_is (on.like.broken_is ∙ sym c.broken.ensures ∙ c.if-broken.true)) seated)

pub returns-in-Ok-clause-goes : goal.returns-in-Ok-clause-goes
returns-in-Ok-clause-goes g c key k =
    let s = c.in-Some.session in
    let before = g.H.Host.state c.args.host.now in
    let random = g.R.Words.state c.args.random.now in
    let after = g.H.Host.state c.flush.new.host in
    let random2 = g.R.Words.state c.flush.new.random in
    at_some key false (lines.Flush k) (Ok replies.Flushed) c.args.seat.now s (Some c.flush.new.self) before after random random2 c.in-Some.is
    (λ seated. flush_goes key k s c.flush.new.self (Ok tt) before after random random2 seated (sym c.broken.ensures ∙ c.if-broken.false) c.in-Ok.ensures.goes c.in-Ok.ensures.aside (g.met.H.Host.reads_as_image c.flush.new.host))

pub returns-in-Err-clause-goes : goal.returns-in-Err-clause-goes
returns-in-Err-clause-goes g c key k =
    let s = c.in-Some.session in
    let before = g.H.Host.state c.args.host.now in
    let random = g.R.Words.state c.args.random.now in
    let after = g.H.Host.state c.flush.new.host in
    let random2 = g.R.Words.state c.flush.new.random in
    at_some key false (lines.Flush k) (Ok c.flush_fault.result) c.args.seat.now s (Some c.flush.new.self) before after random random2 c.in-Some.is
    (λ seated. subst (λ (r : Reply). SeatGoes key false (lines.Flush k) (Ok r) (Some s) (Some c.flush.new.self) before after random random2) (sym c.flush_fault.ensures)
    (flush_goes key k s c.flush.new.self (Err c.in-Err.fault) before after random random2 seated (sym c.broken.ensures ∙ c.if-broken.false) c.in-Err.ensures.goes c.in-Err.ensures.aside (g.met.H.Host.reads_as_image c.flush.new.host)))

pub returns-in_default-clause-booked : goal.returns-in_default-clause-booked
returns-in_default-clause-booked g c key k seated =
    refused_agrees key false (lines.Flush k) whys.SeatEmpty c.args.seat.now (g.H.Host.state c.args.host.now) (g.R.Words.state c.args.random.now)
    (λ seat looks. first_empty [] seat (subst (λ (o : Option SessionState). LooksLike o seat) c.in_default.is looks))

pub returns-then-broken-clause-booked : goal.returns-then-broken-clause-booked
returns-then-broken-clause-booked g c key k seated =
    let s = c.in-Some.session in
    let before = g.H.Host.state c.args.host.now in
    let random = g.R.Words.state c.args.random.now in
    some_booked key false (lines.Flush k) (Ok (replies.Refused whys.Broken)) c.args.seat.now s (Some s) before before random random c.in-Some.is
    (refused_agrees key false (lines.Flush k) whys.Broken (Some s) before random (λ seat looks. first_broken [] seat looks.shown looks.seat_is (looks.broken_is ∙ sym c.broken.ensures ∙ c.if-broken.true)))

pub returns-in-Ok-clause-booked : goal.returns-in-Ok-clause-booked
returns-in-Ok-clause-booked g c key k seated =
    let s = c.in-Some.session in
    let before = g.H.Host.state c.args.host.now in
    let random = g.R.Words.state c.args.random.now in
    let after = g.H.Host.state c.flush.new.host in
    let random2 = g.R.Words.state c.flush.new.random in
    some_booked key false (lines.Flush k) (Ok replies.Flushed) c.args.seat.now s (Some c.flush.new.self) before after random random2 c.in-Some.is
    (flush_under key k s c.flush.new.self (Ok tt) before after random random2 (subst (λ (o : Option SessionState). IsSeatOf key o) c.in-Some.is seated) (sym c.broken.ensures ∙ c.if-broken.false) c.in-Ok.ensures.goes c.in-Ok.ensures.undamaged c.in-Ok.ensures.aside (g.met.H.Host.reads_as_image c.flush.new.host))

pub returns-in-Err-clause-booked : goal.returns-in-Err-clause-booked
returns-in-Err-clause-booked g c key k seated =
    let s = c.in-Some.session in
    let before = g.H.Host.state c.args.host.now in
    let random = g.R.Words.state c.args.random.now in
    let after = g.H.Host.state c.flush.new.host in
    let random2 = g.R.Words.state c.flush.new.random in
    some_booked key false (lines.Flush k) (Ok c.flush_fault.result) c.args.seat.now s (Some c.flush.new.self) before after random random2 c.in-Some.is
    (subst (λ (r : Reply). SeatAgrees key false (lines.Flush k) r (Some s) (Some c.flush.new.self) before after random random2) (sym c.flush_fault.ensures)
    (flush_under key k s c.flush.new.self (Err c.in-Err.fault) before after random random2 (subst (λ (o : Option SessionState). IsSeatOf key o) c.in-Some.is seated) (sym c.broken.ensures ∙ c.if-broken.false) c.in-Err.ensures.goes c.in-Err.ensures.undamaged c.in-Err.ensures.aside (g.met.H.Host.reads_as_image c.flush.new.host)))
