use Rattle.std.proofs.Common.{◌≡◌, false, inl, refl, sym, ◌∙◌, subst, Bool, Option, Some, None, Ok, Err}
use Rattle.pf_session.specs.State.{SessionState}
use Rattle.pf_script.specs.Desk.{IsSeatOf, IsLike}
use Rattle.pf_script.specs.DeskSteps.{SeatGoes}
use Rattle.pf_script.specs.declared.line.ScriptLine.TheVariants as lines
use Rattle.pf_script.specs.declared.reply.Reply.{Reply}
use Rattle.pf_script.specs.declared.reply.Reply.TheVariants as replies
use Rattle.pf_script.specs.declared.reply.Why.TheVariants as whys
use Rattle.pf_script.proofs.Liking.{like_none}
use Rattle.pf_script.proofs.Refusing.{refused_goes, at_some}
use Rattle.pf_script.specs.BookTurns.{SeatBooked}
use Rattle.pf_script.proofs.CloseLine.{close_goes}
use Rattle.pf_script.proofs.CloseUnder.{close_under}
use Rattle.pf_script.proofs.Under.{LooksLike, refused_agrees, some_booked}
use Rattle.pf_script.proofs.sealing.close_seat.Goals as goal

pub returns-in_default-clause-goes : goal.returns-in_default-clause-goes
returns-in_default-clause-goes g c key k seated =
    let before = g.H.Host.state c.args.host.now in
    let random = g.R.Words.state c.args.random.now in
    let is : c.args.seat.now ≡ None = sym c.take.ensures.value ∙ c.in_default.is in
    subst (λ (o : Option SessionState). SeatGoes key false (lines.Close k) (Ok (replies.Refused whys.SeatEmpty)) c.args.seat.now o before before random random) (is ∙ sym c.take.ensures.after)
    (refused_goes key false (lines.Close k) whys.SeatEmpty c.args.seat.now before random
    (λ seat like. inl (refl, like_none seat (subst (λ (o : Option SessionState). IsLike seat o) is like))) seated)

pub returns-in-Ok-clause-goes : goal.returns-in-Ok-clause-goes
returns-in-Ok-clause-goes g c key k =
    let s = c.in-Some.session in
    let before = g.H.Host.state c.args.host.now in
    let random = g.R.Words.state c.args.random.now in
    let after = g.H.Host.state c.close.new.host in
    let random2 = g.R.Words.state c.close.new.random in
    at_some key false (lines.Close k) (Ok (replies.Closed c.broken-lost.result)) c.args.seat.now s c.take.new.self before after random random2 (sym c.take.ensures.value ∙ c.in-Some.is)
    (λ seated.
    subst (λ (o : Option SessionState). SeatGoes key false (lines.Close k) (Ok (replies.Closed c.broken-lost.result)) (Some s) o before after random random2) (sym c.take.ensures.after)
    (subst (λ (b : Bool). SeatGoes key false (lines.Close k) (Ok (replies.Closed b)) (Some s) None before after random random2) (sym c.broken-lost.ensures)
    (close_goes key k s (Ok tt) before after random random2 seated c.in-Ok.ensures.goes c.in-Ok.ensures.aside (g.met.H.Host.reads_as_image c.close.new.host))))

pub returns-in-Err-clause-goes : goal.returns-in-Err-clause-goes
returns-in-Err-clause-goes g c key k =
    let s = c.in-Some.session in
    let before = g.H.Host.state c.args.host.now in
    let random = g.R.Words.state c.args.random.now in
    let after = g.H.Host.state c.close.new.host in
    let random2 = g.R.Words.state c.close.new.random in
    at_some key false (lines.Close k) (Ok c.flush_fault.result) c.args.seat.now s c.take.new.self before after random random2 (sym c.take.ensures.value ∙ c.in-Some.is)
    (λ seated.
    subst (λ (o : Option SessionState). SeatGoes key false (lines.Close k) (Ok c.flush_fault.result) (Some s) o before after random random2) (sym c.take.ensures.after)
    (subst (λ (r : Reply). SeatGoes key false (lines.Close k) (Ok r) (Some s) None before after random random2) (sym c.flush_fault.ensures)
    (close_goes key k s (Err c.in-Err.fault) before after random random2 seated c.in-Err.ensures.goes c.in-Err.ensures.aside (g.met.H.Host.reads_as_image c.close.new.host))))

pub returns-in_default-clause-booked : goal.returns-in_default-clause-booked
returns-in_default-clause-booked g c key k seated =
    let before = g.H.Host.state c.args.host.now in
    let random = g.R.Words.state c.args.random.now in
    let is : c.args.seat.now ≡ None = sym c.take.ensures.value ∙ c.in_default.is in
    subst (λ (o : Option SessionState). SeatBooked key false (lines.Close k) (Ok (replies.Refused whys.SeatEmpty)) c.args.seat.now o before before random random) (is ∙ sym c.take.ensures.after)
    (refused_agrees key false (lines.Close k) whys.SeatEmpty c.args.seat.now before random (λ seat looks. inl (refl, subst (λ (o : Option SessionState). LooksLike o seat) is looks)))

pub returns-in-Ok-clause-booked : goal.returns-in-Ok-clause-booked
returns-in-Ok-clause-booked g c key k seated =
    let s = c.in-Some.session in
    let before = g.H.Host.state c.args.host.now in
    let random = g.R.Words.state c.args.random.now in
    let after = g.H.Host.state c.close.new.host in
    let random2 = g.R.Words.state c.close.new.random in
    let is : c.args.seat.now ≡ Some s = sym c.take.ensures.value ∙ c.in-Some.is in
    some_booked key false (lines.Close k) (Ok (replies.Closed c.broken-lost.result)) c.args.seat.now s c.take.new.self before after random random2 is
    (subst (λ (o : Option SessionState). SeatBooked key false (lines.Close k) (Ok (replies.Closed c.broken-lost.result)) (Some s) o before after random random2) (sym c.take.ensures.after)
    (subst (λ (b : Bool). SeatBooked key false (lines.Close k) (Ok (replies.Closed b)) (Some s) None before after random random2) (sym c.broken-lost.ensures)
    (close_under key k s (Ok tt) before after random random2 (subst (λ (o : Option SessionState). IsSeatOf key o) is seated) c.in-Ok.ensures.goes c.in-Ok.ensures.undamaged c.in-Ok.ensures.aside (g.met.H.Host.reads_as_image c.close.new.host))))

pub returns-in-Err-clause-booked : goal.returns-in-Err-clause-booked
returns-in-Err-clause-booked g c key k seated =
    let s = c.in-Some.session in
    let before = g.H.Host.state c.args.host.now in
    let random = g.R.Words.state c.args.random.now in
    let after = g.H.Host.state c.close.new.host in
    let random2 = g.R.Words.state c.close.new.random in
    let is : c.args.seat.now ≡ Some s = sym c.take.ensures.value ∙ c.in-Some.is in
    some_booked key false (lines.Close k) (Ok c.flush_fault.result) c.args.seat.now s c.take.new.self before after random random2 is
    (subst (λ (o : Option SessionState). SeatBooked key false (lines.Close k) (Ok c.flush_fault.result) (Some s) o before after random random2) (sym c.take.ensures.after)
    (subst (λ (r : Reply). SeatBooked key false (lines.Close k) (Ok r) (Some s) None before after random random2) (sym c.flush_fault.ensures)
    (close_under key k s (Err c.in-Err.fault) before after random random2 (subst (λ (o : Option SessionState). IsSeatOf key o) is seated) c.in-Err.ensures.goes c.in-Err.ensures.undamaged c.in-Err.ensures.aside (g.met.H.Host.reads_as_image c.close.new.host))))
