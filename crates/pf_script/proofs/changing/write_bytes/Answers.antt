use Rattle.std.proofs.Common.{false, sym, ◌∙◌, subst, Option, Some, Result, Ok, length}
use Rattle.pf_io.specs.declared.faults.Memory.{Memory}
use Rattle.pf_session.specs.State.{SessionState}
use Rattle.pf_script.specs.Desk.{IsSeatOf, IsLike}
use Rattle.pf_script.specs.DeskSteps.{SeatGoes}
use Rattle.pf_script.specs.Rules.{writing_rules}
use Rattle.pf_script.specs.declared.line.ScriptLine.TheVariants as lines
use Rattle.pf_script.specs.declared.reply.Reply.{Reply}
use Rattle.pf_script.specs.declared.reply.Reply.TheVariants as replies
use Rattle.pf_script.specs.declared.reply.Why.TheVariants as whys
use Rattle.pf_script.proofs.Liking.{like_none, like_some}
use Rattle.pf_script.proofs.Refusing.{refused_goes, first_empty, first_broken, at_some}
use Rattle.pf_script.proofs.WriteLine.{plain, write_goes}
use Rattle.pf_script.specs.BookTurns.{SeatBooked}
use Rattle.pf_script.proofs.Under.{LooksLike, refused_agrees, some_booked}
use Rattle.pf_script.proofs.WriteUnder.{write_under}
use Rattle.pf_script.proofs.changing.write_bytes.Goals as goal

pub returns-in_default-clause-goes : goal.returns-in_default-clause-goes
returns-in_default-clause-goes g c key k seated =
    let line = lines.Write k c.args.at c.args.bytes.now in
    refused_goes key false line whys.SeatEmpty c.args.seat.now (g.H.Host.state c.args.host.now) (g.R.Words.state c.args.random.now)
    (λ seat like.
    first_empty (writing_rules seat c.args.at (length c.args.bytes.now)) seat (like_none seat (subst (λ (o : Option SessionState). IsLike seat o) c.in_default.is like))) seated

pub returns-then-broken-clause-goes : goal.returns-then-broken-clause-goes
returns-then-broken-clause-goes g c key k =
    let line = lines.Write k c.args.at c.args.bytes.now in
    let s = c.in-Some.session in
    let before = g.H.Host.state c.args.host.now in
    let random = g.R.Words.state c.args.random.now in
    at_some key false line (Ok (replies.Refused whys.Broken)) c.args.seat.now s (Some s) before before random random c.in-Some.is
    (λ seated. refused_goes key false line whys.Broken (Some s) before random
    (λ seat like.
    let at = like_some seat s like in
    first_broken (writing_rules seat c.args.at (length c.args.bytes.now)) seat at.own at.seat_is (at.like.broken_is ∙ sym c.broken.ensures ∙ c.if-broken.true)) seated)

pub returns-clause-goes : goal.returns-clause-goes
returns-clause-goes g c key k =
    let line = lines.Write k c.args.at c.args.bytes.now in
    let s = c.in-Some.session in
    let before = g.H.Host.state c.args.host.now in
    let random = g.R.Words.state c.args.random.now in
    let after = g.H.Host.state c.write-written.new.host in
    let random2 = g.R.Words.state c.write-written.new.random in
    at_some key false line c.write_reply.result c.args.seat.now s (Some c.write-written.new.self) before after random random2 c.in-Some.is
    (λ seated. subst (λ (r : Result Reply Memory). SeatGoes key false line r (Some s) (Some c.write-written.new.self) before after random random2) (sym c.write_reply.ensures)
    (write_goes key c.args.at c.args.bytes.now line (length c.args.bytes.now) (plain k) s c.write-written.new.self c.write-written.result before after random random2 seated (sym c.broken.ensures ∙ c.if-broken.false)
    c.write-written.ensures.goes c.write-written.ensures.aside (g.met.H.Host.reads_as_image c.write-written.new.host)))

pub returns-in_default-clause-booked : goal.returns-in_default-clause-booked
returns-in_default-clause-booked g c key k seated =
    refused_agrees key false (lines.Write k c.args.at c.args.bytes.now) whys.SeatEmpty c.args.seat.now (g.H.Host.state c.args.host.now) (g.R.Words.state c.args.random.now)
    (λ seat looks. first_empty (writing_rules seat c.args.at (length c.args.bytes.now)) seat (subst (λ (o : Option SessionState). LooksLike o seat) c.in_default.is looks))

pub returns-then-broken-clause-booked : goal.returns-then-broken-clause-booked
returns-then-broken-clause-booked g c key k seated =
    let line = lines.Write k c.args.at c.args.bytes.now in
    let s = c.in-Some.session in
    let before = g.H.Host.state c.args.host.now in
    let random = g.R.Words.state c.args.random.now in
    some_booked key false line (Ok (replies.Refused whys.Broken)) c.args.seat.now s (Some s) before before random random c.in-Some.is
    (refused_agrees key false line whys.Broken (Some s) before random
    (λ seat looks. first_broken (writing_rules seat c.args.at (length c.args.bytes.now)) seat looks.shown looks.seat_is (looks.broken_is ∙ sym c.broken.ensures ∙ c.if-broken.true)))

pub returns-clause-booked : goal.returns-clause-booked
returns-clause-booked g c key k seated =
    let line = lines.Write k c.args.at c.args.bytes.now in
    let s = c.in-Some.session in
    let before = g.H.Host.state c.args.host.now in
    let random = g.R.Words.state c.args.random.now in
    let after = g.H.Host.state c.write-written.new.host in
    let random2 = g.R.Words.state c.write-written.new.random in
    some_booked key false line c.write_reply.result c.args.seat.now s (Some c.write-written.new.self) before after random random2 c.in-Some.is
    (subst (λ (r : Result Reply Memory). SeatBooked key false line r (Some s) (Some c.write-written.new.self) before after random random2) (sym c.write_reply.ensures)
    (write_under key c.args.at c.args.bytes.now line (length c.args.bytes.now) (plain k) s c.write-written.new.self c.write-written.result before after random random2 (subst (λ (o : Option SessionState). IsSeatOf key o) c.in-Some.is seated)
    (sym c.broken.ensures ∙ c.if-broken.false) c.write-written.ensures.goes c.write-written.ensures.aside (g.met.H.Host.reads_as_image c.write-written.new.host)))
