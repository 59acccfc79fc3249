use Rattle.std.proofs.Common.{Bool, ◌≡◌, ◌∷◌, ℕ, List, [], true, inl, refl, sym, ◌∙◌, subst, Option, Some, Result, Ok}
use Rattle.pf_io.specs.Host.{Answer, LengthWas}
use Rattle.pf_io.specs.Disk.{Name}
use Rattle.pf_io.specs.Names.{IsTarget}
use Rattle.pf_io.specs.declared.faults.Memory.{Memory}
use Rattle.pf_script.specs.DeskSteps.{SeatGoes}
use Rattle.pf_script.specs.Rules.{Rule, refuses}
use Rattle.pf_script.specs.SeatReplies.{move_reply}
use Rattle.pf_script.specs.declared.reply.Reply.{Reply}
use Rattle.pf_session.specs.State.{SessionState}
use Rattle.pf_script.specs.Desk.{IsSeatOf, IsLike}
use Rattle.pf_script.specs.declared.line.ScriptLine.TheVariants as lines
use Rattle.pf_script.specs.declared.reply.Reply.TheVariants as replies
use Rattle.pf_script.specs.declared.reply.Why.TheVariants as whys
use Rattle.pf_script.proofs.Refusing.{refused_goes, first_empty, first_broken, first_then, at_some}
use Rattle.pf_script.proofs.Liking.{like_none, like_some}
use Rattle.pf_script.proofs.MoveLine.{move_goes}
use Rattle.pf_script.specs.BookTurns.{SeatBooked}
use Rattle.pf_script.proofs.MoveTurns.{move_under}
use Rattle.pf_script.proofs.Under.{LooksLike, refused_agrees, some_booked}
use Rattle.pf_script.proofs.renaming.move_file.Goals as goal

-- the rules after those of every line that needs a file
abbrev move_rest : Bool → Name → List Rule
move_rest taken to =
    refuses whys.NameBusy (taken ≡ true)
    ∷ refuses whys.BadName (¬ (IsTarget to))
    ∷ refuses whys.TargetExists ((size : ℕ) × (others : List Answer) × ([] ≡ LengthWas to (Some size) ∷ others))
    ∷ []

pub returns-in_default-clause-goes : goal.returns-in_default-clause-goes
returns-in_default-clause-goes g c key k seated =
    refused_goes key c.args.taken (lines.Move k c.args.name.now) whys.SeatEmpty c.args.seat.now (g.H.Host.state c.args.host.now) (g.R.Words.state c.args.random.now)
    (λ seat like. first_empty (move_rest c.args.taken c.args.name.now) seat (like_none seat (subst (λ (o : Option SessionState). IsLike seat o) c.in_default.is like))) seated

pub returns-then-broken-clause-goes : goal.returns-then-broken-clause-goes
returns-then-broken-clause-goes g c key k =
    let s = c.in-Some.session in
    let before = g.H.Host.state c.args.host.now in
    let random = g.R.Words.state c.args.random.now in
    at_some key c.args.taken (lines.Move k c.args.name.now) (Ok (replies.Refused whys.Broken)) c.args.seat.now s (Some s) before before random random c.in-Some.is
    (λ seated. refused_goes key c.args.taken (lines.Move k c.args.name.now) whys.Broken (Some s) before random
    (λ seat like.
    let at = like_some seat s like in
    first_broken (move_rest c.args.taken c.args.name.now) seat at.own at.seat_is (at.like.broken_is ∙ sym c.broken.ensures ∙ c.if-broken.true)) seated)

pub returns-then-taken-clause-goes : goal.returns-then-taken-clause-goes
returns-then-taken-clause-goes g c key k =
    let s = c.in-Some.session in
    let before = g.H.Host.state c.args.host.now in
    let random = g.R.Words.state c.args.random.now in
    at_some key c.args.taken (lines.Move k c.args.name.now) (Ok (replies.Refused whys.NameBusy)) c.args.seat.now s (Some s) before before random random c.in-Some.is
    (λ seated. refused_goes key c.args.taken (lines.Move k c.args.name.now) whys.NameBusy (Some s) before random
    (λ seat like.
    let at = like_some seat s like in
    first_then (move_rest c.args.taken c.args.name.now) whys.NameBusy seat at.own at.seat_is (at.like.broken_is ∙ sym c.broken.ensures ∙ c.if-broken.false) (inl (refl, c.if-taken.true))) seated)

pub returns-clause-goes : goal.returns-clause-goes
returns-clause-goes g c key k =
    let s = c.in-Some.session in
    let before = g.H.Host.state c.args.host.now in
    let random = g.R.Words.state c.args.random.now in
    let after = g.H.Host.state c.move_to-moved.new.host in
    let random2 = g.R.Words.state c.move_to-moved.new.random in
    let line = lines.Move k c.args.name.now in
    at_some key c.args.taken line c.move_reply.result c.args.seat.now s (Some c.move_to-moved.new.self) before after random random2 c.in-Some.is
    (λ seated. subst (λ (r : Result Reply Memory). SeatGoes key c.args.taken line r (Some s) (Some c.move_to-moved.new.self) before after random random2) (sym c.move_reply.ensures)
    (subst (λ (taken : Bool). SeatGoes key taken line (move_reply c.move_to-moved.result) (Some s) (Some c.move_to-moved.new.self) before after random random2) (sym c.if-taken.false)
    (move_goes key k c.args.name.now s c.move_to-moved.new.self c.move_to-moved.result before after random random2 seated (sym c.broken.ensures ∙ c.if-broken.false)
    c.move_to-moved.ensures.goes c.move_to-moved.ensures.aside (g.met.H.Host.reads_as_image c.move_to-moved.new.host))))

pub returns-in_default-clause-booked : goal.returns-in_default-clause-booked
returns-in_default-clause-booked g c key k seated =
    refused_agrees key c.args.taken (lines.Move k c.args.name.now) whys.SeatEmpty c.args.seat.now (g.H.Host.state c.args.host.now) (g.R.Words.state c.args.random.now)
    (λ seat looks. first_empty (move_rest c.args.taken c.args.name.now) seat (subst (λ (o : Option SessionState). LooksLike o seat) c.in_default.is looks))

pub returns-then-broken-clause-booked : goal.returns-then-broken-clause-booked
returns-then-broken-clause-booked g c key k seated =
    let s = c.in-Some.session in
    let before = g.H.Host.state c.args.host.now in
    let random = g.R.Words.state c.args.random.now in
    some_booked key c.args.taken (lines.Move k c.args.name.now) (Ok (replies.Refused whys.Broken)) c.args.seat.now s (Some s) before before random random c.in-Some.is
    (refused_agrees key c.args.taken (lines.Move k c.args.name.now) whys.Broken (Some s) before random
    (λ seat looks. first_broken (move_rest c.args.taken c.args.name.now) seat looks.shown looks.seat_is (looks.broken_is ∙ sym c.broken.ensures ∙ c.if-broken.true)))

pub returns-then-taken-clause-booked : goal.returns-then-taken-clause-booked
returns-then-taken-clause-booked g c key k seated =
    let s = c.in-Some.session in
    let before = g.H.Host.state c.args.host.now in
    let random = g.R.Words.state c.args.random.now in
    some_booked key c.args.taken (lines.Move k c.args.name.now) (Ok (replies.Refused whys.NameBusy)) c.args.seat.now s (Some s) before before random random c.in-Some.is
    (refused_agrees key c.args.taken (lines.Move k c.args.name.now) whys.NameBusy (Some s) before random
    (λ seat looks.
    first_then (move_rest c.args.taken c.args.name.now) whys.NameBusy seat looks.shown looks.seat_is (looks.broken_is ∙ sym c.broken.ensures ∙ c.if-broken.false) (inl (refl, c.if-taken.true))))

pub returns-clause-booked : goal.returns-clause-booked
returns-clause-booked g c key k seated =
    let s = c.in-Some.session in
    let before = g.H.Host.state c.args.host.now in
    let random = g.R.Words.state c.args.random.now in
    let after = g.H.Host.state c.move_to-moved.new.host in
    let random2 = g.R.Words.state c.move_to-moved.new.random in
    let line = lines.Move k c.args.name.now in
    some_booked key c.args.taken line c.move_reply.result c.args.seat.now s (Some c.move_to-moved.new.self) before after random random2 c.in-Some.is
    (subst (λ (r : Result Reply Memory). SeatBooked key c.args.taken line r (Some s) (Some c.move_to-moved.new.self) before after random random2) (sym c.move_reply.ensures)
    (subst (λ (taken : Bool). SeatBooked key taken line (move_reply c.move_to-moved.result) (Some s) (Some c.move_to-moved.new.self) before after random random2) (sym c.if-taken.false)
    (move_under key k c.args.name.now s c.move_to-moved.new.self c.move_to-moved.result before after random random2 (subst (λ (o : Option SessionState). IsSeatOf key o) c.in-Some.is seated) (sym c.broken.ensures ∙ c.if-broken.false)
    c.move_to-moved.ensures.goes c.move_to-moved.ensures.aside c.move_to-moved.ensures.undamaged (g.met.H.Host.reads_as_image c.move_to-moved.new.host))))
