use Rattle.std.proofs.Common.{ℕ, List, [], false, refl, sym, ◌∙◌, ap, subst, Option, Some, None, Result, Ok, Err}
use Rattle.std.proofs.lemmas.Result.{err_from_is_err_and}
use Rattle.pf_io.specs.declared.faults.Memory.{Memory}
use Rattle.pf_session.specs.State.{SessionState}
use Rattle.pf_script.specs.BookTurns.{SeatBooked}
use Rattle.pf_script.specs.Desk.{IsLike}
use Rattle.pf_script.specs.DeskSteps.{SeatGoes}
use Rattle.pf_script.specs.SeatReplies.{open_reply}
use Rattle.pf_script.specs.declared.line.ScriptLine.TheVariants as lines
use Rattle.pf_script.specs.declared.reply.Reply.{Reply}
use Rattle.pf_script.specs.declared.reply.Reply.TheVariants as replies
use Rattle.pf_script.specs.declared.reply.Why.TheVariants as whys
use Rattle.pf_script.specs.Rules.{opening_rules}
use Rattle.pf_script.proofs.OpenLine.{open_line}
use Rattle.pf_script.proofs.Liking.{like_none}
use Rattle.pf_script.proofs.OnEmpty.{some_there, none_there, busy_first, taken_first, looks_busy, like_busy, goes_at, booked_at, empty_unasked}
use Rattle.pf_script.proofs.Refusing.{refused_goes}
use Rattle.pf_script.proofs.Under.{LooksLike, refused_agrees}
use Rattle.pf_script.proofs.opening.open_file.Goals as goal

pub returns-then-is_some-clause-goes : goal.returns-then-is_some-clause-goes
returns-then-is_some-clause-goes g c k words seated =
    let line = lines.Open k c.args.name.now in
    refused_goes c.args.key.now c.args.taken line whys.SeatBusy c.args.seat.now (g.H.Host.state c.args.host.now) words
    (λ seat like. busy_first (opening_rules c.args.key.now c.args.name.now []) c.args.taken seat (like_busy c.args.seat.now (some_there c.args.seat.now (sym c.is_some.ensures ∙ c.if-is_some.true)) seat like)) seated

pub returns-then-is_some-clause-booked : goal.returns-then-is_some-clause-booked
returns-then-is_some-clause-booked g c k words seated =
    let line = lines.Open k c.args.name.now in
    refused_agrees c.args.key.now c.args.taken line whys.SeatBusy c.args.seat.now (g.H.Host.state c.args.host.now) words
    (λ seat looks. busy_first (opening_rules c.args.key.now c.args.name.now []) c.args.taken seat (looks_busy c.args.seat.now (some_there c.args.seat.now (sym c.is_some.ensures ∙ c.if-is_some.true)) seat looks))

pub returns-then-taken-clause-goes : goal.returns-then-taken-clause-goes
returns-then-taken-clause-goes g c k words seated =
    let line = lines.Open k c.args.name.now in
    let none = none_there c.args.seat.now (sym c.is_some.ensures ∙ c.if-is_some.false) in
    refused_goes c.args.key.now c.args.taken line whys.NameBusy c.args.seat.now (g.H.Host.state c.args.host.now) words
    (λ seat like. taken_first (opening_rules c.args.key.now c.args.name.now []) c.args.taken seat (like_none seat (subst (λ (o : Option SessionState). IsLike seat o) none like)) c.if-taken.true) seated

pub returns-then-taken-clause-booked : goal.returns-then-taken-clause-booked
returns-then-taken-clause-booked g c k words seated =
    let line = lines.Open k c.args.name.now in
    let none = none_there c.args.seat.now (sym c.is_some.ensures ∙ c.if-is_some.false) in
    refused_agrees c.args.key.now c.args.taken line whys.NameBusy c.args.seat.now (g.H.Host.state c.args.host.now) words
    (λ seat looks. taken_first (opening_rules c.args.key.now c.args.name.now []) c.args.taken seat (subst (λ (o : Option SessionState). LooksLike o seat) none looks) c.if-taken.true)

pub returns-in_err-text-clause-goes : goal.returns-in_err-text-clause-goes
returns-in_err-text-clause-goes g c k words seated =
    let line = lines.Open k c.args.name.now in
    let none = none_there c.args.seat.now (sym c.is_some.ensures ∙ c.if-is_some.false) in
    let before = g.H.Host.state c.args.host.now in
    let p = err_from_is_err_and c.from_residual.result c.from_residual.ensures.1 in
    rw p.1
    (subst (λ (o : Option SessionState). SeatGoes c.args.key.now c.args.taken line (Err p.0) c.args.seat.now o before before words words) (sym none)
    (goes_at c.args.key.now c.args.taken line (Err p.0) c.args.seat.now None before before words words none c.if-taken.false (empty_unasked c.args.key.now line c.args.name.now refl before words (λ takes. takes))))

pub returns-in-Ok-clause-goes : goal.returns-in-Ok-clause-goes
returns-in-Ok-clause-goes g c k words seated =
    let line = lines.Open k c.args.name.now in
    let before = g.H.Host.state c.args.host.now in
    let after = g.H.Host.state c.open.new.host in
    let none = none_there c.args.seat.now (sym c.is_some.ensures ∙ c.if-is_some.false) in
    goes_at c.args.key.now c.args.taken line (Ok (replies.Opened c.size-size.result)) c.args.seat.now (Some c.in-Ok.session) before after words words none c.if-taken.false
    (subst (λ n. SeatGoes c.args.key.now false line (Ok (replies.Opened n)) None (Some c.in-Ok.session) before after words words) (sym c.size-size.ensures.same)
    (open_line c.args.key.now k c.args.name.now (Ok c.in-Ok.session) before after words c.utf8.name c.told-key c.in-Ok.ensures.opens c.in-Ok.ensures.disk c.in-Ok.ensures.few c.in-Ok.ensures.unforged c.in-Ok.ensures.reopens).goes)

pub returns-in-Err-clause-goes : goal.returns-in-Err-clause-goes
returns-in-Err-clause-goes g c k words seated =
    let line = lines.Open k c.args.name.now in
    let before = g.H.Host.state c.args.host.now in
    let after = g.H.Host.state c.open.new.host in
    let none = none_there c.args.seat.now (sym c.is_some.ensures ∙ c.if-is_some.false) in
    subst (λ (r : Result Reply Memory). SeatGoes c.args.key.now c.args.taken line r c.args.seat.now c.args.seat.now before after words words) (sym (c.open_fault.ensures ∙ ap (λ (n : List ℕ). open_reply n c.in-Err.fault) c.in_ok-text.ensures))
    (subst (λ (o : Option SessionState). SeatGoes c.args.key.now c.args.taken line (open_reply c.args.name.now c.in-Err.fault) c.args.seat.now o before after words words) (sym none)
    (goes_at c.args.key.now c.args.taken line (open_reply c.args.name.now c.in-Err.fault) c.args.seat.now None before after words words none c.if-taken.false
    (open_line c.args.key.now k c.args.name.now (Err c.in-Err.fault) before after words c.utf8.name c.told-key c.in-Err.ensures.opens c.in-Err.ensures.disk c.in-Err.ensures.few tt tt).goes))

pub returns-in-Ok-clause-booked : goal.returns-in-Ok-clause-booked
returns-in-Ok-clause-booked g c k words seated =
    let line = lines.Open k c.args.name.now in
    let before = g.H.Host.state c.args.host.now in
    let after = g.H.Host.state c.open.new.host in
    let none = none_there c.args.seat.now (sym c.is_some.ensures ∙ c.if-is_some.false) in
    booked_at c.args.key.now c.args.taken line (Ok (replies.Opened c.size-size.result)) c.args.seat.now (Some c.in-Ok.session) before after words words none c.if-taken.false
    (subst (λ n. SeatBooked c.args.key.now false line (Ok (replies.Opened n)) None (Some c.in-Ok.session) before after words words) (sym c.size-size.ensures.same)
    (open_line c.args.key.now k c.args.name.now (Ok c.in-Ok.session) before after words c.utf8.name c.told-key c.in-Ok.ensures.opens c.in-Ok.ensures.disk c.in-Ok.ensures.few c.in-Ok.ensures.unforged c.in-Ok.ensures.reopens).booked)

pub returns-in-Err-clause-booked : goal.returns-in-Err-clause-booked
returns-in-Err-clause-booked g c k words seated =
    let line = lines.Open k c.args.name.now in
    let before = g.H.Host.state c.args.host.now in
    let after = g.H.Host.state c.open.new.host in
    let none = none_there c.args.seat.now (sym c.is_some.ensures ∙ c.if-is_some.false) in
    subst (λ (r : Result Reply Memory). SeatBooked c.args.key.now c.args.taken line r c.args.seat.now c.args.seat.now before after words words) (sym (c.open_fault.ensures ∙ ap (λ (n : List ℕ). open_reply n c.in-Err.fault) c.in_ok-text.ensures))
    (subst (λ (o : Option SessionState). SeatBooked c.args.key.now c.args.taken line (open_reply c.args.name.now c.in-Err.fault) c.args.seat.now o before after words words) (sym none)
    (booked_at c.args.key.now c.args.taken line (open_reply c.args.name.now c.in-Err.fault) c.args.seat.now None before after words words none c.if-taken.false
    (open_line c.args.key.now k c.args.name.now (Err c.in-Err.fault) before after words c.utf8.name c.told-key c.in-Err.ensures.opens c.in-Err.ensures.disk c.in-Err.ensures.few tt tt).booked))
