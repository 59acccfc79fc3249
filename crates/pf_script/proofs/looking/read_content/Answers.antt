use Rattle.std.proofs.Common.{◌≡◌, ℕ, ◌-◌, min, List, false, sym, ◌∙◌, ap, subst, Some, Result, length}
use Rattle.std.proofs.lemmas.List.{length-replicate}
use Rattle.std.proofs.lemmas.Result.{err_from_is_err_and}
use Rattle.pf_io.specs.declared.faults.Memory.{Memory}
use Rattle.node_tree.specs.Reading.{DamageComes, ReadsFew}
use Rattle.pf_session.specs.State.{file_of}
use Rattle.pf_script.specs.SeatReplies.{read_reply}
use Rattle.pf_script.specs.DeskSteps.{SeatGoes}
use Rattle.pf_script.specs.declared.line.ScriptLine.TheVariants as lines
use Rattle.pf_script.specs.declared.reply.Reply.{Reply}
use Rattle.pf_script.specs.BookTurns.{SeatBooked}
use Rattle.pf_script.proofs.ReadUnder.{read_under}
use Rattle.pf_script.proofs.ReadLine.{read_goes, lent_all, same_length}
use Rattle.pf_script.proofs.Refusing.{nothing_wanting}
use Rattle.pf_script.proofs.looking.read_content.Goals as goal

pub returns-in_err-bytes-clause-goes : goal.returns-in_err-bytes-clause-goes
returns-in_err-bytes-clause-goes g c key k words seated =
    let p = err_from_is_err_and c.from_residual.result c.from_residual.ensures.1 in
    let before = g.H.Host.state c.args.host.now in
    subst (λ (r : Result Reply Memory). SeatGoes key false (lines.Read k c.args.at c.args.count) r (Some c.args.session.now) (Some c.args.session.now) before before words words) (sym p.1)
    (nothing_wanting key false (lines.Read k c.args.at c.args.count) p.0 (Some c.args.session.now) before words (λ none. none) seated)

pub returns-clause-goes : goal.returns-clause-goes
returns-clause-goes g c key k words seated =
    let s = c.args.session.now in
    let line = lines.Read k c.args.at c.args.count in
    let before = g.H.Host.state c.args.host.now in
    let after = g.H.Host.state c.read-read.new.host in
    let buffer = c.read-read.new.to in
    let kept = same_length c.read-read.result c.as_mut_slice.result.now buffer c.read-read.ensures.rest c.read-read.ensures.unchanged in
    let bytes_length : length c.in_ok-bytes.bytes ≡ c.reach-count.result = ap length c.in_ok-bytes.ensures ∙ length-replicate c.reach-count.result 0 in
    let lent : length buffer ≡ length c.in_ok-bytes.bytes = kept ∙ ap length c.as_mut_slice.ensures.value in
    let room : length buffer ≡ min c.args.count (s.tree.size - c.args.at) = lent ∙ bytes_length ∙ c.reach-count.ensures ∙ ap (λ n. min c.args.count (n - c.args.at)) c.size.ensures.same in
    subst (λ (r : Result Reply Memory). SeatGoes key false line r (Some s) (Some c.read-read.new.self) before after words words)
    (sym (c.read_reply.ensures ∙ ap (λ (b : List ℕ). read_reply b c.read-read.result) (lent_all buffer c.in_ok-bytes.bytes lent)))
    (read_goes key k c.args.at c.args.count s c.read-read.new.self c.read-read.result buffer before after words seated c.requires.whole c.requires.few room c.read-read.ensures.fields c.read-read.ensures.reads c.read-read.ensures.cause
    c.read-read.ensures.backed
    (subst (λ n. DamageComes c.read-read.result (file_of s) c.args.at n s.tree before after) (sym kept) c.read-read.ensures.damage) c.read-read.ensures.standing c.read-read.ensures.disk
    (subst (λ n. ReadsFew c.args.at n s.tree before after) (sym kept) c.read-read.ensures.few))

pub returns-in_err-bytes-clause-booked : goal.returns-in_err-bytes-clause-booked
returns-in_err-bytes-clause-booked g c key k words seated =
    let p = err_from_is_err_and c.from_residual.result c.from_residual.ensures.1 in
    let before = g.H.Host.state c.args.host.now in
    subst (λ (r : Result Reply Memory). SeatBooked key false (lines.Read k c.args.at c.args.count) r (Some c.args.session.now) (Some c.args.session.now) before before words words) (sym p.1) tt

pub returns-clause-booked : goal.returns-clause-booked
returns-clause-booked g c key k words seated =
    let s = c.args.session.now in
    let line = lines.Read k c.args.at c.args.count in
    let before = g.H.Host.state c.args.host.now in
    let after = g.H.Host.state c.read-read.new.host in
    let buffer = c.read-read.new.to in
    let kept = same_length c.read-read.result c.as_mut_slice.result.now buffer c.read-read.ensures.rest c.read-read.ensures.unchanged in
    let bytes_length : length c.in_ok-bytes.bytes ≡ c.reach-count.result = ap length c.in_ok-bytes.ensures ∙ length-replicate c.reach-count.result 0 in
    let lent : length buffer ≡ length c.in_ok-bytes.bytes = kept ∙ ap length c.as_mut_slice.ensures.value in
    let room : length buffer ≡ min c.args.count (s.tree.size - c.args.at) = lent ∙ bytes_length ∙ c.reach-count.ensures ∙ ap (λ n. min c.args.count (n - c.args.at)) c.size.ensures.same in
    subst (λ (r : Result Reply Memory). SeatBooked key false line r (Some s) (Some c.read-read.new.self) before after words words)
    (sym (c.read_reply.ensures ∙ ap (λ (b : List ℕ). read_reply b c.read-read.result) (lent_all buffer c.in_ok-bytes.bytes lent)))
    (read_under key k c.args.at c.args.count s c.read-read.new.self c.read-read.result buffer before after words seated c.requires.whole c.requires.few room c.read-read.ensures.fields c.read-read.ensures.reads c.read-read.ensures.cause
    c.read-read.ensures.standing c.read-read.ensures.disk)
