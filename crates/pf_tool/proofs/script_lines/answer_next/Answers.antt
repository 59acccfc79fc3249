use Rattle.std.proofs.Common.{List, ℕ, refl, ap, subst, None, Ok, Err}
use Rattle.std.proofs.lemmas.Result.{err_from_is_err_and}
use Rattle.pf_script.specs.declared.next_line.NextLine.{NextLine}
use Rattle.pf_script.specs.declared.next_line.NextLine.TheVariants as nexts
use Rattle.pf_tool.specs.Scripting.{ReadsOn, BytesAnswered, not_read, not_answered, not_said}
use Rattle.pf_tool.proofs.Conversing.{reads_on}
use Rattle.pf_tool.proofs.script_lines.answer_next.Goals as goal

pub returns-in_err-advance : goal.returns-in_err-advance
returns-in_err-advance g c log =
    let p = err_from_is_err_and c.from_residual.result c.from_residual.ensures.1 in
    let s0 = g.S.Source.state c.args.input.now in
    let s1 = g.S.Source.state c.advance.new.input in
    let fault = c.in_err-advance.field-0.0 in
    let reads = reads_on (Err fault) c.args.reader.now c.advance.new.self s0 s1 c.in_err-advance.ensures.advances c.in_err-advance.ensures.lines (λ shut. let t = c.in_err-advance.ensures.again shut in (t.0, t.1, ap g.S.Source.state t.2)) in
    rw p.1 (not_read fault reads (record { same_desk = refl; same_host = refl; same_random = refl }) (record { out = refl; log = refl }) p.2)

pub returns-in_err-say-in-TooLong : goal.returns-in_err-say-in-TooLong
returns-in_err-say-in-TooLong g c log =
    let p = err_from_is_err_and c.from_residual-in_err-say-in-TooLong.result c.from_residual-in_err-say-in-TooLong.ensures.1 in
    let s0 = g.S.Source.state c.args.input.now in
    let s1 = g.S.Source.state c.advance.new.input in
    let a = c.in_ok-advance in
    let reads = subst (λ (n : NextLine). ReadsOn (Ok n) c.args.reader.now c.advance.new.self s0 s1) c.in-TooLong.is (reads_on (Ok a.field-0) c.args.reader.now c.advance.new.self s0 s1 a.ensures.advances a.ensures.lines (λ shut. let t = a.ensures.again shut in (t.0, t.1, ap g.S.Source.state t.2))) in
    rw p.1 (not_said None (record { next = nexts.TooLong; reads = reads; answers = (refl, record { same_desk = refl; same_host = refl; same_random = refl }); log = refl; image = g.met.H.Host.reads_as_image c.args.host.now }) c.in_err-say-in-TooLong.ensures.0.0 c.in_err-say-in-TooLong.ensures.0.1 p.2)

pub returns-in_err-reply-in-Whole : goal.returns-in_err-reply-in-Whole
returns-in_err-reply-in-Whole g c log =
    let p = err_from_is_err_and c.from_residual-in_err-reply-in-Whole.result c.from_residual-in_err-reply-in-Whole.ensures.1 in
    let s0 = g.S.Source.state c.args.input.now in
    let s1 = g.S.Source.state c.advance.new.input in
    let h0 = g.H.Host.state c.args.host.now in
    let h1 = g.H.Host.state c.answer_line.new.host in
    let r0 = g.R.Words.state c.args.random.now in
    let r1 = g.R.Words.state c.answer_line.new.random in
    let a = c.in_ok-advance in
    let none = c.in_err-reply-in-Whole.field-0.0 in
    let reads = subst (λ (n : NextLine). ReadsOn (Ok n) c.args.reader.now c.advance.new.self s0 s1) c.in-Whole.is (reads_on (Ok a.field-0) c.args.reader.now c.advance.new.self s0 s1 a.ensures.advances a.ensures.lines (λ shut. let t = a.ensures.again shut in (t.0, t.1, ap g.S.Source.state t.2))) in
    let answers = subst (λ (t : List ℕ). BytesAnswered t (Err none) c.args.desk.now c.answer_line.new.desk h0 h1 r0 r1) c.line.ensures c.in_err-reply-in-Whole.ensures in
    rw p.1 (not_answered none reads answers (record { out = refl; log = refl }) p.2)

pub returns-in_err-say-in-Whole : goal.returns-in_err-say-in-Whole
returns-in_err-say-in-Whole g c log =
    let p = err_from_is_err_and c.from_residual-in_err-say-in-Whole.result c.from_residual-in_err-say-in-Whole.ensures.1 in
    let s0 = g.S.Source.state c.args.input.now in
    let s1 = g.S.Source.state c.advance.new.input in
    let h0 = g.H.Host.state c.args.host.now in
    let h1 = g.H.Host.state c.answer_line.new.host in
    let r0 = g.R.Words.state c.args.random.now in
    let r1 = g.R.Words.state c.answer_line.new.random in
    let a = c.in_ok-advance in
    let reply = c.in_ok-reply-in-Whole.reply in
    let reads = subst (λ (n : NextLine). ReadsOn (Ok n) c.args.reader.now c.advance.new.self s0 s1) c.in-Whole.is (reads_on (Ok a.field-0) c.args.reader.now c.advance.new.self s0 s1 a.ensures.advances a.ensures.lines (λ shut. let t = a.ensures.again shut in (t.0, t.1, ap g.S.Source.state t.2))) in
    let answers = subst (λ (t : List ℕ). BytesAnswered t (Ok reply) c.args.desk.now c.answer_line.new.desk h0 h1 r0 r1) c.line.ensures c.in_ok-reply-in-Whole.ensures in
    rw p.1 (not_said reply (record { next = nexts.Whole; reads = reads; answers = answers; log = refl; image = g.met.H.Host.reads_as_image c.answer_line.new.host }) c.in_err-say-in-Whole.ensures.0.0 c.in_err-say-in-Whole.ensures.0.1 p.2)

pub returns-in_ok-say-in-TooLong : goal.returns-in_ok-say-in-TooLong
returns-in_ok-say-in-TooLong g c log =
    let s0 = g.S.Source.state c.args.input.now in
    let s1 = g.S.Source.state c.advance.new.input in
    let a = c.in_ok-advance in
    let reads = subst (λ (n : NextLine). ReadsOn (Ok n) c.args.reader.now c.advance.new.self s0 s1) c.in-TooLong.is (reads_on (Ok a.field-0) c.args.reader.now c.advance.new.self s0 s1 a.ensures.advances a.ensures.lines (λ shut. let t = a.ensures.again shut in (t.0, t.1, ap g.S.Source.state t.2))) in
    let said = c.in_ok-say-in-TooLong.ensures in (
      None,
      record {
        answered = record { next = nexts.TooLong; reads = reads; answers = (refl, record { same_desk = refl; same_host = refl; same_random = refl }); log = refl; image = g.met.H.Host.reads_as_image c.args.host.now };
        said = said.0;
      },
      said.1,
    )

pub returns-in_ok-say-in-Whole : goal.returns-in_ok-say-in-Whole
returns-in_ok-say-in-Whole g c log =
    let s0 = g.S.Source.state c.args.input.now in
    let s1 = g.S.Source.state c.advance.new.input in
    let h0 = g.H.Host.state c.args.host.now in
    let h1 = g.H.Host.state c.answer_line.new.host in
    let r0 = g.R.Words.state c.args.random.now in
    let r1 = g.R.Words.state c.answer_line.new.random in
    let a = c.in_ok-advance in
    let reply = c.in_ok-reply-in-Whole.reply in
    let reads = subst (λ (n : NextLine). ReadsOn (Ok n) c.args.reader.now c.advance.new.self s0 s1) c.in-Whole.is (reads_on (Ok a.field-0) c.args.reader.now c.advance.new.self s0 s1 a.ensures.advances a.ensures.lines (λ shut. let t = a.ensures.again shut in (t.0, t.1, ap g.S.Source.state t.2))) in
    let answers = subst (λ (t : List ℕ). BytesAnswered t (Ok reply) c.args.desk.now c.answer_line.new.desk h0 h1 r0 r1) c.line.ensures c.in_ok-reply-in-Whole.ensures in
    let said = c.in_ok-say-in-Whole.ensures in
    (reply, record { answered = record { next = nexts.Whole; reads = reads; answers = answers; log = refl; image = g.met.H.Host.reads_as_image c.answer_line.new.host }; said = said.0 }, said.1)
