use Rattle.std.proofs.Common.{◌≡◌, ◌+◌, ◌-◌, length, take, drop, arith, length-drop}
use Rattle.std.proofs.lemmas.List.{take_all}
use Rattle.enclave_measure.proofs.Cutting.{cut_at, cut_more, cut_none}
use Rattle.enclave_measure.proofs.lines.first_line.Goals as goal

pub returns-then-byte-eq10-clause-lines : goal.returns-then-byte-eq10-clause-lines
returns-then-byte-eq10-clause-lines c =
    let text = c.args.text.now in
    let all : take (length text - (c.loop-at.at + 1)) (drop (c.loop-at.at + 1) text) ≡ drop (c.loop-at.at + 1) text = take_all _ _ (omega (arith, length-drop (c.loop-at.at + 1) text)) in
    rw all (cut_at text c.loop-at.at c.loop-at-test.true c.if-byte-eq10.true c.loop-at.invariant)

pub loop-at-preserved : goal.loop-at-preserved
loop-at-preserved c = cut_more c.args.text.now c.loop-at.at c.loop-at-test.true c.if-byte-eq10.false c.loop-at.invariant

pub returns-clause-lines : goal.returns-clause-lines
returns-clause-lines c = cut_none c.args.text.now c.loop-at.at c.requires (omega (arith, c.loop-at-test.false)) c.loop-at.invariant
