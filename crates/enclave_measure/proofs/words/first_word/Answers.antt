use Rattle.std.proofs.Common.{◌≡◌, ◌+◌, ◌-◌, length, take, drop, arith, length-drop}
use Rattle.std.proofs.lemmas.List.{take_all}
use Rattle.enclave_measure.proofs.Wording.{spaceless_more, word_at, word_alone}
use Rattle.enclave_measure.proofs.words.first_word.Goals as goal

pub returns-then-byte-eq32 : goal.returns-then-byte-eq32
returns-then-byte-eq32 c =
    let text = c.args.text.now in
    let all : take (length text - (c.loop-at.at + 1)) (drop (c.loop-at.at + 1) text) ≡ drop (c.loop-at.at + 1) text = take_all _ _ (omega (arith, length-drop (c.loop-at.at + 1) text)) in
    rw all (word_at text c.loop-at.at c.loop-at-test.true c.if-byte-eq32.true c.loop-at.invariant)

pub loop-at-preserved : goal.loop-at-preserved
loop-at-preserved c = spaceless_more c.args.text.now c.loop-at.at c.loop-at-test.true c.if-byte-eq32.false c.loop-at.invariant

pub returns : goal.returns
returns c = word_alone c.args.text.now c.loop-at.at (omega (arith, c.loop-at-test.false)) c.loop-at.invariant
