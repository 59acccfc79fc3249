use Rattle.std.proofs.Common.{◌≡◌, ◌+◌, ◌-◌, length, take, drop, arith, length-drop, subst}
use Rattle.std.proofs.lemmas.List.{take_all}
use Rattle.std.proofs.lemmas.List.Elements.{All-more}
use Rattle.pf_script.specs.Words.{HasNoSpace}
use Rattle.pf_script.proofs.Wording.{IsOther, word_at}
use Rattle.pf_script.proofs.words.split_word.Goals as goal

pub returns-then-byte-eq32 : goal.returns-then-byte-eq32
returns-then-byte-eq32 c =
    let text = c.args.text.now in
    let all : take (length text - (c.loop-at.at + 1)) (drop (c.loop-at.at + 1) text) ≡ drop (c.loop-at.at + 1) text = take_all _ _ (omega (arith, length-drop (c.loop-at.at + 1) text)) in
    rw all (word_at text c.loop-at.at c.loop-at-test.true c.if-byte-eq32.true, c.loop-at.invariant)

pub loop-at-preserved : goal.loop-at-preserved
loop-at-preserved c = All-more IsOther c.args.text.now c.loop-at.at 0 c.loop-at-test.true c.loop-at.invariant c.if-byte-eq32.false

pub returns : goal.returns
returns c = subst HasNoSpace (take_all c.loop-at.at c.args.text.now (omega (arith, c.loop-at-test.false))) c.loop-at.invariant
