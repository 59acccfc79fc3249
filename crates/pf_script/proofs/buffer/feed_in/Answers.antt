use Rattle.std.proofs.Common.{arith, subst}
use Rattle.std.proofs.lemmas.List.{take_all}
use Rattle.std.proofs.lemmas.List.Elements.{All-more}
use Rattle.pf_script.specs.Lines.{HasNoFeed}
use Rattle.pf_script.proofs.Cutting.{IsNoFeed}
use Rattle.pf_script.proofs.buffer.feed_in.Goals as goal

pub loop-at-preserved : goal.loop-at-preserved
loop-at-preserved c = All-more IsNoFeed c.args.bytes.now c.loop-at.at 0 c.loop-at-test.true c.loop-at.invariant c.if-byte-eq10.false

pub returns : goal.returns
returns c = subst HasNoFeed (take_all c.loop-at.at c.args.bytes.now (omega (arith, c.loop-at-test.false))) c.loop-at.invariant
