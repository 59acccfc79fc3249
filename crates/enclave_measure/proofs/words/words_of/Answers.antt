use Rattle.std.proofs.Common.{arith}
use Rattle.enclave_measure.proofs.Wording.{taken_nine}
use Rattle.enclave_measure.proofs.words.words_of.Goals as goal

pub returns : goal.returns
returns c = taken_nine c.args.line.now c.loop.counter c.loop.words.items c.loop.rest (omega (arith, c.loop-test.false, c.loop.auto.counter-end)) c.loop.invariant
