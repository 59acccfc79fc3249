use Rattle.std.proofs.Common.{take}
use Rattle.pf_script.specs.Lines.{HasNoFeed}
use Rattle.pf_script.proofs.buffer.feed_in.Given as goal

abbrev pub invariant-loop-at : goal.invariant-loop-at
invariant-loop-at l = HasNoFeed (take l.at l.bytes)
