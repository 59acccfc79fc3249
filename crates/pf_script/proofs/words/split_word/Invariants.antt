use Rattle.std.proofs.Common.{take}
use Rattle.pf_script.specs.Words.{HasNoSpace}
use Rattle.pf_script.proofs.words.split_word.Given as goal

abbrev pub invariant-loop-at : goal.invariant-loop-at
invariant-loop-at l = HasNoSpace (take l.at l.text)
